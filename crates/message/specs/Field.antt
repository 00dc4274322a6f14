-- Fields of a message, one after the other (002 8.1, 8.3). A field is told by the place where it ends; 0 says that
-- the message has no such field there.
use Rattle.std.specs.Prelude.{List, ◌∷◌, ◌++◌, Bool, false, ℕ, ◌+◌, ◌*◌, ◌-◌, length, get_or, take, drop, leb, ltb, eqb, Option, None, Some}
use Rattle.digest.specs.Pick.{pick}
use Rattle.digest.specs.Bytes.{bytes2}

-- an end as it is answered: that of a field that is not there is None
abbrev pub told_end : ℕ → Option ℕ
told_end end = pick (eqb end 0) None (Some end)

-- 8.3, T T'[n]: a field of n bytes that begins at a place
unfoldable pub field_end : List ℕ → ℕ → ℕ → ℕ
field_end m at n = pick (leb (at + n) (length m)) (at + n) 0

-- 8.3, T T'<floor..ceiling> with a ceiling of at most 255: the actual length, one byte, precedes the contents
unfoldable pub short_end : ℕ → ℕ → List ℕ → ℕ → ℕ
short_end floor ceiling m at =
    pick (ltb at (length m))
    (pick (leb floor (get_or m at 0)) (pick (leb (get_or m at 0) ceiling) (field_end m (at + 1) (get_or m at 0)) 0) 0)
    0

-- 8.1: a number of two bytes, the most significant byte first
abbrev pub two_at : List ℕ → ℕ → ℕ
two_at m at = get_or m at 0 * 256 + get_or m (at + 1) 0

-- 8.3, T T'<0..2^16-1>: the actual length takes two bytes
unfoldable pub long_end : List ℕ → ℕ → ℕ
long_end m at = pick (ltb (at + 1) (length m)) (field_end m (at + 2) (two_at m at)) 0

-- the bytes from one place up to another
abbrev pub part_of : List ℕ → ℕ → ℕ → List ℕ
part_of m from end = take (end - from) (drop from m)

-- 8.3: "the actual length precedes the vector's contents in the byte stream", in one byte or in two
abbrev pub short : List ℕ → List ℕ
short s = length s ∷ s

abbrev pub long : List ℕ → List ℕ
long s = bytes2 (length s) ++ s

-- both tests hold
abbrev pub both : Bool → Bool → Bool
both a b = pick a b false
