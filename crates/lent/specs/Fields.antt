-- Bytes made of fields, one behind the other, and the fields read back from their places.
use Rattle.std.specs.Prelude.{List, [], ◌∷◌, ◌++◌, ℕ, ◌+◌, ◌*◌, length, get_or, take, drop, replicate, ltb}
use Rattle.digest.specs.Pick.{pick}
use Rattle.digest.specs.Bytes.{word_at}

-- fields one behind the other
unfoldable pub joined : List (List ℕ) → List ℕ
joined [] = []
joined (f ∷ fs) = f ++ joined fs

-- n bytes from a place on
abbrev pub bytes_in : List ℕ → ℕ → ℕ → List ℕ
bytes_in b at n = take n (drop at b)

-- the same where all of these bytes stand there, else as many zeros
unfoldable pub bytes_within : List ℕ → ℕ → ℕ → List ℕ
bytes_within b at n = pick (ltb (length b) (at + n)) (replicate n 0) (bytes_in b at n)

-- the numbers that two bytes and eight bytes from a place on spell, the most significant first; of four it is `word_at`
abbrev pub two_in : List ℕ → ℕ → ℕ
two_in b at = get_or b at 0 * 256 + get_or b (at + 1) 0

abbrev pub eight_in : List ℕ → ℕ → ℕ
eight_in b at = word_at b at * 4294967296 + word_at b (at + 4)

-- the numbers where all of these bytes stand there, else 0
unfoldable pub two_within : List ℕ → ℕ → ℕ
two_within b at = pick (ltb (length b) (at + 2)) 0 (two_in b at)

unfoldable pub four_within : List ℕ → ℕ → ℕ
four_within b at = pick (ltb (length b) (at + 4)) 0 (word_at b at)

unfoldable pub eight_within : List ℕ → ℕ → ℕ
eight_within b at = pick (ltb (length b) (at + 8)) 0 (eight_in b at)
