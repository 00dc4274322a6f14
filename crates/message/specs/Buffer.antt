-- A lent buffer: the bytes written stand at its front, and no others are touched.
use Rattle.std.specs.Prelude.{◌≡◌, List, [], ◌++◌, ℕ, ◌+◌, ◌≤◌, length, drop, leb}
use Rattle.digest.specs.Pick.{pick}

-- the buffer d with the bytes p at its front
abbrev pub over : List ℕ → List ℕ → List ℕ
over d p = p ++ drop (length p) d

-- what is written of the bytes p where there is room for n: all or nothing
abbrev pub fitting : ℕ → List ℕ → List ℕ
fitting n p = pick (leb (length p) n) p []

-- the piece s, written at a place of a buffer o that leaves the buffer o' and the next place r: it goes behind what
-- was written before
abbrev pub Puts : List ℕ → List ℕ → ℕ → List ℕ → ℕ → Type 0
Puts s o at o' r =
    (d p : List ℕ) → o ≡ over d p → at ≡ length p → length p + length s ≤ length d
    → (o' ≡ over d (p ++ s)) × (r ≡ length (p ++ s))
