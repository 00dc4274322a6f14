-- Bytes in a row: numbers spelled with the most significant byte first (FIPS 180-1 section 2; 002 section 8.1),
-- and bytes laid over others.
use Rattle.std.specs.Prelude.{ℕ, ◌+◌, ◌*◌, ◌/◌, ◌%◌, List, [], ◌∷◌, ◌++◌, length, take, drop, nat_le, slice_index}
use Rattle.digest.specs.Pick.{pick}

-- the number that the four bytes from place i on spell
unfoldable pub word_at : List ℕ → ℕ → ℕ
word_at s i =
    ((slice_index s i * 256 + slice_index s (i + 1)) * 256 + slice_index s (i + 2)) * 256 + slice_index s (i + 3)

-- a number in two bytes, in four and in eight
abbrev pub bytes2 : ℕ → List ℕ
bytes2 n = n / 256 % 256 ∷ n % 256 ∷ []

abbrev pub bytes4 : ℕ → List ℕ
bytes4 n = n / 16777216 % 256 ∷ n / 65536 % 256 ∷ n / 256 % 256 ∷ n % 256 ∷ []

unfoldable pub bytes8 : ℕ → List ℕ
bytes8 n = bytes4 (n / 4294967296) ++ bytes4 (n % 4294967296)

-- d with the bytes s laid over it from place i on
unfoldable pub laid_over : List ℕ → ℕ → List ℕ → List ℕ
laid_over d i s = take i d ++ s ++ drop (i + length s) d

-- d with the bytes s laid over it from place i on where all of them fit, else d
unfoldable pub laid_within : List ℕ → ℕ → List ℕ → List ℕ
laid_within d i s = pick (nat_le (i + length s) (length d)) (laid_over d i s) d
