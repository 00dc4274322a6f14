-- Byte strings in lowercase hex, `-` for the empty one.
use Rattle.std.specs.Prelude.{Bool, true, false, List, [], ◌∷◌, ℕ, ◌+◌, ◌*◌, ◌-◌, ◌%◌, length, get_or, ltb, eqb}
use Rattle.digest.specs.Pick.{pick}
use Rattle.std.specs.List.{list_all}

-- 0 to 9 and a to f
abbrev pub is_hex_digit : ℕ → Bool
is_hex_digit b = pick (ltb b 48) false (pick (ltb b 58) true (pick (ltb b 97) false (pick (ltb b 103) true false)))

-- what a digit stands for
abbrev pub hex_digit : ℕ → ℕ
hex_digit b = pick (ltb b 48) 0 (pick (ltb b 58) (b - 48) (pick (ltb b 97) 0 (pick (ltb b 103) (b - 87) 0)))

-- `-`, or an even count of digits
abbrev pub is_bytes : List ℕ → Bool
is_bytes w =
    pick (eqb (length w) 0) false
    (pick (eqb (length w) 1) (eqb (get_or w 0 0) 45) (pick (eqb (length w % 2) 1) false (list_all is_hex_digit w)))

-- the bytes that a byte string spells, two digits to each
unfoldable pub bytes_of : List ℕ → List ℕ
bytes_of [] = []
bytes_of (a ∷ []) = []
bytes_of (a ∷ b ∷ s) = (hex_digit a * 16 + hex_digit b) ∷ bytes_of s
