-- Byte strings as lines show them.
use Rattle.std.specs.Prelude.{false, List, [], ◌∷◌, ℕ, ◌/◌, ◌%◌}
use Rattle.std.specs.List.{flat_map}
use Rattle.std.specs.Fmt.{digit_glyph}

-- a byte in two hex digits
abbrev pub pair_of : ℕ → List ℕ
pair_of b = digit_glyph false (b / 16) ∷ digit_glyph false (b % 16) ∷ []

-- bytes in hex
abbrev pub hex_of : List ℕ → List ℕ
hex_of s = flat_map pair_of s

-- the same, and `-` for none
abbrev pub string_of : List ℕ → List ℕ
string_of [] = 45 ∷ []
string_of (b ∷ s) = hex_of (b ∷ s)
