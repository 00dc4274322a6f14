-- Bytes as they are shown: one more, and that they are ASCII. Assumes nothing.
use Rattle.std.proofs.Common.{◌≡◌, ◌∷◌, ◌++◌, [], ℕ, zero, suc, ◌+◌, ◌/◌, ◌%◌, ◌^◌, ◌<◌, List, false, arith, slice_index_or, length, take, append_assoc, sym, ap, ◌∙◌}
use Rattle.std.proofs.lemmas.List.{flat_map_more, take_more}
use Rattle.std.proofs.lemmas.Str.{IsAscii-append, IsUtf8-from_ascii}
use Rattle.std.specs.Fmt.{digit_glyph}
use Rattle.std.specs.Str.{IsAscii, IsUtf8}
use Rattle.lines.specs.Shown.{pair_of, hex_of}

pub pair_more : (s : List ℕ) (i : ℕ) → i < length s
    → (hex_of (take i s) ++ digit_glyph false (slice_index_or s i 0 / 16) ∷ []) ++ digit_glyph false (slice_index_or s i 0 % 16) ∷ [] ≡ hex_of (take (i + 1) s)
pair_more s i h =
    append_assoc (hex_of (take i s)) _ _
    ∙ flat_map_more pair_of [] (take i s) (slice_index_or s i 0)
    ∙ sym (ap hex_of (take_more s i 0 h))

glyph_ascii : (d : ℕ) → d < 16 → digit_glyph false d < 128
glyph_ascii d h = grind arith

pair_ascii : (b : ℕ) → b < 2 ^ 8 → IsAscii (pair_of b)
pair_ascii b h zero = glyph_ascii (b / 16) (omega arith)
pair_ascii b h (suc zero) = glyph_ascii (b % 16) (omega arith)
pair_ascii b h (suc (suc i)) = omega arith

ascii : (s : List ℕ) → ((i : ℕ) → slice_index_or s i 0 < 2 ^ 8) → IsAscii (hex_of s)
ascii [] h = λ i. omega arith
ascii (b ∷ s) h = IsAscii-append (pair_of b) (hex_of s) (pair_ascii b (h 0)) (ascii s (λ i. h (suc i)))

pub IsUtf8-hex_of : (s : List ℕ) → ((i : ℕ) → slice_index_or s i 0 < 2 ^ 8) → IsUtf8 (hex_of s)
IsUtf8-hex_of s h = IsUtf8-from_ascii (hex_of s) (ascii s h)
