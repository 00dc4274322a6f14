-- The words of a line: what stands between its spaces.
use Rattle.std.specs.Prelude.{Bool, List, [], ℕ, count_by, eqb}
use Rattle.std.specs.List.{slice_get, slice_split}
use Rattle.std.specs.Option.{unwrap_or}

abbrev pub is_space : ℕ → Bool
is_space b = eqb b 32

-- how many spaces a line has: one less than it has words
abbrev pub spaces_in : List ℕ → ℕ
spaces_in l = count_by is_space l

-- the words of a line
abbrev pub words_of : List ℕ → List (List ℕ)
words_of l = slice_split is_space l

-- the word of an index; empty behind the last
unfoldable pub word_at : List ℕ → ℕ → List ℕ
word_at l k = unwrap_or (slice_get (words_of l) k) []
