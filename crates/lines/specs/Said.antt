-- What the word of an index says.
use Rattle.std.specs.Prelude.{Bool, List, ℕ}
use Rattle.digest.specs.Mac.{same_bytes}
use Rattle.lines.specs.Words.{word_at}
use Rattle.lines.specs.Hex.{is_bytes}
use Rattle.lines.specs.Decimal.{is_number}

-- the word of an index is this one
abbrev pub is_named : List ℕ → ℕ → List ℕ → Bool
is_named l k name = same_bytes (word_at l k) name

-- the word of an index is a byte string; is a number of at most `most`
abbrev pub bytes_at : List ℕ → ℕ → Bool
bytes_at l k = is_bytes (word_at l k)

abbrev pub number_at : List ℕ → ℕ → ℕ → Bool
number_at l k most = is_number (word_at l k) most
