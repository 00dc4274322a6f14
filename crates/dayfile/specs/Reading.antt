-- Reading (02 P9): "in reading 24 over 64 KiB, then 25 where the bytes are not the file of any list". The reports of a file
-- are the run of whole reports from its front, and the bytes must be exactly the file of that run, within the limits.
use Rattle.std.specs.Prelude.{Bool, false, List, ℕ, length, ltb, leb, Result, Ok, Err}
use Rattle.digest.specs.Pick.{pick}
use Rattle.digest.specs.Mac.{same_bytes}
use Rattle.dayfile.specs.File.{Report, file_of}
use Rattle.dayfile.specs.Runs.{run_of}
use Rattle.dayfile.specs.declared.refusal.Refusal.{Refusal}
use Rattle.dayfile.specs.declared.refusal.Refusal.TheVariants.{Limit, NoFile}

-- what reading gives: the list, or the refusal
pub data Read : Type 0 where
  reports : List Report → Read
  refused : Refusal → Read

-- the bytes are the file of this list, which is not too long
unfoldable pub is_file_of : List ℕ → List Report → Bool
is_file_of b l = pick (leb (length l) 4096) (same_bytes b (file_of l)) false

unfoldable pub read_of : List ℕ → Read
read_of b = pick (ltb 65536 (length b)) (refused Limit) (pick (is_file_of b (run_of b)) (reports (run_of b)) (refused NoFile))

-- what is told of it: how many reports the list has. Each is then found at its place, the first at 0.
abbrev pub reading_told : Read → Result ℕ Refusal
reading_told (reports l) = Ok (length l)
reading_told (refused r) = Err r
