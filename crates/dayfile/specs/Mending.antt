-- Mending a cut day file (02 P10). "A mending tool keeps the longest run of whole reports from the front, writes a new
-- trailer and says how many reports it kept, how many bytes stood after them and whether the file changed. .. Refusals: 24
-- if the file lent, or the file it would become, passes P9's limits, then 6 if the mended file does not fit the room."
use Rattle.std.specs.Prelude.{not, List, ℕ, ◌-◌, length, ltb, leb, Result, Ok, Err}
use Rattle.digest.specs.Pick.{pick}
use Rattle.digest.specs.Bytes.{laid_over}
use Rattle.digest.specs.Mac.{same_bytes}
use Rattle.dayfile.specs.File.{body_of, file_of, is_within}
use Rattle.dayfile.specs.Runs.{run_of}
use Rattle.dayfile.specs.declared.refusal.Refusal.{Refusal}
use Rattle.dayfile.specs.declared.refusal.Refusal.TheVariants.{Limit, Room}
use Rattle.dayfile.specs.declared.mend.Mended.{Mended}

-- what mending gives: the new file and what is said of it, or the refusal
pub data Mend : Type 0 where
  mended : List ℕ → Mended → Mend
  refused : Refusal → Mend

-- "how many reports it kept, how many bytes stood after them and whether the file changed"
unfoldable pub said_of : List ℕ → Mended
said_of b =
    record {
      kept = length (run_of b);
      after = length b - length (body_of (run_of b));
      changed = not (same_bytes b (file_of (run_of b)));
    }

-- 24, 6, in this order; else the file of the run
unfoldable pub mend_of : List ℕ → ℕ → Mend
mend_of b room =
    pick (ltb 65536 (length b)) (refused Limit)
    (pick (is_within (run_of b))
    (pick (leb (length (file_of (run_of b))) room) (mended (file_of (run_of b)) (said_of b)) (refused Room))
    (refused Limit))

-- what is told of it
abbrev pub mending_told : Mend → Result Mended Refusal
mending_told (mended f said) = Ok said
mending_told (refused r) = Err r

-- what the lent room then holds: the new file from its front on, or what it held
abbrev pub mend_left : List ℕ → Mend → List ℕ
mend_left out (mended f said) = laid_over out 0 f
mend_left out (refused r) = out
