-- The exported calls answer one number. Its upper 32 bits are the number of the refusal, 0 where the call is done; the lower
-- 32 are what is told: how many bytes the file has, how many reports. A report is told by its number and its size, 16 bits
-- each; where there is none, by 0.
use Rattle.std.specs.Prelude.{Bool, true, false, ℕ, ◌+◌, ◌*◌, Option, Some, None, Result, Ok, Err}
use Rattle.dayfile.specs.Writing.{refusal_number}
use Rattle.dayfile.specs.declared.refusal.Refusal.{Refusal}
use Rattle.dayfile.specs.declared.mend.Mended.{Mended}
use Rattle.dayfile.specs.declared.report.Found.{Found}

abbrev pub refused_result : Refusal → ℕ
refused_result r = refusal_number r * 4294967296

abbrev pub counted_result : Result ℕ Refusal → ℕ
counted_result (Ok count) = count
counted_result (Err r) = refused_result r

abbrev pub found_result : Option Found → ℕ
found_result (Some found) = found.number * 65536 + found.size
found_result None = 0

-- Of a mended file: whether it changed (1 bit), how many reports were kept (14 bits), how many bytes stood after them (17).
abbrev pub changed_bit : Bool → ℕ
changed_bit true = 1
changed_bit false = 0

abbrev pub mended_result : Mended → ℕ
mended_result said = changed_bit said.changed * 2147483648 + said.kept * 131072 + said.after

abbrev pub mending_result : Result Mended Refusal → ℕ
mending_result (Ok said) = mended_result said
mending_result (Err r) = refused_result r
