-- Writing (02 P9): "Refusals: in writing 16 for a report not 1 to 1,400 bytes, then 24, too many or too long, given exactly
-- then, then 6 for room". A refusal writes nothing.
use Rattle.std.specs.Prelude.{List, ℕ, length, leb, Result, Ok, Err}
use Rattle.digest.specs.Pick.{pick}
use Rattle.digest.specs.Bytes.{laid_over}
use Rattle.dayfile.specs.File.{Report, file_of, all_sized, is_within}
use Rattle.dayfile.specs.Lent.{is_list, list_of}
use Rattle.dayfile.specs.declared.refusal.Refusal.{Refusal}
use Rattle.dayfile.specs.declared.refusal.Refusal.TheVariants.{Argument, Limit, Room, NoFile}

-- the number of a refusal
abbrev pub refusal_number : Refusal → ℕ
refusal_number Argument = 16
refusal_number Limit = 24
refusal_number Room = 6
refusal_number NoFile = 25

-- what writing gives: the file, or the refusal
pub data Written : Type 0 where
  file : List ℕ → Written
  refused : Refusal → Written

-- 16, 24, 6, in this order; else the file of the list
unfoldable pub write_of : List Report → ℕ → Written
write_of l room =
    pick (all_sized l)
    (pick (is_within l) (pick (leb (length (file_of l)) room) (file (file_of l)) (refused Room)) (refused Limit))
    (refused Argument)

-- 16 too where what is lent is no list
unfoldable pub write_lent : List ℕ → List ℕ → List ℕ → ℕ → Written
write_lent numbers sizes bytes room =
    pick (is_list numbers sizes bytes) (write_of (list_of numbers sizes bytes) room) (refused Argument)

-- what is told of it: how many bytes the file has
abbrev pub writing_told : Written → Result ℕ Refusal
writing_told (file f) = Ok (length f)
writing_told (refused r) = Err r

-- what the lent room then holds: the file from its front on, or what it held
abbrev pub left_by : List ℕ → Written → List ℕ
left_by out (file f) = laid_over out 0 f
left_by out (refused r) = out
