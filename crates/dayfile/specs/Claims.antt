-- What is claimed of the day file (02 P9), each claim under the sentence that it renders. `proofs/Claimed.antt` proves them.
use Rattle.std.specs.Prelude.{◌≡◌, true, List, [], ◌∷◌, ◌⊎◌, ℕ, ◌+◌, ◌*◌, ◌≤◌, ◌<◌, length, get_or, drop, Some, None}
use Rattle.dayfile.specs.File.{Report, file_of, Sound, Writable}
use Rattle.dayfile.specs.Runs.{front_of, found_in, run_of}
use Rattle.dayfile.specs.Lent.{is_list, list_of}
use Rattle.dayfile.specs.Writing.{Written, file, refused, write_of, left_by}
use Rattle.dayfile.specs.Reading.{Read, reports, read_of}
use Rattle.dayfile.specs.Reading as reading
use Rattle.dayfile.specs.declared.refusal.Refusal.{Refusal}
use Rattle.dayfile.specs.declared.refusal.Refusal.TheVariants.{Argument, Limit, Room, NoFile}
use Rattle.dayfile.specs.declared.report.Found.{Found}

-- one holds if and only if the other does
abbrev pub Exactly : Type 0 → Type 0 → Type 0
Exactly A B = (A → B) × (B → A)

-- each element is a byte
abbrev pub AreBytes : List ℕ → Type 0
AreBytes b = (k : ℕ) → get_or b k 0 < 256

-- "a report not 1 to 1,400 bytes" is in the list
pub data Unsized : List Report → Type 0 where
  empty : {r : Report} {l : List Report} → length r.bytes < 1 → Unsized (r ∷ l)
  long : {r : Report} {l : List Report} → 1400 < length r.bytes → Unsized (r ∷ l)
  later : {r : Report} {l : List Report} → Unsized l → Unsized (r ∷ l)

-- ---- "Reading gives back exactly what was written, and one list has one file."

abbrev pub ReadsBack : Type 0
ReadsBack = (l : List Report) → Writable l → read_of (file_of l) ≡ reports l

-- lists of different reports have different files
abbrev pub OneList : Type 0
OneList = (l m : List Report) → Sound l → Sound m → file_of l ≡ file_of m → l ≡ m

-- bytes that read are exactly the file of what was read
abbrev pub OnlyFiles : Type 0
OnlyFiles = (b : List ℕ) → AreBytes b → (l : List Report) → read_of b ≡ reports l → Writable l × (file_of l ≡ b)

-- The reports of what reads are found one behind the other: the first at place 0, each next one behind the one before.
pub record FoundInOrder : Type 0 where
  pub whole : (b : List ℕ) (l : List Report) → read_of b ≡ reports l → l ≡ run_of b
  pub next : (b : List ℕ) (at : ℕ) (found : Found) → front_of (drop at b) ≡ Some found
      → run_of (drop at b) ≡ found_in (drop at b) found ∷ run_of (drop (at + (5 + found.size)) b)
  pub last : (b : List ℕ) (at : ℕ) → front_of (drop at b) ≡ None → run_of (drop at b) ≡ []

-- ---- "Refusals: in writing 16 for a report not 1 to 1,400 bytes, then 24, too many or too long, given exactly then, then 6 for room"

pub record WritingExactly (l : List Report) (room : ℕ) : Type 0 where
  pub sixteen : Exactly (write_of l room ≡ refused Argument) (Unsized l)
  pub twenty_four : Exactly (write_of l room ≡ refused Limit)
      ((Unsized l → ⊥) × ((4096 < length l) ⊎ (65536 < length (file_of l))))
  pub six : Exactly (write_of l room ≡ refused Room)
      ((Unsized l → ⊥) × (length l ≤ 4096) × (length (file_of l) ≤ 65536) × (room < length (file_of l)))
  pub written : (f : List ℕ) → Exactly (write_of l room ≡ file f)
      ((Unsized l → ⊥) × (length l ≤ 4096) × (length (file_of l) ≤ 65536) × (length (file_of l) ≤ room) × (f ≡ file_of l))
  pub no_other : write_of l room ≡ refused NoFile → ⊥

-- a refusal writes nothing
abbrev pub RefusedWritesNothing : Type 0
RefusedWritesNothing = (out : List ℕ) (w : Written) (r : Refusal) → w ≡ refused r → left_by out w ≡ out

-- every list can be lent, and is then written as it is
pub record Lendable (l : List Report) : Type 0 where
  pub numbers : List ℕ
  pub sizes : List ℕ
  pub bytes : List ℕ
  pub is_list_lem : is_list numbers sizes bytes ≡ true
  pub same : list_of numbers sizes bytes ≡ l

-- ---- "in reading 24 over 64 KiB, then 25 where the bytes are not the file of any list"

pub record ReadingExactly (b : List ℕ) : Type 0 where
  pub twenty_four : Exactly (read_of b ≡ reading.refused Limit) (65536 < length b)
  pub twenty_five : Exactly (read_of b ≡ reading.refused NoFile)
      ((length b ≤ 65536) × ((l : List Report) → Writable l → file_of l ≡ b → ⊥))
  pub read : (l : List Report) → Exactly (read_of b ≡ reports l) (Writable l × (file_of l ≡ b))
  pub no_sixteen : read_of b ≡ reading.refused Argument → ⊥
  pub no_six : read_of b ≡ reading.refused Room → ⊥

-- ---- "At most 4,096 reports and 64 KiB, trailer included": how long a file is

unfoldable pub size_of_reports : List Report → ℕ
size_of_reports [] = 0
size_of_reports (r ∷ l) = 5 + length r.bytes + size_of_reports l

abbrev pub SizeOfFile : Type 0
SizeOfFile = (l : List Report) → length (file_of l) ≡ size_of_reports l + (3 + 2 * length l)
