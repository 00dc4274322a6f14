-- Whole reports from the front of bytes (02 P10: "the longest run of whole reports from the front"). A report stands whole
-- where D1 stands and its 5 + length bytes are there, its length from 1 to 1,400. Reading a file goes the same way.
use Rattle.std.specs.Prelude.{List, [], ◌∷◌, ◌≡◌, ℕ, zero, suc, ◌+◌, ◌*◌, ◌-◌, ◌≤◌, length, get_or, take, drop, eqb, ltb, Option, Some, None}
use Rattle.digest.specs.Pick.{pick}
use Rattle.dayfile.specs.File.{Report, report_of, body_of, file_of, is_sized, is_within}
use Rattle.dayfile.specs.declared.report.Found.{Found}
use Rattle.dayfile.specs.declared.run.Run.{Run}

-- the number that the two bytes from place i on spell
abbrev pub pair_at : List ℕ → ℕ → ℕ
pair_at s i = get_or s i 0 * 256 + get_or s (i + 1) 0

-- a report with this number and length, of which `left` bytes are there
unfoldable pub whole_if : ℕ → ℕ → ℕ → Option Found
whole_if number size left = pick (is_sized size) (pick (ltb left size) None (Some (record { number = number; size = size }))) None

-- the whole report at the front of s, if one stands there: D1, its number, its length
unfoldable pub front_of : List ℕ → Option Found
front_of s =
    pick (ltb (length s) 5) None
    (pick (eqb (get_or s 0 0) 209) (whole_if (pair_at s 1) (pair_at s 3) (length s - 5)) None)

-- the report that was found at the front of s
abbrev pub found_in : List ℕ → Found → Report
found_in s found = record { number = found.number; bytes = take found.size (drop 5 s) }

-- the report that was found stands at the front of s, byte for byte
abbrev pub Standing : List ℕ → Option Found → Type 0
Standing s front = (found : Found) → front ≡ Some found → report_of (found_in s found) ≡ take (5 + found.size) s

-- the report that was found, and then the rest behind it
abbrev pub ahead : List ℕ → Option Found → (List ℕ → List Report) → List Report
ahead s None rest = []
ahead s (Some found) rest = found_in s found ∷ rest (drop (5 + found.size) s)

-- The run of whole reports from the front of s, of at most `most`; "nothing after the first break is looked at".
unfoldable pub run_within : ℕ → List ℕ → List Report
run_within zero s = []
run_within (suc most) s = ahead s (front_of s) (run_within most)

-- A report has more than one byte, so that s has at most `length s` of them.
unfoldable pub run_of : List ℕ → List Report
run_of s = run_within (length s) s

-- how many reports the run has, and where it ends
abbrev pub counted : List Report → Run
counted l = record { count = length l; end = length (body_of l) }

-- how many bytes the file of a list has, where the list is within the limits
abbrev pub size_within : List Report → Option ℕ
size_within l = pick (is_within l) (Some (length (file_of l))) None

-- a run, of so many reports and with this end, stands at the front of s, byte for byte
pub record RunStands (s : List ℕ) (run : Run) : Type 0 where
  pub many : run.count ≡ length (run_of s)
  pub inside : run.end ≤ length s
  pub stands : body_of (run_of s) ≡ take run.end s
