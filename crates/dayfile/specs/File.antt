-- The day's list as a file (02 P9). "It holds the day's reports in order, each as an opening byte D1, number, length and
-- its 1 to 1,400 bytes. At the end stands a trailer: an opening byte D2, for each report its distance back from the
-- trailer's start, and last the count. All four numbers are 2 bytes, big-endian. At most 4,096 reports and 64 KiB,
-- trailer included."
use Rattle.std.specs.Prelude.{Bool, true, false, List, [], ◌∷◌, ◌++◌, ℕ, ◌<◌, ◌≤◌, length, ltb, leb}
use Rattle.digest.specs.Pick.{pick}
use Rattle.digest.specs.Bytes.{bytes2}

pub record Report : Type 0 where
  pub number : ℕ
  pub bytes : List ℕ

-- "an opening byte D1, number, length"
abbrev pub head_of : ℕ → ℕ → List ℕ
head_of number size = 209 ∷ (bytes2 number ++ bytes2 size)

-- ".. and its 1 to 1,400 bytes"
unfoldable pub report_of : Report → List ℕ
report_of r = head_of r.number (length r.bytes) ++ r.bytes

-- "the day's reports in order"
unfoldable pub body_of : List Report → List ℕ
body_of [] = []
body_of (r ∷ l) = report_of r ++ body_of l

-- "for each report its distance back from the trailer's start": the trailer starts where the last report ends
unfoldable pub distances_of : List Report → List ℕ
distances_of [] = []
distances_of (r ∷ l) = bytes2 (length (body_of (r ∷ l))) ++ distances_of l

-- "an opening byte D2, for each report its distance .., and last the count"
unfoldable pub trailer_of : List Report → List ℕ
trailer_of l = 210 ∷ (distances_of l ++ bytes2 (length l))

unfoldable pub file_of : List Report → List ℕ
file_of l = body_of l ++ trailer_of l

-- a report of "1 to 1,400 bytes", and a list of such reports
abbrev pub is_sized : ℕ → Bool
is_sized n = pick (ltb n 1) false (pick (ltb 1400 n) false true)

unfoldable pub all_sized : List Report → Bool
all_sized [] = true
all_sized (r ∷ l) = pick (is_sized (length r.bytes)) (all_sized l) false

-- "At most 4,096 reports and 64 KiB, trailer included"
unfoldable pub is_within : List Report → Bool
is_within l = pick (leb (length l) 4096) (leb (length (file_of l)) 65536) false

-- The lists that have a file: each report has 1 to 1,400 bytes and a number that 2 bytes hold, and the list is within
-- the limits.
pub data Sound : List Report → Type 0 where
  none : Sound []
  more : {r : Report} {l : List Report} → 1 ≤ length r.bytes → length r.bytes ≤ 1400 → r.number < 65536
      → Sound l → Sound (r ∷ l)

pub record Writable (l : List Report) : Type 0 where
  pub sound : Sound l
  pub few : length l ≤ 4096
  pub short : length (file_of l) ≤ 65536
