-- What is claimed of mending (02 P10), each claim under the sentence that it renders. `proofs/Keeping.antt` proves them.
use Rattle.std.specs.Prelude.{◌≡◌, false, List, [], ◌∷◌, ◌++◌, ◌⊎◌, ℕ, ◌+◌, ◌*◌, ◌≤◌, ◌<◌, length, take, drop, leb}
use Rattle.digest.specs.Pick.{pick}
use Rattle.dayfile.specs.File.{Report, body_of, file_of, Sound, Writable}
use Rattle.dayfile.specs.Runs.{run_of}
use Rattle.dayfile.specs.Reading.{reports, read_of}
use Rattle.dayfile.specs.Claims.{Exactly, AreBytes}
use Rattle.dayfile.specs.Mending.{Mend, mended, refused, said_of, mend_of, mend_left}
use Rattle.dayfile.specs.declared.refusal.Refusal.{Refusal}
use Rattle.dayfile.specs.declared.refusal.Refusal.TheVariants.{Limit, Room}
use Rattle.dayfile.specs.declared.mend.Mended.{Mended}

-- "A sound file comes out the same and is reported unchanged."
abbrev pub SoundUnchanged : Type 0
SoundUnchanged = (b : List ℕ) (l : List Report) (room : ℕ) → read_of b ≡ reports l → length b ≤ room
    → mend_of b room ≡ mended b (record { kept = length l; after = 3 + 2 * length l; changed = false })

-- "What it writes always reads", to the kept run; what it says is said of that run.
abbrev pub MendedReads : Type 0
MendedReads = (b : List ℕ) → AreBytes b → (room : ℕ) (f : List ℕ) (said : Mended) → mend_of b room ≡ mended f said
    → (read_of f ≡ reports (run_of b)) × (said ≡ said_of b) × (f ≡ file_of (run_of b))

-- whether the file changed is whether the bytes differ
abbrev pub ChangedExactly : Type 0
ChangedExactly = (b : List ℕ) (room : ℕ) (f : List ℕ) (said : Mended) → mend_of b room ≡ mended f said
    → Exactly (said.changed ≡ false) (f ≡ b)

-- "keeps the longest run of whole reports from the front": what is kept is whole reports, they stand at the front, and all
-- that stand there are kept
pub record Longest (b : List ℕ) : Type 0 where
  pub whole : Sound (run_of b)
  pub there : body_of (run_of b) ++ drop (length (body_of (run_of b))) b ≡ b
  pub all : (m : List Report) (rest : List ℕ) → Sound m → b ≡ body_of m ++ rest → run_of b ≡ m ++ run_of rest

-- "every kept report was there before in that place": up to the end of the kept reports the two files are the same
abbrev pub InPlace : Type 0
InPlace = (b : List ℕ) → AreBytes b → (room : ℕ) (f : List ℕ) (said : Mended) → mend_of b room ≡ mended f said
    → take (length (body_of (run_of b))) f ≡ take (length (body_of (run_of b))) b

-- the reports of a list whose end is at or before the cut, where the first begins at `at`
unfoldable pub ending_by : ℕ → ℕ → List Report → List Report
ending_by at cut [] = []
ending_by at cut (r ∷ l) =
    pick (leb (at + (5 + length r.bytes)) cut)
    (r ∷ ending_by (at + (5 + length r.bytes)) cut l)
    (ending_by (at + (5 + length r.bytes)) cut l)

-- "For any cut of a file that P9 wrote, the kept reports are exactly those that stand whole before the cut."
abbrev pub CutKeeps : Type 0
CutKeeps = (l : List Report) (cut : ℕ) → Writable l
    → (run_of (take cut (file_of l)) ≡ ending_by 0 cut l)
    × ((room : ℕ) (f : List ℕ) (said : Mended) → mend_of (take cut (file_of l)) room ≡ mended f said → f ≡ file_of (ending_by 0 cut l))

-- and such a file is never refused 24
abbrev pub CutNever24 : Type 0
CutNever24 = (l : List Report) (cut room : ℕ) → Writable l → mend_of (take cut (file_of l)) room ≡ refused Limit → ⊥

-- "Refusals: 24 if the file lent, or the file it would become, passes P9's limits, then 6 if the mended file does not fit the room."
pub record MendingExactly (b : List ℕ) (room : ℕ) : Type 0 where
  pub twenty_four : Exactly (mend_of b room ≡ refused Limit)
      ((65536 < length b) ⊎ ((4096 < length (run_of b)) ⊎ (65536 < length (file_of (run_of b)))))
  pub six : Exactly (mend_of b room ≡ refused Room)
      ((length b ≤ 65536) × (length (run_of b) ≤ 4096) × (length (file_of (run_of b)) ≤ 65536) × (room < length (file_of (run_of b))))
  pub no_other : (r : Refusal) → mend_of b room ≡ refused r → (r ≡ Limit) ⊎ (r ≡ Room)

-- a refusal writes nothing
abbrev pub RefusedMendsNothing : Type 0
RefusedMendsNothing = (out : List ℕ) (m : Mend) (r : Refusal) → m ≡ refused r → mend_left out m ≡ out
