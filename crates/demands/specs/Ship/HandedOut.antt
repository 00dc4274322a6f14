-- Demand 3 at the shipboard end: "Each genuine data record of at least one byte, whose number was not accepted before and is above the
-- highest accepted less" the width, "is handed out by that very call, once, as sent." From any unit in Opening or Open.
use Rattle.std.specs.Prelude.{◌≡◌, ◌↔◌, ◌≢◌, true, false, List, ◌∷◌, ◌++◌, ℕ}
use Rattle.record.specs.Window.{Held}
use Rattle.record.specs.History.{window_of}
use Rattle.record.specs.declared.keys.Keys.{Keys}
use Rattle.record.specs.declared.reader.Record.{Record}
use Rattle.connection.specs.Answer.{handed_of}
use Rattle.unit.specs.Answer.{as_ashore}
use Rattle.unit.specs.Judge.{judged_record}
use Rattle.unit.specs.declared.answer.Answer.{Answer}
use Rattle.unit.specs.declared.unit.Unit.{Unit as Ship}
use Rattle.demands.specs.Genuine.{RecordOf}
use Rattle.demands.specs.Past.{is_data as data_ashore}
use Rattle.demands.specs.Course.{Course}
use Rattle.demands.specs.Ship.Table.{Up, Over}
use Rattle.demands.specs.Ship.Events.{Event, took, after}
use Rattle.demands.specs.Ship.Course.{Due, HoldsNumbers, course_from, OngoingFrom}

-- whether an answer hands out data, and what: as ashore
abbrev pub HandsOut : Answer → Type 0
HandsOut a = data_ashore (as_ashore a) ≡ true

abbrev pub handed_by : List ℕ → Answer → List ℕ
handed_by d a = handed_of d (as_ashore a)

-- While nothing closed, the unit is in Opening or Open, under the same keys and expected contents, its window is that of the numbers
-- used up, and its width is as it was; once something closed it is over.
pub record Along (k : Keys) (expected : List ℕ) (course : Course) (u : Ship) : Type 0 where
  pub held : Held course.width
  pub is_up : course.shut ≡ false → Up u.state
  pub keys_same : course.shut ≡ false → u.protection.keys ≡ k
  pub expected_same : course.shut ≡ false → u.expected ≡ expected
  pub window_same : course.shut ≡ false → u.protection.window ≡ window_of course.width course.numbers
  pub is_over : course.shut ≡ true → Over u.state

unfoldable pub GoesAlong : Type 0
GoesAlong =
    (u : Ship) (numbers : List ℕ) → Up u.state → HoldsNumbers u numbers → (later : List Event) → OngoingFrom u numbers later
    → Along u.protection.keys u.expected (course_from u numbers later) (after u later)

-- Up to a start again that takes effect, a record is answered with data exactly if it is due, and what is handed out is its content.
unfoldable pub HandedOut : Type 0
HandedOut =
    (u : Ship) (numbers : List ℕ) → Up u.state → HoldsNumbers u numbers → (later : List Event) → OngoingFrom u numbers later
    → (d : List ℕ) (r : Record) → RecordOf d r
    → let course = course_from u numbers later in
    let answer = (judged_record (after u later) d r).answer in
    (HandsOut answer ↔ ((c : List ℕ) × Due u.protection.keys course d r c))
    × ((c : List ℕ) → Due u.protection.keys course d r c → handed_by d answer ≡ c)

-- "once": two records that are both handed out have different numbers
unfoldable pub HandedOnce : Type 0
HandedOnce =
    (u : Ship) (numbers : List ℕ) → Up u.state → HoldsNumbers u numbers → (later between : List Event) (d : List ℕ) (r : Record)
    (d' : List ℕ) (r' : Record) → RecordOf d r → RecordOf d' r'
    → OngoingFrom u numbers (later ++ (took d r ∷ between))
    → HandsOut (judged_record (after u later) d r).answer
    → HandsOut (judged_record (after u (later ++ (took d r ∷ between))) d' r').answer
    → r.number ≢ r'.number
