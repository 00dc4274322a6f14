-- Demand 1 at the shipboard end: "A refused call writes nothing into the output we lend, and the connection is as before, except where
-- the list names the change": "12 under protection and 17 mark the number, and 17 also closes".
use Rattle.std.specs.Prelude.{◌≡◌, Bool, List, [], ℕ, eqb, Err, Ok, Result}
use Rattle.record.specs.declared.window.NotNew.{NotNew}
use Rattle.record.specs.declared.window.Window.{Window}
use Rattle.digest.specs.Pick.{pick}
use Rattle.record.specs.Window.{accept_of}
use Rattle.record.specs.declared.reader.Record.{Record}
use Rattle.record.specs.declared.window.NotNew.TheVariants as A
use Rattle.connection.specs.Refusal.{refusal_number}
use Rattle.connection.specs.declared.refusal.Refusal.{Refusal}
use Rattle.unit.specs.Judge.{judged_record}
use Rattle.unit.specs.Unit.{with_state, with_window}
use Rattle.unit.specs.declared.answer.Answer.TheVariants as W
use Rattle.unit.specs.declared.state.State.TheVariants.{Closed}
use Rattle.unit.specs.declared.unit.Unit.{Unit as Ship}
use Rattle.demands.specs.Refusals.{NotTaken, NotDone}
use Rattle.demands.specs.Ship.Runs.{Call, hello, again, receive, send_data, send_alert, close, start, Returned, received, sent, called, Shipboard}

-- the output that a call lends
abbrev pub lent_by : Call → List ℕ
lent_by (hello random macs refresh out) = out
lent_by (again out) = out
lent_by (receive d out) = out
lent_by (send_data bytes out) = out
lent_by (send_alert protected level description answered out) = out
lent_by close = []
lent_by start = []

-- a call that is refused as a whole, and how many bytes it says it wrote
abbrev pub IsRefused : Returned → Type 0
IsRefused (received taken answers written) = NotTaken taken
IsRefused (sent outcome written) = NotDone outcome
IsRefused (called outcome) = NotDone outcome

abbrev pub written_by : Returned → ℕ
written_by (received taken answers written) = written
written_by (sent outcome written) = written
written_by (called outcome) = 0

-- for each call
unfoldable pub RefusedCallChangesNothing : Shipboard → Type 0
RefusedCallChangesNothing g =
    (u : Ship) (call : Call) → IsRefused (g u call).result
    → ((g u call).unit ≡ u) × ((g u call).output ≡ lent_by call) × (written_by (g u call).result ≡ 0)

-- the unit with the mark of a number, where it is new
abbrev pub marked_as : Ship → Result (Window × ℕ) NotNew → Ship
marked_as u (Ok (w, arrived)) = with_window u w
marked_as u (Err A.TooOld) = u
marked_as u (Err A.Repeated) = u

abbrev pub marked : Ship → ℕ → Ship
marked u s = marked_as u (accept_of u.protection.window s)

-- what a refused record leaves: 17 marks and closes, 12 under protection marks, all others leave the unit as it was
abbrev pub refused_leaves : Ship → Bool → ℕ → Refusal → Ship
refused_leaves u protected s x =
    pick (eqb (refusal_number x) 17) (with_state (marked u s) Closed)
    (pick (eqb (refusal_number x) 12) (pick protected (marked u s) u) u)

-- for each record
unfoldable pub RefusedRecordChangesNothing : Type 0
RefusedRecordChangesNothing =
    (u : Ship) (d : List ℕ) (r : Record) (x : Refusal) → (judged_record u d r).answer ≡ W.Refused x
    → (judged_record u d r).unit ≡ refused_leaves u r.protected r.number x
