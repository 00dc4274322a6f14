-- Fresh, close and start again, as ashore (01, "Refusal numbers": "Start again: 7, then 8 unless Closed. Close: 7. Fresh connection:
-- 16 only.").
use Rattle.std.specs.Prelude.{List, ℕ, length, eqb, ltb, Err, Ok, Result, ⊤}
use Rattle.connection.specs.declared.refusal.Refusal.{Refusal}
use Rattle.digest.specs.Pick.{pick}
use Rattle.connection.specs.declared.refusal.Refusal.TheVariants.{Ended, NotAllowed, Argument}
use Rattle.unit.specs.Unit.{new_unit, blank_unit, with_state, reopened}
use Rattle.unit.specs.declared.state.State.{State}
use Rattle.unit.specs.declared.state.State.TheVariants as S
use Rattle.unit.specs.declared.calls.Called.{Called}
use Rattle.unit.specs.declared.unit.Unit.{Unit}

-- an outcome, and the unit that it leaves
abbrev pub leaving : Result ⊤ Refusal → Unit → Called
leaving outcome u = record { outcome = outcome; unit = u }

-- 16. What stands beside the refusal is blank and Barred.
abbrev pub out_of_range : Called
out_of_range = leaving (Err Argument) blank_unit

-- 16: "identifier not 8, secret not 20", "width outside 32 to 64" (02, P1)
unfoldable pub fresh_of : List ℕ → List ℕ → ℕ → Called
fresh_of id secret width =
    pick (eqb (length id) 8)
    (pick (eqb (length secret) 20)
    (pick (ltb width 32) out_of_range
    (pick (ltb 64 width) out_of_range (leaving (Ok tt) (new_unit id secret width S.Idle))))
    out_of_range)
    out_of_range

-- "Close leads anywhere but Barred to Closed."
abbrev pub closed_in : Unit → State → Called
closed_in u S.Idle = leaving (Ok tt) (with_state u S.Closed)
closed_in u S.Sent = leaving (Ok tt) (with_state u S.Closed)
closed_in u S.Replied = leaving (Ok tt) (with_state u S.Closed)
closed_in u S.Spec = leaving (Ok tt) (with_state u S.Closed)
closed_in u S.Opening = leaving (Ok tt) (with_state u S.Closed)
closed_in u S.Open = leaving (Ok tt) (with_state u S.Closed)
closed_in u S.Closed = leaving (Ok tt) (with_state u S.Closed)
closed_in u S.Barred = leaving (Err Ended) u

abbrev pub closed_of : Unit → Called
closed_of u = closed_in u u.state

-- "Start again leads from Closed to Idle."
abbrev pub started_in : Unit → State → Called
started_in u S.Idle = leaving (Err NotAllowed) u
started_in u S.Sent = leaving (Err NotAllowed) u
started_in u S.Replied = leaving (Err NotAllowed) u
started_in u S.Spec = leaving (Err NotAllowed) u
started_in u S.Opening = leaving (Err NotAllowed) u
started_in u S.Open = leaving (Err NotAllowed) u
started_in u S.Closed = leaving (Ok tt) (reopened u)
started_in u S.Barred = leaving (Err Ended) u

abbrev pub started_of : Unit → Called
started_of u = started_in u u.state
