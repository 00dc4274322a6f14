-- Runs of the unit's calls. A step is what one call gives, by the definitions that the contracts of the unit cite; a run is a list of
-- calls, each on the unit that the one before left.
use Rattle.std.specs.Prelude.{Bool, List, [], ◌∷◌, ℕ, length, Result, ⊤}
use Rattle.connection.specs.declared.receive.Untaken.{Untaken}
use Rattle.connection.specs.declared.refusal.Refusal.{Refusal}
use Rattle.unit.specs.Unit.{new_unit}
use Rattle.unit.specs.Calls.{closed_of, started_of}
use Rattle.unit.specs.Hello.{hello_sent, hello_output, again_sent, again_output}
use Rattle.unit.specs.Receive.{received_of, output_of}
use Rattle.unit.specs.Send.{data_sent, data_output, alert_sent, alert_output}
use Rattle.unit.specs.declared.answer.Slot.{Slot}
use Rattle.unit.specs.declared.calls.Called.{Called}
use Rattle.unit.specs.declared.receive.Received.{Received}
use Rattle.unit.specs.declared.send.Sent.{Sent}
use Rattle.unit.specs.declared.state.State.TheVariants.{Idle}
use Rattle.unit.specs.declared.unit.Unit.{Unit as Ship}

-- The calls on a unit, each with its arguments and the bytes that the caller lends for the output (02, P7: hello, again, receive, send
-- data, send alert, close, start again).
pub data Call : Type 0 where
  hello : (random macs : List ℕ) (refresh : ℕ) (out : List ℕ) → Call
  again : (out : List ℕ) → Call
  receive : (datagram out : List ℕ) → Call
  send_data : (bytes out : List ℕ) → Call
  send_alert : (protected : Bool) (level description : ℕ) (answered out : List ℕ) → Call
  close : Call
  start : Call

-- what comes back
pub data Returned : Type 0 where
  received : (taken : Result ℕ Untaken) (answers : List Slot) (written : ℕ) → Returned
  sent : (outcome : Result ⊤ Refusal) (written : ℕ) → Returned
  called : (outcome : Result ⊤ Refusal) → Returned

-- what comes back, what the lent output then holds, and the unit
pub record Step : Type 0 where
  pub result : Returned
  pub output : List ℕ
  pub unit : Ship

abbrev pub received_as : Received → List ℕ → Step
received_as r out = record { result = received r.taken r.answers r.written; output = out; unit = r.unit }

abbrev pub sent_as : Sent → List ℕ → Step
sent_as s out = record { result = sent s.outcome s.written; output = out; unit = s.unit }

abbrev pub called_as : Called → Step
called_as c = record { result = called c.outcome; output = []; unit = c.unit }

-- our unit, by its contracts
unfoldable pub step_of : Ship → Call → Step
step_of u (hello random macs refresh out) =
    sent_as (hello_sent u random macs refresh (length out)) (hello_output u random macs refresh out)
step_of u (again out) = sent_as (again_sent u (length out)) (again_output u out)
step_of u (receive d out) = received_as (received_of u d (length out)) (output_of u d out)
step_of u (send_data bytes out) = sent_as (data_sent u bytes (length out)) (data_output u bytes out)
step_of u (send_alert protected level description answered out) =
    sent_as (alert_sent u protected level description answered (length out))
    (alert_output u protected level description answered out)
step_of u close = called_as (closed_of u)
step_of u start = called_as (started_of u)

-- a shipboard end: what each call gives on each unit
abbrev pub Shipboard : Type 0
Shipboard = Ship → Call → Step

-- the steps of a run, and the unit at its end
unfoldable pub steps_of : Shipboard → Ship → List Call → List Step
steps_of g u [] = []
steps_of g u (call ∷ calls) = g u call ∷ steps_of g (g u call).unit calls

unfoldable pub final_of : Shipboard → Ship → List Call → Ship
final_of g u [] = u
final_of g u (call ∷ calls) = final_of g (g u call).unit calls

-- a unit fresh from a planted session, with a window of this width
abbrev pub fresh_ship : List ℕ → List ℕ → ℕ → Ship
fresh_ship id secret width = new_unit id secret width Idle
