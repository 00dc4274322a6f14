-- Runs of calls. A step is what one call gives, by the definitions that the contracts of layer 4 cite; a run is a
-- list of calls, each on the connection that the one before left.
use Rattle.std.specs.Prelude.{Bool, List, [], ◌∷◌, ℕ, length, Result, ⊤}
use Rattle.connection.specs.declared.receive.Untaken.{Untaken}
use Rattle.connection.specs.declared.refusal.Refusal.{Refusal}
use Rattle.connection.specs.Receive.{received_of, output_of}
use Rattle.connection.specs.Send.{data_sent, data_output, alert_sent, alert_output}
use Rattle.connection.specs.Handshake.{new_handshake}
use Rattle.connection.specs.Connection.{alone}
use Rattle.connection.specs.Calls.{closed_of, started_of, session_of}
use Rattle.connection.specs.declared.answer.Slot.{Slot}
use Rattle.connection.specs.declared.connection.Connection.{Connection}
use Rattle.connection.specs.declared.calls.Called.{Called}
use Rattle.connection.specs.declared.receive.Received.{Received}
use Rattle.connection.specs.declared.send.Sent.{Sent}
use Rattle.connection.specs.declared.handshake.Handshake.{Handshake}
use Rattle.connection.specs.declared.state.State.TheVariants.{Idle}

-- The calls on a connection, each with its arguments and the bytes that the caller lends for the output. (01: "The
-- calls are: fresh connection, receive datagram, send data, send alert, close, start again.")
pub data Call : Type 0 where
  receive : (datagram random out : List ℕ) → Call
  send_data : (bytes out : List ℕ) → Call
  send_alert : (protected : Bool) (level description : ℕ) (answered out : List ℕ) → Call
  close : Call
  start : Call

-- what comes back
pub data Returned : Type 0 where
  received : (taken : Result ℕ Untaken) (answers : List Slot) (written : ℕ) → Returned
  sent : (outcome : Result ⊤ Refusal) (written : ℕ) → Returned
  called : (outcome : Result ⊤ Refusal) → Returned

-- what comes back, what the lent output then holds, and the connection
pub record Step : Type 0 where
  pub result : Returned
  pub output : List ℕ
  pub connection : Connection

abbrev pub received_as : Received → List ℕ → Step
received_as r out =
    record { result = received r.taken r.answers r.written; output = out; connection = r.connection }

abbrev pub sent_as : Sent → List ℕ → Step
sent_as s out = record { result = sent s.outcome s.written; output = out; connection = s.connection }

abbrev pub called_as : Called → Step
called_as c = record { result = called c.outcome; output = []; connection = c.connection }

-- our gateway, by its contracts
unfoldable pub step_of : Connection → Call → Step
step_of c (receive d random out) = received_as (received_of c d random (length out)) (output_of c d random out)
step_of c (send_data bytes out) = sent_as (data_sent c bytes (length out)) (data_output c bytes out)
step_of c (send_alert protected level description answered out) =
    sent_as (alert_sent c protected level description answered (length out))
    (alert_output c protected level description answered out)
step_of c close = called_as (closed_of c)
step_of c start = called_as (started_of c)

-- a gateway: what each call gives on each connection
abbrev pub Gateway : Type 0
Gateway = Connection → Call → Step

-- the steps of a run, and the connection at its end
unfoldable pub steps_of : Gateway → Connection → List Call → List Step
steps_of g c [] = []
steps_of g c (call ∷ calls) = g c call ∷ steps_of g (g c call).connection calls

unfoldable pub final_of : Gateway → Connection → List Call → Connection
final_of g c [] = c
final_of g c (call ∷ calls) = final_of g (g c call).connection calls

-- a handshake and a connection fresh from a planted session, with a window of this width
abbrev pub fresh_with : List ℕ → List ℕ → ℕ → Handshake
fresh_with id secret width = new_handshake (session_of id secret) width Idle

abbrev pub fresh_one : List ℕ → List ℕ → ℕ → Connection
fresh_one id secret width = alone (fresh_with id secret width)
