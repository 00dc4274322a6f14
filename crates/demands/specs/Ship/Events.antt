-- A run of a unit, record by record. A call to receive that is not refused as a whole is its records, one after the other, as
-- ashore. So a place in a run is a place between two events, also inside a datagram.
use Rattle.std.specs.Prelude.{Bool, true, List, [], ◌∷◌, ◌++◌, map, ℕ, length, take, ltb, Err, Ok, Result, ⊤}
use Rattle.connection.specs.declared.refusal.Refusal.{Refusal}
use Rattle.digest.specs.Pick.{pick}
use Rattle.record.specs.Datagram.{Framing, framed, faulty, framing_of}
use Rattle.record.specs.declared.reader.Record.{Record}
use Rattle.unit.specs.Calls.{closed_of, started_of}
use Rattle.unit.specs.Hello.{hello_sent, hello_output, again_sent, again_output}
use Rattle.unit.specs.Judge.{judged_record}
use Rattle.unit.specs.Send.{data_sent, data_output, alert_sent, alert_output}
use Rattle.unit.specs.declared.answer.Answer.{Answer}
use Rattle.unit.specs.declared.send.Sent.{Sent}
use Rattle.unit.specs.declared.unit.Unit.{Unit as Ship}
use Rattle.demands.specs.Genuine.{RecordOf}
use Rattle.demands.specs.Ship.Runs.{Call, hello, again, receive, send_data, send_alert, close, start}

pub data Event : Type 0 where
  -- the record r of the datagram d comes
  took : (d : List ℕ) (r : Record) → Event
  -- the other calls
  greeting : (random macs : List ℕ) (refresh : ℕ) (out : List ℕ) → Event
  repeating : (out : List ℕ) → Event
  sending : (bytes out : List ℕ) → Event
  alerting : (protected : Bool) (level description : ℕ) (answered out : List ℕ) → Event
  closing : Event
  starting : Event

-- "calls with arguments and room as listed": a record of a soundly framed datagram
abbrev pub Sound : Event → Type 0
Sound (took d r) = RecordOf d r
Sound (greeting random macs refresh out) = Unit
Sound (repeating out) = Unit
Sound (sending bytes out) = Unit
Sound (alerting protected level description answered out) = Unit
Sound closing = Unit
Sound starting = Unit

abbrev pub AllSound : List Event → Type 0
AllSound [] = Unit
AllSound (e ∷ es) = Sound e × AllSound es

-- the events of a call: none where a datagram is refused as a whole (6, 1 to 5)
abbrev pub records_in : List ℕ → Framing → List Event
records_in d (framed rs) = map (took d) rs
records_in d (faulty fault at) = []

abbrev pub events_in : Call → List Event
events_in (hello random macs refresh out) = greeting random macs refresh out ∷ []
events_in (again out) = repeating out ∷ []
events_in (receive d out) = pick (ltb (length out) 128) [] (records_in d (framing_of d))
events_in (send_data bytes out) = sending bytes out ∷ []
events_in (send_alert protected level description answered out) = alerting protected level description answered out ∷ []
events_in close = closing ∷ []
events_in start = starting ∷ []

unfoldable pub events_of : List Call → List Event
events_of [] = []
events_of (call ∷ calls) = events_in call ++ events_of calls

-- what an event leaves, by the definitions that the contracts cite
abbrev pub next : Ship → Event → Ship
next u (took d r) = (judged_record u d r).unit
next u (greeting random macs refresh out) = (hello_sent u random macs refresh (length out)).unit
next u (repeating out) = (again_sent u (length out)).unit
next u (sending bytes out) = (data_sent u bytes (length out)).unit
next u (alerting protected level description answered out) = (alert_sent u protected level description answered (length out)).unit
next u closing = (closed_of u).unit
next u starting = (started_of u).unit

unfoldable pub after : Ship → List Event → Ship
after u [] = u
after u (e ∷ es) = after (next u e) es

-- What happened at an event: a record was answered; we wrote a hello with these arguments, a record, protected or clear, or said
-- something again, whose bytes stand at the front of the output; we closed; we started again; or the call was refused.
pub data Happened : Type 0 where
  answered : (d : List ℕ) (r : Record) (a : Answer) → Happened
  greeted : (random macs : List ℕ) (refresh : ℕ) (bytes : List ℕ) → Happened
  said_again : (bytes : List ℕ) → Happened
  wrote : (protected : Bool) (bytes : List ℕ) → Happened
  closed : Happened
  started : Happened
  refused : Happened

abbrev pub if_done : Result ⊤ Refusal → Happened → Happened
if_done (Ok tt) what = what
if_done (Err refusal) what = refused

-- the bytes that a call wrote
abbrev pub written_by : Sent → List ℕ → List ℕ
written_by s out = take s.written out

abbrev pub happening : Ship → Event → Happened
happening u (took d r) = answered d r (judged_record u d r).answer
happening u (greeting random macs refresh out) =
    let s = hello_sent u random macs refresh (length out) in
    if_done s.outcome (greeted random macs refresh (written_by s (hello_output u random macs refresh out)))
happening u (repeating out) =
    let s = again_sent u (length out) in if_done s.outcome (said_again (written_by s (again_output u out)))
happening u (sending bytes out) =
    let s = data_sent u bytes (length out) in if_done s.outcome (wrote true (written_by s (data_output u bytes out)))
happening u (alerting protected level description lent out) =
    let s = alert_sent u protected level description lent (length out) in
    if_done s.outcome (wrote protected (written_by s (alert_output u protected level description lent out)))
happening u closing = if_done (closed_of u).outcome closed
happening u starting = if_done (started_of u).outcome started

-- what happened in a run, the latest first, before what had happened already
unfoldable pub history : Ship → List Event → List Happened → List Happened
history u [] past = past
history u (e ∷ es) past = history (next u e) es (happening u e ∷ past)
