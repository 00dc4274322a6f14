-- A run of a connection, record by record. A call to receive that is not refused as a whole is its records, one after the other:
-- "each later record is handed on", "one answer per record". So a place in a run is a place between two acts, also inside a
-- datagram.
use Rattle.std.specs.Prelude.{◌≡◌, Bool, true, List, [], ◌∷◌, ◌++◌, map, ℕ, length, eqb, ltb}
use Rattle.digest.specs.Pick.{pick}
use Rattle.record.specs.Datagram.{Framing, framed, faulty, framing_of}
use Rattle.record.specs.declared.reader.Record.{Record}
use Rattle.connection.specs.Sent.{no_records}
use Rattle.connection.specs.Told.{told_record}
use Rattle.connection.specs.Send.{data_sent, data_output, alert_sent, alert_output}
use Rattle.connection.specs.Calls.{closed_of, started_of}
use Rattle.connection.specs.declared.connection.Connection.{Connection}
use Rattle.demands.specs.Runs.{Call, receive, send_data, send_alert, close, start}
use Rattle.demands.specs.Genuine.{RecordOf}
use Rattle.demands.specs.Events.{Event, took, sending, alerting, closing, starting}
use Rattle.demands.specs.Events.{Happened, answered, closed, started, if_done, wrote_by}

pub data Act : Type 0 where
  -- the record r of the datagram d comes, with the random that the caller lent
  comes : (random d : List ℕ) (r : Record) → Act
  -- the other calls
  sends : (bytes out : List ℕ) → Act
  alerts : (protected : Bool) (level description : ℕ) (lent out : List ℕ) → Act
  closes : Act
  starts : Act

-- "calls with arguments and room as listed": a record of a soundly framed datagram, with a random of 16 bytes
abbrev pub SoundAct : Act → Type 0
SoundAct (comes random d r) = (length random ≡ 16) × RecordOf d r
SoundAct (sends bytes out) = Unit
SoundAct (alerts protected level description lent out) = Unit
SoundAct closes = Unit
SoundAct starts = Unit

abbrev pub SoundActs : List Act → Type 0
SoundActs [] = Unit
SoundActs (a ∷ acts) = SoundAct a × SoundActs acts

-- the acts of a call: none where a datagram is refused as a whole (16, 6, 1 to 5)
abbrev pub records_in : List ℕ → List ℕ → Framing → List Act
records_in random d (framed rs) = map (comes random d) rs
records_in random d (faulty fault at) = []

abbrev pub acts_in : Call → List Act
acts_in (receive d random out) =
    pick (eqb (length random) 16) (pick (ltb (length out) 128) [] (records_in random d (framing_of d))) []
acts_in (send_data bytes out) = sends bytes out ∷ []
acts_in (send_alert protected level description lent out) = alerts protected level description lent out ∷ []
acts_in close = closes ∷ []
acts_in start = starts ∷ []

unfoldable pub acts_of : List Call → List Act
acts_of [] = []
acts_of (call ∷ calls) = acts_in call ++ acts_of calls

-- an act as an event that is handed to one handshake; the records sent matter to clear alerts alone
abbrev pub event_of : Act → Event
event_of (comes random d r) = took no_records random d r
event_of (sends bytes out) = sending bytes out
event_of (alerts protected level description lent out) = alerting protected level description lent out
event_of closes = closing
event_of starts = starting

-- what an act leaves, by the definitions that the contracts cite
abbrev pub leaves : Connection → Act → Connection
leaves c (comes random d r) = (told_record c random d r).connection
leaves c (sends bytes out) = (data_sent c bytes (length out)).connection
leaves c (alerts protected level description lent out) =
    (alert_sent c protected level description lent (length out)).connection
leaves c closes = (closed_of c).connection
leaves c starts = (started_of c).connection

unfoldable pub behind : Connection → List Act → Connection
behind c [] = c
behind c (a ∷ acts) = behind (leaves c a) acts

-- what happened at an act, and in a run, the latest first, before what had happened already
abbrev pub happens : Connection → Act → Happened
happens c (comes random d r) = answered random d r (told_record c random d r).answer
happens c (sends bytes out) = wrote_by (data_sent c bytes (length out)) true (data_output c bytes out)
happens c (alerts protected level description lent out) =
    wrote_by (alert_sent c protected level description lent (length out)) protected
    (alert_output c protected level description lent out)
happens c closes = if_done (closed_of c).outcome closed
happens c starts = if_done (started_of c).outcome started

unfoldable pub history_of : Connection → List Act → List Happened → List Happened
history_of c [] past = past
history_of c (a ∷ acts) past = history_of (leaves c a) acts (happens c a ∷ past)
