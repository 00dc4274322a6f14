-- The life of one handshake: the events that are handed to it, record by record. Which events of a connection these are: `Lives`.
use Rattle.std.specs.Prelude.{◌≡◌, Bool, true, List, [], ◌∷◌, ℕ, length, take, Err, Ok, Result, ⊤}
use Rattle.connection.specs.declared.refusal.Refusal.{Refusal}
use Rattle.record.specs.declared.reader.Record.{Record}
use Rattle.connection.specs.Judge.{judged_record}
use Rattle.connection.specs.Send.{data_sent, data_output, alert_sent, alert_output}
use Rattle.connection.specs.Calls.{closed_of, started_of}
use Rattle.connection.specs.declared.answer.Answer.{Answer}
use Rattle.connection.specs.declared.handshake.Handshake.{Handshake}
use Rattle.connection.specs.declared.send.Sent.{Sent}
use Rattle.demands.specs.Genuine.{RecordOf}
use Rattle.connection.specs.declared.sent.SentRecords.{SentRecords}
use Rattle.connection.specs.Connection.{alone}

pub data Event : Type 0 where
  -- the record r of the datagram d, with the random that the caller lent and the records that the connection had sent
  took : (sent : SentRecords) (random d : List ℕ) (r : Record) → Event
  -- the other calls
  sending : (bytes out : List ℕ) → Event
  alerting : (protected : Bool) (level description : ℕ) (answered out : List ℕ) → Event
  closing : Event
  starting : Event

-- "calls with arguments and room as listed": a record of a soundly framed datagram, with a random of 16 bytes
abbrev pub Sound : Event → Type 0
Sound (took sent random d r) = (length random ≡ 16) × RecordOf d r
Sound (sending bytes out) = Unit
Sound (alerting protected level description answered out) = Unit
Sound closing = Unit
Sound starting = Unit

abbrev pub AllSound : List Event → Type 0
AllSound [] = Unit
AllSound (e ∷ es) = Sound e × AllSound es

-- what an event leaves, by the definitions that the contracts cite, of a handshake that stands alone
abbrev pub next : Handshake → Event → Handshake
next h (took sent random d r) = (judged_record h sent random d r).handshake
next h (sending bytes out) = (data_sent (alone h) bytes (length out)).connection.handshake
next h (alerting protected level description answered out) =
    (alert_sent (alone h) protected level description answered (length out)).connection.handshake
next h closing = (closed_of (alone h)).connection.handshake
next h starting = (started_of (alone h)).connection.handshake

unfoldable pub after : Handshake → List Event → Handshake
after h [] = h
after h (e ∷ es) = after (next h e) es

-- What happened at an event: a record was answered; we wrote a record, protected or clear, whose bytes stand at the
-- front of the output; we closed; we started again; or the call was refused.
pub data Happened : Type 0 where
  answered : (random d : List ℕ) (r : Record) (a : Answer) → Happened
  wrote : (protected : Bool) (bytes : List ℕ) → Happened
  closed : Happened
  started : Happened
  refused : Happened

abbrev pub if_done : Result ⊤ Refusal → Happened → Happened
if_done (Ok tt) what = what
if_done (Err refusal) what = refused

abbrev pub wrote_by : Sent → Bool → List ℕ → Happened
wrote_by s protected out = if_done s.outcome (wrote protected (take s.written out))

abbrev pub happening : Handshake → Event → Happened
happening h (took sent random d r) = answered random d r (judged_record h sent random d r).answer
happening h (sending bytes out) =
    wrote_by (data_sent (alone h) bytes (length out)) true (data_output (alone h) bytes out)
happening h (alerting protected level description lent out) =
    wrote_by (alert_sent (alone h) protected level description lent (length out)) protected
    (alert_output (alone h) protected level description lent out)
happening h closing = if_done (closed_of (alone h)).outcome closed
happening h starting = if_done (started_of (alone h)).outcome started

-- what happened in a run, the latest first, before what had happened already
unfoldable pub history : Handshake → List Event → List Happened → List Happened
history h [] past = past
history h (e ∷ es) past = history (next h e) es (happening h e ∷ past)
