-- Receive a datagram (01, "Refusal numbers": "Receive: 16, 6, 1, then framing from the front (per record 5, 3, 2, 4), then
-- one answer per record.").
use Rattle.std.specs.Prelude.{List, [], ◌∷◌, ◌++◌, map, ℕ, ◌-◌, length, take, replicate, eqb, ltb, Err, Ok, Result}
use Rattle.connection.specs.declared.receive.Untaken.{Untaken}
use Rattle.digest.specs.Pick.{pick}
use Rattle.digest.specs.Bytes.{laid_over}
use Rattle.record.specs.Datagram.{Framing, framed, faulty, framing_of}
use Rattle.record.specs.declared.reader.Record.{Record}
use Rattle.connection.specs.Refusal.{refusal_number}
use Rattle.connection.specs.Answer.{reply_size}
use Rattle.connection.specs.Told.{told_record, kept_by}
use Rattle.connection.specs.declared.refusal.Refusal.TheVariants.{Framing as Framed, Room, Argument}
use Rattle.connection.specs.declared.answer.Answer.{Answer}
use Rattle.connection.specs.declared.answer.Answer.TheVariants.{Nothing}
use Rattle.connection.specs.declared.answer.Slot.{Slot}
use Rattle.connection.specs.declared.handshake.Kept.{Kept}
use Rattle.connection.specs.declared.connection.Connection.{Connection}
use Rattle.connection.specs.declared.told.Told.{Told}
use Rattle.connection.specs.declared.receive.Untaken.TheVariants.{Refused, Misframed}
use Rattle.connection.specs.declared.receive.Received.{Received}

-- each record is judged in the state that the records before it left: the connection at the end, and the answers
unfoldable pub end_of : Connection → List ℕ → List ℕ → List Record → Connection
end_of c random d [] = c
end_of c random d (r ∷ rs) = end_of (told_record c random d r).connection random d rs

unfoldable pub answers_of : Connection → List ℕ → List ℕ → List Record → List Answer
answers_of c random d [] = []
answers_of c random d (r ∷ rs) =
    (told_record c random d r).answer ∷ answers_of (told_record c random d r).connection random d rs

-- eight places: the answers, and nothing behind them
abbrev pub slot : Answer → Slot
slot answer = record { answer = answer }

unfoldable pub slots_of : List Answer → List Slot
slots_of list = map slot list ++ replicate (8 - length list) (slot Nothing)

-- what an answer sends: the reply as whoever answered keeps it then
abbrev pub sent_of_kept : Kept → Answer → List ℕ
sent_of_kept kept answer = take (reply_size answer) kept.reply

abbrev pub sent_by : Told → List ℕ
sent_by t = sent_of_kept (kept_by t.beside t.connection) t.answer

-- a ClientHello stands only first in its datagram, so the first record's reply is all that is sent
unfoldable pub first_reply : Connection → List ℕ → List ℕ → List Record → List ℕ
first_reply c random d [] = []
first_reply c random d (r ∷ rs) = sent_by (told_record c random d r)

unfoldable pub run_of : Connection → List ℕ → List ℕ → List Record → Received
run_of c random d rs =
    record {
      taken = Ok (length rs);
      answers = slots_of (answers_of c random d rs);
      written = length (first_reply c random d rs);
      connection = end_of c random d rs;
    }

-- the number of the refusal of a whole datagram (01, "Refusal numbers"), 0 where it was taken; and "the offset of the record at
-- fault" of 1 to 5
abbrev pub taken_number : Result ℕ Untaken → ℕ
taken_number (Ok count) = 0
taken_number (Err (Refused refusal)) = refusal_number refusal
taken_number (Err (Misframed refusal at)) = refusal_number refusal

abbrev pub taken_at : Result ℕ Untaken → ℕ
taken_at (Ok count) = 0
taken_at (Err (Refused refusal)) = 0
taken_at (Err (Misframed refusal at)) = at

-- refused as a whole: nothing changes
unfoldable pub whole_of : Connection → Result ℕ Untaken → Received
whole_of c taken = record { taken = taken; answers = slots_of []; written = 0; connection = c }

abbrev pub framed_to : Connection → List ℕ → List ℕ → Framing → Received
framed_to c random d (framed rs) = run_of c random d rs
framed_to c random d (faulty fault at) = whole_of c (Err (Misframed (Framed fault) at))

unfoldable pub received_of : Connection → List ℕ → List ℕ → ℕ → Received
received_of c d random room =
    pick (eqb (length random) 16)
    (pick (ltb room 128) (whole_of c (Err (Refused Room))) (framed_to c random d (framing_of d)))
    (whole_of c (Err (Refused Argument)))

-- "A success writes the counted bytes at the front and no others."
abbrev pub sent_of : Connection → List ℕ → List ℕ → Framing → List ℕ
sent_of c random d (framed rs) = first_reply c random d rs
sent_of c random d (faulty fault at) = []

unfoldable pub output_of : Connection → List ℕ → List ℕ → List ℕ → List ℕ
output_of c d random out =
    pick (eqb (length random) 16)
    (pick (ltb (length out) 128) out (laid_over out 0 (sent_of c random d (framing_of d))))
    out
