-- Receive a datagram (02, P7; 01, "Refusal numbers": "6, 1, then framing from the front (per record 5, 3, 2, 4), then one answer per
-- record").
use Rattle.std.specs.Prelude.{List, [], ◌∷◌, ◌++◌, map, ℕ, ◌-◌, length, take, replicate, ltb, Err, Ok, Result}
use Rattle.connection.specs.declared.receive.Untaken.{Untaken}
use Rattle.digest.specs.Pick.{pick}
use Rattle.digest.specs.Bytes.{laid_over}
use Rattle.record.specs.Datagram.{Framing, framed, faulty, framing_of}
use Rattle.record.specs.declared.reader.Record.{Record}
use Rattle.connection.specs.declared.refusal.Refusal.TheVariants.{Framing as Framed, Room}
use Rattle.connection.specs.declared.receive.Untaken.TheVariants.{Refused, Misframed}
use Rattle.unit.specs.Answer.{slot, opens_to}
use Rattle.unit.specs.Judge.{judged_record}
use Rattle.unit.specs.declared.answer.Answer.{Answer}
use Rattle.unit.specs.declared.answer.Answer.TheVariants.{Nothing}
use Rattle.unit.specs.declared.answer.Slot.{Slot}
use Rattle.unit.specs.declared.receive.Received.{Received}
use Rattle.unit.specs.declared.unit.Unit.{Unit}

-- each record is judged in the state that the records before it left: the unit at the end, and the answers
unfoldable pub end_of : Unit → List ℕ → List Record → Unit
end_of u d [] = u
end_of u d (r ∷ rs) = end_of (judged_record u d r).unit d rs

unfoldable pub answers_of : Unit → List ℕ → List Record → List Answer
answers_of u d [] = []
answers_of u d (r ∷ rs) = (judged_record u d r).answer ∷ answers_of (judged_record u d r).unit d rs

-- eight places: the answers, and nothing behind them
unfoldable pub slots_of : List Answer → List Slot
slots_of list = map slot list ++ replicate (8 - length list) (slot Nothing)

-- what is sent: the flight, where one of the answers opened
unfoldable pub flight_in : Unit → List ℕ → List Record → List ℕ
flight_in u d rs = take (opens_to 0 (answers_of u d rs)) (end_of u d rs).flight

unfoldable pub run_of : Unit → List ℕ → List Record → Received
run_of u d rs =
    record {
      taken = Ok (length rs);
      answers = slots_of (answers_of u d rs);
      written = length (flight_in u d rs);
      unit = end_of u d rs;
    }

-- refused as a whole: nothing changes
unfoldable pub whole_of : Unit → Result ℕ Untaken → Received
whole_of u taken = record { taken = taken; answers = slots_of []; written = 0; unit = u }

abbrev pub framed_to : Unit → List ℕ → Framing → Received
framed_to u d (framed rs) = run_of u d rs
framed_to u d (faulty fault at) = whole_of u (Err (Misframed (Framed fault) at))

unfoldable pub received_of : Unit → List ℕ → ℕ → Received
received_of u d room = pick (ltb room 128) (whole_of u (Err (Refused Room))) (framed_to u d (framing_of d))

-- "A success writes the counted bytes at the front and no others." (01)
abbrev pub sent_of : Unit → List ℕ → Framing → List ℕ
sent_of u d (framed rs) = flight_in u d rs
sent_of u d (faulty fault at) = []

unfoldable pub output_of : Unit → List ℕ → List ℕ → List ℕ
output_of u d out = pick (ltb (length out) 128) out (laid_over out 0 (sent_of u d (framing_of d)))
