-- What a receive writes where a record opened (02, P7: "writes the flight"): the flight of the unit that this record left, at the front
-- of the output and no others, whatever the records behind it are; and while Opening lasts, this is the flight that is said again next.
use Rattle.std.specs.Prelude.{◌≡◌, List, ◌∷◌, ◌++◌, ℕ, ◌≤◌, length}
use Rattle.digest.specs.Bytes.{laid_over}
use Rattle.record.specs.Datagram.{framed, framing_of}
use Rattle.record.specs.declared.reader.Record.{Record}
use Rattle.unit.specs.Judge.{judged_record}
use Rattle.unit.specs.Receive.{end_of}
use Rattle.unit.specs.Unit.{flight_of}
use Rattle.unit.specs.declared.answer.Answer.TheVariants.{Open}
use Rattle.unit.specs.declared.state.State.TheVariants.{Opening}
use Rattle.unit.specs.declared.unit.Unit.{Unit as Ship}
use Rattle.demands.specs.Ship.Runs.{receive, Step, Shipboard}
use Rattle.demands.specs.Ship.Refusals.{written_by}

-- of the unit that the record left, and the step of the receive
pub record FlightWritten (left : Ship) (out : List ℕ) (s : Step) : Type 0 where
  pub opens : left.state ≡ Opening
  pub laid : s.output ≡ laid_over out 0 (flight_of left)
  pub counted : written_by s.result ≡ length (flight_of left)
  pub said_next : s.unit.state ≡ Opening → flight_of s.unit ≡ flight_of left

unfoldable pub OpenWrites : Shipboard → Type 0
OpenWrites g =
    (u : Ship) (d out : List ℕ) (before : List Record) (r : Record) (behind : List Record) (size : ℕ)
    → 128 ≤ length out → framing_of d ≡ framed (before ++ (r ∷ behind))
    → (judged_record (end_of u d before) d r).answer ≡ Open size
    → FlightWritten (judged_record (end_of u d before) d r).unit out (g u (receive d out))
