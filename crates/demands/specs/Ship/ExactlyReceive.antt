-- The refusals of a datagram at the shipboard end, and of its records, from the call down to the bytes (01: "Receive: 16, 6, 1, then
-- framing from the front .., then one answer per record"). Here 16 has no place, 6 is for room under 128, and each record is answered in
-- the state that the earlier ones left. Framing is said ashore, over the bytes.
use Rattle.std.specs.Prelude.{◌≡◌, ◌↔◌, List, [], ℕ, ◌≤◌, ◌<◌, length, get_or, take, Err, Ok}
use Rattle.record.specs.Datagram.{framed, framing_of}
use Rattle.record.specs.declared.reader.Record.{Record}
use Rattle.connection.specs.declared.receive.Untaken.TheVariants as T
use Rattle.connection.specs.declared.refusal.Refusal.{Refusal}
use Rattle.connection.specs.declared.refusal.Refusal.TheVariants as X
use Rattle.unit.specs.Answer.{slot}
use Rattle.unit.specs.Receive.{slots_of, end_of}
use Rattle.unit.specs.declared.answer.Answer.{Answer}
use Rattle.unit.specs.declared.answer.Answer.TheVariants.{Nothing, Refused}
use Rattle.unit.specs.declared.answer.Slot.{Slot}
use Rattle.unit.specs.declared.unit.Unit.{Unit as Ship}
use Rattle.demands.specs.Exactly.Numbers.{Numbered}
use Rattle.demands.specs.Exactly.Whole.{WhyMisframed, SoundlyFramed, start_of}
use Rattle.demands.specs.Exactly.Record.{seen_at, Bytes}
use Rattle.demands.specs.Ship.Runs.{receive, Returned, received, sent, called, Shipboard}
use Rattle.demands.specs.Ship.Course.{HoldsNumbers}
use Rattle.demands.specs.Ship.ExactlyRecord.{WhyRecord, ExactlyRecord}
use Rattle.demands.specs.Ship.ExactlyCalls.{ExactlyFresh, ExactlyHello, ExactlyAgain, ExactlyData, ExactlyAlert, ExactlyClose, ExactlyStart}

-- 6, without an offset
pub data WhyWhole (room : ℕ) : Refusal → Type 0 where
  receive_6 : room < 128 → WhyWhole room X.Room

pub record ExactlyReceive (g : Shipboard) : Type 0 where
  pub refused : (u : Ship) (d out : List ℕ) (x : Refusal)
      → ((g u (receive d out)).result ≡ received (Err (T.Refused x)) (slots_of []) 0) ↔ WhyWhole (length out) x
  -- 1 to 5, with it
  pub misframed : (u : Ship) (d out : List ℕ) (x : Refusal) (at : ℕ)
      → ((g u (receive d out)).result ≡ received (Err (T.Misframed x at)) (slots_of []) 0) ↔ ((128 ≤ length out) × WhyMisframed d x at)
  -- taken, with its n records
  pub taken : (u : Ship) (d out : List ℕ) (n : ℕ)
      → ((answers : List Slot) × (written : ℕ) × ((g u (receive d out)).result ≡ received (Ok n) answers written))
      ↔ ((128 ≤ length out) × SoundlyFramed d n)

-- answer i of a receive
abbrev pub answer_given : Returned → ℕ → Answer
answer_given (received taken answers written) i = (get_or answers i (slot Nothing)).answer
answer_given (sent outcome written) i = Nothing
answer_given (called outcome) i = Nothing

-- record i of a datagram that is taken, in the unit that the records before it left
unfoldable pub ExactlyAnswers : Shipboard → Type 0
ExactlyAnswers g =
    (u : Ship) (d out : List ℕ) (rs : List Record) → Bytes d → 128 ≤ length out → framing_of d ≡ framed rs
    → (i : ℕ) → i < length rs → (numbers : List ℕ) → HoldsNumbers (end_of u d (take i rs)) numbers → (x : Refusal)
    → (answer_given (g u (receive d out)).result i ≡ Refused x)
    ↔ WhyRecord (end_of u d (take i rs)) numbers (seen_at d (start_of d i)) x

-- each refusal of each call and record, exactly when; the numbers are the shore's
pub record GivenExactlyWhen (g : Shipboard) : Type 0 where
  pub numbers : Numbered
  pub fresh_unit : ExactlyFresh
  pub says_hello : ExactlyHello g
  pub says_again : ExactlyAgain g
  pub receive_whole : ExactlyReceive g
  pub receive_each : ExactlyAnswers g
  pub each_record : ExactlyRecord
  pub sends_data : ExactlyData g
  pub sends_alert : ExactlyAlert g
  pub closes : ExactlyClose g
  pub starts_again : ExactlyStart g
