-- 01, "Refusal numbers": "Receive: .. then one answer per record." The answer to record i of a datagram that is
-- taken, from the call down to the bytes: it refuses exactly for the reason that the bytes from the start of record i
-- on give, in the handshake that it is for (`Asked`), as the records before it left it.
use Rattle.std.specs.Prelude.{◌≡◌, ◌↔◌, List, ℕ, ◌<◌, length, get_or, take}
use Rattle.record.specs.Datagram.{framed, framing_of}
use Rattle.record.specs.declared.reader.Record.{Record}
use Rattle.connection.specs.Receive.{slot, end_of}
use Rattle.connection.specs.declared.answer.Answer.{Answer}
use Rattle.connection.specs.declared.answer.Answer.TheVariants.{Nothing, Refused}
use Rattle.connection.specs.declared.connection.Connection.{Connection}
use Rattle.connection.specs.declared.refusal.Refusal.{Refusal}
use Rattle.demands.specs.Runs.{receive, Returned, received, sent, called, Gateway}
use Rattle.demands.specs.Exactly.Whole.{CallFits, start_of}
use Rattle.demands.specs.Exactly.Record.{HoldsNumbers, Bytes, seen_at, WhyRecord}
use Rattle.connection.specs.Asked.{asked_of}
use Rattle.connection.specs.declared.asked.Whom.{Whom}
use Rattle.demands.specs.Asked.{Asks}
use Rattle.record.specs.Datagram.{blank}

-- answer i of a receive
abbrev pub answer_given : Returned → ℕ → Answer
answer_given (received taken answers written) i = (get_or answers i (slot Nothing)).answer
answer_given (sent outcome written) i = Nothing
answer_given (called outcome) i = Nothing

-- the connection in which record i is judged
abbrev pub place_of : Connection → List ℕ → List ℕ → List Record → ℕ → Connection
place_of c random d rs i = end_of c random d (take i rs)

unfoldable pub ExactlyAnswers : Gateway → Type 0
ExactlyAnswers g =
    (c : Connection) (d random out : List ℕ) (rs : List Record) → Bytes d → CallFits (length random) (length out)
    → framing_of d ≡ framed rs
    → (i : ℕ) → i < length rs → (w : Whom) → Asks (place_of c random d rs i) d (get_or rs i blank) w → (numbers : List ℕ)
    → HoldsNumbers (asked_of (place_of c random d rs i) w) numbers → (x : Refusal)
    → (answer_given (g c (receive d random out)).result i ≡ Refused x)
    ↔ WhyRecord (asked_of (place_of c random d rs i) w) (place_of c random d rs i).sent numbers (seen_at d (start_of d i)) x
