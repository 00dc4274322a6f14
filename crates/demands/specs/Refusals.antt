-- Demand 1: "A refused call writes nothing into the output we lend, and the connection is as before, except where the
-- list names the change." 01: "A refusal changes neither buffer nor connection, except that 12 under protection and
-- 17 mark the number, and 17 also closes."
use Rattle.std.specs.Prelude.{◌≡◌, Bool, true, false, List, [], ◌∷◌, ℕ, ◌≤◌, eqb, Err, Ok, ⊤, Result}
use Rattle.connection.specs.declared.receive.Untaken.{Untaken}
use Rattle.record.specs.declared.window.NotNew.{NotNew}
use Rattle.record.specs.declared.window.Window.{Window}
use Rattle.record.specs.Window.{accept_of}
use Rattle.record.specs.Datagram.{framed, framing_of}
use Rattle.record.specs.declared.reader.Record.{Record}
use Rattle.record.specs.declared.window.NotNew.TheVariants as A
use Rattle.connection.specs.Answer.{reply_size}
use Rattle.connection.specs.Refusal.{refusal_number}
use Rattle.digest.specs.Pick.{pick}
use Rattle.connection.specs.Handshake.{with_state, with_window, none_started}
use Rattle.connection.specs.Connection.{connection_of}
use Rattle.connection.specs.Asked.{whom_of}
use Rattle.connection.specs.Judge.{judged_record}
use Rattle.connection.specs.Told.{told_record}
use Rattle.connection.specs.declared.state.State.TheVariants.{Closed}
use Rattle.connection.specs.declared.refusal.Refusal.{Refusal}
use Rattle.connection.specs.declared.refusal.Refusal.TheVariants as X
use Rattle.connection.specs.declared.answer.Answer.TheVariants as W
use Rattle.connection.specs.declared.asked.Whom.{Whom}
use Rattle.connection.specs.declared.asked.Whom.TheVariants as K
use Rattle.connection.specs.declared.connection.Connection.{Connection}
use Rattle.connection.specs.declared.receive.Untaken.TheVariants as T
use Rattle.connection.specs.declared.handshake.Handshake.{Handshake}
use Rattle.demands.specs.Runs.{Call, receive, send_data, send_alert, close, start, Returned, received, sent, called, Gateway, step_of}
use Rattle.connection.specs.declared.sent.SentRecords.{SentRecords}

-- the output that a call lends
abbrev pub lent_by : Call → List ℕ
lent_by (receive d random out) = out
lent_by (send_data bytes out) = out
lent_by (send_alert protected level description answered out) = out
lent_by close = []
lent_by start = []

-- a call that is refused as a whole
abbrev pub NotTaken : Result ℕ Untaken → Type 0
NotTaken (Ok count) = ⊥
NotTaken (Err (T.Refused refusal)) = Unit
NotTaken (Err (T.Misframed refusal at)) = Unit

abbrev pub NotDone : Result ⊤ Refusal → Type 0
NotDone (Ok tt) = ⊥
NotDone (Err refusal) = Unit

abbrev pub IsRefused : Returned → Type 0
IsRefused (received taken answers written) = NotTaken taken
IsRefused (sent outcome written) = NotDone outcome
IsRefused (called outcome) = NotDone outcome

-- how many bytes it says it wrote
abbrev pub written_by : Returned → ℕ
written_by (received taken answers written) = written
written_by (sent outcome written) = written
written_by (called outcome) = 0

-- the handshake with the mark of a number, where it is new
abbrev pub marked_as : Handshake → Result (Window × ℕ) NotNew → Handshake
marked_as h (Ok (w, arrived)) = with_window h w
marked_as h (Err A.TooOld) = h
marked_as h (Err A.Repeated) = h

abbrev pub marked : Handshake → ℕ → Handshake
marked h s = marked_as h (accept_of h.protection.window s)

-- what a refused record leaves: "12 under protection and 17 mark the number, and 17 also closes"
abbrev pub refused_leaves : Handshake → Bool → ℕ → Refusal → Handshake
refused_leaves h protected s (X.Framing fault) = h
refused_leaves h protected s X.Room = h
refused_leaves h protected s X.Ended = h
refused_leaves h protected s X.NotAllowed = h
refused_leaves h protected s X.Forged = h
refused_leaves h protected s X.TooOld = h
refused_leaves h protected s X.Repeated = h
refused_leaves h true s X.Malformed = marked h s
refused_leaves h false s X.Malformed = h
refused_leaves h protected s X.Unacceptable = h
refused_leaves h protected s X.Checksum = h
refused_leaves h protected s X.Spent = h
refused_leaves h protected s X.Argument = h
refused_leaves h protected s X.WrongFinished = with_state (marked h s) Closed

-- for each call
unfoldable pub RefusedCallChangesNothing : Gateway → Type 0
RefusedCallChangesNothing g =
    (c : Connection) (call : Call) → IsRefused (g c call).result
    → ((g c call).connection ≡ c) × ((g c call).output ≡ lent_by call) × (written_by (g c call).result ≡ 0)

-- for each record
unfoldable pub RefusedRecordChangesNothing : Type 0
RefusedRecordChangesNothing =
    (h : Handshake) (records : SentRecords) (random d : List ℕ) (r : Record) (x : Refusal)
    → (judged_record h records random d r).answer ≡ W.Refused x
    → (judged_record h records random d r).handshake ≡ refused_leaves h r.protected r.number x

-- 02, P6, of a connection: the handshake that was asked is left so, the other one and the records sent as they were. 17 under the open
-- keys drops the started one too, "17 under the started keys, drops just that"; a newcomer that is refused leaves nothing.
abbrev pub unless17 : Refusal → Handshake → Handshake
unless17 x started = pick (eqb (refusal_number x) 17) none_started started

abbrev pub refused_in : Connection → Whom → Bool → ℕ → Refusal → Connection
refused_in c K.Only protected s x = connection_of (refused_leaves c.handshake protected s x) c.started c.sent
refused_in c K.Open protected s x = connection_of (refused_leaves c.handshake protected s x) (unless17 x c.started) c.sent
refused_in c K.Started protected s x = connection_of c.handshake (unless17 x (refused_leaves c.started protected s x)) c.sent
refused_in c K.Newcomer protected s x = c

unfoldable pub RefusedRecordInConnection : Type 0
RefusedRecordInConnection =
    (c : Connection) (random d : List ℕ) (r : Record) (x : Refusal) → (told_record c random d r).answer ≡ W.Refused x
    → (told_record c random d r).connection ≡ refused_in c (whom_of c d r) r.protected r.number x

-- a datagram whose first record gets no reply writes nothing: "a success writes the counted bytes at the front and no
-- others"
unfoldable pub NothingWrittenWithoutReply : Type 0
NothingWrittenWithoutReply =
    (c : Connection) (d random out : List ℕ) (r : Record) (rs : List Record) → framing_of d ≡ framed (r ∷ rs)
    → reply_size (told_record c random d r).answer ≡ 0
    → ((step_of c (receive d random out)).output ≡ out) × (written_by (step_of c (receive d random out)).result ≡ 0)

-- Demand 1: "Bad input is refused with a number from the list." 02, P6: "18 is not given any more"
unfoldable pub RefusedByTheList : Type 0
RefusedByTheList = (x : Refusal) → (1 ≤ refusal_number x) × (refusal_number x ≤ 17)
