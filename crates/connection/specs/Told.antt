-- What a record changes in a connection (02, "A unit that rebooted").
use Rattle.std.specs.Prelude.{Bool, true, false, List, ℕ, ◌-◌, take, drop}
use Rattle.digest.specs.Pick.{pick}
use Rattle.record.specs.declared.reader.Record.{Record}
use Rattle.connection.specs.Handshake.{none_started}
use Rattle.connection.specs.Sent.{sum_of, with_reply}
use Rattle.connection.specs.Connection.{connection_of}
use Rattle.connection.specs.Judge.{judged_record}
use Rattle.connection.specs.Asked.{under_way, whom_of, asked_of}
use Rattle.connection.specs.declared.state.State.{State}
use Rattle.connection.specs.declared.state.State.TheVariants as S
use Rattle.connection.specs.declared.asked.Whom.{Whom}
use Rattle.connection.specs.declared.asked.Whom.TheVariants as A
use Rattle.connection.specs.declared.answer.Answer.{Answer}
use Rattle.connection.specs.declared.answer.Answer.TheVariants.{Nothing, Reply, Resent, Spec, Open, Again, Data, Warning, Critical, Fatal, Barred, Refused}
use Rattle.connection.specs.declared.answer.Judged.{Judged}
use Rattle.connection.specs.declared.sent.SentRecords.{SentRecords}
use Rattle.connection.specs.declared.handshake.Kept.{Kept}
use Rattle.connection.specs.declared.handshake.Handshake.{Handshake}
use Rattle.connection.specs.declared.connection.Connection.{Connection}
use Rattle.connection.specs.declared.told.Told.{Told}
use Rattle.connection.specs.declared.told.Place.{Place}
use Rattle.connection.specs.declared.told.Place.TheVariants as P

-- A new reply adds its three records to those that we sent: 40 bytes of ServerHello, 6 of change cipher spec, and Finished. "a
-- resent reply not counted"
unfoldable pub replied_with : SentRecords → List ℕ → ℕ → SentRecords
replied_with sent reply size =
    with_reply sent (sum_of (take 40 reply)) (sum_of (take 6 (drop 40 reply))) (sum_of (take (size - 46) (drop 46 reply)))

abbrev pub sent_after : SentRecords → Kept → Answer → SentRecords
sent_after sent kept Nothing = sent
sent_after sent kept (Reply size) = replied_with sent kept.reply size
sent_after sent kept (Resent size) = sent
sent_after sent kept Spec = sent
sent_after sent kept Open = sent
sent_after sent kept Again = sent
sent_after sent kept (Data number start size) = sent
sent_after sent kept (Warning description) = sent
sent_after sent kept (Critical description) = sent
sent_after sent kept (Fatal description) = sent
sent_after sent kept (Barred description) = sent
sent_after sent kept (Refused refusal) = sent

-- The open one was asked: "What closes or bars the open one drops the started one too."
abbrev pub beside_open : Handshake → State → Handshake
beside_open started S.Idle = none_started
beside_open started S.Replied = none_started
beside_open started S.Spec = none_started
beside_open started S.Open = started
beside_open started S.Closed = none_started
beside_open started S.Barred = none_started

-- The started one was asked: "The open one goes on until the new Finished is verified, and is then replaced"; "closing by one of them,
-- or by 17 under the started keys, drops just that".
abbrev pub started_to : Connection → Handshake → SentRecords → State → Connection
started_to c h sent S.Idle = connection_of c.handshake h sent
started_to c h sent S.Replied = connection_of c.handshake h sent
started_to c h sent S.Spec = connection_of c.handshake h sent
started_to c h sent S.Open = connection_of h none_started sent
started_to c h sent S.Closed = connection_of c.handshake none_started sent
started_to c h sent S.Barred = connection_of c.handshake none_started sent

-- A newcomer was asked: with a new reply "it becomes the started one, in place of any earlier".
abbrev pub left_with : Connection → Handshake → SentRecords → Whom → Connection
left_with c h sent A.Only = connection_of h c.started sent
left_with c h sent A.Open = connection_of h (beside_open c.started h.state) sent
left_with c h sent A.Started = started_to c h sent h.state
left_with c h sent A.Newcomer = connection_of c.handshake (pick (under_way h.state) h c.started) sent

-- the connection that a judgement leaves
abbrev pub left_by : Connection → Whom → Judged → Connection
left_by c whom j = left_with c j.handshake (sent_after c.sent j.handshake.kept j.answer) whom

-- whether the started one, as it is left, has the reply that is sent
abbrev pub is_beside : Whom → Bool
is_beside A.Only = false
is_beside A.Open = false
is_beside A.Started = true
is_beside A.Newcomer = true

-- the answer to a record, the connection that it leaves, and where the reply stands
abbrev pub told_by : Connection → Whom → Judged → Told
told_by c whom j = record { answer = j.answer; connection = left_by c whom j; beside = is_beside whom }

-- the judgement of a record by the handshake that is asked about it
unfoldable pub judged_in : Connection → List ℕ → List ℕ → Record → Judged
judged_in c random d r = judged_record (asked_of c (whom_of c d r)) c.sent random d r

unfoldable pub told_record : Connection → List ℕ → List ℕ → Record → Told
told_record c random d r = told_by c (whom_of c d r) (judged_in c random d r)

-- the kept reply of whoever answered
abbrev pub kept_by : Bool → Connection → Kept
kept_by true c = c.started.kept
kept_by false c = c.handshake.kept

-- the same in one step: where the handshake that was asked goes, by its state as it is left
abbrev pub place_of : Whom → State → Place
place_of A.Only state = P.Kept
place_of A.Open S.Idle = P.Alone
place_of A.Open S.Replied = P.Alone
place_of A.Open S.Spec = P.Alone
place_of A.Open S.Open = P.Kept
place_of A.Open S.Closed = P.Alone
place_of A.Open S.Barred = P.Alone
place_of A.Started S.Idle = P.Beside
place_of A.Started S.Replied = P.Beside
place_of A.Started S.Spec = P.Beside
place_of A.Started S.Open = P.Alone
place_of A.Started S.Closed = P.Dropped
place_of A.Started S.Barred = P.Dropped
place_of A.Newcomer S.Idle = P.Nowhere
place_of A.Newcomer S.Replied = P.Beside
place_of A.Newcomer S.Spec = P.Beside
place_of A.Newcomer S.Open = P.Nowhere
place_of A.Newcomer S.Closed = P.Nowhere
place_of A.Newcomer S.Barred = P.Nowhere

abbrev pub placed_by : Connection → Handshake → SentRecords → Place → Connection
placed_by c h sent P.Kept = connection_of h c.started sent
placed_by c h sent P.Alone = connection_of h none_started sent
placed_by c h sent P.Beside = connection_of c.handshake h sent
placed_by c h sent P.Dropped = connection_of c.handshake none_started sent
placed_by c h sent P.Nowhere = connection_of c.handshake c.started sent
