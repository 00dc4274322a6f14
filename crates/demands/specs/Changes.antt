-- What a success changes, and nothing else. 01: "warning changes nothing beyond the mark of a protected one's number,
-- critical closes the connection, fatal closes it and, if protected, bars the session"; "Sending one, at any level,
-- changes only our number and our last sent record"; "Start again leads from Closed to Idle and forgets the window
-- and the kept hello. Close leads anywhere but Barred to Closed." 02, P6: "What closes .. the open one drops the started one too."
use Rattle.std.specs.Prelude.{◌≡◌, Bool, true, false, List, ℕ, length, take, Ok}
use Rattle.record.specs.Window.{emptied}
use Rattle.record.specs.declared.reader.Record.{Record}
use Rattle.message.specs.Acceptance.{heard_of}
use Rattle.message.specs.declared.acceptance.Plan.{Plan}
use Rattle.record.specs.Protection.{counted_on}
use Rattle.connection.specs.Send.{clear_on, sender_of, put_back}
use Rattle.connection.specs.Handshake.{with_state, with_protection, with_window, forgetting, barred, planted, none_started}
use Rattle.connection.specs.Connection.{connection_of}
use Rattle.connection.specs.Sent.{sum_of, with_record, no_records}
use Rattle.record.specs.declared.protection.Protection.{Protection}
use Rattle.connection.specs.Judge.{judged_record, fragment_of}
use Rattle.connection.specs.Reply.{answered_with}
use Rattle.connection.specs.Send.{data_sent, data_output, alert_sent, alert_output}
use Rattle.connection.specs.Calls.{closed_of, started_of}
use Rattle.connection.specs.declared.state.State.TheVariants as S
use Rattle.connection.specs.declared.answer.Answer.{Answer}
use Rattle.connection.specs.declared.answer.Answer.TheVariants.{Nothing, Reply, Resent, Spec, Open, Again, Data, Warning, Critical, Fatal, Barred, Refused}
use Rattle.connection.specs.declared.connection.Connection.{Connection}
use Rattle.connection.specs.declared.handshake.Handshake.{Handshake}
use Rattle.demands.specs.Refusals.{marked, refused_leaves}
use Rattle.connection.specs.declared.sent.SentRecords.{SentRecords}

-- what each answer leaves, of the handshake h and a record with number s, protected or clear
abbrev pub Leaves : Handshake → List ℕ → List ℕ → Bool → ℕ → Handshake → Answer → Type 0
Leaves h random m protected s then Nothing = ⊥
Leaves h random m protected s then (Reply size) =
    (plan : Plan) × (heard_of m h.id ≡ Ok plan) × (then ≡ answered_with h random m plan)
    × (then.state ≡ S.Replied) × (then.protection.window ≡ h.protection.window) × (planted then ≡ planted h)
Leaves h random m protected s then (Resent size) = then ≡ h
Leaves h random m protected s then Spec = then ≡ with_state (with_window h (emptied h.protection.window)) S.Spec
Leaves h random m protected s then Open = then ≡ with_state (marked h s) S.Open
Leaves h random m protected s then Again = then ≡ marked h s
Leaves h random m protected s then (Data number start size) = then ≡ marked h s
Leaves h random m true s then (Warning description) = then ≡ marked h s
Leaves h random m false s then (Warning description) = then ≡ h
Leaves h random m true s then (Critical description) = then ≡ with_state (marked h s) S.Closed
Leaves h random m false s then (Critical description) = then ≡ with_state h S.Closed
Leaves h random m protected s then (Fatal description) = then ≡ with_state h S.Closed
Leaves h random m protected s then (Barred description) = then ≡ barred (marked h s)
Leaves h random m protected s then (Refused refusal) = then ≡ refused_leaves h protected s refusal

unfoldable pub RecordChangesOnly : Type 0
RecordChangesOnly =
    (h : Handshake) (sent : SentRecords) (random d : List ℕ) (r : Record)
    → Leaves h random (fragment_of d r) r.protected r.number (judged_record h sent random d r).handshake
    (judged_record h sent random d r).answer

-- our number, of the handshake that sends, and one record more that we sent, as it stands at the front of the output
abbrev pub number_on : Bool → Protection → Protection
number_on true p = counted_on p
number_on false p = clear_on p

abbrev pub after_sending : Bool → Connection → List ℕ → Connection
after_sending protected c bytes =
    put_back protected c (with_protection (sender_of protected c) (number_on protected (sender_of protected c).protection))
    (with_record c.sent (sum_of bytes))

unfoldable pub DataChangesOnly : Type 0
DataChangesOnly =
    (c : Connection) (bytes out : List ℕ) → (data_sent c bytes (length out)).outcome ≡ Ok tt
    → (data_sent c bytes (length out)).connection
    ≡ after_sending true c (take (data_sent c bytes (length out)).written (data_output c bytes out))

unfoldable pub AlertChangesOnly : Type 0
AlertChangesOnly =
    (c : Connection) (protected : Bool) (level description : ℕ) (answered out : List ℕ)
    → (alert_sent c protected level description answered (length out)).outcome ≡ Ok tt
    → (alert_sent c protected level description answered (length out)).connection
    ≡ after_sending protected c
    (take (alert_sent c protected level description answered (length out)).written
    (alert_output c protected level description answered out))

unfoldable pub CloseChangesOnly : Type 0
CloseChangesOnly =
    (c : Connection) → (closed_of c).outcome ≡ Ok tt
    → (closed_of c).connection ≡ connection_of (with_state c.handshake S.Closed) none_started c.sent

unfoldable pub StartChangesOnly : Type 0
StartChangesOnly =
    (c : Connection) → (started_of c).outcome ≡ Ok tt
    → (started_of c).connection ≡ connection_of (with_state (forgetting c.handshake) S.Idle) none_started no_records
