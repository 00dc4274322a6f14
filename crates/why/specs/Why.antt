-- Why a record is refused (02, "Why was this report dropped?"): "names the reason together with what bears on it". The refusal alone
-- decides the reason, and its facts are read beside it: from the connection that the records before this one left, from the record and
-- from the datagram.
use Rattle.std.specs.Prelude.{Bool, true, false, List, ℕ, ◌+◌, eqb, Err, Ok, Result}
use Rattle.connection.specs.declared.receive.Untaken.{Untaken}
use Rattle.digest.specs.Pick.{pick}
use Rattle.digest.specs.Bytes.{word_at}
use Rattle.record.specs.Protection.{content_under}
use Rattle.record.specs.declared.header.Content.TheVariants as C
use Rattle.record.specs.declared.reader.Record.{Record}
use Rattle.connection.specs.Judge.{fragment_of, kind_in}
use Rattle.connection.specs.Asked.{asked_of}
use Rattle.connection.specs.Point.{point_of}
use Rattle.connection.specs.declared.state.Kind.{Kind}
use Rattle.connection.specs.declared.state.Kind.TheVariants as K
use Rattle.connection.specs.declared.refusal.Refusal.{Refusal}
use Rattle.connection.specs.declared.refusal.Refusal.TheVariants as X
use Rattle.connection.specs.declared.answer.Answer.{Answer}
use Rattle.connection.specs.declared.answer.Answer.TheVariants as A
use Rattle.connection.specs.declared.asked.Whom.{Whom}
use Rattle.connection.specs.declared.handshake.Handshake.{Handshake}
use Rattle.connection.specs.declared.connection.Connection.{Connection}
use Rattle.connection.specs.declared.receive.Untaken.TheVariants as T
use Rattle.connection.specs.declared.point.Point.{Point}
use Rattle.why.specs.Framing.{fault_reason}
use Rattle.why.specs.Hello.{field_of, unmet_of}
use Rattle.why.specs.Contents.{bad_clear, bad_protected}
use Rattle.why.specs.Opening.{under_of, too_old_by, repeated_by, forged_by}
use Rattle.why.specs.declared.reason.Reason.{Reason}
use Rattle.why.specs.declared.reason.Reason.TheVariants as R
use Rattle.why.specs.declared.reason.Why.{Why}

-- content 3, clear, first byte 1
abbrev pub is_hello : Kind → Bool
is_hello K.ClearHello = true
is_hello K.ClearChange = false
is_hello K.ClearAlert = false
is_hello K.OtherClear = false
is_hello K.ProtectedChange = false
is_hello K.ProtectedAlert = false
is_hello K.ProtectedHandshake = false
is_hello K.ProtectedData = false

-- 12: a protected content stands without its code; of a hello the field is named
unfoldable pub malformed_by : Handshake → Whom → List ℕ → Record → Reason
malformed_by asked whom d r =
    pick r.protected
    (bad_protected (under_of whom) r.number r.content (content_under asked.protection.keys (fragment_of d r)))
    (pick (is_hello (kind_in d r)) (R.BadHello (field_of (fragment_of d r))) (bad_clear r.content (fragment_of d r)))

-- The reason of a refusal, asked of this handshake: 1 to 5 at an offset of the datagram; 9, 10, 11 by keys and window; the bytes that a
-- hello had, the checksum of an alert (behind level and description), the contents of a Finished (behind type and length). Room is as
-- listed and nothing is sent here, so 6 and 15 are no reasons.
unfoldable pub reason_by : Handshake → Whom → Connection → Record → List ℕ → ℕ → Refusal → Reason
reason_by asked whom c r d at (X.Framing fault) = fault_reason d at fault
reason_by asked whom c r d at X.Room = R.NotRefused
reason_by asked whom c r d at X.Ended = R.Ended
reason_by asked whom c r d at X.NotAllowed = R.NotAllowed
reason_by asked whom c r d at X.Forged = forged_by c whom asked.protection.keys r
reason_by asked whom c r d at X.TooOld = too_old_by (under_of whom) r.number asked.protection.window
reason_by asked whom c r d at X.Repeated = repeated_by (under_of whom) r.number asked.protection.window
reason_by asked whom c r d at X.Malformed = malformed_by asked whom d r
reason_by asked whom c r d at X.Unacceptable = unmet_of (r.start + r.head) (fragment_of d r) asked.id
reason_by asked whom c r d at X.Checksum = R.Checksum (word_at (fragment_of d r) 2)
reason_by asked whom c r d at X.Spent = R.NotRefused
reason_by asked whom c r d at X.Argument = R.Argument
reason_by asked whom c r d at X.WrongFinished = R.WrongFinished (under_of whom) r.number (r.start + r.head + 3)

abbrev pub reason_at : Point → List ℕ → ℕ → Refusal → Reason
reason_at p d at refusal =
    reason_by (asked_of p.connection p.whom) p.whom p.connection p.found d at refusal

-- "It names a refusal exactly when receiving would give it"
abbrev pub answer_reason : Point → List ℕ → Answer → Reason
answer_reason p d A.Nothing = R.NotRefused
answer_reason p d (A.Reply size) = R.NotRefused
answer_reason p d (A.Resent size) = R.NotRefused
answer_reason p d A.Spec = R.NotRefused
answer_reason p d A.Open = R.NotRefused
answer_reason p d A.Again = R.NotRefused
answer_reason p d (A.Data number start size) = R.NotRefused
answer_reason p d (A.Warning description) = R.NotRefused
answer_reason p d (A.Critical description) = R.NotRefused
answer_reason p d (A.Fatal description) = R.NotRefused
answer_reason p d (A.Barred description) = R.NotRefused
answer_reason p d (A.Refused refusal) = reason_at p d p.found.start refusal

-- "the state, the record's kind and its place", and the checksums that an alert is compared with; of a datagram that is refused as a
-- whole, no record's
abbrev pub why_whole : Connection → Reason → Why
why_whole c reason =
    record {
      reason = reason;
      state = c.handshake.state;
      started = c.started.state;
      content = C.ChangeCipherSpec;
      protected = false;
      hello = false;
      place = 0;
      sent = c.sent;
    }

abbrev pub why_record : Point → List ℕ → ℕ → Why
why_record p d index =
    record {
      reason = answer_reason p d p.answer;
      state = p.connection.handshake.state;
      started = p.connection.started.state;
      content = p.found.content;
      protected = p.found.protected;
      hello = is_hello (kind_in d p.found);
      place = index;
      sent = p.connection.sent;
    }

-- "A framing fault is the reason at every index."
abbrev pub why_taken : Point → List ℕ → ℕ → Result ℕ Untaken → Why
why_taken p d index (Ok count) = why_record p d index
why_taken p d index (Err (T.Refused refusal)) = why_whole p.connection (reason_at p d 0 refusal)
why_taken p d index (Err (T.Misframed refusal at)) = why_whole p.connection (reason_at p d at refusal)

-- "an unknown edition is 16" (02, "Two editions of the algorithm list")
abbrev pub is_edition : ℕ → Bool
is_edition edition = pick (eqb edition 1) true (eqb edition 2)

unfoldable pub why_of : ℕ → Connection → List ℕ → List ℕ → ℕ → Why
why_of edition c d random index =
    pick (is_edition edition)
    (why_taken (point_of c d random index) d index (point_of c d random index).taken)
    (why_whole c R.Argument)
