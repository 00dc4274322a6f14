-- A refused call changes nothing, and what a send changes: read off the call's row.
use mathlib.Core.Path.{◌≡◌, refl, sym, ◌∙◌, ap}
use mathlib.Core.Bool.{Bool, true, false}
use mathlib.Core.List.{List, [], ◌∷◌}
use Prim.Native.Nat.{ℕ, ◌+◌, ◌≤◌}
use native.Mathlib.Omega.{arith}
use lib.ListN.{length, take, drop}
use lib.Seq.{take_at}
use Rattle.digest.specs.Bytes.{laid_over}
use Rattle.record.specs.Datagram.{Framing, framed, framing_of}
use Rattle.record.specs.declared.header.Content.TheVariants as C
use Rattle.record.specs.declared.reader.Record.{Record}
use lib.Dec.{lit≤}
use Rattle.record.specs.Reader.{fault_number}
use Rattle.record.specs.declared.reader.Fault.{Fault}
use Rattle.record.specs.declared.reader.Fault.TheVariants as F
use Rattle.connection.specs.Refusal.{refusal_number}
use Rattle.connection.specs.Answer.{reply_size}
use Rattle.connection.specs.Receive.{first_reply}
use Rattle.connection.specs.Send.{next_protected, next_alert, alert_body}
use Rattle.connection.specs.declared.refusal.Refusal.{Refusal}
use Rattle.connection.specs.declared.refusal.Refusal.TheVariants as X
use Rattle.connection.specs.declared.connection.Connection.{Connection}
use Rattle.demands.specs.Runs.{Call, receive, send_data, send_alert, Returned, received, sent, called, Step, step_of}
use Rattle.demands.specs.Calls.{CallRow, receive_16, receive_6, receive_framing, receive_records, data_16, data_7, data_8, data_15, data_6, data_sent_lem, alert_16, alert_7, alert_8, alert_15, alert_6, alert_sent_lem, close_7, close_done, start_7, start_8, start_done}
use Rattle.demands.specs.Refusals.{lent_by, IsRefused, written_by, RefusedCallChangesNothing, NothingWrittenWithoutReply, RefusedByTheList}
use Rattle.demands.specs.Changes.{after_sending, DataChangesOnly, AlertChangesOnly}
use Rattle.demands.proofs.First.{first_is}
use Rattle.demands.proofs.Calls.{call_of}
use Rattle.connection.specs.Told.{told_record, kept_by}
use Rattle.connection.specs.Send.{sender_of, after_send}
use Rattle.std.specs.Prelude.{Err, Ok, ⊤, Result}

module _ (c : Connection) where
  by_row : {call : Call} {s : Step} → CallRow c call s → IsRefused s.result
      → (s.connection ≡ c) × (s.output ≡ lent_by call) × (written_by s.result ≡ 0)
  by_row (receive_16 n) x = (refl, refl, refl)
  by_row (receive_6 e l) x = (refl, refl, refl)
  by_row (receive_framing e l f) x = (refl, refl, refl)
  by_row (receive_records reply e l f more sends) x = absurd x
  by_row (data_16 b) x = (refl, refl, refl)
  by_row (data_7 g e) x = (refl, refl, refl)
  by_row (data_8 g e n) x = (refl, refl, refl)
  by_row (data_15 g e n) x = (refl, refl, refl)
  by_row (data_6 g e n l) x = (refl, refl, refl)
  by_row (data_sent_lem g e n l) x = absurd x
  by_row (alert_16 b) x = (refl, refl, refl)
  by_row (alert_7 g e) x = (refl, refl, refl)
  by_row (alert_8 g e f) x = (refl, refl, refl)
  by_row (alert_15 g e n) x = (refl, refl, refl)
  by_row (alert_6 g e n l) x = (refl, refl, refl)
  by_row (alert_sent_lem g e n l) x = absurd x
  by_row (close_7 e) x = (refl, refl, refl)
  by_row (close_done n) x = absurd x
  by_row (start_7 e) x = (refl, refl, refl)
  by_row (start_8 n m) x = (refl, refl, refl)
  by_row (start_done e) x = absurd x

pub refused_call : RefusedCallChangesNothing step_of
unfolding RefusedCallChangesNothing
refused_call c call x = by_row c (call_of c call) x

-- ---- nothing written without a reply

pub laid_nothing : (out : List ℕ) → laid_over out 0 [] ≡ out
unfolding laid_over
laid_nothing out = refl

framed_one : (rs qs : List Record) (f : Framing) → f ≡ framed rs → f ≡ framed qs → rs ≡ qs
framed_one rs qs f e g = cc

pub no_reply : (c : Connection) (random d : List ℕ) (r : Record) (rs : List Record) → reply_size (told_record c random d r).answer ≡ 0
    → first_reply c random d (r ∷ rs) ≡ []
unfolding first_reply
no_reply c random d r rs e = ap (λ n. take n (kept_by (told_record c random d r).beside (told_record c random d r).connection).reply) e

module _ (c : Connection) (d random out : List ℕ) (r : Record) (rs : List Record) (f : framing_of d ≡ framed (r ∷ rs)) (z : reply_size (told_record c random d r).answer ≡ 0) where
  unwritten : {s : Step} → CallRow c (receive d random out) s → (s.output ≡ out) × (written_by s.result ≡ 0)
  unwritten (receive_16 n) = (refl, refl)
  unwritten (receive_6 e l) = (refl, refl)
  unwritten (receive_framing e l g) = (refl, refl)
  unwritten (receive_records {rs = qs} reply e l g more sends) =
      let none : reply ≡ [] = sym (first_is random d more reply sends) ∙ ap (first_reply c random d) (framed_one qs (r ∷ rs) (framing_of d) g f) ∙ no_reply c random d r rs z in
      (ap (laid_over out 0) none ∙ laid_nothing out, ap length none)

pub nothing_written : NothingWrittenWithoutReply
unfolding NothingWrittenWithoutReply
nothing_written c d random out r rs f z = unwritten c d random out r rs f z (call_of c (receive d random out))

-- ---- sends

pub laid_front : (out bytes : List ℕ) → take (length bytes) (laid_over out 0 bytes) ≡ bytes
unfolding laid_over
laid_front out bytes = take_at bytes (drop (0 + length bytes) out) (length bytes) refl

-- what stands in a step of a send
abbrev pub outcome_in : Returned → Result ⊤ Refusal
outcome_in (received taken answers written) = Ok tt
outcome_in (sent outcome written) = outcome
outcome_in (called outcome) = outcome

pub refused_done : {P : Type 0} (x : Refusal) → ◌≡◌ {A = Result ⊤ Refusal} (Err x) (Ok tt) → P
refused_done x e = let z : ◌≡◌ {A = ℕ} 0 1 = cc in absurd (omega arith)

data_after : (c : Connection) (bytes out : List ℕ) {s : Step} → CallRow c (send_data bytes out) s → outcome_in s.result ≡ Ok tt
    → s.connection ≡ after_sending true c (take (written_by s.result) s.output)
data_after c bytes out (data_16 b) x = refused_done X.Argument x
data_after c bytes out (data_7 g e) x = refused_done X.Ended x
data_after c bytes out (data_8 g e n) x = refused_done X.NotAllowed x
data_after c bytes out (data_15 g e n) x = refused_done X.Spent x
data_after c bytes out (data_6 g e n l) x = refused_done X.Room x
data_after c bytes out (data_sent_lem g e n l) x =
    ap (after_sending true c) (sym (laid_front out (next_protected c.handshake C.Data bytes)))

pub data_changes_only : DataChangesOnly
unfolding DataChangesOnly step_of
data_changes_only c bytes out x = data_after c bytes out (call_of c (send_data bytes out)) x

alert_left : (protected : Bool) (c : Connection) (bytes : List ℕ) → after_send protected c bytes ≡ after_sending protected c bytes
alert_left true c bytes = refl
alert_left false c bytes = refl

alert_after : (c : Connection) (protected : Bool) (level description : ℕ) (answered out : List ℕ) {s : Step}
    → CallRow c (send_alert protected level description answered out) s → outcome_in s.result ≡ Ok tt
    → s.connection ≡ after_sending protected c (take (written_by s.result) s.output)
alert_after c protected level description answered out (alert_16 b) x = refused_done X.Argument x
alert_after c protected level description answered out (alert_7 g e) x = refused_done X.Ended x
alert_after c protected level description answered out (alert_8 g e f) x = refused_done X.NotAllowed x
alert_after c protected level description answered out (alert_15 g e n) x = refused_done X.Spent x
alert_after c protected level description answered out (alert_6 g e n l) x = refused_done X.Room x
alert_after c protected level description answered out (alert_sent_lem {l = k} {k = m} g e n l) x =
    let bytes : List ℕ = next_alert protected (sender_of protected c) (alert_body k m answered) in
    alert_left protected c bytes ∙ ap (after_sending protected c) (sym (laid_front out bytes))

pub alert_changes_only : AlertChangesOnly
unfolding AlertChangesOnly step_of
alert_changes_only c protected level description answered out x =
    alert_after c protected level description answered out (call_of c (send_alert protected level description answered out)) x

-- ---- the numbers of the list

fault_listed : (fault : Fault) → (1 ≤ fault_number fault) × (fault_number fault ≤ 17)
fault_listed F.Size = (lit≤ tt, lit≤ tt)
fault_listed F.Header = (lit≤ tt, lit≤ tt)
fault_listed F.Kind = (lit≤ tt, lit≤ tt)
fault_listed F.Fragment = (lit≤ tt, lit≤ tt)
fault_listed F.Ninth = (lit≤ tt, lit≤ tt)

listed : (x : Refusal) → (1 ≤ refusal_number x) × (refusal_number x ≤ 17)
listed (X.Framing fault) = fault_listed fault
listed X.Room = (lit≤ tt, lit≤ tt)
listed X.Ended = (lit≤ tt, lit≤ tt)
listed X.NotAllowed = (lit≤ tt, lit≤ tt)
listed X.Forged = (lit≤ tt, lit≤ tt)
listed X.TooOld = (lit≤ tt, lit≤ tt)
listed X.Repeated = (lit≤ tt, lit≤ tt)
listed X.Malformed = (lit≤ tt, lit≤ tt)
listed X.Unacceptable = (lit≤ tt, lit≤ tt)
listed X.Checksum = (lit≤ tt, lit≤ tt)
listed X.Spent = (lit≤ tt, lit≤ tt)
listed X.Argument = (lit≤ tt, lit≤ tt)
listed X.WrongFinished = (lit≤ tt, lit≤ tt)

pub refused_by_the_list : RefusedByTheList
unfolding RefusedByTheList
refused_by_the_list = listed
