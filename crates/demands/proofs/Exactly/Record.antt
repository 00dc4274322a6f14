-- The refusals of a record, exactly when: from the table. The idea: each row that refuses is a reason, once its window is told by the
-- numbers accepted and its reading by the bytes; and each reason is such a row.
use mathlib.Core.Path.{◌≡◌, refl, sym, ap, ap₂, subst, ◌∙◌}
use mathlib.Core.List.{List, ◌∷◌, ◌++◌}
use Prim.Native.Nat.{ℕ, ◌+◌, ◌%◌}
use native.Mathlib.Omega.{arith}
use lib.ListN.{length, get_or, take, drop, length-append}
use lib.Seq.{get_or-append_seam}
use Rattle.record.specs.Datagram.{placed_at, blank}
use Rattle.record.specs.Header.{bit, kind_of, content_of}
use Rattle.record.specs.Reader.{pair_at}
use Rattle.record.specs.History.{window_of, arrived_of, judged_of as judged_by}
use Rattle.record.specs.Window.{accept_of}
use Rattle.record.proofs.Covering.{Lies, lies_at, covers}
use Rattle.record.proofs.Standing.{Stands}
use Rattle.record.proofs.Histories.{meaning, old_when, repeated_when, new_when, old_means, repeated_means, new_means}
use Rattle.record.specs.declared.header.Content.{Content}
use Rattle.record.specs.declared.header.Content.TheVariants as C
use Rattle.record.specs.declared.reader.Record.{Record}
use Rattle.record.specs.declared.window.Window.{Window}
use Rattle.message.specs.declared.acceptance.Unheard.TheVariants as H
use Rattle.message.specs.declared.finished.Unverified.TheVariants as F
use Rattle.connection.specs.Judge.{judged_record, fragment_of}
use Rattle.connection.specs.declared.answer.Answer.{Answer}
use Rattle.connection.specs.declared.answer.Answer.TheVariants as W
use Rattle.connection.specs.declared.answer.Judged.{Judged}
use Rattle.connection.specs.declared.handshake.Handshake.{Handshake}
use Rattle.connection.specs.declared.refusal.Refusal.{Refusal}
use Rattle.connection.specs.declared.refusal.Refusal.TheVariants as X
use Rattle.demands.specs.Seen.{Seen, seen_in}
use Rattle.demands.specs.Genuine.{RecordOf}
use Rattle.demands.specs.Table.{Row, New, MalformedAs}
use Rattle.demands.specs.Table.{row_ended, row_returned, row_not_allowed, row_reply, row_hello_malformed, row_unacceptable, row_resent, row_change, row_change_malformed, row_clear_malformed, row_checksum, row_clear_warning, row_clear_critical, row_clear_fatal, row_forged, row_old, row_repeated, row_malformed, row_data, row_warning, row_critical, row_barred, row_open, row_again, row_wrong_finished}
use Rattle.demands.specs.Exactly.Whole.{type_at, head_at, size_at}
use Rattle.demands.specs.Exactly.Record.{HoldsNumbers, ExactlyRecord, SeenInPlace, NewAs, WhyMalformed, bad_hello, bad_change, bad_alert, bad_protected_change, bad_protected_alert, bad_message, empty_data, WhyRecord, Bytes}
use Rattle.demands.proofs.Table.{row_of, row_is}
use Rattle.demands.proofs.Exactly.Reading.{byte-is, head-is, size_is, number_is}
use Rattle.demands.proofs.Exactly.Content.{change-not, not-change, AlertHolds, alert-holds, not-alert, is_alert, FinishedHolds, finished-holds, not_finished, wrong_finished}
use Rattle.demands.proofs.Exactly.Hello.{bytes_take, bytes_drop, HeardHolds, heard-holds, not-hello, not-acceptable, unmet-not}
use Rattle.connection.specs.declared.sent.SentRecords.{SentRecords}
use Rattle.connection.specs.Sent.{matches_of}
use Rattle.std.specs.Prelude.{Err, Some}

-- an answer that refuses has its reason
abbrev pub AnswerHolds : (Refusal → Type 0) → Answer → Type 0
AnswerHolds Why W.Nothing = Unit
AnswerHolds Why (W.Reply size) = Unit
AnswerHolds Why (W.Resent size) = Unit
AnswerHolds Why W.Spec = Unit
AnswerHolds Why W.Open = Unit
AnswerHolds Why W.Again = Unit
AnswerHolds Why (W.Data number start size) = Unit
AnswerHolds Why (W.Warning description) = Unit
AnswerHolds Why (W.Critical description) = Unit
AnswerHolds Why (W.Fatal description) = Unit
AnswerHolds Why (W.Barred description) = Unit
AnswerHolds Why (W.Refused x) = Why x

module _ (h : Handshake) (sent : SentRecords) (numbers random : List ℕ) (window : HoldsNumbers h numbers) (d : List ℕ) (r : Record)
    (bytes : Bytes (fragment_of d r)) where
  abbrev q : Seen
  q = seen_in d r

  abbrev f : List ℕ
  f = fragment_of d r

  abbrev width : ℕ
  width = h.protection.window.width

  -- the window answers as the history does
  by_history : accept_of h.protection.window r.number ≡ judged_by width numbers r.number
  by_history = ap (λ w. accept_of w r.number) window.means ∙ meaning width window.held numbers r.number

  -- new to the window, and new by the history
  newly : (c : List ℕ) (w : Window) → New h d r c w → NewAs h numbers q c
  newly c w n =
      let m = new_means width numbers r.number w n.arrived (sym by_history ∙ n.accepted) in
      record { guarded = n.guarded; coded = n.coded.is_coded; recent = m.0; unseen = m.1 }

  newly-in : (c : List ℕ) → NewAs h numbers q c → New h d r c (window_of width (r.number ∷ numbers))
  newly-in c n =
      record {
        guarded = n.guarded;
        coded = record { is_protected = n.guarded.protection; is_coded = n.coded };
        arrived = arrived_of width (r.number ∷ numbers);
        accepted = by_history ∙ new_when width numbers r.number n.recent n.unseen;
      }

  -- ---- each row has its reason

  malformed-why : (c : List ℕ) → NewAs h numbers q c → (x : Content) → r.content ≡ x → MalformedAs x c h.expected → WhyMalformed h numbers q
  malformed-why c n C.ChangeCipherSpec e m = bad_protected_change c n e
  malformed-why c n C.Alert e m = bad_protected_alert c n e (subst (AlertHolds c) m (alert-holds c))
  malformed-why c n C.Handshake e m = bad_message c n e (subst (FinishedHolds c h.expected) m (finished-holds c h.expected))
  malformed-why c n C.Data e m = empty_data c n e m

  row-why : {j : Judged} → Row h sent random d r j → AnswerHolds (WhyRecord h sent numbers q) j.answer
  row-why (row_ended o) = o
  row-why (row_not_allowed live none unreturned) = (live, none, unreturned)
  row-why (row_reply plan g e) = tt
  row-why (row_hello_malformed fault g e) = bad_hello g (subst (HeardHolds f h.id) e (heard-holds f h.id bytes))
  row-why (row_unacceptable condition g e) =
      let (w, u) : HeardHolds f h.id (Err (H.Unacceptable condition)) = subst (HeardHolds f h.id) e (heard-holds f h.id bytes) in
      (g, (w, unmet-not w.values h.id condition u))
  row-why (row_resent s i z e) = tt
  row-why (row_returned x) = tt
  row-why (row_change s p c e) = tt
  row-why (row_change_malformed s p c e) = bad_change s p c (change-not f e)
  row-why (row_clear_malformed s p c e) = bad_alert s p c (subst (AlertHolds f) e (alert-holds f))
  row-why (row_checksum a s p c e n) =
      let w : AlertHolds f (Some a) = subst (AlertHolds f) e (alert-holds f) in (s, p, c, w.0, ap (matches_of sent) (sym w.1) ∙ n)
  row-why (row_clear_warning a s p c e k l) = tt
  row-why (row_clear_critical a s p c e k l) = tt
  row-why (row_clear_fatal a s p c e k l) = tt
  row-why (row_forged g n) = (g, λ c e. n c (record { is_protected = g.protection; is_coded = e }))
  row-why (row_old c g s e) = (g, (c, s.is_coded), old_means width numbers r.number (sym by_history ∙ e))
  row-why (row_repeated c g s e) =
      let m = repeated_means width numbers r.number (sym by_history ∙ e) in (g, (c, s.is_coded), m.0, m.1)
  row-why (row_malformed c w n m) = malformed-why c (newly c w n) r.content refl m
  row-why (row_data c w n e m) = tt
  row-why (row_warning c w a n e m l) = tt
  row-why (row_critical c w a n e m l) = tt
  row-why (row_barred c w a n e m l) = tt
  row-why (row_open c w n s e m) = tt
  row-why (row_again c w n s e m) = tt
  row-why (row_wrong_finished c w n e m) =
      let x : FinishedHolds c h.expected (Err F.Wrong) = subst (FinishedHolds c h.expected) m (finished-holds c h.expected) in
      (c, newly c w n, e, x.0, x.1)

  -- ---- each reason has its row

  abbrev Refused : Refusal → Type 0
  Refused x = (judged_record h sent random d r).answer ≡ W.Refused x

  by_row : {j : Judged} → Row h sent random d r j → (judged_record h sent random d r).answer ≡ j.answer
  by_row row = ap (λ j. j.answer) (row_is h sent random d r row)

  malformed-so : (c : List ℕ) → NewAs h numbers q c → (x : Content) → r.content ≡ x → MalformedAs x c h.expected → Refused X.Malformed
  malformed-so c n x e m =
      by_row (row_malformed c (window_of width (r.number ∷ numbers)) (newly-in c n) (subst (λ y. MalformedAs y c h.expected) (sym e) m))

  why-malformed : WhyMalformed h numbers q → Refused X.Malformed
  why-malformed (bad_hello g n) = let (fault, e) = not-hello f h.id bytes n in by_row (row_hello_malformed fault g e)
  why-malformed (bad_change s p c n) = by_row (row_change_malformed s p c (not-change f n))
  why-malformed (bad_alert s p c n) = by_row (row_clear_malformed s p c (not-alert f n))
  why-malformed (bad_protected_change c n e) = malformed-so c n C.ChangeCipherSpec e tt
  why-malformed (bad_protected_alert c n e a) = malformed-so c n C.Alert e (not-alert c a)
  why-malformed (bad_message c n e a) = malformed-so c n C.Handshake e (not_finished c h.expected a)
  why-malformed (empty_data c n e z) = malformed-so c n C.Data e z

  why-row : (x : Refusal) → WhyRecord h sent numbers q x → Refused x
  why-row X.Ended o = by_row (row_ended o)
  why-row X.NotAllowed (live, none, unreturned) = by_row (row_not_allowed live none unreturned)
  why-row X.Forged (g, n) = by_row (row_forged g (λ c s. n c s.is_coded))
  why-row X.TooOld (g, (c, k), l) =
      by_row (row_old c g (record { is_protected = g.protection; is_coded = k }) (by_history ∙ old_when width numbers r.number l))
  why-row X.Repeated (g, (c, k), l, a) =
      by_row (row_repeated c g (record { is_protected = g.protection; is_coded = k }) (by_history ∙ repeated_when width numbers r.number l a))
  why-row X.Malformed w = why-malformed w
  why-row X.Unacceptable (g, (w, n)) = let (condition, e) = not-acceptable f h.id w n in by_row (row_unacceptable condition g e)
  why-row X.Checksum (s, p, c, i, k) =
      let (a, e, m) = is_alert f i in by_row (row_checksum a s p c e (ap (matches_of sent) m ∙ k))
  why-row X.WrongFinished (c, n, e, i, k) =
      by_row (row_wrong_finished c (window_of width (r.number ∷ numbers)) (newly-in c n) e (wrong_finished c h.expected i k))
  why-row (X.Framing fault) w = absurd w
  why-row X.Room w = absurd w
  why-row X.Spent w = absurd w
  why-row X.Argument w = absurd w

-- ---- a record of a soundly framed datagram

pub lies_in : (d : List ℕ) (r : Record) → RecordOf d r → Lies d r
lies_in d r o =
    let rs : List Record = o.before ++ (r ∷ o.behind) in
    let size : length rs ≡ length o.before + length (r ∷ o.behind) = length-append o.before (r ∷ o.behind) in
    subst (Lies d) (get_or-append_seam o.before r o.behind blank)
    (lies_at rs (length o.before) d 0 (omega arith) (covers d rs o.framing).0 (omega arith))

protected-of : (byte : ℕ) → (kind_of byte).protected ≡ bit 2 byte
unfolding kind_of
protected-of byte = refl

content-of-byte : (byte : ℕ) → (kind_of byte).content ≡ byte % 16
unfolding kind_of
content-of-byte byte = refl

-- its fields are what its bytes say
pub seen-in-place : SeenInPlace
unfolding SeenInPlace
seen-in-place d r o =
    let at : ℕ = r.start in
    let l : Lies d r = lies_in d r o in
    let s : Stands (drop at d) (placed_at r 0) = l.stand in
    let byte-e : r.byte ≡ type_at d at = s.byte ∙ byte-is d at in
    let kind-e : kind_of (get_or (drop at d) 0 0) ≡ kind_of (type_at d at) = ap kind_of (byte-is d at) in
    let protected-e : r.protected ≡ bit 2 (type_at d at) = s.protected ∙ ap (λ k. k.protected) kind-e
    ∙ protected-of (type_at d at) in
    let content-e : r.content ≡ content_of (type_at d at % 16) =
    s.content ∙ ap content_of (ap (λ k. k.content) kind-e ∙ content-of-byte (type_at d at)) in
    let number-e : r.number ≡ pair_at d (at + 1) = s.number ∙ number_is d at in
    let fragment-e : fragment_of d r ≡ take (size_at d at) (drop (at + head_at d at) d) =
    ap₂ (λ n k. take n (drop (at + k) d)) (s.size ∙ size_is d at) (s.head ∙ head-is d at) in
    λ i. record {
      byte = byte-e i;
      protected = protected-e i;
      content = content-e i;
      number = number-e i;
      fragment = fragment-e i;
      at = at;
    }

pub exactly-record : ExactlyRecord
unfolding ExactlyRecord SeenInPlace
exactly-record h sent numbers random d r all o window x =
    let b : Bytes (fragment_of d r) = bytes_take r.size (drop (r.start + r.head) d) (bytes_drop (r.start + r.head) d all) in (
      λ e.
          subst (λ s. WhyRecord h sent numbers s x) (seen-in-place d r o)
          (subst (AnswerHolds (WhyRecord h sent numbers (seen_in d r))) e (row-why h sent numbers random window d r b (row_of h sent random d r))),
      λ w. why-row h sent numbers random window d r b x (subst (λ s. WhyRecord h sent numbers s x) (sym (seen-in-place d r o)) w),
    )
