-- Barred. The idea: of all rows only that of a protected fatal alert leads there; there every call is refused, so it changes nothing.
use mathlib.Core.Path.{◌≡◌, refl, sym, ◌∙◌, ap, subst}
use mathlib.Core.Logic.{inr, ◌≢◌}
use mathlib.Core.Bool.{Bool, true, false}
use mathlib.Core.List.{List, [], ◌∷◌}
use Prim.Native.Nat.{ℕ}
use native.Mathlib.Omega.{arith}
use lib.ListN.{length, take}
use lib.Dec.{eqb, ltb, leb}
use Rattle.digest.specs.Bytes.{laid_over}
use Rattle.record.specs.Datagram.{Framing, framed, faulty, framing_of}
use Rattle.record.specs.declared.header.Content.TheVariants as C
use Rattle.record.specs.declared.reader.Record.{Record}
use Rattle.message.specs.Alert.{level_of, sorted_of}
use Rattle.message.specs.Offer.{kinds_named}
use Rattle.connection.specs.Send.{alert_body}
use Rattle.connection.specs.declared.refusal.Refusal.TheVariants as X
use Rattle.unit.specs.Agree.{agreed_with}
use Rattle.unit.specs.Answer.{opens_by, opens_to}
use Rattle.unit.specs.Calls.{closed_in, started_in}
use Rattle.unit.specs.Hello.{hello_datagram, offer_of, may_hello, greeted_with, hello_as, hello_sent, again_sent}
use Rattle.unit.specs.Receive.{end_of, answers_of, flight_in, run_of, whole_of, framed_to, sent_of, received_of, output_of}
use Rattle.unit.specs.Send.{may_protect, may_clear, data_sent, alert_sent_by, alert_sent_as, alert_sent}
use Rattle.unit.specs.Unit.{with_window, opened}
use Rattle.unit.specs.declared.state.State.{State}
use Rattle.unit.specs.declared.state.State.TheVariants as S
use Rattle.unit.specs.declared.state.Kind.TheVariants as K
use Rattle.unit.specs.declared.answer.Answer.{Answer}
use Rattle.unit.specs.declared.agree.Judged.{Judged}
use Rattle.unit.specs.declared.unit.Unit.{Unit as Ship}
use Rattle.demands.specs.Refusals.{NotDone}
use Rattle.demands.specs.Ship.Table.{Marked, Row, forgotten}
use Rattle.demands.specs.Ship.Table.{no_change, no_alert, no_message, no_data, some_data, protected_warning, repeated_finished, protected_critical, protected_ignored, protected_reported, finished_again, wrong_finished}
use Rattle.demands.specs.Ship.Table.{row_stays, row_shuts, row_hello, row_change, row_marked, row_opens, row_bars}
use Rattle.demands.specs.Ship.Runs.{Call, hello, again, receive, send_data, send_alert, close, start, step_of, final_of}
use Rattle.demands.specs.Ship.Refusals.{lent_by, written_by, RefusedCallChangesNothing}
use Rattle.demands.specs.Ship.Events.{Event, took, greeting, repeating, sending, alerting, closing, starting, next}
use Rattle.demands.specs.Ship.Barred.{FatalUnderCode, Forgot, FatalBars, BarredOnlyByFatal, BarredForGood}
use Rattle.demands.proofs.Exactly.Reasons.{decide}
use Rattle.demands.proofs.Ship.Table.{row_of, row_is}
use Rattle.demands.proofs.Ship.Changes.{data-alike, alert-alike, again_same, hello-refused}
use Rattle.demands.proofs.Ship.HandedOut.{kind-content, content-kind-in}
use Rattle.demands.proofs.Ship.Refusals.{refused_call}
use Rattle.demands.proofs.Ship.LeftOut.{over-seven}
use Rattle.std.specs.Prelude.{Err, None, Ok, Option, Result, Some, ⊤}
use Rattle.connection.specs.declared.refusal.Refusal.{Refusal}
use Rattle.message.specs.declared.alert.Description.{Description}
use Rattle.message.specs.declared.alert.Level.{Level}
use Rattle.message.specs.declared.offer.Kinds.{Kinds}

-- ---- for good

module _ (u : Ship) (barred : u.state ≡ S.Barred) where
  records-same : (d : List ℕ) (rs : List Record) → end_of u d rs ≡ u
  unfolding end_of
  records-same d [] = refl
  records-same d (r ∷ rs) = ap (λ j. end_of j.unit d rs) (over-seven u d r (inr barred)) ∙ records-same d rs

  -- no answer opens
  none-opens : (d : List ℕ) (rs : List Record) (n : ℕ) → opens_to n (answers_of u d rs) ≡ n
  unfolding answers_of opens_to
  none-opens d [] n = refl
  none-opens d (r ∷ rs) n =
      ap (λ j. opens_to (opens_by n j.answer) (answers_of j.unit d rs)) (over-seven u d r (inr barred)) ∙ none-opens d rs n

  no-flight : (d : List ℕ) (rs : List Record) → flight_in u d rs ≡ []
  unfolding flight_in
  no-flight d rs = ap (λ n. take n (end_of u d rs).flight) (none-opens d rs 0)

  nothing-laid : (out : List ℕ) → laid_over out 0 [] ≡ out
  unfolding laid_over
  nothing-laid out = refl

  framed-same : (d out : List ℕ) (y : Framing)
      → ((framed_to u d y).unit ≡ u) × (laid_over out 0 (sent_of u d y) ≡ out) × ((framed_to u d y).written ≡ 0)
  unfolding run_of whole_of
  framed-same d out (framed rs) =
      (records-same d rs, ap (laid_over out 0) (no-flight d rs) ∙ nothing-laid out, ap length (no-flight d rs))
  framed-same d out (faulty fault at) = (refl, nothing-laid out, refl)

  receive-same : (d out : List ℕ)
      → ((step_of u (receive d out)).unit ≡ u) × ((step_of u (receive d out)).output ≡ out) × (written_by (step_of u (receive d out)).result ≡ 0)
  unfolding step_of received_of output_of whole_of
  receive-same d out = decide (ltb (length out) 128) (λ e. rw e (refl, refl, refl)) (λ e. rw e (framed-same d out (framing_of d)))

  no-protect : may_protect u.state ≡ Err X.Ended
  no-protect = ap may_protect barred

  no-clear : may_clear u.state ≡ Err X.Ended
  no-clear = ap may_clear barred

  no_hello : may_hello u.state ≡ Err X.Ended
  no_hello = ap may_hello barred

  data-not : (bytes : List ℕ) (room : ℕ) → NotDone (data_sent u bytes room).outcome
  unfolding data_sent
  data-not bytes room =
      decide (eqb (length bytes) 0) (λ e. rw e tt)
      (λ e. decide (ltb 1300 (length bytes)) (λ f. rw (e, f) tt) (λ f. rw (e, f, no-protect) tt))

  by-not : (protected : Bool) (body : List ℕ) (room : ℕ) → NotDone (alert_sent_by u protected body room).outcome
  unfolding alert_sent_by
  by-not true body room = rw no-protect tt
  by-not false body room = rw no-clear tt

  as-not : (protected : Bool) (answered : List ℕ) (room : ℕ) (g : Option Level) (s : Option Description) → NotDone (alert_sent_as u protected answered room g s).outcome
  as-not protected answered room (Some level) (Some description) =
      decide (ltb 1400 (length answered)) (λ f. rw f tt) (λ f. rw f (by-not protected (alert_body level description answered) room))
  as-not protected answered room (Some level) None = tt
  as-not protected answered room None (Some description) = tt
  as-not protected answered room None None = tt

  alert-not : (protected : Bool) (level description : ℕ) (answered : List ℕ) (room : ℕ)
      → NotDone (alert_sent u protected level description answered room).outcome
  unfolding alert_sent
  alert-not protected level description answered room = as-not protected answered room (level_of level) (sorted_of description)

  named-not : (random : List ℕ) (refresh room : ℕ) (n : Option Kinds) → NotDone (hello_as u random refresh room n).outcome
  named-not random refresh room (Some kinds) = rw no_hello tt
  named-not random refresh room None = tt

  hello-not : (random macs : List ℕ) (refresh room : ℕ) → NotDone (hello_sent u random macs refresh room).outcome
  unfolding hello_sent
  hello-not random macs refresh room =
      decide (eqb (length random) 16)
      (λ a. decide (ltb 255 refresh) (λ b. rw (a, b) tt) (λ b. rw (a, b) (named-not random refresh room (kinds_named macs))))
      (λ a. rw a tt)

  again-not : (room : ℕ) → NotDone (again_sent u room).outcome
  again-not room = rw barred tt

  close-not : NotDone (closed_in u u.state).outcome
  close-not = rw barred tt

  start-not : NotDone (started_in u u.state).outcome
  start-not = rw barred tt

  call_same : (call : Call) → ((step_of u call).unit ≡ u) × ((step_of u call).output ≡ lent_by call) × (written_by (step_of u call).result ≡ 0)
  unfolding step_of RefusedCallChangesNothing
  call_same (hello random macs refresh out) = refused_call u (hello random macs refresh out) (hello-not random macs refresh (length out))
  call_same (again out) = refused_call u (again out) (again-not (length out))
  call_same (receive d out) = receive-same d out
  call_same (send_data bytes out) = refused_call u (send_data bytes out) (data-not bytes (length out))
  call_same (send_alert protected level description answered out) =
      refused_call u (send_alert protected level description answered out) (alert-not protected level description answered (length out))
  call_same close = refused_call u close close-not
  call_same start = refused_call u start start-not

final-same : (u : Ship) → u.state ≡ S.Barred → (calls : List Call) → final_of step_of u calls ≡ u
unfolding final_of
final-same u b [] = refl
final-same u b (call ∷ calls) = ap (λ x. final_of step_of x calls) (call_same u b call).0 ∙ final-same u b calls

pub barred_for_good : BarredForGood
unfolding BarredForGood
barred_for_good u b = (final-same u b, λ call. ((call_same u b call).1, (call_same u b call).2))

-- ---- by a fatal alert

forgot : (u : Ship) → Forgot (forgotten u)
forgot u = record { state_is = refl; id_is = refl; secret_is = refl; server_is = refl; client_is = refl; expected_is = refl }

pub fatal_bars : FatalBars
unfolding FatalBars
fatal_bars u e f =
    let kind = content-kind-in f.d f.r C.Alert f.new.coded.is_protected f.alert in
    let row = row_bars f.c f.w f.a f.new kind f.well_formed f.fatal in
    subst (λ x. Forgot (next u x)) (sym f.event)
    (subst (λ j. Forgot j.unit) (sym (row_is u f.d f.r row)) (forgot (with_window u f.w)))

-- ---- and only by one

open_not : {P : Type 0} → S.Open ≡ S.Barred → P
open_not e = let z : ◌≡◌ {A = ℕ} 0 1 = cc in absurd (omega arith)

no_state : {P : Type 0} → S.Closed ≡ S.Barred → P
no_state e = let z : ◌≡◌ {A = ℕ} 0 1 = cc in absurd (omega arith)

module _ (u : Ship) (not : u.state ≢ S.Barred) where
  marked-not : {P : Type 0} (d : List ℕ) (r : Record) (c : List ℕ) {a : Answer} {s : State} → Marked u d r c a s → s ≡ S.Barred → P
  marked-not d r c (no_change k) e = absurd (not e)
  marked-not d r c (no_alert k q) e = absurd (not e)
  marked-not d r c (no_message k q v) e = absurd (not e)
  marked-not d r c (no_data k z) e = absurd (not e)
  marked-not d r c (some_data k z) e = open_not e
  marked-not d r c (protected_warning a k q l z) e = absurd (not e)
  marked-not d r c (repeated_finished a k q l z o) e = open_not e
  marked-not d r c (protected_critical a k q l) e = no_state e
  marked-not d r c (protected_ignored k q o) e = absurd (not e)
  marked-not d r c (protected_reported k q o) e = absurd (not e)
  marked-not d r c (finished_again k q v o) e = absurd (not e)
  marked-not d r c (wrong_finished k q v) e = no_state e

  row-fatal : (d : List ℕ) (r : Record) {j : Judged} → Row u d r j → j.unit.state ≡ S.Barred → FatalUnderCode u (took d r)
  unfolding agreed_with opened
  row-fatal d r (row_stays s) e = absurd (not e)
  row-fatal d r (row_shuts s) e = no_state e
  row-fatal d r (row_hello plan x z q) e = let y : ◌≡◌ {A = ℕ} 0 1 = cc in absurd (omega arith)
  row-fatal d r (row_change x q) e = let y : ◌≡◌ {A = ℕ} 0 1 = cc in absurd (omega arith)
  row-fatal d r (row_marked c w n m) e = marked-not d r c m e
  row-fatal d r (row_opens c w n s x q v) e = let y : ◌≡◌ {A = ℕ} 0 1 = cc in absurd (omega arith)
  row-fatal d r (row_bars c w a n k q l) e =
      record {
        d = d;
        r = r;
        event = refl;
        c = c;
        w = w;
        new = n;
        alert = kind-content d r K.ProtectedAlert n.coded.is_protected k;
        a = a;
        well_formed = q;
        fatal = l;
      }

  named-state : (random : List ℕ) (refresh room : ℕ) (n : Option Kinds) → may_hello u.state ≡ Ok tt → (hello_as u random refresh room n).unit.state ≢ S.Barred
  unfolding greeted_with
  named-state random refresh room (Some kinds) m =
      decide (leb (length (hello_datagram u.id random (offer_of kinds refresh))) room)
      (λ f. rw (m, f) (λ e. let y : ◌≡◌ {A = ℕ} 0 1 = cc in omega arith)) (λ f. rw (m, f) not)
  named-state random refresh room None m = not

  hello-state : (random macs : List ℕ) (refresh room : ℕ) → may_hello u.state ≡ Ok tt → (hello_sent u random macs refresh room).unit.state ≢ S.Barred
  unfolding hello_sent
  hello-state random macs refresh room m =
      decide (eqb (length random) 16)
      (λ a. decide (ltb 255 refresh) (λ b. rw (a, b) not) (λ b. rw (a, b) (named-state random refresh room (kinds_named macs) m)))
      (λ a. rw a not)

  close-state : (s : State) → s ≢ S.Barred → (closed_in u s).unit.state ≢ S.Barred
  close-state S.Idle n e = no_state e
  close-state S.Sent n e = no_state e
  close-state S.Replied n e = no_state e
  close-state S.Spec n e = no_state e
  close-state S.Opening n e = no_state e
  close-state S.Open n e = no_state e
  close-state S.Closed n e = no_state e
  close-state S.Barred n e = n refl

  start-state : (s : State) → (started_in u s).unit.state ≢ S.Barred
  start-state S.Idle e = not e
  start-state S.Sent e = not e
  start-state S.Replied e = not e
  start-state S.Spec e = not e
  start-state S.Opening e = not e
  start-state S.Open e = not e
  start-state S.Closed e = let z : ◌≡◌ {A = ℕ} 0 1 = cc in omega arith
  start-state S.Barred e = not e

  greet-state : (random macs : List ℕ) (refresh room : ℕ) (o : Result ⊤ Refusal) → may_hello u.state ≡ o → (hello_sent u random macs refresh room).unit.state ≢ S.Barred
  greet-state random macs refresh room (Ok tt) m = hello-state random macs refresh room m
  greet-state random macs refresh room (Err x) m = λ e. not (sym (ap (λ v. v.state) (hello-refused u random macs refresh room x m)) ∙ e)

  only-fatal : (e : Event) → (next u e).state ≡ S.Barred → FatalUnderCode u e
  only-fatal (took d r) e = row-fatal d r (row_of u d r) e
  only-fatal (greeting random macs refresh out) e = absurd (greet-state random macs refresh (length out) (may_hello u.state) refl e)
  only-fatal (repeating out) e = absurd (not (sym (ap (λ v. v.state) (again_same u (length out))) ∙ e))
  only-fatal (sending bytes out) e = absurd (not (sym (data-alike u bytes (length out)).state_same ∙ e))
  only-fatal (alerting protected level description lent out) e =
      absurd (not (sym (alert-alike u protected level description lent (length out)).state_same ∙ e))
  only-fatal closing e = absurd (close-state u.state not e)
  only-fatal starting e = absurd (start-state u.state e)

pub barred_only_by_fatal : BarredOnlyByFatal
unfolding BarredOnlyByFatal
barred_only_by_fatal u e not b = only-fatal u not e b
