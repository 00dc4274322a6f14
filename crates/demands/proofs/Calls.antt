-- Each call has its row, and a row is what the call gives. The idea: the definition of a call makes its tests in the order of the
-- paper; each is decided both ways, and the other way round the premises of a row decide it.
use mathlib.Core.Path.{◌≡◌, refl, sym, ◌∙◌, ap, ap₂, subst}
use mathlib.Core.Logic.{inl, inr, ◌≢◌}
use mathlib.Core.Bool.{Bool, true, false}
use mathlib.Core.List.{List, [], ◌∷◌}
use Prim.Native.Nat.{ℕ, ◌+◌, ◌≤◌, ◌<◌}
use native.Mathlib.Omega.{arith}
use lib.ListN.{length}
use lib.Dec.{eqb, ltb}
use borrow.Author.Tests.{eqb-true, eqb-false, eq-eqb, ne_eqb, ltb-true, ltb-false, lt-ltb, le-ltb}
use Rattle.digest.specs.Pick.{pick}
use Rattle.digest.specs.Bytes.{laid_over}
use Rattle.digest.specs.Mac.{size_of}
use Rattle.record.specs.Datagram.{Framing, framed, faulty, framing_of}
use Rattle.record.specs.declared.header.Content.TheVariants as C
use Rattle.record.specs.declared.reader.Fault.{Fault}
use Rattle.record.specs.declared.reader.Record.{Record}
use Rattle.message.specs.Alert.{level_of, sorted_of}
use Rattle.message.specs.declared.alert.Level.{Level}
use Rattle.message.specs.declared.alert.Description.{Description}
use Rattle.connection.specs.Connection as I
use Rattle.connection.specs.Told.{told_record}
use Rattle.connection.specs.Receive.{slots_of, first_reply, end_of, answers_of, received_of, output_of, whole_of, run_of, framed_to, sent_of}
use Rattle.connection.specs.Sent.{with_record, sum_of}
use Rattle.connection.specs.declared.sent.SentRecords.{SentRecords}
use Rattle.connection.specs.Send.{next_protected, next_alert, sender_of, clear_sender, clear_back, after_alert, after_send, alert_body, may_data, may_protect, may_clear, and_then, numbered_by, data_refused, alert_refused, alert_outcome, sent_to, output_to, done, data_sent, data_output, data_outcome, alert_sent, alert_output, alert_sent_as, alert_output_as}
use Rattle.connection.specs.Calls.{closed_in, started_in, fresh_of, out_of_range, leaving}
use Rattle.connection.specs.declared.state.State.{State}
use Rattle.connection.specs.declared.state.State.TheVariants as S
use Rattle.connection.specs.declared.refusal.Refusal.TheVariants as X
use Rattle.connection.specs.declared.answer.Answer.{Answer}
use Rattle.connection.specs.declared.connection.Connection.{Connection}
use Rattle.connection.specs.declared.calls.Called.{Called}
use Rattle.connection.specs.declared.receive.Untaken.TheVariants as T
use Rattle.connection.specs.declared.handshake.Handshake.{Handshake}
use Rattle.demands.specs.Runs.{Call, receive, send_data, send_alert, close, start, received, received_as, sent_as, called_as, Step, step_of, fresh_one}
use Rattle.demands.specs.Calls.{Chain, chain_end, chain_more, not_taken, not_sent, not_called, taken, was_called, may_alert, number_for, code_for, BadData, BadAlert, GoodData, GoodAlert, CallRow, CallsHold, FreshRow, fresh_16, fresh_done, FreshHolds}
use Rattle.demands.specs.Calls.{receive_16, receive_6, receive_framing, receive_records, data_16, data_7, data_8, data_15, data_6, data_sent_lem, alert_16, alert_7, alert_8, alert_15, alert_6, alert_sent_lem, close_7, close_done, start_7, start_8, start_done}
use Rattle.demands.proofs.States.{ended, live_over, over_live, over_ended, ended_over}
use Rattle.demands.proofs.Genuine.{true_false}
use Rattle.demands.proofs.Asked.{tells_of, tells_is}
use Rattle.demands.proofs.First.{first_sends, first_is}
use Rattle.std.specs.Prelude.{Err, None, Ok, Option, Result, Some, ⊤}
use Rattle.connection.specs.declared.refusal.Refusal.{Refusal}

-- ---- records one after the other

module _ (random d : List ℕ) where
  pub chain_of : (c : Connection) (rs : List Record) → Chain random d c rs (answers_of c random d rs) (end_of c random d rs)
  unfolding answers_of end_of
  chain_of c [] = chain_end
  chain_of c (r ∷ rs) = chain_more (tells_of c random d r) (chain_of (told_record c random d r).connection rs)

  pub chain_is : {c : Connection} {rs : List Record} {answers : List Answer} {left : Connection} → Chain random d c rs answers left
      → (answers_of c random d rs ≡ answers) × (end_of c random d rs ≡ left)
  unfolding answers_of end_of
  chain_is chain_end = (refl, refl)
  chain_is (chain_more {c = c} {r = r} {rs = rs} row more) =
      let e = tells_is c random d r row in
      let q = chain_is more in
      (ap₂ (λ (x : Answer) (y : List Answer). x ∷ y) (ap (λ x. x.answer) e) (ap (λ x. answers_of x.connection random d rs) e ∙ q.0), ap (λ x. end_of x.connection random d rs) e ∙ q.1)

-- ---- receive

-- the row of a datagram by its chain alone: what it sends is what the judge keeps for it
pub by_chain : (c : Connection) {d random out : List ℕ} {rs : List Record} {answers : List Answer} {left : Connection} → length random ≡ 16
    → 128 ≤ length out → framing_of d ≡ framed rs → Chain random d c rs answers left
    → CallRow c (receive d random out) (taken out rs answers (first_reply c random d rs) left)
by_chain c {d = d} {random = random} {rs = rs} e l f more = receive_records (first_reply c random d rs) e l f more (first_sends random d more)

module _ (c : Connection) (d random out : List ℕ) where
  laid_none : laid_over out 0 [] ≡ out
  unfolding laid_over
  laid_none = refl

  -- the step, by the outcomes of the tests
  abbrev pub receive_by : Bool → Bool → Framing → Step
  receive_by sixteen short f =
      received_as (pick sixteen (pick short (whole_of c (Err (T.Refused X.Room))) (framed_to c random d f)) (whole_of c (Err (T.Refused X.Argument))))
      (pick sixteen (pick short out (laid_over out 0 (sent_of c random d f))) out)

  pub step_receive : step_of c (receive d random out) ≡ receive_by (eqb (length random) 16) (ltb (length out) 128) (framing_of d)
  unfolding step_of received_of output_of
  step_receive = refl

  misframed_is : (fault : Fault) (at : ℕ) → receive_by true false (faulty fault at) ≡ not_taken c out (Err (T.Misframed (X.Framing fault) at))
  unfolding whole_of
  misframed_is fault at = λ i. record { result = received (Err (T.Misframed (X.Framing fault) at)) (slots_of []) 0; output = laid_none i; connection = c }

  receive_by_lem : (b : Bool) → eqb (length random) 16 ≡ b → (s : Bool) → ltb (length out) 128 ≡ s → (f : Framing) → framing_of d ≡ f
      → CallRow c (receive d random out) (receive_by b s f)
  unfolding whole_of run_of
  receive_by_lem false eb s es f ef = receive_16 (eqb-false (length random) 16 eb)
  receive_by_lem true eb true es f ef = receive_6 (eqb-true (length random) 16 eb) (ltb-true (length out) 128 es)
  receive_by_lem true eb false es (framed rs) ef =
      by_chain c (eqb-true (length random) 16 eb) (ltb-false (length out) 128 es) ef (chain_of random d c rs)
  receive_by_lem true eb false es (faulty fault at) ef =
      subst (CallRow c (receive d random out)) (sym (misframed_is fault at))
      (receive_framing (eqb-true (length random) 16 eb) (ltb-false (length out) 128 es) ef)

  tests_are : (b s : Bool) (f : Framing) → eqb (length random) 16 ≡ b → ltb (length out) 128 ≡ s → framing_of d ≡ f
      → step_of c (receive d random out) ≡ receive_by b s f
  tests_are b s f eb es ef = step_receive ∙ λ i. receive_by (eb i) (es i) (ef i)

  taken_is : (rs : List Record) → receive_by true false (framed rs)
      ≡ taken out rs (answers_of c random d rs) (first_reply c random d rs) (end_of c random d rs)
  unfolding run_of
  taken_is rs = refl

  not_16_is : receive_by false (ltb (length out) 128) (framing_of d) ≡ not_taken c out (Err (T.Refused X.Argument))
  unfolding whole_of
  not_16_is = refl

  no_room_is : receive_by true true (framing_of d) ≡ not_taken c out (Err (T.Refused X.Room))
  unfolding whole_of
  no_room_is = refl

-- ---- send data

module _ (c : Connection) (bytes out : List ℕ) where
  abbrev h : Handshake
  h = c.handshake

  abbrev data_next : List ℕ
  data_next = next_protected h C.Data bytes

  -- the step, by the outcome
  abbrev data_step : Result ⊤ Refusal → Step
  data_step o = sent_as (sent_to c (done data_next (after_send true c data_next)) o) (output_to out data_next o)

  step_data : step_of c (send_data bytes out) ≡ data_step (data_outcome h (length bytes) (length out))
  unfolding step_of data_sent data_output
  step_data = refl

  data_by_room : GoodData bytes → h.state ≡ S.Open → h.protection.protected ≤ 65535 → (b : Bool) → ltb (length out) (3 + length bytes + size_of h.protection.keys.mac) ≡ b
      → CallRow c (send_data bytes out) (data_step (pick b (Err X.Room) (Ok tt)))
  data_by_room g s n true e = data_6 g s n (ltb-true (length out) (3 + length bytes + size_of h.protection.keys.mac) e)
  data_by_room g s n false e = data_sent_lem g s n (ltb-false (length out) (3 + length bytes + size_of h.protection.keys.mac) e)

  data_by_number : GoodData bytes → h.state ≡ S.Open → (b : Bool) → ltb 65535 h.protection.protected ≡ b
      → CallRow c (send_data bytes out) (data_step (pick b (Err X.Spent) (pick (ltb (length out) (3 + length bytes + size_of h.protection.keys.mac)) (Err X.Room) (Ok tt))))
  data_by_number g s true e = data_15 g s (ltb-true 65535 h.protection.protected e)
  data_by_number g s false e =
      data_by_room g s (ltb-false 65535 h.protection.protected e) (ltb (length out) (3 + length bytes + size_of h.protection.keys.mac)) refl

  not_open : (s : State) → h.state ≡ s → (s ≡ S.Open → ⊥) → h.state ≢ S.Open
  not_open s e n z = n (sym e ∙ z)

  data_by_state : GoodData bytes → (s : State) → h.state ≡ s
      → CallRow c (send_data bytes out) (data_step (and_then (may_data s) (numbered_by h.protection.protected (3 + length bytes + size_of h.protection.keys.mac) (length out))))
  unfolding numbered_by
  data_by_state g S.Idle e = data_8 g (live_over h.state (ap ended e)) (not_open S.Idle e (λ z. let w : ◌≡◌ {A = ℕ} 0 1 = cc in omega arith))
  data_by_state g S.Replied e = data_8 g (live_over h.state (ap ended e)) (not_open S.Replied e (λ z. let w : ◌≡◌ {A = ℕ} 0 1 = cc in omega arith))
  data_by_state g S.Spec e = data_8 g (live_over h.state (ap ended e)) (not_open S.Spec e (λ z. let w : ◌≡◌ {A = ℕ} 0 1 = cc in omega arith))
  data_by_state g S.Open e = data_by_number g e (ltb 65535 h.protection.protected) refl
  data_by_state g S.Closed e = data_7 g (inl e)
  data_by_state g S.Barred e = data_7 g (inr e)

  abbrev data_rest : Result ⊤ Refusal
  data_rest = and_then (may_data h.state) (numbered_by h.protection.protected (3 + length bytes + size_of h.protection.keys.mac) (length out))

  data_by_size : (b : Bool) → eqb (length bytes) 0 ≡ b → (m : Bool) → ltb 1300 (length bytes) ≡ m
      → CallRow c (send_data bytes out) (data_step (pick b (Err X.Argument) (pick m (Err X.Argument) data_rest)))
  data_by_size true eb m em = data_16 (inl (eqb-true (length bytes) 0 eb))
  data_by_size false eb true em = data_16 (inr (ltb-true 1300 (length bytes) em))
  data_by_size false eb false em =
      data_by_state (record { some = positive (length bytes) (eqb-false (length bytes) 0 eb); most = ltb-false 1300 (length bytes) em }) h.state refl
    where
      positive : (z : ℕ) → (z ≡ 0 → ⊥) → 1 ≤ z
      positive z e = omega arith

  data_row : CallRow c (send_data bytes out) (step_of c (send_data bytes out))
  unfolding data_refused
  data_row =
      subst (CallRow c (send_data bytes out)) (sym step_data)
      (data_by_size (eqb (length bytes) 0) refl (ltb 1300 (length bytes)) refl)

  -- the other way round
  data_good : GoodData bytes → (o : Result ⊤ Refusal) → data_rest ≡ o → step_of c (send_data bytes out) ≡ data_step o
  unfolding data_refused
  data_good g o e =
      step_data
      ∙ ap (λ b. data_step (pick b (Err X.Argument) (pick (ltb 1300 (length bytes)) (Err X.Argument) data_rest))) (ne_eqb (length bytes) 0 (λ z. not_zero (length bytes) g.some z))
      ∙ ap (λ b. data_step (pick b (Err X.Argument) data_rest)) (le-ltb 1300 (length bytes) g.most)
      ∙ ap data_step e
    where
      not_zero : (n : ℕ) → 1 ≤ n → n ≡ 0 → ⊥
      not_zero n l z = omega arith

  data_bad : BadData bytes → step_of c (send_data bytes out) ≡ not_sent c out X.Argument
  unfolding data_refused
  data_bad (inl z) =
      step_data ∙ ap (λ b. data_step (pick b (Err X.Argument) (pick (ltb 1300 (length bytes)) (Err X.Argument) data_rest))) (eq-eqb (length bytes) 0 z)
  data_bad (inr z) =
      step_data
      ∙ ap (λ b. data_step (pick b (Err X.Argument) (pick (ltb 1300 (length bytes)) (Err X.Argument) data_rest))) (ne_eqb (length bytes) 0 (not_zero (length bytes) z))
      ∙ ap (λ b. data_step (pick b (Err X.Argument) data_rest)) (lt-ltb 1300 (length bytes) z)
    where
      not_zero : (n : ℕ) → 1300 < n → n ≡ 0 → ⊥
      not_zero n l e = omega arith

-- which outcome a state gives
ended_data : (s : State) → ended s ≡ true → may_data s ≡ Err X.Ended
ended_data S.Idle e = true_false false e refl
ended_data S.Replied e = true_false false e refl
ended_data S.Spec e = true_false false e refl
ended_data S.Open e = true_false false e refl
ended_data S.Closed e = refl
ended_data S.Barred e = refl

other_data : (s : State) → ended s ≡ false → s ≢ S.Open → may_data s ≡ Err X.NotAllowed
other_data S.Idle e n = refl
other_data S.Replied e n = refl
other_data S.Spec e n = refl
other_data S.Open e n = absurd (n refl)
other_data S.Closed e n = true_false true refl e
other_data S.Barred e n = true_false true refl e

numbered_is : (number need room : ℕ) → number ≤ 65535 → (o : Result ⊤ Refusal) → pick (ltb room need) (Err X.Room) (Ok tt) ≡ o → numbered_by number need room ≡ o
unfolding numbered_by
numbered_is number need room n o e =
    ap (λ b. pick b (Err X.Spent) (pick (ltb room need) (Err X.Room) (Ok tt))) (le-ltb 65535 number n) ∙ e

spent_is : (number need room : ℕ) → 65535 < number → numbered_by number need room ≡ Err X.Spent
unfolding numbered_by
spent_is number need room n = ap (λ b. pick b (Err X.Spent) (pick (ltb room need) (Err X.Room) (Ok tt))) (lt-ltb 65535 number n)

-- ---- send an alert

abbrev may_of : Bool → State → Result ⊤ Refusal
may_of true s = may_protect s
may_of false s = may_clear s

ended_alert : (protected : Bool) (s : State) → ended s ≡ true → may_of protected s ≡ Err X.Ended
ended_alert protected S.Idle e = true_false false e refl
ended_alert protected S.Replied e = true_false false e refl
ended_alert protected S.Spec e = true_false false e refl
ended_alert protected S.Open e = true_false false e refl
ended_alert true S.Closed e = refl
ended_alert false S.Closed e = refl
ended_alert true S.Barred e = refl
ended_alert false S.Barred e = refl

other_alert : (protected : Bool) (s : State) → ended s ≡ false → may_alert protected s ≡ false → may_of protected s ≡ Err X.NotAllowed
other_alert true S.Idle e n = refl
other_alert false S.Idle e n = refl
other_alert protected S.Replied e n = true_false true refl n
other_alert protected S.Spec e n = true_false true refl n
other_alert true S.Open e n = true_false true refl n
other_alert false S.Open e n = refl
other_alert protected S.Closed e n = true_false true refl e
other_alert protected S.Barred e n = true_false true refl e

may_alert_lem : (protected : Bool) (s : State) → may_alert protected s ≡ true → may_of protected s ≡ Ok tt
may_alert_lem protected S.Idle e = true_false false e refl
may_alert_lem true S.Replied e = refl
may_alert_lem false S.Replied e = refl
may_alert_lem true S.Spec e = refl
may_alert_lem false S.Spec e = refl
may_alert_lem true S.Open e = refl
may_alert_lem false S.Open e = true_false false e refl
may_alert_lem protected S.Closed e = true_false false e refl
may_alert_lem protected S.Barred e = true_false false e refl

alert_outcome_lem : (protected : Bool) (h : Handshake) (lent room : ℕ)
    → alert_outcome protected h lent room ≡ alert_refused (may_of protected h.state) lent (number_for protected h) (code_for protected h) room
alert_outcome_lem true h lent room = refl
alert_outcome_lem false h lent room = refl

module _ (c : Connection) (protected : Bool) (level description : ℕ) (answered out : List ℕ) where
  abbrev alert_by : Option Level → Option Description → Step
  alert_by g s = sent_as (alert_sent_as c protected answered (length out) g s) (alert_output_as c protected answered out g s)

  step_alert : step_of c (send_alert protected level description answered out) ≡ alert_by (level_of level) (sorted_of description)
  unfolding step_of alert_sent alert_output
  step_alert = refl

  module _ (l : Level) (k : Description) where
    abbrev alert_next : List ℕ
    alert_next = next_alert protected (sender_of protected c) (alert_body l k answered)

    abbrev alert_step : Result ⊤ Refusal → Step
    alert_step o = sent_as (sent_to c (done alert_next (after_send protected c alert_next)) o) (output_to out alert_next o)

    abbrev alert_numbered : Result ⊤ Refusal
    alert_numbered = numbered_by (number_for protected (sender_of protected c)) (9 + code_for protected (sender_of protected c)) (length out)

    alert_by_room : GoodAlert level description answered l k → may_alert protected (sender_of protected c).state ≡ true → number_for protected (sender_of protected c) ≤ 65535
        → (b : Bool) → ltb (length out) (9 + code_for protected (sender_of protected c)) ≡ b
        → CallRow c (send_alert protected level description answered out) (alert_step (pick b (Err X.Room) (Ok tt)))
    alert_by_room g s n true e = alert_6 g s n (ltb-true (length out) (9 + code_for protected (sender_of protected c)) e)
    alert_by_room g s n false e = alert_sent_lem g s n (ltb-false (length out) (9 + code_for protected (sender_of protected c)) e)

    alert_by_number : GoodAlert level description answered l k → may_alert protected (sender_of protected c).state ≡ true → (b : Bool) → ltb 65535 (number_for protected (sender_of protected c)) ≡ b
        → CallRow c (send_alert protected level description answered out)
        (alert_step (pick b (Err X.Spent) (pick (ltb (length out) (9 + code_for protected (sender_of protected c))) (Err X.Room) (Ok tt))))
    alert_by_number g s true e = alert_15 g s (ltb-true 65535 (number_for protected (sender_of protected c)) e)
    alert_by_number g s false e =
        alert_by_room g s (ltb-false 65535 (number_for protected (sender_of protected c)) e) (ltb (length out) (9 + code_for protected (sender_of protected c))) refl

    alert_by_state : GoodAlert level description answered l k → (e m : Bool) → ended (sender_of protected c).state ≡ e → may_alert protected (sender_of protected c).state ≡ m
        → CallRow c (send_alert protected level description answered out) (alert_step (and_then (may_of protected (sender_of protected c).state) alert_numbered))
    unfolding numbered_by
    alert_by_state g true m e f =
        subst (λ o. CallRow c (send_alert protected level description answered out) (alert_step (and_then o alert_numbered))) (sym (ended_alert protected (sender_of protected c).state e)) (alert_7 g (ended_over (sender_of protected c).state e))
    alert_by_state g false false e f =
        subst (λ o. CallRow c (send_alert protected level description answered out) (alert_step (and_then o alert_numbered))) (sym (other_alert protected (sender_of protected c).state e f)) (alert_8 g (live_over (sender_of protected c).state e) f)
    alert_by_state g false true e f =
        subst (λ o. CallRow c (send_alert protected level description answered out) (alert_step (and_then o alert_numbered))) (sym (may_alert_lem protected (sender_of protected c).state f))
        (alert_by_number g f (ltb 65535 (number_for protected (sender_of protected c))) refl)

    alert_by_lent : level_of level ≡ Some l → sorted_of description ≡ Some k → (b : Bool) → ltb 1400 (length answered) ≡ b
        → CallRow c (send_alert protected level description answered out)
        (alert_step (pick b (Err X.Argument) (and_then (may_of protected (sender_of protected c).state) alert_numbered)))
    alert_by_lent el ek true e = alert_16 (inr (inr (ltb-true 1400 (length answered) e)))
    alert_by_lent el ek false e =
        alert_by_state (record { level_is = el; description_is = ek; lent_most = ltb-false 1400 (length answered) e }) (ended (sender_of protected c).state) (may_alert protected (sender_of protected c).state) refl refl

    alert_assigned : level_of level ≡ Some l → sorted_of description ≡ Some k
        → CallRow c (send_alert protected level description answered out) (alert_step (alert_outcome protected (sender_of protected c) (length answered) (length out)))
    unfolding alert_refused
    alert_assigned el ek =
        subst (λ o. CallRow c (send_alert protected level description answered out) (alert_step o)) (sym (alert_outcome_lem protected (sender_of protected c) (length answered) (length out)))
        (alert_by_lent el ek (ltb 1400 (length answered)) refl)

    -- the other way round
    alert_good : GoodAlert level description answered l k → (o : Result ⊤ Refusal) → and_then (may_of protected (sender_of protected c).state) alert_numbered ≡ o
        → step_of c (send_alert protected level description answered out) ≡ alert_step o
    unfolding alert_refused
    alert_good g o e =
        step_alert ∙ ap₂ alert_by g.level_is g.description_is
        ∙ ap alert_step (alert_outcome_lem protected (sender_of protected c) (length answered) (length out))
        ∙ ap (λ b. alert_step (pick b (Err X.Argument) (and_then (may_of protected (sender_of protected c).state) alert_numbered))) (le-ltb 1400 (length answered) g.lent_most)
        ∙ ap alert_step e

    alert_long : level_of level ≡ Some l → sorted_of description ≡ Some k → 1400 < length answered
        → step_of c (send_alert protected level description answered out) ≡ not_sent c out X.Argument
    unfolding alert_refused
    alert_long el ek z =
        step_alert ∙ ap₂ alert_by el ek
        ∙ ap alert_step (alert_outcome_lem protected (sender_of protected c) (length answered) (length out))
        ∙ ap (λ b. alert_step (pick b (Err X.Argument) (and_then (may_of protected (sender_of protected c).state) alert_numbered))) (lt-ltb 1400 (length answered) z)

  alert_by_lem : (g : Option Level) (s : Option Description) → level_of level ≡ g → sorted_of description ≡ s
      → CallRow c (send_alert protected level description answered out) (alert_by g s)
  alert_by_lem (Some l) (Some k) el ek = alert_assigned l k el ek
  alert_by_lem (Some l) None el ek = alert_16 (inr (inl ek))
  alert_by_lem None (Some k) el ek = alert_16 (inl el)
  alert_by_lem None None el ek = alert_16 (inl el)

  alert_row : CallRow c (send_alert protected level description answered out) (step_of c (send_alert protected level description answered out))
  alert_row =
      subst (CallRow c (send_alert protected level description answered out)) (sym step_alert) (alert_by_lem (level_of level) (sorted_of description) refl refl)

  no_level : (s : Option Description) → alert_by None s ≡ not_sent c out X.Argument
  no_level (Some k) = refl
  no_level None = refl

  no_description : (g : Option Level) → alert_by g None ≡ not_sent c out X.Argument
  no_description (Some l) = refl
  no_description None = refl

  lent_long : (g : Option Level) (s : Option Description) → level_of level ≡ g → sorted_of description ≡ s → 1400 < length answered
      → step_of c (send_alert protected level description answered out) ≡ not_sent c out X.Argument
  lent_long (Some l) (Some k) el ek z = alert_long l k el ek z
  lent_long (Some l) None el ek z = step_alert ∙ ap₂ alert_by el ek
  lent_long None (Some k) el ek z = step_alert ∙ ap₂ alert_by el ek
  lent_long None None el ek z = step_alert ∙ ap₂ alert_by el ek

  alert_bad : BadAlert level description answered → step_of c (send_alert protected level description answered out) ≡ not_sent c out X.Argument
  alert_bad (inl e) = step_alert ∙ ap (λ g. alert_by g (sorted_of description)) e ∙ no_level (sorted_of description)
  alert_bad (inr (inl e)) = step_alert ∙ ap (λ s. alert_by (level_of level) s) e ∙ no_description (level_of level)
  alert_bad (inr (inr z)) = lent_long (level_of level) (sorted_of description) refl refl z

-- ---- close, and start again

module _ (c : Connection) where
  apart : (s t : State) → c.handshake.state ≡ s → (s ≡ t → ⊥) → c.handshake.state ≢ t
  apart s t e n z = n (sym e ∙ z)

  close_by : (s : State) → c.handshake.state ≡ s → CallRow c close (called_as (closed_in c s))
  close_by S.Idle e = close_done (apart S.Idle S.Barred e (λ z. let w : ◌≡◌ {A = ℕ} 0 1 = cc in omega arith))
  close_by S.Replied e = close_done (apart S.Replied S.Barred e (λ z. let w : ◌≡◌ {A = ℕ} 0 1 = cc in omega arith))
  close_by S.Spec e = close_done (apart S.Spec S.Barred e (λ z. let w : ◌≡◌ {A = ℕ} 0 1 = cc in omega arith))
  close_by S.Open e = close_done (apart S.Open S.Barred e (λ z. let w : ◌≡◌ {A = ℕ} 0 1 = cc in omega arith))
  close_by S.Closed e = close_done (apart S.Closed S.Barred e (λ z. let w : ◌≡◌ {A = ℕ} 0 1 = cc in omega arith))
  close_by S.Barred e = close_7 e

  start_by : (s : State) → c.handshake.state ≡ s → CallRow c start (called_as (started_in c s))
  start_by S.Idle e =
      start_8 (apart S.Idle S.Barred e (λ z. let w : ◌≡◌ {A = ℕ} 0 1 = cc in omega arith)) (apart S.Idle S.Closed e (λ z. let w : ◌≡◌ {A = ℕ} 0 1 = cc in omega arith))
  start_by S.Replied e =
      start_8 (apart S.Replied S.Barred e (λ z. let w : ◌≡◌ {A = ℕ} 0 1 = cc in omega arith)) (apart S.Replied S.Closed e (λ z. let w : ◌≡◌ {A = ℕ} 0 1 = cc in omega arith))
  start_by S.Spec e =
      start_8 (apart S.Spec S.Barred e (λ z. let w : ◌≡◌ {A = ℕ} 0 1 = cc in omega arith)) (apart S.Spec S.Closed e (λ z. let w : ◌≡◌ {A = ℕ} 0 1 = cc in omega arith))
  start_by S.Open e =
      start_8 (apart S.Open S.Barred e (λ z. let w : ◌≡◌ {A = ℕ} 0 1 = cc in omega arith)) (apart S.Open S.Closed e (λ z. let w : ◌≡◌ {A = ℕ} 0 1 = cc in omega arith))
  start_by S.Closed e = start_done e
  start_by S.Barred e = start_7 e

  not_barred : (s : State) → (s ≡ S.Barred → ⊥) → called_as (closed_in c s) ≡ was_called (I.ended c)
  not_barred S.Idle n = refl
  not_barred S.Replied n = refl
  not_barred S.Spec n = refl
  not_barred S.Open n = refl
  not_barred S.Closed n = refl
  not_barred S.Barred n = absurd (n refl)

  neither : (s : State) → (s ≡ S.Barred → ⊥) → (s ≡ S.Closed → ⊥) → called_as (started_in c s) ≡ not_called c X.NotAllowed
  neither S.Idle n m = refl
  neither S.Replied n m = refl
  neither S.Spec n m = refl
  neither S.Open n m = refl
  neither S.Closed n m = absurd (m refl)
  neither S.Barred n m = absurd (n refl)

-- ---- of one handshake alone: it sends, and it is the handshake of what is left

module _ (h : Handshake) where
  clear_alone : (s : State) → h.state ≡ s → may_alert false (clear_sender (I.alone h) s).state ≡ true
      → (clear_sender (I.alone h) s ≡ h) × ((x : Handshake) (list : SentRecords) → (clear_back (I.alone h) x list s).handshake ≡ x)
  clear_alone S.Idle e m = (refl, λ x list. refl)
  clear_alone S.Replied e m = (refl, λ x list. refl)
  clear_alone S.Spec e m = (refl, λ x list. refl)
  clear_alone S.Open e m = true_false false m refl
  clear_alone S.Closed e m = (refl, λ x list. refl)
  clear_alone S.Barred e m = (refl, λ x list. refl)

  pub sent_alone : (protected : Bool) → may_alert protected (sender_of protected (I.alone h)).state ≡ true → (bytes : List ℕ)
      → (after_send protected (I.alone h) bytes).handshake ≡ after_alert protected h
  sent_alone true m bytes = refl
  sent_alone false m bytes =
      let q = clear_alone h.state refl m in
      q.1 (after_alert false (sender_of false (I.alone h))) (with_record (I.alone h).sent (sum_of bytes)) ∙ ap (after_alert false) q.0

  pub sender_alone : (protected : Bool) → may_alert protected (sender_of protected (I.alone h)).state ≡ true → sender_of protected (I.alone h) ≡ h
  sender_alone true m = refl
  sender_alone false m = (clear_alone h.state refl m).0

-- ---- all calls

pub call_of : (c : Connection) (call : Call) → CallRow c call (step_of c call)
unfolding step_of
call_of c (receive d random out) =
    subst (CallRow c (receive d random out)) (sym (step_receive c d random out))
    (receive_by_lem c d random out (eqb (length random) 16) refl (ltb (length out) 128) refl (framing_of d) refl)
call_of c (send_data bytes out) = data_row c bytes out
call_of c (send_alert protected level description answered out) = alert_row c protected level description answered out
call_of c close = close_by c c.handshake.state refl
call_of c start = start_by c c.handshake.state refl

pub call_is : (c : Connection) {call : Call} {s : Step} → CallRow c call s → step_of c call ≡ s
unfolding step_of
call_is c (receive_16 {d = d} {random = random} {out = out} n) =
    tests_are c d random out false (ltb (length out) 128) (framing_of d) (ne_eqb (length random) 16 n) refl refl ∙ not_16_is c d random out
call_is c (receive_6 {d = d} {random = random} {out = out} e l) =
    tests_are c d random out true true (framing_of d) (eq-eqb (length random) 16 e) (lt-ltb (length out) 128 l) refl ∙ no_room_is c d random out
call_is c (receive_framing {d = d} {random = random} {out = out} {fault = fault} {at = at} e l f) =
    tests_are c d random out true false (faulty fault at) (eq-eqb (length random) 16 e) (le-ltb (length out) 128 l) f ∙ misframed_is c d random out fault at
call_is c (receive_records {d = d} {random = random} {out = out} {rs = rs} reply e l f more sends) =
    let q = chain_is random d more in
    tests_are c d random out true false (framed rs) (eq-eqb (length random) 16 e) (le-ltb (length out) 128 l) f
    ∙ taken_is c d random out rs
    ∙ (λ i. taken out rs (q.0 i) (first_is random d more reply sends i) (q.1 i))
call_is c (data_16 {bytes = bytes} {out = out} b) = data_bad c bytes out b
call_is c (data_7 {bytes = bytes} {out = out} g e) =
    data_good c bytes out g (Err X.Ended) (ap (λ o. and_then o (numbered_by c.handshake.protection.protected (3 + length bytes + size_of c.handshake.protection.keys.mac) (length out))) (ended_data c.handshake.state (over_ended c.handshake.state e)))
call_is c (data_8 {bytes = bytes} {out = out} g e n) =
    data_good c bytes out g (Err X.NotAllowed) (ap (λ o. and_then o (numbered_by c.handshake.protection.protected (3 + length bytes + size_of c.handshake.protection.keys.mac) (length out))) (other_data c.handshake.state (over_live c.handshake.state e) n))
call_is c (data_15 {bytes = bytes} {out = out} g e n) =
    data_good c bytes out g (Err X.Spent)
    (ap (λ s. and_then (may_data s) (numbered_by c.handshake.protection.protected (3 + length bytes + size_of c.handshake.protection.keys.mac) (length out))) e
    ∙ spent_is c.handshake.protection.protected (3 + length bytes + size_of c.handshake.protection.keys.mac) (length out) n)
call_is c (data_6 {bytes = bytes} {out = out} g e n l) =
    data_good c bytes out g (Err X.Room)
    (ap (λ s. and_then (may_data s) (numbered_by c.handshake.protection.protected (3 + length bytes + size_of c.handshake.protection.keys.mac) (length out))) e
    ∙ numbered_is c.handshake.protection.protected (3 + length bytes + size_of c.handshake.protection.keys.mac) (length out) n (Err X.Room)
    (ap (λ b. pick b (Err X.Room) (Ok tt)) (lt-ltb (length out) (3 + length bytes + size_of c.handshake.protection.keys.mac) l)))
call_is c (data_sent_lem {bytes = bytes} {out = out} g e n l) =
    data_good c bytes out g (Ok tt)
    (ap (λ s. and_then (may_data s) (numbered_by c.handshake.protection.protected (3 + length bytes + size_of c.handshake.protection.keys.mac) (length out))) e
    ∙ numbered_is c.handshake.protection.protected (3 + length bytes + size_of c.handshake.protection.keys.mac) (length out) n (Ok tt)
    (ap (λ b. pick b (Err X.Room) (Ok tt)) (le-ltb (length out) (3 + length bytes + size_of c.handshake.protection.keys.mac) l)))
call_is c (alert_16 {protected = protected} {level = level} {description = description} {answered = answered} {out = out} b) =
    alert_bad c protected level description answered out b
call_is c (alert_7 {protected = protected} {level = level} {description = description} {answered = answered} {out = out} {l = l} {k = k} g e) =
    alert_good c protected level description answered out l k g (Err X.Ended)
    (ap (λ o. and_then o (numbered_by (number_for protected (sender_of protected c)) (9 + code_for protected (sender_of protected c)) (length out))) (ended_alert protected (sender_of protected c).state (over_ended (sender_of protected c).state e)))
call_is c (alert_8 {protected = protected} {level = level} {description = description} {answered = answered} {out = out} {l = l} {k = k} g e f) =
    alert_good c protected level description answered out l k g (Err X.NotAllowed)
    (ap (λ o. and_then o (numbered_by (number_for protected (sender_of protected c)) (9 + code_for protected (sender_of protected c)) (length out))) (other_alert protected (sender_of protected c).state (over_live (sender_of protected c).state e) f))
call_is c (alert_15 {protected = protected} {level = level} {description = description} {answered = answered} {out = out} {l = l} {k = k} g e n) =
    alert_good c protected level description answered out l k g (Err X.Spent)
    (ap (λ o. and_then o (numbered_by (number_for protected (sender_of protected c)) (9 + code_for protected (sender_of protected c)) (length out))) (may_alert_lem protected (sender_of protected c).state e)
    ∙ spent_is (number_for protected (sender_of protected c)) (9 + code_for protected (sender_of protected c)) (length out) n)
call_is c (alert_6 {protected = protected} {level = level} {description = description} {answered = answered} {out = out} {l = l} {k = k} g e n s) =
    alert_good c protected level description answered out l k g (Err X.Room)
    (ap (λ o. and_then o (numbered_by (number_for protected (sender_of protected c)) (9 + code_for protected (sender_of protected c)) (length out))) (may_alert_lem protected (sender_of protected c).state e)
    ∙ numbered_is (number_for protected (sender_of protected c)) (9 + code_for protected (sender_of protected c)) (length out) n (Err X.Room)
    (ap (λ b. pick b (Err X.Room) (Ok tt)) (lt-ltb (length out) (9 + code_for protected (sender_of protected c)) s)))
call_is c (alert_sent_lem {protected = protected} {level = level} {description = description} {answered = answered} {out = out} {l = l} {k = k} g e n s) =
    alert_good c protected level description answered out l k g (Ok tt)
    (ap (λ o. and_then o (numbered_by (number_for protected (sender_of protected c)) (9 + code_for protected (sender_of protected c)) (length out))) (may_alert_lem protected (sender_of protected c).state e)
    ∙ numbered_is (number_for protected (sender_of protected c)) (9 + code_for protected (sender_of protected c)) (length out) n (Ok tt)
    (ap (λ b. pick b (Err X.Room) (Ok tt)) (le-ltb (length out) (9 + code_for protected (sender_of protected c)) s)))
call_is c (close_7 e) = ap (λ s. called_as (closed_in c s)) e
call_is c (close_done n) = not_barred c c.handshake.state n
call_is c (start_7 e) = ap (λ s. called_as (started_in c s)) e
call_is c (start_8 n m) = neither c c.handshake.state n m
call_is c (start_done e) = ap (λ s. called_as (started_in c s)) e

pub calls_hold : CallsHold
unfolding CallsHold
calls_hold c call s = (λ e. subst (CallRow c call) e (call_of c call), call_is c)

-- ---- fresh

module _ (id secret : List ℕ) (width : ℕ) where
  abbrev fresh_by : Bool → Bool → Bool → Bool → Called
  fresh_by eight twenty narrow wide =
      pick eight (pick twenty (pick narrow out_of_range (pick wide out_of_range (leaving (Ok tt) (fresh_one id secret width)))) out_of_range) out_of_range

  fresh_is : fresh_of id secret width ≡ fresh_by (eqb (length id) 8) (eqb (length secret) 20) (ltb width 32) (ltb 64 width)
  unfolding fresh_of
  fresh_is = refl

  fresh_by_lem : (a b n w : Bool) → eqb (length id) 8 ≡ a → eqb (length secret) 20 ≡ b → ltb width 32 ≡ n → ltb 64 width ≡ w
      → FreshRow id secret width (fresh_by a b n w)
  fresh_by_lem false b n w ea eb en ew = fresh_16 (inl (eqb-false (length id) 8 ea))
  fresh_by_lem true false n w ea eb en ew = fresh_16 (inr (inl (eqb-false (length secret) 20 eb)))
  fresh_by_lem true true true w ea eb en ew = fresh_16 (inr (inr (inl (ltb-true width 32 en))))
  fresh_by_lem true true false true ea eb en ew = fresh_16 (inr (inr (inr (ltb-true 64 width ew))))
  fresh_by_lem true true false false ea eb en ew =
      fresh_done (eqb-true (length id) 8 ea) (eqb-true (length secret) 20 eb) (ltb-false width 32 en, ltb-false 64 width ew)

  pub fresh-of : FreshRow id secret width (fresh_of id secret width)
  fresh-of =
      subst (FreshRow id secret width) (sym fresh_is)
      (fresh_by_lem (eqb (length id) 8) (eqb (length secret) 20) (ltb width 32) (ltb 64 width) refl refl refl refl)

  not_twenty : (a n w : Bool) → fresh_by a false n w ≡ out_of_range
  not_twenty true n w = refl
  not_twenty false n w = refl

  too_narrow : (a b w : Bool) → fresh_by a b true w ≡ out_of_range
  too_narrow true true w = refl
  too_narrow true false w = refl
  too_narrow false b w = refl

  too_wide : (a b n : Bool) → fresh_by a b n true ≡ out_of_range
  too_wide true true true = refl
  too_wide true true false = refl
  too_wide true false n = refl
  too_wide false b n = refl

  pub fresh_row : {s : Called} → FreshRow id secret width s → fresh_of id secret width ≡ s
  fresh_row (fresh_16 (inl n)) =
      fresh_is ∙ ap (λ b. fresh_by b (eqb (length secret) 20) (ltb width 32) (ltb 64 width)) (ne_eqb (length id) 8 n)
  fresh_row (fresh_16 (inr (inl n))) =
      fresh_is ∙ ap (λ b. fresh_by (eqb (length id) 8) b (ltb width 32) (ltb 64 width)) (ne_eqb (length secret) 20 n)
      ∙ not_twenty (eqb (length id) 8) (ltb width 32) (ltb 64 width)
  fresh_row (fresh_16 (inr (inr (inl l)))) =
      fresh_is ∙ ap (λ b. fresh_by (eqb (length id) 8) (eqb (length secret) 20) b (ltb 64 width)) (lt-ltb width 32 l)
      ∙ too_narrow (eqb (length id) 8) (eqb (length secret) 20) (ltb 64 width)
  fresh_row (fresh_16 (inr (inr (inr l)))) =
      fresh_is ∙ ap (λ b. fresh_by (eqb (length id) 8) (eqb (length secret) 20) (ltb width 32) b) (lt-ltb 64 width l)
      ∙ too_wide (eqb (length id) 8) (eqb (length secret) 20) (ltb width 32)
  fresh_row (fresh_done a b held) =
      fresh_is ∙ ap₂ (λ x y. fresh_by x y (ltb width 32) (ltb 64 width)) (eq-eqb (length id) 8 a) (eq-eqb (length secret) 20 b)
      ∙ ap₂ (λ x y. fresh_by true true x y) (le-ltb width 32 held.0) (le-ltb 64 width held.1)

pub fresh_holds : FreshHolds
unfolding FreshHolds
fresh_holds id secret width s = (λ e. subst (FreshRow id secret width) e (fresh-of id secret width), fresh_row id secret width)
