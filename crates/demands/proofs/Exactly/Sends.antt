-- The refusals of the sends, exactly when. The idea: the tests of each send in their order; each test that is passed
-- is a fact that the later reasons carry.
use mathlib.Core.Path.{◌≡◌, refl, sym, ap, subst, ◌∙◌}
use mathlib.Core.Logic.{◌↔◌, ◌⊎◌, inl, inr}
use mathlib.Core.Bool.{Bool, true, false}
use mathlib.Core.List.{List, [], ◌∷◌, map}
use Prim.Native.Nat.{ℕ, ◌+◌, ◌≤◌, ◌<◌}
use native.Mathlib.Omega.{arith}
use lib.ListN.{length}
use lib.Dec.{eqb, ltb}
use borrow.Author.Tests.{eq-eqb, ne_eqb, le-ltb, lt-ltb, ltb-true, ltb-false, eqb-true, eqb-false}
use Rattle.digest.specs.Mac.{size_of}
use Rattle.record.specs.declared.header.Content.TheVariants as C
use Rattle.message.specs.Alert.{level_of, sorted_of, among, descriptions, description_number}
use Rattle.message.specs.declared.alert.Description.{Description}
use Rattle.message.specs.declared.alert.Level.{Level}
use Rattle.connection.specs.Send.{and_then, may_data, may_protect, may_clear, numbered_by, data_refused, alert_refused, sent_to, done, data_outcome, data_sent, alert_body, alert_outcome, next_alert, alert_sent, alert_sent_as, next_protected, sender_of, after_send}
use Rattle.connection.proofs.Sending.{next_size, clear_size}
use Rattle.connection.specs.declared.connection.Connection.{Connection}
use Rattle.connection.specs.declared.handshake.Handshake.{Handshake}
use Rattle.connection.specs.declared.refusal.Refusal.{Refusal}
use Rattle.connection.specs.declared.refusal.Refusal.TheVariants as X
use Rattle.connection.specs.declared.state.State.{State}
use Rattle.connection.specs.declared.state.State.TheVariants as S
use Rattle.demands.specs.Runs.{sent, sent_as, step_of}
use Rattle.demands.specs.Table.{Over}
use Rattle.demands.specs.Exactly.Numbers.{is_among, is_assigned}
use Rattle.demands.specs.Exactly.Sends.{DataFits, WhyData, DataGoes, ExactlyData, AlertFits, AlertMay, AlertMayNot, alert_number_of, alert_code_of, WhyAlert, AlertGoes, ExactlyAlert}
use Rattle.demands.proofs.Exactly.Reasons.{decide, Holds, refused_when, done-when, through}
use Rattle.std.specs.Prelude.{Err, None, Ok, Option, Result, Some, ⊤}

-- ---- what comes back of a send is its outcome

sent-refused : (c h : Connection) (next out : List ℕ) (o : Result ⊤ Refusal) (x : Refusal)
    → ((sent_as (sent_to c (done next h) o) out).result ≡ sent (Err x) 0) ↔ (o ≡ Err x)
sent-refused c h next out (Ok tt) x = (λ e. cc, λ e. let z : ◌≡◌ {A = ℕ} 0 1 = cc in absurd (omega arith))
sent-refused c h next out (Err y) x = (λ e. cc, λ e. ap (λ z. sent z 0) e)

sent-done : (c h : Connection) (next out : List ℕ) (o : Result ⊤ Refusal) (n : ℕ) → length next ≡ n
    → ((sent_as (sent_to c (done next h) o) out).result ≡ sent (Ok tt) n) ↔ (o ≡ Ok tt)
sent-done c h next out (Ok tt) n l = (λ e. refl, λ e. ap (sent (Ok tt)) l)
sent-done c h next out (Err y) n l = (λ e. cc, λ e. let z : ◌≡◌ {A = ℕ} 0 1 = cc in absurd (omega arith))

-- ---- 15, then 6

spent : (number size room : ℕ) → 65535 < number → numbered_by number size room ≡ Err X.Spent
unfolding numbered_by
spent number size room h = rw (lt-ltb 65535 number h) refl

no_room : (number size room : ℕ) → number ≤ 65535 → room < size → numbered_by number size room ≡ Err X.Room
unfolding numbered_by
no_room number size room h l = rw (le-ltb 65535 number h, lt-ltb room size l) refl

goes_out : (number size room : ℕ) → number ≤ 65535 → size ≤ room → numbered_by number size room ≡ Ok tt
unfolding numbered_by
goes_out number size room h l = rw (le-ltb 65535 number h, le-ltb room size l) refl

-- by the number and the room
by_number : (P : Result ⊤ Refusal → Type 0) (number size room : ℕ) → (65535 < number → P (Err X.Spent))
    → (number ≤ 65535 → room < size → P (Err X.Room)) → (number ≤ 65535 → size ≤ room → P (Ok tt))
    → P (numbered_by number size room)
by_number P number size room a b c =
    decide (ltb 65535 number) (λ e. subst P (sym (spent number size room (ltb-true 65535 number e)))
    (a (ltb-true 65535 number e)))
    (λ e. decide (ltb room size)
    (λ f. subst P (sym (no_room number size room (ltb-false 65535 number e) (ltb-true room size f)))
    (b (ltb-false 65535 number e) (ltb-true room size f)))
    (λ f. subst P (sym (goes_out number size room (ltb-false 65535 number e) (ltb-false room size f)))
    (c (ltb-false 65535 number e) (ltb-false room size f))))

-- ---- send data

module _ (state : State) (size number code room : ℕ) where
  abbrev Why : Refusal → Type 0
  Why = WhyData state size number code room

  abbrev Goes : Type 0
  Goes = DataGoes state size number code room

  -- past 16
  data-past : DataFits size → data_refused state size number code room ≡ and_then (may_data state)
      (numbered_by number (3 + size + code) room)
  unfolding data_refused
  data-past f = rw (ne_eqb size 0 (λ e. omega (arith, f.0)), le-ltb 1300 size f.1) refl

  data-none : size ≡ 0 → data_refused state size number code room ≡ Err X.Argument
  unfolding data_refused
  data-none e = rw (eq-eqb size 0 e) refl

  data-much : 1300 < size → data_refused state size number code room ≡ Err X.Argument
  unfolding data_refused
  data-much l = rw (ne_eqb size 0 (λ e. omega arith), lt-ltb 1300 size l) refl

  -- past 16, in a state
  data-in : (s : State) → state ≡ s → DataFits size
      → data_refused state size number code room ≡ and_then (may_data s) (numbered_by number (3 + size + code) room)
  data-in s e f = data-past f ∙ ap (λ x. and_then (may_data x) (numbered_by number (3 + size + code) room)) e

  data-because : (x : Refusal) → Why x → data_refused state size number code room ≡ Err x
  data-because X.Argument (inl e) = data-none e
  data-because X.Argument (inr l) = data-much l
  data-because X.Ended (f, inl e) = data-in S.Closed e f
  data-because X.Ended (f, inr e) = data-in S.Barred e f
  data-because X.NotAllowed (f, inl e) = data-in S.Idle e f
  data-because X.NotAllowed (f, inr (inl e)) = data-in S.Replied e f
  data-because X.NotAllowed (f, inr (inr e)) = data-in S.Spec e f
  data-because X.Spent (f, e, l) = data-in S.Open e f ∙ spent number (3 + size + code) room l
  data-because X.Room (f, e, n, l) = data-in S.Open e f ∙ no_room number (3 + size + code) room n l
  data-because (X.Framing fault) w = absurd w
  data-because X.Forged w = absurd w
  data-because X.TooOld w = absurd w
  data-because X.Repeated w = absurd w
  data-because X.Malformed w = absurd w
  data-because X.Unacceptable w = absurd w
  data-because X.Checksum w = absurd w
  data-because X.WrongFinished w = absurd w

  data-goes : Goes → data_refused state size number code room ≡ Ok tt
  data-goes (f, e, n, l) = data-in S.Open e f ∙ goes_out number (3 + size + code) room n l

  data_state_lem : (s : State) → state ≡ s → DataFits size
      → Holds Why Goes (and_then (may_data s) (numbered_by number (3 + size + code) room))
  data_state_lem S.Idle e f = (f, inl e)
  data_state_lem S.Replied e f = (f, inr (inl e))
  data_state_lem S.Spec e f = (f, inr (inr e))
  data_state_lem S.Open e f =
      by_number (Holds Why Goes) number (3 + size + code) room (λ l. (f, e, l)) (λ n l. (f, e, n, l))
      (λ n l. (f, e, n, l))
  data_state_lem S.Closed e f = (f, inl e)
  data_state_lem S.Barred e f = (f, inr e)

  data-holds : Holds Why Goes (data_refused state size number code room)
  data-holds =
      decide (eqb size 0) (λ e. subst (Holds Why Goes) (sym (data-none (eqb-true size 0 e))) (inl (eqb-true size 0 e)))
      (λ e. decide (ltb 1300 size)
      (λ m. subst (Holds Why Goes) (sym (data-much (ltb-true 1300 size m))) (inr (ltb-true 1300 size m)))
      (λ m.
      let f : DataFits size = (omega (arith, eqb-false size 0 e), ltb-false 1300 size m) in
      subst (Holds Why Goes) (sym (data-past f)) (data_state_lem state refl f)))

pub exactly-data : ExactlyData step_of
unfolding step_of data_sent
exactly-data =
    record {
      refused = λ c bytes out x.
          let h : Handshake = c.handshake in
          let next : List ℕ = next_protected h C.Data bytes in
          let n : ℕ = h.protection.protected in
          let z : ℕ = size_of h.protection.keys.mac in
          through (sent-refused c (after_send true c next) next out (data_outcome h (length bytes) (length out)) x)
          (refused_when (WhyData h.state (length bytes) n z (length out))
          (DataGoes h.state (length bytes) n z (length out)) (data_outcome h (length bytes) (length out))
          (data-holds h.state (length bytes) n z (length out))
          (data-because h.state (length bytes) n z (length out)) x);
      goes = λ c bytes out.
          let h : Handshake = c.handshake in
          let next : List ℕ = next_protected h C.Data bytes in
          let n : ℕ = h.protection.protected in
          let z : ℕ = size_of h.protection.keys.mac in
          through (sent-done c (after_send true c next) next out (data_outcome h (length bytes) (length out))
          (3 + length bytes + z) (next_size h C.Data bytes))
          (done-when (WhyData h.state (length bytes) n z (length out))
          (DataGoes h.state (length bytes) n z (length out)) (data_outcome h (length bytes) (length out))
          (data-holds h.state (length bytes) n z (length out))
          (data-goes h.state (length bytes) n z (length out)));
    }

-- ---- a level and a description, known or not

abbrev pub LevelHolds : ℕ → Option Level → Type 0
LevelHolds n (Some l) = (1 ≤ n) × (n ≤ 3)
LevelHolds n None = (n ≡ 0) ⊎ (3 < n)

pub level_holds : (n : ℕ) → LevelHolds n (level_of n)
unfolding level_of
level_holds n =
    decide (eqb n 1) (λ e. rw e (omega (arith, eqb-true n 1 e), omega (arith, eqb-true n 1 e)))
    (λ a. decide (eqb n 2) (λ e. rw (a, e) (omega (arith, eqb-true n 2 e), omega (arith, eqb-true n 2 e)))
    (λ b. decide (eqb n 3) (λ e. rw (a, b, e) (omega (arith, eqb-true n 3 e), omega (arith, eqb-true n 3 e)))
    (λ c. rw (a, b, c)
    (decide (eqb n 0) (λ z. inl (eqb-true n 0 z))
    (λ z. inr (omega (arith, eqb-false n 0 z, eqb-false n 1 a, eqb-false n 2 b, eqb-false n 3 c)))))))

abbrev pub SortedHolds : Bool → Option Description → Type 0
SortedHolds known (Some d) = known ≡ true
SortedHolds known None = known ≡ false

among-holds : (ds : List Description) (n : ℕ) → SortedHolds (is_among (map description_number ds) n) (among ds n)
unfolding among is_among
among-holds [] n = refl
among-holds (d ∷ ds) n =
    decide (eqb (description_number d) n) (λ e. rw e refl) (λ e. rw e (among-holds ds n))

pub sorted-holds : (n : ℕ) → SortedHolds (is_assigned n) (sorted_of n)
unfolding sorted_of
sorted-holds n = among-holds descriptions n

-- ---- send an alert

-- what comes back, by level and description
abbrev alert_outcome_in : Bool → Handshake → ℕ → ℕ → Option Level → Option Description → Result ⊤ Refusal
alert_outcome_in protected h lent room (Some level) (Some description) = alert_outcome protected h lent room
alert_outcome_in protected h lent room (Some level) None = Err X.Argument
alert_outcome_in protected h lent room None (Some description) = Err X.Argument
alert_outcome_in protected h lent room None None = Err X.Argument

alert_refused_lem : (c : Connection) (protected : Bool) (answered out : List ℕ) (g : Option Level) (s : Option Description) (x : Refusal)
    → ((sent_as (alert_sent_as c protected answered (length out) g s) out).result ≡ sent (Err x) 0)
    ↔ (alert_outcome_in protected (sender_of protected c) (length answered) (length out) g s ≡ Err x)
alert_refused_lem c protected answered out (Some level) (Some description) x =
    let next : List ℕ = next_alert protected (sender_of protected c) (alert_body level description answered) in
    sent-refused c (after_send protected c next) next out
    (alert_outcome protected (sender_of protected c) (length answered) (length out)) x
alert_refused_lem c protected answered out (Some level) None x = (λ e. cc, λ e. ap (λ z. sent z 0) e)
alert_refused_lem c protected answered out None (Some description) x = (λ e. cc, λ e. ap (λ z. sent z 0) e)
alert_refused_lem c protected answered out None None x = (λ e. cc, λ e. ap (λ z. sent z 0) e)

alert-size : (protected : Bool) (h : Handshake) (level : Level) (description : Description) (answered : List ℕ)
    → length (next_alert protected h (alert_body level description answered)) ≡ 9 + alert_code_of protected h
alert-size true h level description answered = next_size h C.Alert (alert_body level description answered)
alert-size false h level description answered = clear_size h (alert_body level description answered)

alert_done : (c : Connection) (protected : Bool) (answered out : List ℕ) (g : Option Level) (s : Option Description)
    → ((sent_as (alert_sent_as c protected answered (length out) g s) out).result ≡ sent (Ok tt)
    (9 + alert_code_of protected (sender_of protected c)))
    ↔ (alert_outcome_in protected (sender_of protected c) (length answered) (length out) g s ≡ Ok tt)
alert_done c protected answered out (Some level) (Some description) =
    let next : List ℕ = next_alert protected (sender_of protected c) (alert_body level description answered) in
    sent-done c (after_send protected c next) next out
    (alert_outcome protected (sender_of protected c) (length answered) (length out)) (9 + alert_code_of protected (sender_of protected c))
    (alert-size protected (sender_of protected c) level description answered)
alert_done c protected answered out (Some level) None =
    (λ e. cc, λ e. let z : ◌≡◌ {A = ℕ} 0 1 = cc in absurd (omega arith))
alert_done c protected answered out None (Some description) =
    (λ e. cc, λ e. let z : ◌≡◌ {A = ℕ} 0 1 = cc in absurd (omega arith))
alert_done c protected answered out None None =
    (λ e. cc, λ e. let z : ◌≡◌ {A = ℕ} 0 1 = cc in absurd (omega arith))

-- by the sense, which states may
abbrev may : Bool → State → Result ⊤ Refusal
may true state = may_protect state
may false state = may_clear state

outcome-is : (protected : Bool) (h : Handshake) (lent room : ℕ)
    → alert_outcome protected h lent room ≡ alert_refused (may protected h.state) lent (alert_number_of protected h)
    (alert_code_of protected h) room
outcome-is true h lent room = refl
outcome-is false h lent room = refl

module _ (protected : Bool) (state : State) (level description lent number code room : ℕ) where
  abbrev WhyA : Refusal → Type 0
  WhyA = WhyAlert protected state level description lent number code room

  abbrev GoesA : Type 0
  GoesA = AlertGoes protected state level description lent number code room

  abbrev outcome : Result ⊤ Refusal
  outcome = alert_refused (may protected state) lent number code room

  alert-past : lent ≤ 1400 → outcome ≡ and_then (may protected state) (numbered_by number (9 + code) room)
  unfolding alert_refused
  alert-past l = rw (le-ltb 1400 lent l) refl

  alert-much : 1400 < lent → outcome ≡ Err X.Argument
  unfolding alert_refused
  alert-much l = rw (lt-ltb 1400 lent l) refl

  alert-in : (s : State) (o : Result ⊤ Refusal) → state ≡ s → may protected s ≡ o → lent ≤ 1400
      → outcome ≡ and_then o (numbered_by number (9 + code) room)
  alert-in s o e m l = alert-past l ∙ ap (λ x. and_then x (numbered_by number (9 + code) room)) (ap (may protected) e ∙ m)

  may-done : (b : Bool) → AlertMay b state → may b state ≡ Ok tt
  may-done true (inl e) = ap may_protect e
  may-done true (inr (inl e)) = ap may_protect e
  may-done true (inr (inr e)) = ap may_protect e
  may-done false (inl e) = ap may_clear e
  may-done false (inr e) = ap may_clear e

  may-not : (b : Bool) → AlertMayNot b state → may b state ≡ Err X.NotAllowed
  may-not true e = ap may_protect e
  may-not false (inl e) = ap may_clear e
  may-not false (inr e) = ap may_clear e

  may-over : (b : Bool) → Over state → may b state ≡ Err X.Ended
  may-over true (inl e) = ap may_protect e
  may-over true (inr e) = ap may_protect e
  may-over false (inl e) = ap may_clear e
  may-over false (inr e) = ap may_clear e

  -- where the arguments of 16 that are numbers fit
  alert-because : (x : Refusal) → 1 ≤ level → level ≤ 3 → is_assigned description ≡ true → WhyA x → outcome ≡ Err x
  alert-because X.Argument a b k (inl e) = absurd (omega arith)
  alert-because X.Argument a b k (inr (inl l)) = absurd (omega arith)
  alert-because X.Argument a b k (inr (inr (inl e))) = let z : ◌≡◌ {A = ℕ} 0 1 = cc in absurd (omega arith)
  alert-because X.Argument a b k (inr (inr (inr l))) = alert-much l
  alert-because X.Ended a b k (f, o) = alert-in state (Err X.Ended) refl (may-over protected o) f.3
  alert-because X.NotAllowed a b k (f, n) = alert-in state (Err X.NotAllowed) refl (may-not protected n) f.3
  alert-because X.Spent a b k (f, m, l) = alert-in state (Ok tt) refl (may-done protected m) f.3
      ∙ spent number (9 + code) room l
  alert-because X.Room a b k (f, m, n, l) = alert-in state (Ok tt) refl (may-done protected m) f.3
      ∙ no_room number (9 + code) room n l
  alert-because (X.Framing fault) a b k w = absurd w
  alert-because X.Forged a b k w = absurd w
  alert-because X.TooOld a b k w = absurd w
  alert-because X.Repeated a b k w = absurd w
  alert-because X.Malformed a b k w = absurd w
  alert-because X.Unacceptable a b k w = absurd w
  alert-because X.Checksum a b k w = absurd w
  alert-because X.WrongFinished a b k w = absurd w

  alert_goes : GoesA → outcome ≡ Ok tt
  alert_goes (f, m, n, l) = alert-in state (Ok tt) refl (may-done protected m) f.3 ∙ goes_out number (9 + code) room n l

  -- where they do not: 16, and no other
  alert-unknown : (x : Refusal) → (AlertFits level description lent → ⊥) → WhyA x → ◌≡◌ {A = Result ⊤ Refusal} (Err X.Argument) (Err x)
  alert-unknown X.Argument bad w = refl
  alert-unknown X.Ended bad w = absurd (bad w.0)
  alert-unknown X.NotAllowed bad w = absurd (bad w.0)
  alert-unknown X.Spent bad w = absurd (bad w.0)
  alert-unknown X.Room bad w = absurd (bad w.0)
  alert-unknown (X.Framing fault) bad w = absurd w
  alert-unknown X.Forged bad w = absurd w
  alert-unknown X.TooOld bad w = absurd w
  alert-unknown X.Repeated bad w = absurd w
  alert-unknown X.Malformed bad w = absurd w
  alert-unknown X.Unacceptable bad w = absurd w
  alert-unknown X.Checksum bad w = absurd w
  alert-unknown X.WrongFinished bad w = absurd w

  alert-numbered : (f : AlertFits level description lent) → AlertMay protected state
      → Holds WhyA GoesA (numbered_by number (9 + code) room)
  alert-numbered f m =
      by_number (Holds WhyA GoesA) number (9 + code) room (λ l. (f, m, l)) (λ n l. (f, m, n, l)) (λ n l. (f, m, n, l))

-- by sense and state
alert_state_lem : (protected : Bool) (s : State) (level description lent number code room : ℕ)
    → AlertFits level description lent
    → Holds (WhyAlert protected s level description lent number code room)
    (AlertGoes protected s level description lent number code room)
    (and_then (may protected s) (numbered_by number (9 + code) room))
alert_state_lem true S.Idle level description lent number code room f = (f, refl)
alert_state_lem true S.Replied level description lent number code room f
    = alert-numbered true S.Replied level description lent number code room f (inl refl)
alert_state_lem true S.Spec level description lent number code room f
    = alert-numbered true S.Spec level description lent number code room f (inr (inl refl))
alert_state_lem true S.Open level description lent number code room f
    = alert-numbered true S.Open level description lent number code room f (inr (inr refl))
alert_state_lem true S.Closed level description lent number code room f = (f, inl refl)
alert_state_lem true S.Barred level description lent number code room f = (f, inr refl)
alert_state_lem false S.Idle level description lent number code room f = (f, inl refl)
alert_state_lem false S.Replied level description lent number code room f
    = alert-numbered false S.Replied level description lent number code room f (inl refl)
alert_state_lem false S.Spec level description lent number code room f
    = alert-numbered false S.Spec level description lent number code room f (inr refl)
alert_state_lem false S.Open level description lent number code room f = (f, inr refl)
alert_state_lem false S.Closed level description lent number code room f = (f, inl refl)
alert_state_lem false S.Barred level description lent number code room f = (f, inr refl)

alert-holds : (protected : Bool) (state : State) (level description lent number code room : ℕ) → 1 ≤ level → level ≤ 3
    → is_assigned description ≡ true
    → Holds (WhyAlert protected state level description lent number code room)
    (AlertGoes protected state level description lent number code room)
    (alert_refused (may protected state) lent number code room)
alert-holds protected state level description lent number code room a b k =
    let H : Result ⊤ Refusal → Type 0 = Holds (WhyAlert protected state level description lent number code room)
    (AlertGoes protected state level description lent number code room) in
    decide (ltb 1400 lent)
    (λ e. subst H (sym (alert-much protected state level description lent number code room (ltb-true 1400 lent e)))
    (inr (inr (inr (ltb-true 1400 lent e)))))
    (λ e.
    let f : AlertFits level description lent = (a, b, k, ltb-false 1400 lent e) in
    subst H (sym (alert-past protected state level description lent number code room f.3))
    (alert_state_lem protected state level description lent number code room f))

-- all four: known level and description, or not
module _ (protected : Bool) (h : Handshake) (level description lent room : ℕ) where
  abbrev WhyIn : Refusal → Type 0
  WhyIn = WhyAlert protected h.state level description lent (alert_number_of protected h) (alert_code_of protected h) room

  abbrev GoesIn : Type 0
  GoesIn = AlertGoes protected h.state level description lent (alert_number_of protected h) (alert_code_of protected h) room

  unlevelled : (level ≡ 0) ⊎ (3 < level) → AlertFits level description lent → ⊥
  unlevelled (inl e) f = omega (arith, f.0)
  unlevelled (inr l) f = omega (arith, f.1)

  undescribed : is_assigned description ≡ false → AlertFits level description lent → ⊥
  undescribed e f = let z : ◌≡◌ {A = ℕ} 0 1 = cc f.2 in omega arith

  by_level : (level ≡ 0) ⊎ (3 < level) → WhyIn X.Argument
  by_level (inl e) = inl e
  by_level (inr l) = inr (inl l)

  in-holds : (g : Option Level) (s : Option Description) → LevelHolds level g → SortedHolds (is_assigned description) s
      → Holds WhyIn GoesIn (alert_outcome_in protected h lent room g s)
  in-holds (Some l) (Some d) (a, b) k =
      subst (Holds WhyIn GoesIn) (sym (outcome-is protected h lent room))
      (alert-holds protected h.state level description lent (alert_number_of protected h) (alert_code_of protected h) room a b k)
  in-holds (Some l) None ab k = inr (inr (inl k))
  in-holds None (Some d) u k = by_level u
  in-holds None None u k = by_level u

  in-because : (g : Option Level) (s : Option Description) → LevelHolds level g → SortedHolds (is_assigned description) s
      → (x : Refusal) → WhyIn x → alert_outcome_in protected h lent room g s ≡ Err x
  in-because (Some l) (Some d) (a, b) k x w =
      outcome-is protected h lent room
      ∙ alert-because protected h.state level description lent (alert_number_of protected h)
      (alert_code_of protected h) room x a b k w
  in-because (Some l) None ab k x w =
      alert-unknown protected h.state level description lent (alert_number_of protected h) (alert_code_of protected h) room x
      (undescribed k) w
  in-because None (Some d) u k x w =
      alert-unknown protected h.state level description lent (alert_number_of protected h) (alert_code_of protected h) room x
      (unlevelled u) w
  in-because None None u k x w =
      alert-unknown protected h.state level description lent (alert_number_of protected h) (alert_code_of protected h) room x
      (unlevelled u) w

  in-goes : (g : Option Level) (s : Option Description) → LevelHolds level g → SortedHolds (is_assigned description) s
      → GoesIn → alert_outcome_in protected h lent room g s ≡ Ok tt
  in-goes (Some l) (Some d) ab k w =
      outcome-is protected h lent room
      ∙ alert_goes protected h.state level description lent (alert_number_of protected h) (alert_code_of protected h) room w
  in-goes (Some l) None ab k w = absurd (undescribed k w.0)
  in-goes None (Some d) u k w = absurd (unlevelled u w.0)
  in-goes None None u k w = absurd (unlevelled u w.0)

pub exactly-alert : ExactlyAlert step_of
unfolding step_of alert_sent
exactly-alert =
    record {
      refused = λ c protected level description answered out x.
          let h : Handshake = sender_of protected c in
          let n : ℕ = length answered in
          let room : ℕ = length out in
          through (alert_refused_lem c protected answered out (level_of level) (sorted_of description) x)
          (refused_when (WhyIn protected h level description n room) (GoesIn protected h level description n room)
          (alert_outcome_in protected h n room (level_of level) (sorted_of description))
          (in-holds protected h level description n room (level_of level) (sorted_of description) (level_holds level)
          (sorted-holds description))
          (in-because protected h level description n room (level_of level) (sorted_of description) (level_holds level)
          (sorted-holds description)) x);
      goes = λ c protected level description answered out.
          let h : Handshake = sender_of protected c in
          let n : ℕ = length answered in
          let room : ℕ = length out in
          through (alert_done c protected answered out (level_of level) (sorted_of description))
          (done-when (WhyIn protected h level description n room) (GoesIn protected h level description n room)
          (alert_outcome_in protected h n room (level_of level) (sorted_of description))
          (in-holds protected h level description n room (level_of level) (sorted_of description) (level_holds level)
          (sorted-holds description))
          (in-goes protected h level description n room (level_of level) (sorted_of description) (level_holds level)
          (sorted-holds description)));
    }
