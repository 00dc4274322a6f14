-- The refusals of the unit's calls, exactly when. The idea: the tests of each call are gone through once; each way out has its reason,
-- and each reason its way out.
use mathlib.Core.Path.{◌≡◌, refl, sym, ◌∙◌, ap, ap₂, subst}
use mathlib.Core.Logic.{◌↔◌, ◌⊎◌, inl, inr, ◌≢◌}
use mathlib.Core.Bool.{Bool, true, false}
use mathlib.Core.List.{List, [], ◌∷◌}
use Prim.Native.Nat.{ℕ, ◌+◌, ◌≤◌, ◌<◌}
use native.Mathlib.Omega.{arith}
use lib.ListN.{length}
use lib.Dec.{eqb, ltb, leb}
use borrow.Author.Tests.{eq-eqb, ne_eqb, lt-ltb, le-ltb, le-leb, lt-leb, eqb-true, eqb-false, ltb-true, ltb-false, leb-true, leb-false}
use Rattle.digest.specs.Mac.{size_of, same_bytes}
use Rattle.digest.proofs.Same.{same_equal, equal_same}
use Rattle.record.specs.Protection.{next_record, wrote_by}
use Rattle.record.specs.Window.{Held}
use Rattle.record.specs.declared.header.Content.{Content}
use Rattle.record.specs.declared.header.Content.TheVariants as C
use Rattle.record.specs.declared.keys.Sense.TheVariants.{FromUnit}
use Rattle.record.proofs.Fronts.{record_length}
use Rattle.record.proofs.Protecting.{record_under_length}
use Rattle.message.specs.Alert.{level_of, sorted_of}
use Rattle.message.specs.Offer.{kinds_named, pairs_size, offer_hello}
use Rattle.message.specs.declared.alert.Description.{Description}
use Rattle.message.specs.declared.alert.Level.{Level}
use Rattle.message.specs.declared.offer.Kinds.{Kinds as Offers}
use Rattle.connection.specs.Send.{alert_body}
use Rattle.connection.specs.declared.refusal.Refusal.{Refusal}
use Rattle.connection.specs.declared.refusal.Refusal.TheVariants as X
use Rattle.unit.specs.Calls.{fresh_of, closed_in, started_in}
use Rattle.unit.specs.Hello.{hello_datagram, offer_of, may_hello, greeted_with, hello_as, hello_sent, said_again, hello_said, again_in, again_sent}
use Rattle.unit.specs.Send.{may_protect, may_clear, sent_if, protected_sent, clear_sent, next_clear, data_sent, alert_sent_by, alert_sent_as, alert_sent}
use Rattle.unit.specs.Unit.{flight_of}
use Rattle.unit.specs.declared.send.Sent.{Sent}
use Rattle.unit.specs.declared.state.State.{State}
use Rattle.unit.specs.declared.state.State.TheVariants as S
use Rattle.unit.specs.declared.unit.Unit.{Unit as Ship}
use Rattle.unit.proofs.Greeting.{hello_size_lem}
use Rattle.demands.specs.Exactly.Numbers.{is_assigned}
use Rattle.demands.specs.Exactly.Sends.{DataFits, AlertFits}
use Rattle.demands.specs.Ship.Table.{Midway, Up, Over}
use Rattle.demands.specs.Ship.Runs.{Returned, received, sent, called, step_of}
use Rattle.demands.specs.Ship.ExactlyCalls.{Down, WhyFresh, fresh_16, ExactlyFresh, Kinds, HelloFits, hello_size, WhyHello, hello_16, hello_7, hello_8, hello_6, ExactlyHello}
use Rattle.demands.specs.Ship.ExactlyCalls.{again_bytes, MayAgain, WhyAgain, again_7, again_8, again_6, ExactlyAgain, WhyData, data_16, data_7, data_8, data_15, data_6, ExactlyData}
use Rattle.demands.specs.Ship.ExactlyCalls.{AlertMay, alert_number_of, alert_code_of, WhyAlert, alert_16, alert_7, alert_8, alert_15, alert_6, ExactlyAlert}
use Rattle.demands.specs.Ship.ExactlyCalls.{WhyClose, close_7, ExactlyClose, WhyStart, start_7, start_8, ExactlyStart}
use Rattle.demands.proofs.Exactly.Reasons.{clash, decide}
use Rattle.demands.proofs.Exactly.Sends.{LevelHolds, level_holds, SortedHolds, sorted-holds}
use Rattle.std.specs.Prelude.{Err, None, Ok, Option, Some, ⊤, Result}

-- ---- an outcome and what it wrote

abbrev OutcomeHolds : (Refusal → Type 0) → Type 0 → ℕ → ℕ → Result ⊤ Refusal → Type 0
OutcomeHolds Why Goes size written (Ok tt) = Goes × (written ≡ size)
OutcomeHolds Why Goes size written (Err x) = Why x × (written ≡ 0)

abbrev SentHolds : (Refusal → Type 0) → Type 0 → ℕ → Sent → Type 0
SentHolds Why Goes size s = OutcomeHolds Why Goes size s.written s.outcome

abbrev outcome_in : Returned → Result ⊤ Refusal
outcome_in (received taken answers written) = Ok tt
outcome_in (sent outcome written) = outcome
outcome_in (called outcome) = outcome

module _ (Why : Refusal → Type 0) (Goes : Type 0) (size : ℕ) (s : Sent) (h : SentHolds Why Goes size s) where
  refused-exactly : ((x : Refusal) → Why x → s.outcome ≡ Err x) → (x : Refusal)
      → (sent s.outcome s.written ≡ sent (Err x) 0) ↔ Why x
  refused-exactly b x = (
    λ e. (subst (OutcomeHolds Why Goes size s.written) (ap outcome_in e) h).0,
    λ w. let e = b x w in ap₂ sent e (subst (OutcomeHolds Why Goes size s.written) e h).1,
  )

  goes-exactly : (Goes → s.outcome ≡ Ok tt) → (sent s.outcome s.written ≡ sent (Ok tt) size) ↔ Goes
  goes-exactly b = (
    λ e. (subst (OutcomeHolds Why Goes size s.written) (ap outcome_in e) h).0,
    λ w. let e = b w in ap₂ sent e (subst (OutcomeHolds Why Goes size s.written) e h).1,
  )

-- ---- what a state may

up_protects : (s : State) → Up s → may_protect s ≡ Ok tt
up_protects s (inl e) = ap may_protect e
up_protects s (inr e) = ap may_protect e

down-protects : (s : State) → Down s → may_protect s ≡ Err X.NotAllowed
down-protects s (inl e) = ap may_protect e
down-protects s (inr (inl e)) = ap may_protect e
down-protects s (inr (inr (inl e))) = ap may_protect e
down-protects s (inr (inr (inr e))) = ap may_protect e

over-protects : (s : State) → Over s → may_protect s ≡ Err X.Ended
over-protects s (inl e) = ap may_protect e
over-protects s (inr e) = ap may_protect e

midway-clears : (s : State) → Midway s → may_clear s ≡ Ok tt
midway-clears s (inl e) = ap may_clear e
midway-clears s (inr (inl e)) = ap may_clear e
midway-clears s (inr (inr e)) = ap may_clear e

not-midway-clears : (s : State) → (s ≡ S.Idle) ⊎ Up s → may_clear s ≡ Err X.NotAllowed
not-midway-clears s (inl e) = ap may_clear e
not-midway-clears s (inr (inl e)) = ap may_clear e
not-midway-clears s (inr (inr e)) = ap may_clear e

over-clears : (s : State) → Over s → may_clear s ≡ Err X.Ended
over-clears s (inl e) = ap may_clear e
over-clears s (inr e) = ap may_clear e

abbrev MayHolds : Type 0 → Type 0 → Type 0 → Result ⊤ Refusal → Type 0
MayHolds May MayNot Ends (Ok tt) = May
MayHolds May MayNot Ends (Err X.NotAllowed) = MayNot
MayHolds May MayNot Ends (Err X.Ended) = Ends
MayHolds May MayNot Ends (Err (X.Framing fault)) = ⊥
MayHolds May MayNot Ends (Err X.Room) = ⊥
MayHolds May MayNot Ends (Err X.Forged) = ⊥
MayHolds May MayNot Ends (Err X.TooOld) = ⊥
MayHolds May MayNot Ends (Err X.Repeated) = ⊥
MayHolds May MayNot Ends (Err X.Malformed) = ⊥
MayHolds May MayNot Ends (Err X.Unacceptable) = ⊥
MayHolds May MayNot Ends (Err X.Checksum) = ⊥
MayHolds May MayNot Ends (Err X.Spent) = ⊥
MayHolds May MayNot Ends (Err X.Argument) = ⊥
MayHolds May MayNot Ends (Err X.WrongFinished) = ⊥

protect-holds : (s : State) → MayHolds (Up s) (Down s) (Over s) (may_protect s)
protect-holds S.Idle = inl refl
protect-holds S.Sent = inr (inl refl)
protect-holds S.Replied = inr (inr (inl refl))
protect-holds S.Spec = inr (inr (inr refl))
protect-holds S.Opening = inl refl
protect-holds S.Open = inr refl
protect-holds S.Closed = inl refl
protect-holds S.Barred = inr refl

clear-holds : (s : State) → MayHolds (Midway s) ((s ≡ S.Idle) ⊎ Up s) (Over s) (may_clear s)
clear-holds S.Idle = inl refl
clear-holds S.Sent = inl refl
clear-holds S.Replied = inr (inl refl)
clear-holds S.Spec = inr (inr refl)
clear-holds S.Opening = inr (inl refl)
clear-holds S.Open = inr (inr refl)
clear-holds S.Closed = inl refl
clear-holds S.Barred = inr refl

hello-holds : (s : State) → MayHolds (s ≡ S.Idle) (Midway s ⊎ Up s) (Over s) (may_hello s)
hello-holds S.Idle = refl
hello-holds S.Sent = inl (inl refl)
hello-holds S.Replied = inl (inr (inl refl))
hello-holds S.Spec = inl (inr (inr refl))
hello-holds S.Opening = inr (inl refl)
hello-holds S.Open = inr (inr refl)
hello-holds S.Closed = inl refl
hello-holds S.Barred = inr refl

-- by the state, then what follows
module _ (u : Ship) (May MayNot Ends : Type 0) (Why : Refusal → Type 0) (Goes : Type 0) (size : ℕ) (s : Sent) where
  if-holds : (o : Result ⊤ Refusal) → MayHolds May MayNot Ends o → (MayNot → Why X.NotAllowed) → (Ends → Why X.Ended)
      → (May → SentHolds Why Goes size s) → SentHolds Why Goes size (sent_if u o s)
  if-holds (Ok tt) h n e b = b h
  if-holds (Err X.NotAllowed) h n e b = (n h, refl)
  if-holds (Err X.Ended) h n e b = (e h, refl)
  if-holds (Err (X.Framing fault)) h n e b = absurd h
  if-holds (Err X.Room) h n e b = absurd h
  if-holds (Err X.Forged) h n e b = absurd h
  if-holds (Err X.TooOld) h n e b = absurd h
  if-holds (Err X.Repeated) h n e b = absurd h
  if-holds (Err X.Malformed) h n e b = absurd h
  if-holds (Err X.Unacceptable) h n e b = absurd h
  if-holds (Err X.Checksum) h n e b = absurd h
  if-holds (Err X.Spent) h n e b = absurd h
  if-holds (Err X.Argument) h n e b = absurd h
  if-holds (Err X.WrongFinished) h n e b = absurd h

-- ---- a protected record: 15, then 6

module _ (u : Ship) (content : Content) (body : List ℕ) (room : ℕ) where
  abbrev pub record_size : ℕ
  record_size = 3 + length body + size_of u.protection.keys.mac

  size_is : length (next_record u.protection FromUnit content body) ≡ record_size
  size_is = record_under_length u.protection.keys FromUnit content u.protection.protected body ∙ omega arith

  protected-spent : 65535 < u.protection.protected → (protected_sent u content body room).outcome ≡ Err X.Spent
  unfolding protected_sent wrote_by
  protected-spent l = rw (lt-ltb 65535 u.protection.protected l) refl

  protected-room : u.protection.protected ≤ 65535 → room < record_size → (protected_sent u content body room).outcome ≡ Err X.Room
  unfolding protected_sent wrote_by
  protected-room l m =
      rw (le-ltb 65535 u.protection.protected l, lt-ltb room (length (next_record u.protection FromUnit content body)) (omega (arith, size_is))) refl

  protected_done : u.protection.protected ≤ 65535 → record_size ≤ room → (protected_sent u content body room).outcome ≡ Ok tt
  unfolding protected_sent wrote_by
  protected_done l m =
      rw (le-ltb 65535 u.protection.protected l, le-ltb room (length (next_record u.protection FromUnit content body)) (omega (arith, size_is))) refl

  protected-holds : (Why : Refusal → Type 0) (Goes : Type 0) → (65535 < u.protection.protected → Why X.Spent)
      → (u.protection.protected ≤ 65535 → room < record_size → Why X.Room) → (u.protection.protected ≤ 65535 → record_size ≤ room → Goes)
      → SentHolds Why Goes record_size (protected_sent u content body room)
  unfolding protected_sent wrote_by
  protected-holds Why Goes a b c =
      let n : ℕ = length (next_record u.protection FromUnit content body) in
      decide (ltb 65535 u.protection.protected) (λ e. rw e (a (ltb-true 65535 u.protection.protected e), refl))
      (λ e. decide (ltb room n)
      (λ f. rw (e, f) (b (ltb-false 65535 u.protection.protected e) (omega (arith, ltb-true room n f, size_is)), refl))
      (λ f. rw (e, f) (c (ltb-false 65535 u.protection.protected e) (omega (arith, ltb-false room n f, size_is)), size_is)))

-- ---- send data

module _ (u : Ship) (bytes : List ℕ) (room : ℕ) where
  abbrev DataWhy : Refusal → Type 0
  DataWhy = WhyData u.state (length bytes) u.protection.protected (size_of u.protection.keys.mac) room

  abbrev DataGoes : Type 0
  DataGoes =
      DataFits (length bytes) × Up u.state × (u.protection.protected ≤ 65535) × (3 + length bytes + size_of u.protection.keys.mac ≤ room)

  data-past : DataFits (length bytes) → data_sent u bytes room ≡ sent_if u (may_protect u.state) (protected_sent u C.Data bytes room)
  unfolding data_sent
  data-past f = rw (ne_eqb (length bytes) 0 (λ e. omega (arith, f.0)), le-ltb 1300 (length bytes) f.1) refl

  data-in : (o : Result ⊤ Refusal) → DataFits (length bytes) → may_protect u.state ≡ o → data_sent u bytes room ≡ sent_if u o (protected_sent u C.Data bytes room)
  data-in o f e = data-past f ∙ ap (λ x. sent_if u x (protected_sent u C.Data bytes room)) e

  data-because : (x : Refusal) → DataWhy x → (data_sent u bytes room).outcome ≡ Err x
  unfolding data_sent
  data-because (X.Framing _) x3 = elim x3 [ ]
  data-because X.Forged x3 = elim x3 [ ]
  data-because X.TooOld x4 = elim x4 [ ]
  data-because X.Repeated x5 = elim x5 [ ]
  data-because X.Malformed x6 = elim x6 [ ]
  data-because X.Unacceptable x7 = elim x7 [ ]
  data-because X.Checksum x8 = elim x8 [ ]
  data-because X.WrongFinished x9 = elim x9 [ ]
  data-because X.Argument (data_16 (inl e)) = rw (eq-eqb (length bytes) 0 e) refl
  data-because X.Argument (data_16 (inr l)) = rw (ne_eqb (length bytes) 0 (λ e. omega arith), lt-ltb 1300 (length bytes) l) refl
  data-because X.Ended (data_7 f o) = ap (λ s. s.outcome) (data-in (Err X.Ended) f (over-protects u.state o))
  data-because X.NotAllowed (data_8 f o) = ap (λ s. s.outcome) (data-in (Err X.NotAllowed) f (down-protects u.state o))
  data-because X.Spent (data_15 f o l) =
      ap (λ s. s.outcome) (data-in (Ok tt) f (up_protects u.state o)) ∙ protected-spent u C.Data bytes room l
  data-because X.Room (data_6 f o n l) =
      ap (λ s. s.outcome) (data-in (Ok tt) f (up_protects u.state o)) ∙ protected-room u C.Data bytes room n l

  data-goes : DataGoes → (data_sent u bytes room).outcome ≡ Ok tt
  data-goes (f, o, n, l) =
      ap (λ s. s.outcome) (data-in (Ok tt) f (up_protects u.state o)) ∙ protected_done u C.Data bytes room n l

  data-holds : SentHolds DataWhy DataGoes (3 + length bytes + size_of u.protection.keys.mac) (data_sent u bytes room)
  unfolding data_sent
  data-holds =
      decide (eqb (length bytes) 0) (λ e. rw e (data_16 (inl (eqb-true (length bytes) 0 e)), refl))
      (λ e. decide (ltb 1300 (length bytes)) (λ f. rw (e, f) (data_16 (inr (ltb-true 1300 (length bytes) f)), refl))
      (λ f.
      let fits : DataFits (length bytes) = (omega (arith, eqb-false (length bytes) 0 e), ltb-false 1300 (length bytes) f) in
      rw (e, f)
      (if-holds u (Up u.state) (Down u.state) (Over u.state) DataWhy DataGoes (3 + length bytes + size_of u.protection.keys.mac)
      (protected_sent u C.Data bytes room) (may_protect u.state) (protect-holds u.state) (λ o. data_8 fits o) (λ o. data_7 fits o)
      (λ o. protected-holds u C.Data bytes room DataWhy DataGoes (λ l. data_15 fits o l) (λ n l. data_6 fits o n l) (λ n l. (fits, o, n, l))))))

pub exactly-data : ExactlyData step_of
unfolding step_of
exactly-data =
    record {
      refused = λ u bytes out x.
          refused-exactly (DataWhy u bytes (length out)) (DataGoes u bytes (length out)) (3 + length bytes + size_of u.protection.keys.mac)
          (data_sent u bytes (length out)) (data-holds u bytes (length out)) (data-because u bytes (length out)) x;
      goes = λ u bytes out.
          goes-exactly (DataWhy u bytes (length out)) (DataGoes u bytes (length out)) (3 + length bytes + size_of u.protection.keys.mac)
          (data_sent u bytes (length out)) (data-holds u bytes (length out)) (data-goes u bytes (length out));
    }

-- ---- send an alert

-- a clear one
module _ (u : Ship) (level : Level) (description : Description) (answered : List ℕ) (room : ℕ) where
  abbrev body : List ℕ
  body = alert_body level description answered

  clear_size : length (next_clear u body) ≡ 9
  clear_size = record_length false false C.Alert u.protection.clear body ∙ omega arith

  clear-spent : 65535 < u.protection.clear → (clear_sent u body room).outcome ≡ Err X.Spent
  unfolding clear_sent
  clear-spent l = rw (lt-ltb 65535 u.protection.clear l) refl

  clear_room : u.protection.clear ≤ 65535 → room < 9 → (clear_sent u body room).outcome ≡ Err X.Room
  unfolding clear_sent
  clear_room l m = rw (le-ltb 65535 u.protection.clear l, lt-leb (length (next_clear u body)) room (omega (arith, clear_size))) refl

  clear-done : u.protection.clear ≤ 65535 → 9 ≤ room → (clear_sent u body room).outcome ≡ Ok tt
  unfolding clear_sent
  clear-done l m = rw (le-ltb 65535 u.protection.clear l, le-leb (length (next_clear u body)) room (omega (arith, clear_size))) refl

  clear-sent-holds : (Why : Refusal → Type 0) (Goes : Type 0) → (65535 < u.protection.clear → Why X.Spent)
      → (u.protection.clear ≤ 65535 → room < 9 → Why X.Room) → (u.protection.clear ≤ 65535 → 9 ≤ room → Goes)
      → SentHolds Why Goes 9 (clear_sent u body room)
  unfolding clear_sent
  clear-sent-holds Why Goes a b c =
      let n : ℕ = length (next_clear u body) in
      decide (ltb 65535 u.protection.clear) (λ e. rw e (a (ltb-true 65535 u.protection.clear e), refl))
      (λ e. decide (leb n room)
      (λ f. rw (e, f) (c (ltb-false 65535 u.protection.clear e) (omega (arith, leb-true n room f, clear_size)), clear_size))
      (λ f. rw (e, f) (b (ltb-false 65535 u.protection.clear e) (omega (arith, leb-false n room f, clear_size)), refl)))

module _ (u : Ship) (level description : ℕ) (answered : List ℕ) (room : ℕ) where
  abbrev AlertWhy : Bool → Refusal → Type 0
  AlertWhy protected =
      WhyAlert protected u.state level description (length answered) (alert_number_of protected u) (alert_code_of protected u) room

  abbrev AlertGoes : Bool → Type 0
  AlertGoes protected =
      AlertFits level description (length answered) × AlertMay protected u.state × (alert_number_of protected u ≤ 65535)
      × (9 + alert_code_of protected u ≤ room)

  -- past 16
  module _ (fits : AlertFits level description (length answered)) (l : Level) (k : Description) where
    by-holds : (protected : Bool)
        → SentHolds (AlertWhy protected) (AlertGoes protected) (9 + alert_code_of protected u) (alert_sent_by u protected (alert_body l k answered) room)
    unfolding alert_sent_by
    by-holds true =
        if-holds u (Up u.state) (Down u.state) (Over u.state) (AlertWhy true) (AlertGoes true) (9 + alert_code_of true u)
        (protected_sent u C.Alert (alert_body l k answered) room) (may_protect u.state) (protect-holds u.state) (λ o. alert_8 fits o) (λ o. alert_7 fits o)
        (λ o. protected-holds u C.Alert (alert_body l k answered) room (AlertWhy true) (AlertGoes true) (λ n. alert_15 fits o n)
        (λ n m. alert_6 fits o n m) (λ n m. (fits, o, n, m)))
    by-holds false =
        if-holds u (Midway u.state) ((u.state ≡ S.Idle) ⊎ Up u.state) (Over u.state) (AlertWhy false) (AlertGoes false) 9
        (clear_sent u (alert_body l k answered) room) (may_clear u.state) (clear-holds u.state) (λ o. alert_8 fits o) (λ o. alert_7 fits o)
        (λ o. clear-sent-holds u l k answered room (AlertWhy false) (AlertGoes false) (λ n. alert_15 fits o n)
        (λ n m. alert_6 fits o n m) (λ n m. (fits, o, n, m)))

  as-holds : (protected : Bool) (g : Option Level) (s : Option Description) → LevelHolds level g → SortedHolds (is_assigned description) s
      → SentHolds (AlertWhy protected) (AlertGoes protected) (9 + alert_code_of protected u) (alert_sent_as u protected answered room g s)
  as-holds protected (Some l) (Some k) (a, b) e =
      decide (ltb 1400 (length answered))
      (λ f. rw f (alert_16 (λ w. omega (arith, ltb-true 1400 (length answered) f, w.3)), refl))
      (λ f. rw f (by-holds (a, b, e, ltb-false 1400 (length answered) f) l k protected))
  as-holds protected (Some l) None h e = (alert_16 (λ w. clash (sym w.2 ∙ e)), refl)
  as-holds protected None (Some k) h e = (alert_16 (λ w. not-level h w), refl)
    where
      not-level : (level ≡ 0) ⊎ (3 < level) → AlertFits level description (length answered) → ⊥
      not-level (inl z) w = omega (arith, w.0)
      not-level (inr z) w = omega (arith, w.1)
  as-holds protected None None h e = (alert_16 (λ w. clash (sym w.2 ∙ e)), refl)

  alert-holds : (protected : Bool)
      → SentHolds (AlertWhy protected) (AlertGoes protected) (9 + alert_code_of protected u) (alert_sent u protected level description answered room)
  unfolding alert_sent
  alert-holds protected = as-holds protected (level_of level) (sorted_of description) (level_holds level) (sorted-holds description)

  -- where the arguments fit
  alert-past : (protected : Bool) → AlertFits level description (length answered)
      → (l : Level) × (k : Description) × (alert_sent u protected level description answered room ≡ alert_sent_by u protected (alert_body l k answered) room)
  unfolding alert_sent
  alert-past protected f = go (level_of level) (sorted_of description) (level_holds level) (sorted-holds description)
    where
      go : (g : Option Level) (s : Option Description) → LevelHolds level g → SortedHolds (is_assigned description) s
          → (l : Level) × (k : Description) × (alert_sent_as u protected answered room g s ≡ alert_sent_by u protected (alert_body l k answered) room)
      go (Some l) (Some k) a e = (l, k, rw (le-ltb 1400 (length answered) f.3) refl)
      go (Some l) None a e = clash (sym f.2 ∙ e)
      go None s (inl z) e = absurd (omega (arith, f.0))
      go None s (inr z) e = absurd (omega (arith, f.1))

  alert-because : (protected : Bool) (x : Refusal) → AlertWhy protected x → (alert_sent u protected level description answered room).outcome ≡ Err x
  unfolding alert_sent_by
  alert-because protected (X.Framing _) x3 = elim x3 [ ]
  alert-because protected X.Forged x3 = elim x3 [ ]
  alert-because protected X.TooOld x4 = elim x4 [ ]
  alert-because protected X.Repeated x5 = elim x5 [ ]
  alert-because protected X.Malformed x6 = elim x6 [ ]
  alert-because protected X.Unacceptable x7 = elim x7 [ ]
  alert-because protected X.Checksum x8 = elim x8 [ ]
  alert-because protected X.WrongFinished x9 = elim x9 [ ]
  alert-because protected X.Argument (alert_16 n) = unfit (alert_sent u protected level description answered room) (alert-holds protected)
    where
      unfit : (s : Sent) → SentHolds (AlertWhy protected) (AlertGoes protected) (9 + alert_code_of protected u) s → s.outcome ≡ Err X.Argument
      unfit s h = by s.outcome h
        where
          by : (o : Result ⊤ Refusal) → OutcomeHolds (AlertWhy protected) (AlertGoes protected) (9 + alert_code_of protected u) s.written o → o ≡ Err X.Argument
          by (Ok tt) (g, e) = absurd (n g.0)
          by (Err (X.Framing _)) (w, e) = elim w [ ]
          by (Err X.Forged) (w, e) = elim w [ ]
          by (Err X.TooOld) (w, e) = elim w [ ]
          by (Err X.Repeated) (w, e) = elim w [ ]
          by (Err X.Malformed) (w, e) = elim w [ ]
          by (Err X.Unacceptable) (w, e) = elim w [ ]
          by (Err X.Checksum) (w, e) = elim w [ ]
          by (Err X.WrongFinished) (w, e) = elim w [ ]
          by (Err X.Argument) (alert_16 m, e) = refl
          by (Err X.Ended) (alert_7 f o, e) = absurd (n f)
          by (Err X.NotAllowed) (alert_8 f o, e) = absurd (n f)
          by (Err X.Spent) (alert_15 f o l, e) = absurd (n f)
          by (Err X.Room) (alert_6 f o l m, e) = absurd (n f)
  alert-because true X.Ended (alert_7 f o) =
      let t = alert-past true f in
      ap (λ s. s.outcome) t.2 ∙ ap (λ x. (sent_if u x (protected_sent u C.Alert (alert_body t.0 t.1 answered) room)).outcome) (over-protects u.state o)
  alert-because false X.Ended (alert_7 f o) =
      let t = alert-past false f in
      ap (λ s. s.outcome) t.2 ∙ ap (λ x. (sent_if u x (clear_sent u (alert_body t.0 t.1 answered) room)).outcome) (over-clears u.state o)
  alert-because true X.NotAllowed (alert_8 f o) =
      let t = alert-past true f in
      ap (λ s. s.outcome) t.2 ∙ ap (λ x. (sent_if u x (protected_sent u C.Alert (alert_body t.0 t.1 answered) room)).outcome) (down-protects u.state o)
  alert-because false X.NotAllowed (alert_8 f o) =
      let t = alert-past false f in
      ap (λ s. s.outcome) t.2 ∙ ap (λ x. (sent_if u x (clear_sent u (alert_body t.0 t.1 answered) room)).outcome) (not-midway-clears u.state o)
  alert-because true X.Spent (alert_15 f o n) =
      let t = alert-past true f in
      ap (λ s. s.outcome) t.2 ∙ ap (λ x. (sent_if u x (protected_sent u C.Alert (alert_body t.0 t.1 answered) room)).outcome) (up_protects u.state o)
      ∙ protected-spent u C.Alert (alert_body t.0 t.1 answered) room n
  alert-because false X.Spent (alert_15 f o n) =
      let t = alert-past false f in
      ap (λ s. s.outcome) t.2 ∙ ap (λ x. (sent_if u x (clear_sent u (alert_body t.0 t.1 answered) room)).outcome) (midway-clears u.state o)
      ∙ clear-spent u t.0 t.1 answered room n
  alert-because true X.Room (alert_6 f o n m) =
      let t = alert-past true f in
      ap (λ s. s.outcome) t.2 ∙ ap (λ x. (sent_if u x (protected_sent u C.Alert (alert_body t.0 t.1 answered) room)).outcome) (up_protects u.state o)
      ∙ protected-room u C.Alert (alert_body t.0 t.1 answered) room n m
  alert-because false X.Room (alert_6 f o n m) =
      let t = alert-past false f in
      ap (λ s. s.outcome) t.2 ∙ ap (λ x. (sent_if u x (clear_sent u (alert_body t.0 t.1 answered) room)).outcome) (midway-clears u.state o)
      ∙ clear_room u t.0 t.1 answered room n m

  alert_goes : (protected : Bool) → AlertGoes protected → (alert_sent u protected level description answered room).outcome ≡ Ok tt
  unfolding alert_sent_by
  alert_goes true (f, o, n, m) =
      let t = alert-past true f in
      ap (λ s. s.outcome) t.2 ∙ ap (λ x. (sent_if u x (protected_sent u C.Alert (alert_body t.0 t.1 answered) room)).outcome) (up_protects u.state o)
      ∙ protected_done u C.Alert (alert_body t.0 t.1 answered) room n m
  alert_goes false (f, o, n, m) =
      let t = alert-past false f in
      ap (λ s. s.outcome) t.2 ∙ ap (λ x. (sent_if u x (clear_sent u (alert_body t.0 t.1 answered) room)).outcome) (midway-clears u.state o)
      ∙ clear-done u t.0 t.1 answered room n m

pub exactly-alert : ExactlyAlert step_of
unfolding step_of
exactly-alert =
    record {
      refused = λ u protected level description answered out x.
          refused-exactly (AlertWhy u level description answered (length out) protected) (AlertGoes u level description answered (length out) protected)
          (9 + alert_code_of protected u) (alert_sent u protected level description answered (length out))
          (alert-holds u level description answered (length out) protected) (alert-because u level description answered (length out) protected) x;
      goes = λ u protected level description answered out.
          goes-exactly (AlertWhy u level description answered (length out) protected) (AlertGoes u level description answered (length out) protected)
          (9 + alert_code_of protected u) (alert_sent u protected level description answered (length out))
          (alert-holds u level description answered (length out) protected) (alert_goes u level description answered (length out) protected);
    }

-- ---- hello

-- the kinds that are named
abbrev NamedHolds : List ℕ → Option Offers → Type 0
NamedHolds macs (Some kinds) = Kinds macs × (pairs_size kinds ≡ length macs + length macs)
NamedHolds macs None = Kinds macs → ⊥

named-holds : (macs : List ℕ) → NamedHolds macs (kinds_named macs)
unfolding kinds_named
named-holds macs =
    decide (same_bytes macs (2 ∷ [])) (λ a. let e = same_equal macs (2 ∷ []) a in rw a (inl e, sym (ap (λ l. length l + length l) e)))
    (λ a. decide (same_bytes macs (3 ∷ [])) (λ b. let e = same_equal macs (3 ∷ []) b in rw (a, b) (inr (inl e), sym (ap (λ l. length l + length l) e)))
    (λ b. decide (same_bytes macs (2 ∷ 3 ∷ [])) (λ c. let e = same_equal macs (2 ∷ 3 ∷ []) c in rw (a, b, c) (inr (inr (inl e)), sym (ap (λ l. length l + length l) e)))
    (λ c. decide (same_bytes macs (3 ∷ 2 ∷ [])) (λ d. let e = same_equal macs (3 ∷ 2 ∷ []) d in rw (a, b, c, d) (inr (inr (inr e)), sym (ap (λ l. length l + length l) e)))
    (λ d. rw (a, b, c, d) (λ k. none_of a b c d k)))))
  where
    none_of : same_bytes macs (2 ∷ []) ≡ false → same_bytes macs (3 ∷ []) ≡ false → same_bytes macs (2 ∷ 3 ∷ []) ≡ false
        → same_bytes macs (3 ∷ 2 ∷ []) ≡ false → Kinds macs → ⊥
    none_of a b c d (inl e) = clash (sym (equal_same macs (2 ∷ []) e) ∙ a)
    none_of a b c d (inr (inl e)) = clash (sym (equal_same macs (3 ∷ []) e) ∙ b)
    none_of a b c d (inr (inr (inl e))) = clash (sym (equal_same macs (2 ∷ 3 ∷ []) e) ∙ c)
    none_of a b c d (inr (inr (inr e))) = clash (sym (equal_same macs (3 ∷ 2 ∷ []) e) ∙ d)

module _ (u : Ship) (id8 : length u.id ≡ 8) (random macs : List ℕ) (refresh room : ℕ) where
  abbrev HelloWhy : Refusal → Type 0
  HelloWhy = WhyHello u.state (length random) macs refresh room

  abbrev HelloGoes : Type 0
  HelloGoes = HelloFits (length random) macs refresh × (u.state ≡ S.Idle) × (hello_size macs ≤ room)

  said-size : (kinds : Offers) → length random ≡ 16 → pairs_size kinds ≡ length macs + length macs
      → length (hello_datagram u.id random (offer_of kinds refresh)) ≡ hello_size macs
  unfolding hello_datagram
  said-size kinds lr e =
      record_length false false C.Handshake 0 (offer_hello random u.id (offer_of kinds refresh))
      ∙ omega (arith, hello_size_lem random u.id (offer_of kinds refresh) lr id8, e)

  named-sent : (lr : length random ≡ 16) (l : refresh ≤ 255) (n : Option Offers) → NamedHolds macs n
      → SentHolds HelloWhy HelloGoes (hello_size macs) (hello_as u random refresh room n)
  unfolding greeted_with
  named-sent lr l (Some kinds) (k, e) =
      let fits : HelloFits (length random) macs refresh = (lr, l, k) in
      let n : ℕ = length (hello_datagram u.id random (offer_of kinds refresh)) in
      let size = said-size kinds lr e in
      if-holds u (u.state ≡ S.Idle) (Midway u.state ⊎ Up u.state) (Over u.state) HelloWhy HelloGoes (hello_size macs)
      (greeted_with u random (offer_of kinds refresh) room) (may_hello u.state) (hello-holds u.state) (λ o. hello_8 fits o) (λ o. hello_7 fits o)
      (λ o. decide (leb n room)
      (λ f. rw f ((fits, o, omega (arith, leb-true n room f, size)), size))
      (λ f. rw f (hello_6 fits o (omega (arith, leb-false n room f, size)), refl)))
  named-sent lr l None h = (hello_16 (λ f. h f.2), refl)

  hello-sent-holds : SentHolds HelloWhy HelloGoes (hello_size macs) (hello_sent u random macs refresh room)
  unfolding hello_sent
  hello-sent-holds =
      decide (eqb (length random) 16)
      (λ a. decide (ltb 255 refresh)
      (λ b. rw (a, b) (hello_16 (λ f. omega (arith, ltb-true 255 refresh b, f.1)), refl))
      (λ b. rw (a, b) (named-sent (eqb-true (length random) 16 a) (ltb-false 255 refresh b) (kinds_named macs) (named-holds macs))))
      (λ a. rw a (hello_16 (λ f. eqb-false (length random) 16 a f.0), refl))

  -- states exclude each other
  clash-state : {P : Type 0} → u.state ≡ S.Idle → (Over u.state) ⊎ (Midway u.state ⊎ Up u.state) → P
  clash-state e (inl (inl f)) = let y = sym e ∙ f in let z : ◌≡◌ {A = ℕ} 0 1 = cc in absurd (omega arith)
  clash-state e (inl (inr f)) = let y = sym e ∙ f in let z : ◌≡◌ {A = ℕ} 0 1 = cc in absurd (omega arith)
  clash-state e (inr (inl (inl f))) = let y = sym e ∙ f in let z : ◌≡◌ {A = ℕ} 0 1 = cc in absurd (omega arith)
  clash-state e (inr (inl (inr (inl f)))) = let y = sym e ∙ f in let z : ◌≡◌ {A = ℕ} 0 1 = cc in absurd (omega arith)
  clash-state e (inr (inl (inr (inr f)))) = let y = sym e ∙ f in let z : ◌≡◌ {A = ℕ} 0 1 = cc in absurd (omega arith)
  clash-state e (inr (inr (inl f))) = let y = sym e ∙ f in let z : ◌≡◌ {A = ℕ} 0 1 = cc in absurd (omega arith)
  clash-state e (inr (inr (inr f))) = let y = sym e ∙ f in let z : ◌≡◌ {A = ℕ} 0 1 = cc in absurd (omega arith)

  over-not : {P : Type 0} → Over u.state → Midway u.state ⊎ Up u.state → P
  over-not (inl e) (inl (inl f)) = let y = sym e ∙ f in let z : ◌≡◌ {A = ℕ} 0 1 = cc in absurd (omega arith)
  over-not (inl e) (inl (inr (inl f))) = let y = sym e ∙ f in let z : ◌≡◌ {A = ℕ} 0 1 = cc in absurd (omega arith)
  over-not (inl e) (inl (inr (inr f))) = let y = sym e ∙ f in let z : ◌≡◌ {A = ℕ} 0 1 = cc in absurd (omega arith)
  over-not (inl e) (inr (inl f)) = let y = sym e ∙ f in let z : ◌≡◌ {A = ℕ} 0 1 = cc in absurd (omega arith)
  over-not (inl e) (inr (inr f)) = let y = sym e ∙ f in let z : ◌≡◌ {A = ℕ} 0 1 = cc in absurd (omega arith)
  over-not (inr e) (inl (inl f)) = let y = sym e ∙ f in let z : ◌≡◌ {A = ℕ} 0 1 = cc in absurd (omega arith)
  over-not (inr e) (inl (inr (inl f))) = let y = sym e ∙ f in let z : ◌≡◌ {A = ℕ} 0 1 = cc in absurd (omega arith)
  over-not (inr e) (inl (inr (inr f))) = let y = sym e ∙ f in let z : ◌≡◌ {A = ℕ} 0 1 = cc in absurd (omega arith)
  over-not (inr e) (inr (inl f)) = let y = sym e ∙ f in let z : ◌≡◌ {A = ℕ} 0 1 = cc in absurd (omega arith)
  over-not (inr e) (inr (inr f)) = let y = sym e ∙ f in let z : ◌≡◌ {A = ℕ} 0 1 = cc in absurd (omega arith)

  -- an outcome that holds is the only one for which there is a reason
  only : (o : Result ⊤ Refusal) (written : ℕ) → OutcomeHolds HelloWhy HelloGoes (hello_size macs) written o → (x : Refusal) → HelloWhy x → o ≡ Err x
  only (Ok tt) written ((f, i, l), e) (X.Framing _) x13 = elim x13 [ ]
  only (Ok tt) written ((f, i, l), e) X.Forged x13 = elim x13 [ ]
  only (Ok tt) written ((f, i, l), e) X.TooOld x14 = elim x14 [ ]
  only (Ok tt) written ((f, i, l), e) X.Repeated x15 = elim x15 [ ]
  only (Ok tt) written ((f, i, l), e) X.Malformed x16 = elim x16 [ ]
  only (Ok tt) written ((f, i, l), e) X.Unacceptable x17 = elim x17 [ ]
  only (Ok tt) written ((f, i, l), e) X.Checksum x18 = elim x18 [ ]
  only (Ok tt) written ((f, i, l), e) X.Spent x19 = elim x19 [ ]
  only (Ok tt) written ((f, i, l), e) X.WrongFinished x20 = elim x20 [ ]
  only (Err (X.Framing _)) written (w, e) _ _ = elim w [ ]
  only (Err X.Room) written (hello_6 f i l, e) (X.Framing _) x22 = elim x22 [ ]
  only (Err X.Room) written (hello_6 f i l, e) X.Forged x22 = elim x22 [ ]
  only (Err X.Room) written (hello_6 f i l, e) X.TooOld x23 = elim x23 [ ]
  only (Err X.Room) written (hello_6 f i l, e) X.Repeated x24 = elim x24 [ ]
  only (Err X.Room) written (hello_6 f i l, e) X.Malformed x25 = elim x25 [ ]
  only (Err X.Room) written (hello_6 f i l, e) X.Unacceptable x26 = elim x26 [ ]
  only (Err X.Room) written (hello_6 f i l, e) X.Checksum x27 = elim x27 [ ]
  only (Err X.Room) written (hello_6 f i l, e) X.Spent x28 = elim x28 [ ]
  only (Err X.Room) written (hello_6 f i l, e) X.WrongFinished x29 = elim x29 [ ]
  only (Err X.Ended) written (hello_7 f o, e) (X.Framing _) x23 = elim x23 [ ]
  only (Err X.Ended) written (hello_7 f o, e) X.Forged x23 = elim x23 [ ]
  only (Err X.Ended) written (hello_7 f o, e) X.TooOld x24 = elim x24 [ ]
  only (Err X.Ended) written (hello_7 f o, e) X.Repeated x25 = elim x25 [ ]
  only (Err X.Ended) written (hello_7 f o, e) X.Malformed x26 = elim x26 [ ]
  only (Err X.Ended) written (hello_7 f o, e) X.Unacceptable x27 = elim x27 [ ]
  only (Err X.Ended) written (hello_7 f o, e) X.Checksum x28 = elim x28 [ ]
  only (Err X.Ended) written (hello_7 f o, e) X.Spent x29 = elim x29 [ ]
  only (Err X.Ended) written (hello_7 f o, e) X.WrongFinished x30 = elim x30 [ ]
  only (Err X.NotAllowed) written (hello_8 f o, e) (X.Framing _) x24 = elim x24 [ ]
  only (Err X.NotAllowed) written (hello_8 f o, e) X.Forged x24 = elim x24 [ ]
  only (Err X.NotAllowed) written (hello_8 f o, e) X.TooOld x25 = elim x25 [ ]
  only (Err X.NotAllowed) written (hello_8 f o, e) X.Repeated x26 = elim x26 [ ]
  only (Err X.NotAllowed) written (hello_8 f o, e) X.Malformed x27 = elim x27 [ ]
  only (Err X.NotAllowed) written (hello_8 f o, e) X.Unacceptable x28 = elim x28 [ ]
  only (Err X.NotAllowed) written (hello_8 f o, e) X.Checksum x29 = elim x29 [ ]
  only (Err X.NotAllowed) written (hello_8 f o, e) X.Spent x30 = elim x30 [ ]
  only (Err X.NotAllowed) written (hello_8 f o, e) X.WrongFinished x31 = elim x31 [ ]
  only (Err X.Forged) written (w, e) _ _ = elim w [ ]
  only (Err X.TooOld) written (w, e) _ _ = elim w [ ]
  only (Err X.Repeated) written (w, e) _ _ = elim w [ ]
  only (Err X.Malformed) written (w, e) _ _ = elim w [ ]
  only (Err X.Unacceptable) written (w, e) _ _ = elim w [ ]
  only (Err X.Checksum) written (w, e) _ _ = elim w [ ]
  only (Err X.Spent) written (w, e) _ _ = elim w [ ]
  only (Err X.Argument) written (hello_16 m, e) (X.Framing _) x32 = elim x32 [ ]
  only (Err X.Argument) written (hello_16 m, e) X.Forged x32 = elim x32 [ ]
  only (Err X.Argument) written (hello_16 m, e) X.TooOld x33 = elim x33 [ ]
  only (Err X.Argument) written (hello_16 m, e) X.Repeated x34 = elim x34 [ ]
  only (Err X.Argument) written (hello_16 m, e) X.Malformed x35 = elim x35 [ ]
  only (Err X.Argument) written (hello_16 m, e) X.Unacceptable x36 = elim x36 [ ]
  only (Err X.Argument) written (hello_16 m, e) X.Checksum x37 = elim x37 [ ]
  only (Err X.Argument) written (hello_16 m, e) X.Spent x38 = elim x38 [ ]
  only (Err X.Argument) written (hello_16 m, e) X.WrongFinished x39 = elim x39 [ ]
  only (Err X.WrongFinished) written (w, e) _ _ = elim w [ ]
  only (Ok tt) written ((f, i, l), e) X.Argument (hello_16 n) = absurd (n f)
  only (Ok tt) written ((f, i, l), e) X.Ended (hello_7 g o) = clash-state i (inl o)
  only (Ok tt) written ((f, i, l), e) X.NotAllowed (hello_8 g o) = clash-state i (inr o)
  only (Ok tt) written ((f, i, l), e) X.Room (hello_6 g j m) = absurd (omega arith)
  only (Err X.Argument) written (hello_16 m, e) X.Argument (hello_16 n) = refl
  only (Err X.Argument) written (hello_16 m, e) X.Ended (hello_7 g o) = absurd (m g)
  only (Err X.Argument) written (hello_16 m, e) X.NotAllowed (hello_8 g o) = absurd (m g)
  only (Err X.Argument) written (hello_16 m, e) X.Room (hello_6 g j l) = absurd (m g)
  only (Err X.Ended) written (hello_7 f o, e) X.Argument (hello_16 n) = absurd (n f)
  only (Err X.Ended) written (hello_7 f o, e) X.Ended (hello_7 g p) = refl
  only (Err X.Ended) written (hello_7 f o, e) X.NotAllowed (hello_8 g p) = over-not o p
  only (Err X.Ended) written (hello_7 f o, e) X.Room (hello_6 g j l) = clash-state j (inl o)
  only (Err X.NotAllowed) written (hello_8 f o, e) X.Argument (hello_16 n) = absurd (n f)
  only (Err X.NotAllowed) written (hello_8 f o, e) X.Ended (hello_7 g p) = over-not p o
  only (Err X.NotAllowed) written (hello_8 f o, e) X.NotAllowed (hello_8 g p) = refl
  only (Err X.NotAllowed) written (hello_8 f o, e) X.Room (hello_6 g j l) = clash-state j (inr o)
  only (Err X.Room) written (hello_6 f i l, e) X.Argument (hello_16 n) = absurd (n f)
  only (Err X.Room) written (hello_6 f i l, e) X.Ended (hello_7 g p) = clash-state i (inl p)
  only (Err X.Room) written (hello_6 f i l, e) X.NotAllowed (hello_8 g p) = clash-state i (inr p)
  only (Err X.Room) written (hello_6 f i l, e) X.Room (hello_6 g j m) = refl

  only-done : (o : Result ⊤ Refusal) (written : ℕ) → OutcomeHolds HelloWhy HelloGoes (hello_size macs) written o → HelloGoes → o ≡ Ok tt
  only-done (Ok tt) written h g = refl
  only-done (Err (X.Framing _)) written (w, e) g = elim w [ ]
  only-done (Err X.Forged) written (w, e) g = elim w [ ]
  only-done (Err X.TooOld) written (w, e) g = elim w [ ]
  only-done (Err X.Repeated) written (w, e) g = elim w [ ]
  only-done (Err X.Malformed) written (w, e) g = elim w [ ]
  only-done (Err X.Unacceptable) written (w, e) g = elim w [ ]
  only-done (Err X.Checksum) written (w, e) g = elim w [ ]
  only-done (Err X.Spent) written (w, e) g = elim w [ ]
  only-done (Err X.WrongFinished) written (w, e) g = elim w [ ]
  only-done (Err X.Argument) written (hello_16 n, e) (f, i, l) = absurd (n f)
  only-done (Err X.Ended) written (hello_7 g o, e) (f, i, l) = clash-state i (inl o)
  only-done (Err X.NotAllowed) written (hello_8 g o, e) (f, i, l) = clash-state i (inr o)
  only-done (Err X.Room) written (hello_6 g j m, e) (f, i, l) = absurd (omega arith)

  hello-because : (x : Refusal) → HelloWhy x → (hello_sent u random macs refresh room).outcome ≡ Err x
  hello-because x w =
      only (hello_sent u random macs refresh room).outcome (hello_sent u random macs refresh room).written hello-sent-holds x w

  hello-goes : HelloGoes → (hello_sent u random macs refresh room).outcome ≡ Ok tt
  hello-goes w = only-done (hello_sent u random macs refresh room).outcome (hello_sent u random macs refresh room).written hello-sent-holds w

pub exactly-hello : ExactlyHello step_of
unfolding step_of
exactly-hello =
    record {
      refused = λ u id8 random macs refresh out x.
          refused-exactly (HelloWhy u id8 random macs refresh (length out)) (HelloGoes u id8 random macs refresh (length out)) (hello_size macs)
          (hello_sent u random macs refresh (length out)) (hello-sent-holds u id8 random macs refresh (length out))
          (hello-because u id8 random macs refresh (length out)) x;
      goes = λ u id8 random macs refresh out.
          goes-exactly (HelloWhy u id8 random macs refresh (length out)) (HelloGoes u id8 random macs refresh (length out)) (hello_size macs)
          (hello_sent u random macs refresh (length out)) (hello-sent-holds u id8 random macs refresh (length out))
          (hello-goes u id8 random macs refresh (length out));
    }

-- ---- again

module _ (u : Ship) (room : ℕ) where
  abbrev AgainWhy : State → Refusal → Type 0
  AgainWhy s = WhyAgain s (length (again_bytes u s)) room

  abbrev AgainGoes : State → Type 0
  AgainGoes s = MayAgain s × (length (again_bytes u s) ≤ room)

  said-holds : (s : State) (bytes : List ℕ) → again_bytes u s ≡ bytes → MayAgain s
      → SentHolds (AgainWhy s) (AgainGoes s) (length (again_bytes u s)) (said_again u bytes room)
  unfolding said_again
  said-holds s bytes e m =
      let n = ap length e in
      decide (leb (length bytes) room)
      (λ f. rw f ((m, omega (arith, leb-true (length bytes) room f, n)), sym n))
      (λ f. rw f (again_6 m (omega (arith, leb-false (length bytes) room f, n)), refl))

  again-holds : (s : State) → SentHolds (AgainWhy s) (AgainGoes s) (length (again_bytes u s)) (again_in u s room)
  again-holds S.Idle = (again_8 (inl refl), refl)
  again-holds S.Sent = said-holds S.Sent (hello_said u) refl (inl (inl refl))
  again-holds S.Replied = said-holds S.Replied (hello_said u) refl (inl (inr (inl refl)))
  again-holds S.Spec = said-holds S.Spec (hello_said u) refl (inl (inr (inr refl)))
  again-holds S.Opening = said-holds S.Opening (flight_of u) refl (inr refl)
  again-holds S.Open = (again_8 (inr refl), refl)
  again-holds S.Closed = (again_7 (inl refl), refl)
  again-holds S.Barred = (again_7 (inr refl), refl)

  said-room : (bytes : List ℕ) → room < length bytes → (said_again u bytes room).outcome ≡ Err X.Room
  unfolding said_again
  said-room bytes l = rw (lt-leb (length bytes) room l) refl

  said-done : (bytes : List ℕ) → length bytes ≤ room → (said_again u bytes room).outcome ≡ Ok tt
  unfolding said_again
  said-done bytes l = rw (le-leb (length bytes) room l) refl

  -- at a state that is known
  again-at : (s t : State) → s ≡ t → (o : Result ⊤ Refusal) → ((again_in u t room).outcome ≡ o) → (again_in u s room).outcome ≡ o
  again-at s t e o h = ap (λ x. (again_in u x room).outcome) e ∙ h

  again-because : (s : State) (x : Refusal) → AgainWhy s x → (again_in u s room).outcome ≡ Err x
  again-because s (X.Framing _) x3 = elim x3 [ ]
  again-because s X.Forged x3 = elim x3 [ ]
  again-because s X.TooOld x4 = elim x4 [ ]
  again-because s X.Repeated x5 = elim x5 [ ]
  again-because s X.Malformed x6 = elim x6 [ ]
  again-because s X.Unacceptable x7 = elim x7 [ ]
  again-because s X.Checksum x8 = elim x8 [ ]
  again-because s X.Spent x9 = elim x9 [ ]
  again-because s X.Argument x10 = elim x10 [ ]
  again-because s X.WrongFinished x11 = elim x11 [ ]
  again-because s X.Ended (again_7 (inl e)) = again-at s S.Closed e (Err X.Ended) refl
  again-because s X.Ended (again_7 (inr e)) = again-at s S.Barred e (Err X.Ended) refl
  again-because s X.NotAllowed (again_8 (inl e)) = again-at s S.Idle e (Err X.NotAllowed) refl
  again-because s X.NotAllowed (again_8 (inr e)) = again-at s S.Open e (Err X.NotAllowed) refl
  again-because s X.Room (again_6 (inl (inl e)) l) =
      again-at s S.Sent e (Err X.Room) (said-room (hello_said u) (subst (λ t. room < length (again_bytes u t)) e l))
  again-because s X.Room (again_6 (inl (inr (inl e))) l) =
      again-at s S.Replied e (Err X.Room) (said-room (hello_said u) (subst (λ t. room < length (again_bytes u t)) e l))
  again-because s X.Room (again_6 (inl (inr (inr e))) l) =
      again-at s S.Spec e (Err X.Room) (said-room (hello_said u) (subst (λ t. room < length (again_bytes u t)) e l))
  again-because s X.Room (again_6 (inr e) l) =
      again-at s S.Opening e (Err X.Room) (said-room (flight_of u) (subst (λ t. room < length (again_bytes u t)) e l))

  again-goes : (s : State) → AgainGoes s → (again_in u s room).outcome ≡ Ok tt
  again-goes s (inl (inl e), l) = again-at s S.Sent e (Ok tt) (said-done (hello_said u) (subst (λ t. length (again_bytes u t) ≤ room) e l))
  again-goes s (inl (inr (inl e)), l) = again-at s S.Replied e (Ok tt) (said-done (hello_said u) (subst (λ t. length (again_bytes u t) ≤ room) e l))
  again-goes s (inl (inr (inr e)), l) = again-at s S.Spec e (Ok tt) (said-done (hello_said u) (subst (λ t. length (again_bytes u t) ≤ room) e l))
  again-goes s (inr e, l) = again-at s S.Opening e (Ok tt) (said-done (flight_of u) (subst (λ t. length (again_bytes u t) ≤ room) e l))

pub exactly-again : ExactlyAgain step_of
unfolding step_of
exactly-again =
    record {
      refused = λ u out x.
          refused-exactly (AgainWhy u (length out) u.state) (AgainGoes u (length out) u.state) (length (again_bytes u u.state))
          (again_sent u (length out)) (again-holds u (length out) u.state) (again-because u (length out) u.state) x;
      goes = λ u out.
          goes-exactly (AgainWhy u (length out) u.state) (AgainGoes u (length out) u.state) (length (again_bytes u u.state))
          (again_sent u (length out)) (again-holds u (length out) u.state) (again-goes u (length out) u.state);
    }

-- ---- close, start again, fresh

abbrev CallHolds : (Refusal → Type 0) → Type 0 → Result ⊤ Refusal → Type 0
CallHolds Why Goes (Ok tt) = Goes
CallHolds Why Goes (Err x) = Why x

called_refused : (Why : Refusal → Type 0) (Goes : Type 0) (o : Result ⊤ Refusal) → CallHolds Why Goes o → ((x : Refusal) → Why x → o ≡ Err x)
    → (x : Refusal) → (called o ≡ called (Err x)) ↔ Why x
called_refused Why Goes o h b x = (λ e. subst (CallHolds Why Goes) (ap outcome_in e) h, λ w. ap called (b x w))

called-goes : (Why : Refusal → Type 0) (Goes : Type 0) (o : Result ⊤ Refusal) → CallHolds Why Goes o → (Goes → o ≡ Ok tt) → (called o ≡ called (Ok tt)) ↔ Goes
called-goes Why Goes o h b = (λ e. subst (CallHolds Why Goes) (ap outcome_in e) h, λ w. ap called (b w))

module _ (u : Ship) where
  close-holds : (s : State) → CallHolds (WhyClose s) (s ≢ S.Barred) (closed_in u s).outcome
  close-holds S.Idle = λ e. let z : ◌≡◌ {A = ℕ} 0 1 = cc in omega arith
  close-holds S.Sent = λ e. let z : ◌≡◌ {A = ℕ} 0 1 = cc in omega arith
  close-holds S.Replied = λ e. let z : ◌≡◌ {A = ℕ} 0 1 = cc in omega arith
  close-holds S.Spec = λ e. let z : ◌≡◌ {A = ℕ} 0 1 = cc in omega arith
  close-holds S.Opening = λ e. let z : ◌≡◌ {A = ℕ} 0 1 = cc in omega arith
  close-holds S.Open = λ e. let z : ◌≡◌ {A = ℕ} 0 1 = cc in omega arith
  close-holds S.Closed = λ e. let z : ◌≡◌ {A = ℕ} 0 1 = cc in omega arith
  close-holds S.Barred = close_7 refl

  close-because : (s : State) (x : Refusal) → WhyClose s x → (closed_in u s).outcome ≡ Err x
  close-because s (X.Framing _) x3 = elim x3 [ ]
  close-because s X.Room x3 = elim x3 [ ]
  close-because s X.NotAllowed x4 = elim x4 [ ]
  close-because s X.Forged x5 = elim x5 [ ]
  close-because s X.TooOld x6 = elim x6 [ ]
  close-because s X.Repeated x7 = elim x7 [ ]
  close-because s X.Malformed x8 = elim x8 [ ]
  close-because s X.Unacceptable x9 = elim x9 [ ]
  close-because s X.Checksum x10 = elim x10 [ ]
  close-because s X.Spent x11 = elim x11 [ ]
  close-because s X.Argument x12 = elim x12 [ ]
  close-because s X.WrongFinished x13 = elim x13 [ ]
  close-because s X.Ended (close_7 e) = ap (λ t. (closed_in u t).outcome) e

  close-goes : (s : State) → s ≢ S.Barred → (closed_in u s).outcome ≡ Ok tt
  close-goes S.Idle n = refl
  close-goes S.Sent n = refl
  close-goes S.Replied n = refl
  close-goes S.Spec n = refl
  close-goes S.Opening n = refl
  close-goes S.Open n = refl
  close-goes S.Closed n = refl
  close-goes S.Barred n = absurd (n refl)

  start-holds : (s : State) → CallHolds (WhyStart s) (s ≡ S.Closed) (started_in u s).outcome
  start-holds S.Idle = start_8 (inl (inl refl))
  start-holds S.Sent = start_8 (inl (inr (inl refl)))
  start-holds S.Replied = start_8 (inl (inr (inr (inl refl))))
  start-holds S.Spec = start_8 (inl (inr (inr (inr refl))))
  start-holds S.Opening = start_8 (inr (inl refl))
  start-holds S.Open = start_8 (inr (inr refl))
  start-holds S.Closed = refl
  start-holds S.Barred = start_7 refl

  start-because : (s : State) (x : Refusal) → WhyStart s x → (started_in u s).outcome ≡ Err x
  start-because s (X.Framing _) x3 = elim x3 [ ]
  start-because s X.Room x3 = elim x3 [ ]
  start-because s X.Forged x4 = elim x4 [ ]
  start-because s X.TooOld x5 = elim x5 [ ]
  start-because s X.Repeated x6 = elim x6 [ ]
  start-because s X.Malformed x7 = elim x7 [ ]
  start-because s X.Unacceptable x8 = elim x8 [ ]
  start-because s X.Checksum x9 = elim x9 [ ]
  start-because s X.Spent x10 = elim x10 [ ]
  start-because s X.Argument x11 = elim x11 [ ]
  start-because s X.WrongFinished x12 = elim x12 [ ]
  start-because s X.Ended (start_7 e) = ap (λ t. (started_in u t).outcome) e
  start-because s X.NotAllowed (start_8 (inl (inl e))) = ap (λ t. (started_in u t).outcome) e
  start-because s X.NotAllowed (start_8 (inl (inr (inl e)))) = ap (λ t. (started_in u t).outcome) e
  start-because s X.NotAllowed (start_8 (inl (inr (inr (inl e))))) = ap (λ t. (started_in u t).outcome) e
  start-because s X.NotAllowed (start_8 (inl (inr (inr (inr e))))) = ap (λ t. (started_in u t).outcome) e
  start-because s X.NotAllowed (start_8 (inr (inl e))) = ap (λ t. (started_in u t).outcome) e
  start-because s X.NotAllowed (start_8 (inr (inr e))) = ap (λ t. (started_in u t).outcome) e

pub exactly-close : ExactlyClose step_of
unfolding step_of
exactly-close =
    record {
      refused = λ u x. called_refused (WhyClose u.state) (u.state ≢ S.Barred) (closed_in u u.state).outcome (close-holds u u.state) (close-because u u.state) x;
      goes = λ u. called-goes (WhyClose u.state) (u.state ≢ S.Barred) (closed_in u u.state).outcome (close-holds u u.state) (close-goes u u.state);
    }

pub exactly-start : ExactlyStart step_of
unfolding step_of
exactly-start =
    record {
      refused = λ u x. called_refused (WhyStart u.state) (u.state ≡ S.Closed) (started_in u u.state).outcome (start-holds u u.state) (start-because u u.state) x;
      goes = λ u. called-goes (WhyStart u.state) (u.state ≡ S.Closed) (started_in u u.state).outcome (start-holds u u.state) (λ e. ap (λ t. (started_in u t).outcome) e);
    }

module _ (id secret : List ℕ) (width : ℕ) where
  abbrev FreshGoes : Type 0
  FreshGoes = (length id ≡ 8) × (length secret ≡ 20) × Held width

  abbrev FreshWhy : Refusal → Type 0
  FreshWhy = WhyFresh (length id) (length secret) width

  fresh_holds : CallHolds FreshWhy FreshGoes (fresh_of id secret width).outcome
  unfolding fresh_of
  fresh_holds =
      decide (eqb (length id) 8)
      (λ a. decide (eqb (length secret) 20)
      (λ b. decide (ltb width 32)
      (λ c. rw (a, b, c) (fresh_16 (inr (inr (inl (ltb-true width 32 c))))))
      (λ c. decide (ltb 64 width)
      (λ d. rw (a, b, c, d) (fresh_16 (inr (inr (inr (ltb-true 64 width d))))))
      (λ d. rw (a, b, c, d) (eqb-true (length id) 8 a, eqb-true (length secret) 20 b, (ltb-false width 32 c, ltb-false 64 width d)))))
      (λ b. rw (a, b) (fresh_16 (inr (inl (eqb-false (length secret) 20 b))))))
      (λ a. rw a (fresh_16 (inl (eqb-false (length id) 8 a))))

  fresh-clash : {P : Type 0} → FreshGoes → (length id ≢ 8) ⊎ (length secret ≢ 20) ⊎ (width < 32) ⊎ (64 < width) → P
  fresh-clash (a, b, h) (inl n) = absurd (n a)
  fresh-clash (a, b, h) (inr (inl n)) = absurd (n b)
  fresh-clash (a, b, h) (inr (inr (inl l))) = absurd (omega (arith, h.0))
  fresh-clash (a, b, h) (inr (inr (inr l))) = absurd (omega (arith, h.1))

  fresh-because : (o : Result ⊤ Refusal) → CallHolds FreshWhy FreshGoes o → (x : Refusal) → FreshWhy x → o ≡ Err x
  fresh-because (Ok tt) h (X.Framing _) x6 = elim x6 [ ]
  fresh-because (Ok tt) h X.Room x6 = elim x6 [ ]
  fresh-because (Ok tt) h X.Ended x7 = elim x7 [ ]
  fresh-because (Ok tt) h X.NotAllowed x8 = elim x8 [ ]
  fresh-because (Ok tt) h X.Forged x9 = elim x9 [ ]
  fresh-because (Ok tt) h X.TooOld x10 = elim x10 [ ]
  fresh-because (Ok tt) h X.Repeated x11 = elim x11 [ ]
  fresh-because (Ok tt) h X.Malformed x12 = elim x12 [ ]
  fresh-because (Ok tt) h X.Unacceptable x13 = elim x13 [ ]
  fresh-because (Ok tt) h X.Checksum x14 = elim x14 [ ]
  fresh-because (Ok tt) h X.Spent x15 = elim x15 [ ]
  fresh-because (Ok tt) h X.WrongFinished x16 = elim x16 [ ]
  fresh-because (Err (X.Framing _)) h _ _ = elim h [ ]
  fresh-because (Err X.Room) h _ _ = elim h [ ]
  fresh-because (Err X.Ended) h _ _ = elim h [ ]
  fresh-because (Err X.NotAllowed) h _ _ = elim h [ ]
  fresh-because (Err X.Forged) h _ _ = elim h [ ]
  fresh-because (Err X.TooOld) h _ _ = elim h [ ]
  fresh-because (Err X.Repeated) h _ _ = elim h [ ]
  fresh-because (Err X.Malformed) h _ _ = elim h [ ]
  fresh-because (Err X.Unacceptable) h _ _ = elim h [ ]
  fresh-because (Err X.Checksum) h _ _ = elim h [ ]
  fresh-because (Err X.Spent) h _ _ = elim h [ ]
  fresh-because (Err X.Argument) h (X.Framing _) x22 = elim x22 [ ]
  fresh-because (Err X.Argument) h X.Room x22 = elim x22 [ ]
  fresh-because (Err X.Argument) h X.Ended x23 = elim x23 [ ]
  fresh-because (Err X.Argument) h X.NotAllowed x24 = elim x24 [ ]
  fresh-because (Err X.Argument) h X.Forged x25 = elim x25 [ ]
  fresh-because (Err X.Argument) h X.TooOld x26 = elim x26 [ ]
  fresh-because (Err X.Argument) h X.Repeated x27 = elim x27 [ ]
  fresh-because (Err X.Argument) h X.Malformed x28 = elim x28 [ ]
  fresh-because (Err X.Argument) h X.Unacceptable x29 = elim x29 [ ]
  fresh-because (Err X.Argument) h X.Checksum x30 = elim x30 [ ]
  fresh-because (Err X.Argument) h X.Spent x31 = elim x31 [ ]
  fresh-because (Err X.Argument) h X.WrongFinished x32 = elim x32 [ ]
  fresh-because (Err X.WrongFinished) h _ _ = elim h [ ]
  fresh-because (Ok tt) h X.Argument (fresh_16 w) = fresh-clash h w
  fresh-because (Err X.Argument) h X.Argument (fresh_16 w) = refl

  fresh-goes : (o : Result ⊤ Refusal) → CallHolds FreshWhy FreshGoes o → FreshGoes → o ≡ Ok tt
  fresh-goes (Ok tt) h w = refl
  fresh-goes (Err (X.Framing _)) h w = elim h [ ]
  fresh-goes (Err X.Room) h w = elim h [ ]
  fresh-goes (Err X.Ended) h w = elim h [ ]
  fresh-goes (Err X.NotAllowed) h w = elim h [ ]
  fresh-goes (Err X.Forged) h w = elim h [ ]
  fresh-goes (Err X.TooOld) h w = elim h [ ]
  fresh-goes (Err X.Repeated) h w = elim h [ ]
  fresh-goes (Err X.Malformed) h w = elim h [ ]
  fresh-goes (Err X.Unacceptable) h w = elim h [ ]
  fresh-goes (Err X.Checksum) h w = elim h [ ]
  fresh-goes (Err X.Spent) h w = elim h [ ]
  fresh-goes (Err X.WrongFinished) h w = elim h [ ]
  fresh-goes (Err X.Argument) (fresh_16 v) w = fresh-clash w v

pub exactly-fresh : ExactlyFresh
exactly-fresh =
    record {
      refused = λ id secret width x. (
        λ e. subst (CallHolds (FreshWhy id secret width) (FreshGoes id secret width)) e (fresh_holds id secret width),
        fresh-because id secret width (fresh_of id secret width).outcome (fresh_holds id secret width) x,
      );
      goes = λ id secret width. (
        λ e. subst (CallHolds (FreshWhy id secret width) (FreshGoes id secret width)) e (fresh_holds id secret width),
        fresh-goes id secret width (fresh_of id secret width).outcome (fresh_holds id secret width),
      );
    }
