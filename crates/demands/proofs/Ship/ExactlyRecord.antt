-- The refusals of a record, exactly when. The idea: the table (`Table`) says by rows what is answered; the premises of a row and the
-- reason in the bytes say the same of a record of a soundly framed datagram.
use mathlib.Core.Path.{◌≡◌, refl, sym, ◌∙◌, ap, subst}
use mathlib.Core.Logic.{◌↔◌, ◌⊎◌, inl, inr, ◌≢◌}
use mathlib.Core.Bool.{Bool, true, false}
use mathlib.Core.List.{List, [], ◌∷◌}
use Prim.Native.Nat.{ℕ, ◌+◌}
use native.Mathlib.Omega.{arith}
use lib.ListN.{length, get_or, drop}
use lib.Dec.{eqb}
use borrow.Author.Tests.{eqb-true, eqb-false}
use Rattle.record.specs.Window.{accept_of}
use Rattle.record.specs.History.{window_of, arrived_of, judged_of as judged_by}
use Rattle.record.specs.declared.header.Content.{Content}
use Rattle.record.specs.declared.header.Content.TheVariants as C
use Rattle.record.specs.declared.reader.Record.{Record}
use Rattle.record.specs.declared.window.Window.{Window}
use Rattle.record.proofs.Histories.{meaning, old_when, repeated_when, new_when, old_means, repeated_means, new_means}
use Rattle.message.specs.Alert.{alert_of}
use Rattle.message.specs.Handshake.{fills}
use Rattle.message.specs.Request.{is_request, hello_request}
use Rattle.message.specs.declared.finished.Unverified.TheVariants as F
use Rattle.message.proofs.Written.{Filled, filled}
use Rattle.connection.specs.Judge.{fragment_of}
use Rattle.connection.specs.Sent.{matches_of}
use Rattle.connection.specs.declared.refusal.Refusal.{Refusal}
use Rattle.connection.specs.declared.refusal.Refusal.TheVariants as X
use Rattle.unit.specs.State.{kind_of, rule_of}
use Rattle.unit.specs.Judge.{kind_in, judged_record}
use Rattle.unit.specs.declared.state.State.{State}
use Rattle.unit.specs.declared.state.State.TheVariants as S
use Rattle.unit.specs.declared.state.Kind.{Kind}
use Rattle.unit.specs.declared.state.Kind.TheVariants as K
use Rattle.unit.specs.declared.state.Rule.{Rule}
use Rattle.unit.specs.declared.state.Rule.TheVariants as T
use Rattle.unit.specs.declared.answer.Answer.{Answer}
use Rattle.unit.specs.declared.answer.Answer.TheVariants as W
use Rattle.unit.specs.declared.agree.Judged.{Judged}
use Rattle.unit.specs.declared.unit.Unit.{Unit as Ship}
use Rattle.demands.specs.Seen.{Seen, seen_in}
use Rattle.demands.specs.Exactly.Record.{SeenInPlace, IsAlert, IsFinished, Bytes}
use Rattle.demands.specs.Ship.Genuine.{Protected}
use Rattle.demands.specs.Ship.Table.{Midway, Up, Over, Ruled, New, Stays, Shuts, Marked, Row}
use Rattle.demands.specs.Ship.Table as Z
use Rattle.demands.specs.Ship.Table.{at_end, not_allowed, not_first, forged, too_old, repeated, unacceptable, checksum, ignored_request, reported_request, warning}
use Rattle.demands.specs.Ship.Table.{critical, fatal, no_change, no_alert, no_message, no_data, some_data, protected_warning, repeated_finished, protected_critical, protected_ignored, protected_reported, finished_again, wrong_finished}
use Rattle.demands.specs.Ship.Table.{row_stays, row_shuts, row_hello, row_change, row_marked, row_opens, row_bars}
use Rattle.demands.specs.Ship.Course.{HoldsNumbers}
use Rattle.demands.specs.Ship.ExactlyRecord.{Begins, IsHello, IsRequest, request_bytes, GuardedAs, Allowed, CodedAs, NewAs, WellFormedHello, Acceptable, WhyMalformed, WhyRecord, ExactlyRecord}
use Rattle.demands.specs.Ship.ExactlyRecord as Y
use Rattle.demands.proofs.Genuine.{true_false}
use Rattle.demands.proofs.Exactly.Reasons.{clash, decide}
use Rattle.demands.proofs.Exactly.Content.{change-not, not-change, AlertHolds, alert-holds, not-alert, is_alert, FinishedHolds, finished-holds, not_finished, wrong_finished as wrong-when}
use Rattle.demands.proofs.Exactly.Hello.{bytes_take, bytes_drop}
use Rattle.demands.proofs.Exactly.Record.{seen-in-place}
use Rattle.demands.proofs.Ship.ServerHello.{AgreementHolds, agreement-holds, not-hello, not-acceptable}
use Rattle.demands.proofs.Ship.Table.{Guards, spec-alert, spec-handshake, up-change, up-alert, up-handshake, up-data, ruled-says, ruled-protected, row_of, row_is}
use Rattle.demands.proofs.Ship.HandedOut.{up-opens}
use Rattle.std.specs.Prelude.{Err, None, Some}

-- ---- a HelloRequest, byte by byte

three-bytes : (s : List ℕ) → length s ≡ 3 → get_or s 0 0 ≡ 0 → get_or s 1 0 ≡ 0 → get_or s 2 0 ≡ 0 → s ≡ request_bytes
three-bytes [] l a b c = absurd (omega arith)
three-bytes (x ∷ []) l a b c = absurd (omega arith)
three-bytes (x ∷ y ∷ []) l a b c = absurd (omega arith)
three-bytes (x ∷ y ∷ z ∷ []) l a b c = λ i. a i ∷ b i ∷ c i ∷ []
three-bytes (x ∷ y ∷ z ∷ t ∷ s) l a b c = absurd (omega arith)

pub request-is : (s : List ℕ) → is_request s ≡ true → s ≡ request_bytes
unfolding is_request
request-is s e =
    decide (eqb (length s) 3)
    (λ a.
    let l : length s ≡ 3 = eqb-true (length s) 3 a in
    let w : Filled hello_request s = filled hello_request s (sym (rw a refl) ∙ e) in
    three-bytes s l w.type (omega (arith, w.size)) (omega (arith, w.size)))
    (λ a. clash (sym (sym (rw a refl) ∙ e)))

pub is-request : (s : List ℕ) → s ≡ request_bytes → is_request s ≡ true
unfolding is_request fills
is-request s e = ap is_request e

pub not-request : (s : List ℕ) → s ≢ request_bytes → is_request s ≡ false
not-request s n = decide (is_request s) (λ e. absurd (n (request-is s e))) (λ e. e)

pub request-not : (s : List ℕ) → is_request s ≡ false → s ≢ request_bytes
request-not s e f = true_false (is_request s) (is-request s f) e

-- ---- the kind of a record, by its bytes

abbrev KindSeen : Kind → Bool → Content → ℕ → Type 0
KindSeen K.ClearHello p n first = (p ≡ false) × (n ≡ C.Handshake) × (first ≡ 2)
KindSeen K.ClearRequest p n first = (p ≡ false) × (n ≡ C.Handshake) × (first ≡ 0)
KindSeen K.ClearChange p n first = (p ≡ false) × (n ≡ C.ChangeCipherSpec)
KindSeen K.ClearAlert p n first = (p ≡ false) × (n ≡ C.Alert)
KindSeen K.OtherClear p n first = p ≡ false
KindSeen K.ProtectedChange p n first = (p ≡ true) × (n ≡ C.ChangeCipherSpec)
KindSeen K.ProtectedAlert p n first = (p ≡ true) × (n ≡ C.Alert)
KindSeen K.ProtectedHandshake p n first = (p ≡ true) × (n ≡ C.Handshake)
KindSeen K.ProtectedData p n first = (p ≡ true) × (n ≡ C.Data)

kind-seen : (c : Content) (p : Bool) (first : ℕ) → KindSeen (kind_of c p first) p c first
kind-seen C.ChangeCipherSpec false first = (refl, refl)
kind-seen C.ChangeCipherSpec true first = (refl, refl)
kind-seen C.Alert false first = (refl, refl)
kind-seen C.Alert true first = (refl, refl)
kind-seen C.Handshake false first =
    decide (eqb first 2) (λ a. rw a (refl, refl, eqb-true first 2 a))
    (λ a. decide (eqb first 0) (λ b. rw (a, b) (refl, refl, eqb-true first 0 b)) (λ b. rw (a, b) refl))
kind-seen C.Handshake true first = (refl, refl)
kind-seen C.Data false first = refl
kind-seen C.Data true first = (refl, refl)

hello_kind : (c : Content) (p : Bool) (first : ℕ) → p ≡ false → c ≡ C.Handshake → first ≡ 2 → kind_of c p first ≡ K.ClearHello
hello_kind c p first ep ec ef = (λ i. kind_of (ec i) (ep i) (ef i))

request-kind : (c : Content) (p : Bool) (first : ℕ) → p ≡ false → c ≡ C.Handshake → first ≡ 0 → kind_of c p first ≡ K.ClearRequest
request-kind c p first ep ec ef = (λ i. kind_of (ec i) (ep i) (ef i))

-- ---- the rules, by state and kind

module _ (u : Ship) (numbers d : List ℕ) (r : Record) (bytes : Bytes (fragment_of d r)) (holds : HoldsNumbers u numbers) where
  abbrev f : List ℕ
  f = fragment_of d r

  abbrev first : ℕ
  first = get_or f 0 0

  abbrev q : Seen
  q = seen_in d r

  abbrev width : ℕ
  width = u.protection.window.width

  abbrev Why : Refusal → Type 0
  Why = WhyRecord u numbers q

  seen-kind : (k : Kind) → kind_in d r ≡ k → KindSeen k r.protected r.content first
  seen-kind k e = subst (λ x. KindSeen x r.protected r.content first) e (kind-seen r.content r.protected first)

  is_hello_lem : kind_in d r ≡ K.ClearHello → IsHello q
  is_hello_lem e = let s = seen-kind K.ClearHello e in record { clear = s.0; handshake = s.1; begins = s.2 }

  is-clear-request : kind_in d r ≡ K.ClearRequest → IsRequest q
  is-clear-request e = let s = seen-kind K.ClearRequest e in record { clear = s.0; handshake = s.1; begins = s.2 }

  midway-rule : (k : Kind) (rule : Rule) → rule_of S.Sent k ≡ rule → rule_of S.Replied k ≡ rule → rule_of S.Spec k ≡ rule → kind_in d r ≡ k
      → Midway u.state → Ruled u d r rule
  midway-rule k rule a b c e (inl s) = (λ i. rule_of (s i) (e i)) ∙ a
  midway-rule k rule a b c e (inr (inl s)) = (λ i. rule_of (s i) (e i)) ∙ b
  midway-rule k rule a b c e (inr (inr s)) = (λ i. rule_of (s i) (e i)) ∙ c

  hello-rule : Midway u.state → IsHello q → Ruled u d r T.Agree
  hello-rule m i = midway-rule K.ClearHello T.Agree refl refl refl (hello_kind r.content r.protected first i.clear i.handshake i.begins) m

  alert_rule : Midway u.state → r.protected ≡ false → r.content ≡ C.Alert → Ruled u d r T.Hear
  alert_rule m p n = midway-rule K.ClearAlert T.Hear refl refl refl (λ i. kind_of (n i) (p i) first) m

  change_rule : u.state ≡ S.Replied → r.protected ≡ false → r.content ≡ C.ChangeCipherSpec → Ruled u d r T.Change
  change_rule s p n = λ i. rule_of (s i) (kind_of (n i) (p i) first)

  request-in : (s : State) → (Over s → ⊥) → rule_of s K.ClearRequest ≡ T.Request
  request-in S.Idle n = refl
  request-in S.Sent n = refl
  request-in S.Replied n = refl
  request-in S.Spec n = refl
  request-in S.Opening n = refl
  request-in S.Open n = refl
  request-in S.Closed n = absurd (n (inl refl))
  request-in S.Barred n = absurd (n (inr refl))

  request-rule : (Over u.state → ⊥) → IsRequest q → Ruled u d r T.Request
  request-rule n i =
      ap (rule_of u.state) (request-kind r.content r.protected first i.clear i.handshake i.begins) ∙ request-in u.state n

  over_rule : Over u.state → Ruled u d r T.Ended
  over_rule (inl e) = ap (λ s. rule_of s (kind_in d r)) e
  over_rule (inr e) = ap (λ s. rule_of s (kind_in d r)) e

  guarded_rule : GuardedAs u.state q → Ruled u d r T.Unprotect
  guarded_rule g = go g.kind
    where
      go : ((u.state ≡ S.Spec) × ((r.content ≡ C.Alert) ⊎ (r.content ≡ C.Handshake))) ⊎ Up u.state → Ruled u d r T.Unprotect
      go (inl (e, inl n)) = λ i. rule_of (e i) (kind_of (n i) (g.protection i) first)
      go (inl (e, inr n)) = λ i. rule_of (e i) (kind_of (n i) (g.protection i) first)
      go (inr o) = ap (λ p. rule_of u.state (kind_of r.content p first)) g.protection ∙ up-opens u.state r.content first o

  guards-as : (s : State) (k : Kind) → Guards s k → (p : Bool) (n : Content) → KindSeen k p n first
      → (p ≡ true) × (((s ≡ S.Spec) × ((n ≡ C.Alert) ⊎ (n ≡ C.Handshake))) ⊎ Up s)
  guards-as s K.ClearHello x'' p n _ = elim x'' [ ]
  guards-as s K.ClearRequest x3 p n _ = elim x3 [ ]
  guards-as s K.ClearChange x4 p n _ = elim x4 [ ]
  guards-as s K.ClearAlert x5 p n _ = elim x5 [ ]
  guards-as s K.OtherClear x6 p n _ = elim x6 [ ]
  guards-as S.Spec K.ProtectedAlert spec-alert p n (a, b) = (a, inl (refl, inl b))
  guards-as S.Spec K.ProtectedHandshake spec-handshake p n (a, b) = (a, inl (refl, inr b))
  guards-as s K.ProtectedChange (up-change o) p n (a, b) = (a, inr o)
  guards-as s K.ProtectedAlert (up-alert o) p n (a, b) = (a, inr o)
  guards-as s K.ProtectedHandshake (up-handshake o) p n (a, b) = (a, inr o)
  guards-as s K.ProtectedData (up-data o) p n (a, b) = (a, inr o)

  guarded-as : Ruled u d r T.Unprotect → GuardedAs u.state q
  guarded-as e =
      let g = guards-as u.state (kind_in d r) (ruled-says u d r T.Unprotect e) r.protected r.content (seen-kind (kind_in d r) refl) in
      record { protection = g.0; kind = g.1 }

  coded-as : (c : List ℕ) → Protected u.protection.keys d r c → CodedAs u.protection.keys q c
  coded-as c s = s.is_coded

  as-coded : (c : List ℕ) → r.protected ≡ true → CodedAs u.protection.keys q c → Protected u.protection.keys d r c
  as-coded c p e = record { is_protected = p; is_coded = e }

  by_history : accept_of u.protection.window r.number ≡ judged_by width numbers r.number
  by_history = ap (λ w. accept_of w r.number) holds.means ∙ meaning width holds.held numbers r.number

  new-as : (c : List ℕ) (w : Window) → New u d r c w → NewAs u numbers q c
  new-as c w n =
      let t = new_means width numbers r.number w n.arrived (sym by_history ∙ n.accepted) in
      record { guarded = guarded-as n.ruled; coded = n.coded.is_coded; recent = t.0; unseen = t.1 }

  abbrev marked : Window
  marked = window_of width (r.number ∷ numbers)

  as-new : (c : List ℕ) → NewAs u numbers q c → New u d r c marked
  as-new c n =
      record {
        ruled = guarded_rule n.guarded;
        coded = as-coded c n.guarded.protection n.coded;
        arrived = arrived_of width (r.number ∷ numbers);
        accepted = by_history ∙ new_when width numbers r.number n.recent n.unseen;
      }

  -- ---- from a row to its reason

  allowed-not : Ruled u d r T.NotAllowed → (Over u.state → ⊥) → Allowed u.state q → ⊥
  allowed-not e n (Y.hello m i z) = let y = sym (hello-rule m i) ∙ e in let x : ◌≡◌ {A = ℕ} 0 1 = cc in omega arith
  allowed-not e n (Y.request i) = let y = sym (request-rule n i) ∙ e in let x : ◌≡◌ {A = ℕ} 0 1 = cc in omega arith
  allowed-not e n (Y.change s p k) = let y = sym (change_rule s p k) ∙ e in let x : ◌≡◌ {A = ℕ} 0 1 = cc in omega arith
  allowed-not e n (Y.alert m p k) = let y = sym (alert_rule m p k) ∙ e in let x : ◌≡◌ {A = ℕ} 0 1 = cc in omega arith
  allowed-not e n (Y.guarded g) = let y = sym (guarded_rule g) ∙ e in let x : ◌≡◌ {A = ℕ} 0 1 = cc in omega arith

  later-not : Ruled u d r T.Agree → r.start ≢ 0 → (Over u.state → ⊥) → Allowed u.state q → ⊥
  later-not e z n (Y.hello m i y) = z y
  later-not e z n (Y.request i) = let y = sym (request-rule n i) ∙ e in let x : ◌≡◌ {A = ℕ} 0 1 = cc in omega arith
  later-not e z n (Y.change s p k) = let y = sym (change_rule s p k) ∙ e in let x : ◌≡◌ {A = ℕ} 0 1 = cc in omega arith
  later-not e z n (Y.alert m p k) = let y = sym (alert_rule m p k) ∙ e in let x : ◌≡◌ {A = ℕ} 0 1 = cc in omega arith
  later-not e z n (Y.guarded g) = let y = sym (guarded_rule g) ∙ e in let x : ◌≡◌ {A = ℕ} 0 1 = cc in omega arith

  not-over : (rule : Rule) → (rule ≡ T.Ended → ⊥) → Ruled u d r rule → Over u.state → ⊥
  not-over rule n e o = n (sym e ∙ over_rule o)

  -- an answer holds if it is no refusal, or one that has its reason
  abbrev AnswerHolds : Answer → Type 0
  AnswerHolds W.Nothing = Unit
  AnswerHolds W.Hello = Unit
  AnswerHolds W.Spec = Unit
  AnswerHolds (W.Open size) = Unit
  AnswerHolds W.Again = Unit
  AnswerHolds (W.Data number start size) = Unit
  AnswerHolds W.Request = Unit
  AnswerHolds W.Ignored = Unit
  AnswerHolds (W.Warning description) = Unit
  AnswerHolds (W.Critical description) = Unit
  AnswerHolds (W.Fatal description) = Unit
  AnswerHolds (W.Barred description) = Unit
  AnswerHolds (W.Refused x) = Why x

  not-alert-so : (c : List ℕ) → alert_of c ≡ None → IsAlert c → ⊥
  not-alert-so c e = subst (AlertHolds c) e (alert-holds c)

  stays-holds : {a : Answer} → Stays u d r a → AnswerHolds a
  stays-holds (at_end e) = ruled-says u d r T.Ended e
  stays-holds (not_allowed e) =
      let n = not-over T.NotAllowed (λ z. let x : ◌≡◌ {A = ℕ} 0 1 = cc in omega arith) e in (n, allowed-not e n)
  stays-holds (not_first e z) =
      let n = not-over T.Agree (λ y. let x : ◌≡◌ {A = ℕ} 0 1 = cc in omega arith) e in (n, later-not e z n)
  stays-holds (forged e never) = (guarded-as e, λ c k. never c (as-coded c (ruled-protected u d r e) k))
  stays-holds (too_old c e s y) = (guarded-as e, (c, s.is_coded), old_means width numbers r.number (sym by_history ∙ y))
  stays-holds (repeated c e s y) =
      let t = repeated_means width numbers r.number (sym by_history ∙ y) in (guarded-as e, (c, s.is_coded), t.0, t.1)
  stays-holds (Z.bad_hello e z y) =
      let t = ruled-says u d r T.Agree e in
      Y.bad_hello t.0 (is_hello_lem t.1) z (subst (AgreementHolds f u.id u.offer) y (agreement-holds f u.id u.offer bytes))
  stays-holds (Z.bad_request e y) =
      let t = ruled-says u d r T.Request e in
      Y.bad_request (not-over T.Request (λ z. let x : ◌≡◌ {A = ℕ} 0 1 = cc in omega arith) e) (is-clear-request t.1) (request-not f y)
  stays-holds (Z.bad_change e y) =
      let t = ruled-says u d r T.Change e in
      let s = seen-kind K.ClearChange t.1 in Y.bad_change t.0 s.0 s.1 (change-not f y)
  stays-holds (Z.bad_alert e y) =
      let t = ruled-says u d r T.Hear e in
      let s = seen-kind K.ClearAlert t.1 in Y.bad_alert t.0 s.0 s.1 (not-alert-so f y)
  stays-holds (unacceptable term e z y) =
      let t = ruled-says u d r T.Agree e in
      (t.0, is_hello_lem t.1, z, subst (AgreementHolds f u.id u.offer) y (agreement-holds f u.id u.offer bytes))
  stays-holds (checksum a e y m) =
      let t = ruled-says u d r T.Hear e in
      let s = seen-kind K.ClearAlert t.1 in
      let w : AlertHolds f (Some a) = subst (AlertHolds f) y (alert-holds f) in
      (t.0, s.0, s.1, w.0, ap (matches_of u.sent) (sym w.1) ∙ m)
  stays-holds (ignored_request e y m) = tt
  stays-holds (reported_request e y m) = tt
  stays-holds (warning a e y m l) = tt

  shuts-holds : {a : Answer} → Shuts u d r a → AnswerHolds a
  shuts-holds (critical a e y m l) = tt
  shuts-holds (fatal a e y m l) = tt

  marked-holds : (c : List ℕ) (w : Window) → New u d r c w → {a : Answer} {s : State} → Marked u d r c a s → AnswerHolds a
  marked-holds c w n (no_change k) = Y.bad_protected_change c (new-as c w n) (seen-kind K.ProtectedChange k).1
  marked-holds c w n (no_alert k y) = Y.bad_protected_alert c (new-as c w n) (seen-kind K.ProtectedAlert k).1 (not-alert-so c y)
  marked-holds c w n (no_message k y v) =
      Y.bad_message c (new-as c w n) (seen-kind K.ProtectedHandshake k).1 (request-not c y)
      (subst (FinishedHolds c u.expected) v (finished-holds c u.expected))
  marked-holds c w n (no_data k z) = Y.empty_data c (new-as c w n) (seen-kind K.ProtectedData k).1 z
  marked-holds c w n (some_data k z) = tt
  marked-holds c w n (protected_warning a k y l z) = tt
  marked-holds c w n (repeated_finished a k y l z o) = tt
  marked-holds c w n (protected_critical a k y l) = tt
  marked-holds c w n (protected_ignored k y o) = tt
  marked-holds c w n (protected_reported k y o) = tt
  marked-holds c w n (finished_again k y v o) = tt
  marked-holds c w n (wrong_finished k y v) =
      let t : FinishedHolds c u.expected (Err F.Wrong) = subst (FinishedHolds c u.expected) v (finished-holds c u.expected) in
      (c, new-as c w n, (seen-kind K.ProtectedHandshake k).1, t.0, t.1)

  row-holds : {j : Judged} → Row u d r j → AnswerHolds j.answer
  row-holds (row_stays s) = stays-holds s
  row-holds (row_shuts s) = shuts-holds s
  row-holds (row_hello plan e z y) = tt
  row-holds (row_change e y) = tt
  row-holds (row_marked c w n m) = marked-holds c w n m
  row-holds (row_opens c w n s k y v) = tt
  row-holds (row_bars c w a n k y l) = tt

  -- ---- from a reason to its row

  answer-stays : {a : Answer} → Stays u d r a → (judged_record u d r).answer ≡ a
  answer-stays s = ap (λ j. j.answer) (row_is u d r (row_stays s))

  answer-marked : (c : List ℕ) → NewAs u numbers q c → {a : Answer} {s : State} → Marked u d r c a s → (judged_record u d r).answer ≡ a
  answer-marked c n m = ap (λ j. j.answer) (row_is u d r (row_marked c marked (as-new c n) m))

  -- the kind of a protected record
  content-kind : (c : List ℕ) → NewAs u numbers q c → (t : Content) → r.content ≡ t → kind_in d r ≡ kind_of t true first
  content-kind c n t e = λ i. kind_of (e i) (n.guarded.protection i) first

  -- 8: what the table has no row for
  not-allowed-by : (Over u.state → ⊥) → (Allowed u.state q → ⊥) → (rule : Rule) → Ruled u d r rule
      → (judged_record u d r).answer ≡ W.Refused X.NotAllowed
  not-allowed-by n a T.Ended e = absurd (n (ruled-says u d r T.Ended e))
  not-allowed-by n a T.NotAllowed e = answer-stays (not_allowed e)
  not-allowed-by n a T.Agree e =
      let t = ruled-says u d r T.Agree e in
      decide (eqb r.start 0) (λ b. absurd (a (Y.hello t.0 (is_hello_lem t.1) (eqb-true r.start 0 b))))
      (λ b. answer-stays (not_first e (eqb-false r.start 0 b)))
  not-allowed-by n a T.Request e = absurd (a (Y.request (is-clear-request (ruled-says u d r T.Request e).1)))
  not-allowed-by n a T.Change e =
      let t = ruled-says u d r T.Change e in
      let s = seen-kind K.ClearChange t.1 in absurd (a (Y.change t.0 s.0 s.1))
  not-allowed-by n a T.Hear e =
      let t = ruled-says u d r T.Hear e in
      let s = seen-kind K.ClearAlert t.1 in absurd (a (Y.alert t.0 s.0 s.1))
  not-allowed-by n a T.Unprotect e = absurd (a (Y.guarded (guarded-as e)))

  malformed-by : WhyMalformed u numbers q → (judged_record u d r).answer ≡ W.Refused X.Malformed
  malformed-by (Y.bad_hello m i z n) = answer-stays (Z.bad_hello (hello-rule m i) z (not-hello f u.id u.offer bytes n))
  malformed-by (Y.bad_request n i y) = answer-stays (Z.bad_request (request-rule n i) (not-request f y))
  malformed-by (Y.bad_change s p k y) = answer-stays (Z.bad_change (change_rule s p k) (not-change f y))
  malformed-by (Y.bad_alert m p k y) = answer-stays (Z.bad_alert (alert_rule m p k) (not-alert f y))
  malformed-by (Y.bad_protected_change c n k) = answer-marked c n (no_change (content-kind c n C.ChangeCipherSpec k))
  malformed-by (Y.bad_protected_alert c n k y) = answer-marked c n (no_alert (content-kind c n C.Alert k) (not-alert c y))
  malformed-by (Y.bad_message c n k y v) =
      answer-marked c n (no_message (content-kind c n C.Handshake k) (not-request c y) (not_finished c u.expected v))
  malformed-by (Y.empty_data c n k z) = answer-marked c n (no_data (content-kind c n C.Data k) z)

  -- a Finished is no HelloRequest
  finished-no-request : (c : List ℕ) → IsFinished c → c ≢ request_bytes
  finished-no-request c i e = omega (arith, i.0, ap length e)

  because : (x : Refusal) → Why x → (judged_record u d r).answer ≡ W.Refused x
  because X.Ended o = answer-stays (at_end (over_rule o))
  because X.NotAllowed (n, a) = not-allowed-by n a (rule_of u.state (kind_in d r)) refl
  because X.Forged (g, n) = answer-stays (forged (guarded_rule g) (λ c s. n c s.is_coded))
  because X.TooOld (g, (c, k), l) =
      answer-stays (too_old c (guarded_rule g) (as-coded c g.protection k) (by_history ∙ old_when width numbers r.number l))
  because X.Repeated (g, (c, k), l, a) =
      answer-stays (repeated c (guarded_rule g) (as-coded c g.protection k) (by_history ∙ repeated_when width numbers r.number l a))
  because X.Malformed w = malformed-by w
  because X.Unacceptable (m, i, z, (w, n)) =
      let t = not-acceptable f u.id u.offer bytes w n in answer-stays (unacceptable t.0 (hello-rule m i) z t.1)
  because X.Checksum (m, p, k, i, n) =
      let t = is_alert f i in
      answer-stays (checksum t.0 (alert_rule m p k) t.1 (ap (matches_of u.sent) t.2 ∙ n))
  because X.WrongFinished (c, n, k, i, y) =
      answer-marked c n
      (wrong_finished (content-kind c n C.Handshake k) (not-request c (finished-no-request c i)) (wrong-when c u.expected i y))
  because (X.Framing fault) w = absurd w
  because X.Room w = absurd w
  because X.Spent w = absurd w
  because X.Argument w = absurd w

  pub exactly : (x : Refusal) → ((judged_record u d r).answer ≡ W.Refused x) ↔ Why x
  exactly x = (λ e. subst AnswerHolds e (row-holds (row_of u d r)), because x)

pub exactly-record : ExactlyRecord
unfolding ExactlyRecord SeenInPlace
exactly-record u numbers d r all o holds x =
    let bytes : Bytes (fragment_of d r) = bytes_take r.size (drop (r.start + r.head) d) (bytes_drop (r.start + r.head) d all) in
    let t = exactly u numbers d r bytes holds x in (
      λ e. subst (λ s. WhyRecord u numbers s x) (seen-in-place d r o) (t.0 e),
      λ w. t.1 (subst (λ s. WhyRecord u numbers s x) (sym (seen-in-place d r o)) w),
    )
