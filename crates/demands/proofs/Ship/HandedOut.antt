-- Demand 3 at the shipboard end, the second half. The idea, as ashore: from Opening or Open on the unit goes along with the course of the
-- bytes. Each row of the table is one way in which both go on; at the end the row of data says what is due.
use mathlib.Core.Path.{◌≡◌, refl, sym, ◌∙◌, ap, ap₂, subst}
use mathlib.Core.Logic.{◌↔◌, ◌⊎◌, inl, inr}
use mathlib.Core.Bool.{Bool, true, false}
use mathlib.Core.List.{List, [], ◌∷◌, ◌++◌}
use Prim.Native.Nat.{ℕ, ◌+◌, ◌<◌}
use native.Mathlib.Omega.{arith}
use lib.ListN.{length, get_or}
use lib.Dec.{eqb}
use borrow.Author.Tests.{eqb-true}
use Rattle.digest.specs.Pick.{pick}
use Rattle.digest.specs.Hmac.{hmac}
use Rattle.digest.specs.Mac.{size_of}
use Rattle.record.specs.Code.{fragment_by, code_by}
use Rattle.record.specs.Protection.{genuine_under}
use Rattle.record.specs.Window.{accept_of, Held}
use Rattle.record.specs.History.{window_of, arrived_of, accepted}
use Rattle.record.specs.declared.header.Content.{Content}
use Rattle.record.specs.declared.header.Content.TheVariants as C
use Rattle.record.specs.declared.keys.Keys.{Keys}
use Rattle.record.specs.declared.keys.Sense.TheVariants.{FromShore}
use Rattle.record.specs.declared.reader.Record.{Record}
use Rattle.record.specs.declared.window.Window.{Window}
use Rattle.record.specs.declared.window.NotNew.TheVariants as A
use Rattle.record.proofs.Histories.{all_below, accepted_here, accepted_still}
use Rattle.message.specs.Finished.{judged_of}
use Rattle.message.specs.Request.{is_request}
use Rattle.message.specs.declared.finished.Unverified.TheVariants as F
use Rattle.connection.specs.Answer.{part_at}
use Rattle.connection.specs.Judge.{fragment_of}
use Rattle.connection.specs.declared.refusal.Refusal.TheVariants as X
use Rattle.unit.specs.State.{kind_of, opened_rule, rule_of}
use Rattle.unit.specs.Answer.{as_ashore}
use Rattle.unit.specs.Agree.{judged}
use Rattle.unit.specs.Calls.{closed_of, closed_in, started_of, started_in}
use Rattle.unit.specs.Hello.{hello_sent, may_hello}
use Rattle.unit.specs.Judge.{kind_in, judged_record}
use Rattle.unit.specs.Send.{data_sent, alert_sent}
use Rattle.unit.specs.Unit.{with_state, with_window}
use Rattle.unit.specs.declared.state.State.{State}
use Rattle.unit.specs.declared.state.State.TheVariants as S
use Rattle.unit.specs.declared.state.Kind.{Kind}
use Rattle.unit.specs.declared.state.Kind.TheVariants as K
use Rattle.unit.specs.declared.state.Rule.TheVariants as T
use Rattle.unit.specs.declared.answer.Answer.{Answer}
use Rattle.unit.specs.declared.answer.Answer.TheVariants as W
use Rattle.unit.specs.declared.agree.Judged.{Judged}
use Rattle.unit.specs.declared.unit.Unit.{Unit as Ship}
use Rattle.demands.specs.Genuine.{RecordOf}
use Rattle.demands.specs.Past.{is_data}
use Rattle.demands.specs.Course.{Course, is_new, level_shuts, alert_shuts, finished_shuts, content_shuts}
use Rattle.demands.specs.Ship.Genuine.{Protected, shore_key, genuine_bytes}
use Rattle.demands.specs.Ship.Table.{Midway, Up, Over, New, Stays, Shuts, Marked, Row, forgotten}
use Rattle.demands.specs.Ship.Table.{at_end, not_allowed, not_first, forged, too_old, repeated, bad_hello, bad_request, bad_change, bad_alert, unacceptable, checksum, ignored_request, reported_request, warning}
use Rattle.demands.specs.Ship.Table.{critical, fatal, no_change, no_alert, no_message, no_data, some_data, protected_warning, repeated_finished, protected_critical, protected_ignored, protected_reported, finished_again, wrong_finished}
use Rattle.demands.specs.Ship.Table.{row_stays, row_shuts, row_hello, row_change, row_marked, row_opens, row_bars}
use Rattle.demands.specs.Ship.Changes.{Alike}
use Rattle.demands.specs.Ship.Events.{Event, took, greeting, repeating, sending, alerting, closing, starting, next, after}
use Rattle.demands.specs.Ship.Course.{used_by, with_record, shut_by, with_event, course_of, MayCome, Ongoing, Due, HoldsNumbers, course_at, course_from, OngoingFrom}
use Rattle.demands.specs.Ship.HandedOut.{HandsOut, handed_by, Along, GoesAlong, HandedOut, HandedOnce}
use Rattle.demands.proofs.Genuine.{true_false}
use Rattle.demands.proofs.Kept.{window_more}
use Rattle.demands.proofs.Exactly.Reasons.{clash, decide}
use Rattle.demands.proofs.Exactly.Content.{not_finished}
use Rattle.demands.proofs.HandedOut.{new_facts, is_new_lem, new_is, old_is, repeated_is, due_below, due_new, part_is, grows_by}
use Rattle.demands.proofs.Ship.Genuine.{protected_content, bytes-right, bytes-wrong}
use Rattle.demands.proofs.Ship.Table.{protected_kind, Guards, spec-alert, spec-handshake, up-change, up-alert, up-handshake, up-data, ruled-says, is-protected-kind, row_of, row_is}
use Rattle.demands.proofs.Ship.Changes.{data-alike, alert-alike, again_same, hello-refused, hello-up}
use Rattle.std.specs.Prelude.{Err, Ok, Result, ⊤}
use Rattle.message.specs.declared.finished.Unverified.{Unverified}
use Rattle.record.specs.declared.window.NotNew.{NotNew}

-- ---- states

pub up-not-midway : {P : Type 0} (s : State) → Up s → Midway s → P
up-not-midway s (inl a) (inl b) = let y : S.Opening ≡ S.Sent = sym a ∙ b in let z : ◌≡◌ {A = ℕ} 0 1 = cc in absurd (omega arith)
up-not-midway s (inl a) (inr (inl b)) = let y : S.Opening ≡ S.Replied = sym a ∙ b in let z : ◌≡◌ {A = ℕ} 0 1 = cc in absurd (omega arith)
up-not-midway s (inl a) (inr (inr b)) = let y : S.Opening ≡ S.Spec = sym a ∙ b in let z : ◌≡◌ {A = ℕ} 0 1 = cc in absurd (omega arith)
up-not-midway s (inr a) (inl b) = let y : S.Open ≡ S.Sent = sym a ∙ b in let z : ◌≡◌ {A = ℕ} 0 1 = cc in absurd (omega arith)
up-not-midway s (inr a) (inr (inl b)) = let y : S.Open ≡ S.Replied = sym a ∙ b in let z : ◌≡◌ {A = ℕ} 0 1 = cc in absurd (omega arith)
up-not-midway s (inr a) (inr (inr b)) = let y : S.Open ≡ S.Spec = sym a ∙ b in let z : ◌≡◌ {A = ℕ} 0 1 = cc in absurd (omega arith)

pub up-not-over : {P : Type 0} (s : State) → Up s → Over s → P
up-not-over s (inl a) (inl b) = let y : S.Opening ≡ S.Closed = sym a ∙ b in let z : ◌≡◌ {A = ℕ} 0 1 = cc in absurd (omega arith)
up-not-over s (inl a) (inr b) = let y : S.Opening ≡ S.Barred = sym a ∙ b in let z : ◌≡◌ {A = ℕ} 0 1 = cc in absurd (omega arith)
up-not-over s (inr a) (inl b) = let y : S.Open ≡ S.Closed = sym a ∙ b in let z : ◌≡◌ {A = ℕ} 0 1 = cc in absurd (omega arith)
up-not-over s (inr a) (inr b) = let y : S.Open ≡ S.Barred = sym a ∙ b in let z : ◌≡◌ {A = ℕ} 0 1 = cc in absurd (omega arith)

-- what is opened is opened in a state that is not over
pub guards-not-over : {P : Type 0} (s : State) (k : Kind) → Over s → Guards s k → P
guards-not-over {P = P} s K.ClearHello o x'' = elim x'' [ ]
guards-not-over {P = P} s K.ClearRequest o x3 = elim x3 [ ]
guards-not-over {P = P} s K.ClearChange o x4 = elim x4 [ ]
guards-not-over {P = P} s K.ClearAlert o x5 = elim x5 [ ]
guards-not-over {P = P} s K.OtherClear o x6 = elim x6 [ ]
guards-not-over S.Spec K.ProtectedAlert (inl e) spec-alert = let z : ◌≡◌ {A = ℕ} 0 1 = cc in absurd (omega arith)
guards-not-over S.Spec K.ProtectedAlert (inr e) spec-alert = let z : ◌≡◌ {A = ℕ} 0 1 = cc in absurd (omega arith)
guards-not-over S.Spec K.ProtectedHandshake (inl e) spec-handshake = let z : ◌≡◌ {A = ℕ} 0 1 = cc in absurd (omega arith)
guards-not-over S.Spec K.ProtectedHandshake (inr e) spec-handshake = let z : ◌≡◌ {A = ℕ} 0 1 = cc in absurd (omega arith)
guards-not-over s K.ProtectedChange o (up-change x) = up-not-over s x o
guards-not-over s K.ProtectedAlert o (up-alert x) = up-not-over s x o
guards-not-over s K.ProtectedHandshake o (up-handshake x) = up-not-over s x o
guards-not-over s K.ProtectedData o (up-data x) = up-not-over s x o

-- in Opening and Open what is not allowed is clear
pub up_rule : (s : State) (k : Kind) → Up s → rule_of s k ≡ opened_rule k
up_rule s k (inl e) = ap (λ x. rule_of x k) e
up_rule s k (inr e) = ap (λ x. rule_of x k) e

opened-clear : (k : Kind) → opened_rule k ≡ T.NotAllowed → protected_kind k ≡ false
opened-clear K.ClearHello e = refl
opened-clear K.ClearRequest e = refl
opened-clear K.ClearChange e = refl
opened-clear K.ClearAlert e = refl
opened-clear K.OtherClear e = refl
opened-clear K.ProtectedChange e = let z : ◌≡◌ {A = ℕ} 0 1 = cc in absurd (omega arith)
opened-clear K.ProtectedAlert e = let z : ◌≡◌ {A = ℕ} 0 1 = cc in absurd (omega arith)
opened-clear K.ProtectedHandshake e = let z : ◌≡◌ {A = ℕ} 0 1 = cc in absurd (omega arith)
opened-clear K.ProtectedData e = let z : ◌≡◌ {A = ℕ} 0 1 = cc in absurd (omega arith)

-- ---- the content of a protected kind

abbrev content_kind : Kind → Content
content_kind K.ClearHello = C.Handshake
content_kind K.ClearRequest = C.Handshake
content_kind K.ClearChange = C.ChangeCipherSpec
content_kind K.ClearAlert = C.Alert
content_kind K.OtherClear = C.Data
content_kind K.ProtectedChange = C.ChangeCipherSpec
content_kind K.ProtectedAlert = C.Alert
content_kind K.ProtectedHandshake = C.Handshake
content_kind K.ProtectedData = C.Data

content-kind : (c : Content) (first : ℕ) → content_kind (kind_of c true first) ≡ c
content-kind C.ChangeCipherSpec first = refl
content-kind C.Alert first = refl
content-kind C.Handshake first = refl
content-kind C.Data first = refl

pub kind-content : (d : List ℕ) (r : Record) (k : Kind) → r.protected ≡ true → kind_in d r ≡ k → r.content ≡ content_kind k
kind-content d r k p e =
    sym (content-kind r.content (get_or (fragment_of d r) 0 0))
    ∙ ap (λ b. content_kind (kind_of r.content b (get_or (fragment_of d r) 0 0))) (sym p)
    ∙ ap content_kind e

pub content-kind-in : (d : List ℕ) (r : Record) (c : Content) → r.protected ≡ true → r.content ≡ c → kind_in d r ≡ kind_of c true (get_or (fragment_of d r) 0 0)
content-kind-in d r c p e = λ i. kind_of (e i) (p i) (get_or (fragment_of d r) 0 0)

-- a HelloRequest is no Finished
request-length : (c : List ℕ) → is_request c ≡ true → length c ≡ 3
unfolding is_request
request-length c e = decide (eqb (length c) 3) (λ t. eqb-true (length c) 3 t) (λ t. clash (sym (sym (rw t refl) ∙ e)))

pub request-malformed : (c expected : List ℕ) → is_request c ≡ true → judged_of c expected ≡ Err F.Malformed
request-malformed c expected e = not_finished c expected (λ i. omega (arith, request-length c e, i.0))

-- ---- the unit goes along with the course

module _ (k : Keys) (expected : List ℕ) (course : Course) (u : Ship) (a : Along k expected course u) where
  over-seven : (d : List ℕ) (r : Record) → Over u.state → judged_record u d r ≡ judged (W.Refused X.Ended) u
  over-seven d r (inl e) = row_is u d r (row_stays (at_end (ap (λ s. rule_of s (kind_in d r)) e)))
  over-seven d r (inr e) = row_is u d r (row_stays (at_end (ap (λ s. rule_of s (kind_in d r)) e)))

  module _ (d : List ℕ) (r : Record) where
    abbrev more : Course
    more = used_by k expected course d r

    abbrev new_by : Bool
    new_by = is_new course.width course.numbers r.number

    -- a course that is shut stays as it is, and a unit that is over too
    shut_more : course.shut ≡ true → Along k expected (with_record k expected course d r) (judged_record u d r).unit
    shut_more z =
        let same : with_record k expected course d r ≡ course
        = ap (λ b. pick b course (pick (genuine_bytes k d r) (pick new_by more course) course)) z in
        let left : (judged_record u d r).unit ≡ u = ap (λ j. j.unit) (over-seven d r (a.is_over z)) in
        subst (λ c. Along k expected c (judged_record u d r).unit) (sym same) (subst (Along k expected course) (sym left) a)

    module _ (z : course.shut ≡ false) where
      up : Up u.state
      up = a.is_up z

      right_code : (c : List ℕ) → Protected u.protection.keys d r c → Protected k d r c
      right_code c s = subst (λ x. Protected x d r c) (a.keys_same z) s

      not_genuine : genuine_bytes k d r ≡ false → with_record k expected course d r ≡ course
      not_genuine g = ap₂ (λ b c. pick b course (pick c (pick new_by more course) course)) z g

      clear_same : r.protected ≡ false → with_record k expected course d r ≡ course
      clear_same p = not_genuine (ap (λ b. pick b (genuine_under k FromShore r.number r.byte (fragment_of d r)) false) p)

      not_new : (c : List ℕ) → Protected u.protection.keys d r c → new_by ≡ false → with_record k expected course d r ≡ course
      not_new c s n = λ i. pick (z i) course (pick (bytes-right k d r c (right_code c s) i) (pick (n i) more course) course)

      window_at_lem : (x : Result (Window × ℕ) NotNew) → accept_of u.protection.window r.number ≡ x
          → accept_of (window_of course.width course.numbers) r.number ≡ x
      window_at_lem x e = sym (ap (λ w. accept_of w r.number) (a.window_same z)) ∙ e

      kind-clear : (x : Kind) → kind_in d r ≡ x → protected_kind x ≡ false → with_record k expected course d r ≡ course
      kind-clear x e f = clear_same (sym (is-protected-kind u d r) ∙ ap protected_kind e ∙ f)

      -- an answer that leaves the unit uses up nothing
      stays_same : {x : Answer} → Stays u d r x → with_record k expected course d r ≡ course
      stays_same (at_end e) = up-not-over u.state up (ruled-says u d r T.Ended e)
      stays_same (not_allowed e) =
          clear_same (sym (is-protected-kind u d r) ∙ opened-clear (kind_in d r) (sym (up_rule u.state (kind_in d r) up) ∙ e))
      stays_same (not_first e y) = up-not-midway u.state up (ruled-says u d r T.Agree e).0
      stays_same (forged e never) =
          not_genuine (bytes-wrong k d r (λ c s. never c (subst (λ x. Protected x d r c) (sym (a.keys_same z)) s)))
      stays_same (too_old c e s q) = not_new c s (old_is course.width a.held course.numbers r.number (window_at_lem (Err A.TooOld) q))
      stays_same (repeated c e s q) =
          not_new c s (repeated_is course.width a.held course.numbers r.number (window_at_lem (Err A.Repeated) q))
      stays_same (bad_hello e y q) = up-not-midway u.state up (ruled-says u d r T.Agree e).0
      stays_same (bad_request e q) = kind-clear K.ClearRequest (ruled-says u d r T.Request e).1 refl
      stays_same (bad_change e q) = up-not-midway u.state up (inr (inl (ruled-says u d r T.Change e).0))
      stays_same (bad_alert e q) = up-not-midway u.state up (ruled-says u d r T.Hear e).0
      stays_same (unacceptable term e y q) = up-not-midway u.state up (ruled-says u d r T.Agree e).0
      stays_same (checksum x e q m) = up-not-midway u.state up (ruled-says u d r T.Hear e).0
      stays_same (ignored_request e q m) = kind-clear K.ClearRequest (ruled-says u d r T.Request e).1 refl
      stays_same (reported_request e q m) = kind-clear K.ClearRequest (ruled-says u d r T.Request e).1 refl
      stays_same (warning x e q m l) = up-not-midway u.state up (ruled-says u d r T.Hear e).0

      shuts-never : {P : Type 0} {x : Answer} → Shuts u d r x → P
      shuts-never (critical x e q m l) = up-not-midway u.state up (ruled-says u d r T.Hear e).0
      shuts-never (fatal x e q m l) = up-not-midway u.state up (ruled-says u d r T.Hear e).0

      -- a new number
      module _ (c : List ℕ) (w : Window) (n : New u d r c w) where
        abbrev shuts : Bool
        shuts = content_shuts r.content c expected

        accepted-so : accept_of (window_of course.width course.numbers) r.number ≡ Ok (w, n.arrived)
        accepted-so = window_at_lem (Ok (w, n.arrived)) n.accepted

        used-so : with_record k expected course d r ≡ record { width = course.width; numbers = r.number ∷ course.numbers; shut = shuts }
        used-so =
            let g = bytes-right k d r c (right_code c n.coded) in
            let s = new_is course.width a.held course.numbers r.number w n.arrived accepted-so in
            let e = protected_content k d r c (right_code c n.coded) in
            λ i. pick (z i) course (pick (g i) (pick (s i) (record { width = course.width; numbers = r.number ∷ course.numbers; shut = content_shuts r.content (e i) expected }) course) course)

        shut_by_lem : (x : Ship) → shuts ≡ true → Over x.state → Along k expected (with_record k expected course d r) x
        shut_by_lem x t o =
            subst (λ y. Along k expected y x) (sym used-so)
            (record {
              held = a.held;
              is_up = λ g. true_false shuts t g;
              keys_same = λ g. true_false shuts t g;
              expected_same = λ g. true_false shuts t g;
              window_same = λ g. true_false shuts t g;
              is_over = λ g. o;
            })

        used : (x : Ship) → x.protection.window ≡ w → x.expected ≡ u.expected → x.protection.keys ≡ u.protection.keys
            → ((shuts ≡ false) × Up x.state) ⊎ ((shuts ≡ true) × Over x.state) → Along k expected (with_record k expected course d r) x
        used x ew ee ek (inl (f, o)) =
            subst (λ y. Along k expected y x) (sym used-so)
            (record {
              held = a.held;
              is_up = λ g. o;
              keys_same = λ g. ek ∙ a.keys_same z;
              expected_same = λ g. ee ∙ a.expected_same z;
              window_same = λ g. ew ∙ window_more course.width a.held course.numbers r.number w n.arrived accepted-so;
              is_over = λ g. true_false shuts g f;
            })
        used x ew ee ek (inr (t, o)) = shut_by_lem x t o

        -- what the content is
        content-as : (x : Kind) → kind_in d r ≡ x → (b : Bool) → content_shuts (content_kind x) c expected ≡ b → shuts ≡ b
        content-as x e b f =
            ap (λ t. content_shuts t c expected) (kind-content d r x n.coded.is_protected e) ∙ f

        verdict_at : (x : Result ⊤ Unverified) → judged_of c u.expected ≡ x → judged_of c expected ≡ x
        verdict_at x e = sym (ap (judged_of c) (a.expected_same z)) ∙ e

        marked_state : {x : Answer} {s : State} → Marked u d r c x s → ((shuts ≡ false) × Up s) ⊎ ((shuts ≡ true) × Over s)
        marked_state (no_change e) = inl (content-as K.ProtectedChange e false refl, up)
        marked_state (no_alert e q) = inl (content-as K.ProtectedAlert e false (ap alert_shuts q), up)
        marked_state (no_message e q v) = inl (content-as K.ProtectedHandshake e false (ap finished_shuts (verdict_at (Err F.Malformed) v)), up)
        marked_state (no_data e y) = inl (content-as K.ProtectedData e false refl, up)
        marked_state (some_data e y) = inl (content-as K.ProtectedData e false refl, inr refl)
        marked_state (protected_warning x e q l y) = inl (content-as K.ProtectedAlert e false (ap alert_shuts q ∙ ap level_shuts l), up)
        marked_state (repeated_finished x e q l y o) = inl (content-as K.ProtectedAlert e false (ap alert_shuts q ∙ ap level_shuts l), inr refl)
        marked_state (protected_critical x e q l) = inr (content-as K.ProtectedAlert e true (ap alert_shuts q ∙ ap level_shuts l), inl refl)
        marked_state (protected_ignored e q o) =
            inl (content-as K.ProtectedHandshake e false (ap finished_shuts (request-malformed c expected q)), up)
        marked_state (protected_reported e q o) =
            inl (content-as K.ProtectedHandshake e false (ap finished_shuts (request-malformed c expected q)), up)
        marked_state (finished_again e q v o) = inl (content-as K.ProtectedHandshake e false (ap finished_shuts (verdict_at (Ok tt) v)), up)
        marked_state (wrong_finished e q v) = inr (content-as K.ProtectedHandshake e true (ap finished_shuts (verdict_at (Err F.Wrong) v)), inl refl)

      by_row : {j : Judged} → Row u d r j → Along k expected (with_record k expected course d r) j.unit
      by_row (row_stays s) = subst (λ c. Along k expected c u) (sym (stays_same s)) a
      by_row (row_shuts s) = shuts-never s
      by_row (row_hello plan e y q) = up-not-midway u.state up (ruled-says u d r T.Agree e).0
      by_row (row_change e q) = up-not-midway u.state up (inr (inl (ruled-says u d r T.Change e).0))
      by_row (row_marked c w {s = s} n m) = used c w n (with_state (with_window u w) s) refl refl refl (marked_state c w n m)
      by_row (row_opens c w n s e q v) = up-not-midway u.state up (inr (inr s))
      by_row (row_bars c w x n e q l) =
          shut_by_lem c w n (forgotten (with_window u w)) (content-as c w n K.ProtectedAlert e true (ap alert_shuts q ∙ ap level_shuts l)) (inr refl)

    record-along : (b : Bool) → course.shut ≡ b → Along k expected (with_record k expected course d r) (judged_record u d r).unit
    record-along true z = shut_more z
    record-along false z = by_row z (row_of u d r)

  -- the other calls
  alike-along : (x : Ship) → Alike u x → Along k expected course x
  alike-along x s =
      record {
        held = a.held;
        is_up = λ z. subst Up (sym s.state_same) (a.is_up z);
        keys_same = λ z. s.keys_same ∙ a.keys_same z;
        expected_same = λ z. s.expected_same ∙ a.expected_same z;
        window_same = λ z. s.window_same ∙ a.window_same z;
        is_over = λ z. subst Over (sym s.state_same) (a.is_over z);
      }

  -- our own close ends it
  close-over : (s : State) → u.state ≡ s → Over (closed_in u s).unit.state
  close-over S.Idle e = inl refl
  close-over S.Sent e = inl refl
  close-over S.Replied e = inl refl
  close-over S.Spec e = inl refl
  close-over S.Opening e = inl refl
  close-over S.Open e = inl refl
  close-over S.Closed e = inl refl
  close-over S.Barred e = inr e

  close-along : Along k expected (shut_by course) (closed_of u).unit
  close-along =
      record {
        held = a.held;
        is_up = λ f. true_false true refl f;
        keys_same = λ f. true_false true refl f;
        expected_same = λ f. true_false true refl f;
        window_same = λ f. true_false true refl f;
        is_over = λ f. close-over u.state refl;
      }

  -- a start again is refused in Opening and Open
  start_same : Up u.state → (started_of u).unit ≡ u
  start_same (inl e) = ap (λ s. (started_in u s).unit) e
  start_same (inr e) = ap (λ s. (started_in u s).unit) e

  -- and a hello too; where something closed it is refused as well
  hello-over : Over u.state → (random macs : List ℕ) (refresh room : ℕ) → (hello_sent u random macs refresh room).unit ≡ u
  hello-over (inl e) random macs refresh room = hello-refused u random macs refresh room X.Ended (ap may_hello e)
  hello-over (inr e) random macs refresh room = hello-refused u random macs refresh room X.Ended (ap may_hello e)

  hello-along : (b : Bool) → course.shut ≡ b → (random macs : List ℕ) (refresh room : ℕ) → (hello_sent u random macs refresh room).unit ≡ u
  hello-along false z random macs refresh room = hello-up u (a.is_up z) random macs refresh room
  hello-along true z random macs refresh room = hello-over (a.is_over z) random macs refresh room

  event-along : (e : Event) → MayCome course e → Along k expected (with_event k expected course e) (next u e)
  event-along (took d r) m = record-along d r course.shut refl
  event-along (greeting random macs refresh out) m =
      subst (Along k expected course) (sym (hello-along course.shut refl random macs refresh (length out))) a
  event-along (repeating out) m = subst (Along k expected course) (sym (again_same u (length out))) a
  event-along (sending bytes out) m = alike-along (data_sent u bytes (length out)).unit (data-alike u bytes (length out))
  event-along (alerting protected level description lent out) m =
      alike-along (alert_sent u protected level description lent (length out)).unit (alert-alike u protected level description lent (length out))
  event-along closing m = close-along
  event-along starting m = subst (Along k expected course) (sym (start_same (a.is_up m))) a

pub along_all : (k : Keys) (expected : List ℕ) (es : List Event) (course : Course) (u : Ship) → Along k expected course u
    → Ongoing k expected course es → Along k expected (course_of k expected course es) (after u es)
unfolding course_of after
along_all k expected [] course u a go = a
along_all k expected (e ∷ es) course u a go =
    along_all k expected es (with_event k expected course e) (next u e) (event-along k expected course u a e go.0) go.1

pub along-start : (u : Ship) (numbers : List ℕ) → Up u.state → HoldsNumbers u numbers
    → Along u.protection.keys u.expected (course_at u numbers) u
along-start u numbers o h =
    record {
      held = h.held;
      is_up = λ z. o;
      keys_same = λ z. refl;
      expected_same = λ z. refl;
      window_same = λ z. h.means;
      is_over = λ z. true_false false z refl;
    }

pub goes-along-at : (u : Ship) (numbers : List ℕ) → Up u.state → HoldsNumbers u numbers → (later : List Event) → OngoingFrom u numbers later
    → Along u.protection.keys u.expected (course_from u numbers later) (after u later)
goes-along-at u numbers o h later go =
    along_all u.protection.keys u.expected later (course_at u numbers) u (along-start u numbers o h) go

pub goes_along : GoesAlong
unfolding GoesAlong
goes_along u numbers o h later go = goes-along-at u numbers o h later go

-- ---- what is due is handed out, and nothing else

-- what a data answer says
pub record DataFacts (u : Ship) (d : List ℕ) (r : Record) : Type 0 where
  pub c : List ℕ
  pub w : Window
  pub new : New u d r c w
  pub kind : kind_in d r ≡ K.ProtectedData
  pub some : 0 < length c

module _ (u : Ship) (d : List ℕ) (r : Record) where
  pub stays-silent : {x : Answer} → Stays u d r x → is_data (as_ashore x) ≡ false
  stays-silent (at_end e) = refl
  stays-silent (not_allowed e) = refl
  stays-silent (not_first e y) = refl
  stays-silent (forged e never) = refl
  stays-silent (too_old c e s q) = refl
  stays-silent (repeated c e s q) = refl
  stays-silent (bad_hello e y q) = refl
  stays-silent (bad_request e q) = refl
  stays-silent (bad_change e q) = refl
  stays-silent (bad_alert e q) = refl
  stays-silent (unacceptable term e y q) = refl
  stays-silent (checksum x e q m) = refl
  stays-silent (ignored_request e q m) = refl
  stays-silent (reported_request e q m) = refl
  stays-silent (warning x e q m l) = refl

  shuts-silent : {x : Answer} → Shuts u d r x → is_data (as_ashore x) ≡ false
  shuts-silent (critical x e q m l) = refl
  shuts-silent (fatal x e q m l) = refl

  marked-facts : (c : List ℕ) (w : Window) → New u d r c w → {x : Answer} {s : State} → Marked u d r c x s → HandsOut x → DataFacts u d r
  marked-facts c w n (no_change e) z = true_false false z refl
  marked-facts c w n (no_alert e q) z = true_false false z refl
  marked-facts c w n (no_message e q v) z = true_false false z refl
  marked-facts c w n (no_data e y) z = true_false false z refl
  marked-facts c w n (some_data e y) z = record { c = c; w = w; new = n; kind = e; some = y }
  marked-facts c w n (protected_warning x e q l y) z = true_false false z refl
  marked-facts c w n (repeated_finished x e q l y o) z = true_false false z refl
  marked-facts c w n (protected_critical x e q l) z = true_false false z refl
  marked-facts c w n (protected_ignored e q o) z = true_false false z refl
  marked-facts c w n (protected_reported e q o) z = true_false false z refl
  marked-facts c w n (finished_again e q v o) z = true_false false z refl
  marked-facts c w n (wrong_finished e q v) z = true_false false z refl

  pub data_facts : {j : Judged} → Row u d r j → HandsOut j.answer → DataFacts u d r
  data_facts (row_stays {a = x} s) z = true_false (is_data (as_ashore x)) z (stays-silent s)
  data_facts (row_shuts {a = x} s) z = true_false (is_data (as_ashore x)) z (shuts-silent s)
  data_facts (row_hello plan e y q) z = true_false false z refl
  data_facts (row_change e q) z = true_false false z refl
  data_facts (row_marked c w n m) z = marked-facts c w n m z
  data_facts (row_opens c w n s e q v) z = true_false false z refl
  data_facts (row_bars c w x n e q l) z = true_false false z refl

pub handed_part : (k : Keys) (d : List ℕ) (r : Record) (c : List ℕ) → 0 < length c → Protected k d r c → part_at d (r.start + r.head) (length c) ≡ c
unfolding fragment_by
handed_part k d r c some s =
    part_is d (r.start + r.head) r.size c (code_by (hmac (shore_key k r.number)) (size_of k.mac) r.number r.byte c) some s.is_coded

-- in Opening and Open every protected kind is opened
pub up-opens : (s : State) (c : Content) (first : ℕ) → Up s → rule_of s (kind_of c true first) ≡ T.Unprotect
up-opens s C.ChangeCipherSpec first o = up_rule s K.ProtectedChange o
up-opens s C.Alert first o = up_rule s K.ProtectedAlert o
up-opens s C.Handshake first o = up_rule s K.ProtectedHandshake o
up-opens s C.Data first o = up_rule s K.ProtectedData o

module _ (k : Keys) (expected : List ℕ) (course : Course) (u : Ship) (a : Along k expected course u) (d : List ℕ) (r : Record)
    (at : RecordOf d r) where
  due_open : DataFacts u d r → course.shut ≡ false → (c : List ℕ) × Due k course d r c
  due_open f z =
      let e : accept_of (window_of course.width course.numbers) r.number ≡ Ok (f.w, f.new.arrived)
      = sym (ap (λ w. accept_of w r.number) (a.window_same z)) ∙ f.new.accepted in
      let q = new_facts course.width a.held course.numbers r.number f.w f.new.arrived e in (
        f.c,
        record {
          not_shut = z;
          genuine = record { in_place = at; protected_as = subst (λ x. Protected x d r f.c) (a.keys_same z) f.new.coded };
          is_data_lem = kind-content d r K.ProtectedData f.new.coded.is_protected f.kind;
          some = f.some;
          not_before = q.1;
          recent = all_below course.width course.numbers r.number q.0;
        },
      )

  over-never : {P : Type 0} → Over u.state → DataFacts u d r → P
  over-never o f = guards-not-over u.state (kind_in d r) o (ruled-says u d r T.Unprotect f.new.ruled)

  due_by : DataFacts u d r → (b : Bool) → course.shut ≡ b → (c : List ℕ) × Due k course d r c
  due_by f false z = due_open f z
  due_by f true z = over-never (a.is_over z) f

  data_due : (c : List ℕ) → Due k course d r c → (judged_record u d r).answer ≡ W.Data r.number (r.start + r.head) (length c)
  data_due c x =
      let z = x.not_shut in
      let p = x.genuine.protected_as.is_protected in
      let kind = content-kind-in d r C.Data p x.is_data_lem in
      let n : New u d r c (window_of course.width (r.number ∷ course.numbers)) = record {
        ruled = ap (rule_of u.state) kind ∙ up-opens u.state C.Data (get_or (fragment_of d r) 0 0) (a.is_up z);
        coded = subst (λ y. Protected y d r c) (sym (a.keys_same z)) x.genuine.protected_as;
        arrived = arrived_of course.width (r.number ∷ course.numbers);
        accepted = ap (λ w. accept_of w r.number) (a.window_same z) ∙ due_new course.width a.held course.numbers r.number x.not_before x.recent;
      } in
      ap (λ j. j.answer) (row_is u d r (row_marked c (window_of course.width (r.number ∷ course.numbers)) n (some_data kind x.some)))

  pub due_exactly : HandsOut (judged_record u d r).answer ↔ ((c : List ℕ) × Due k course d r c)
  due_exactly = (
    λ z. due_by (data_facts u d r (row_of u d r) z) course.shut refl,
    λ q. ap (λ x. is_data (as_ashore x)) (data_due q.0 q.1),
  )

  pub due_handed : (c : List ℕ) → Due k course d r c → handed_by d (judged_record u d r).answer ≡ c
  due_handed c x = ap (handed_by d) (data_due c x) ∙ handed_part k d r c x.some x.genuine.protected_as

pub handed_out_at : (u : Ship) (numbers : List ℕ) → Up u.state → HoldsNumbers u numbers → (later : List Event) → OngoingFrom u numbers later
    → (d : List ℕ) (r : Record) → RecordOf d r
    → let course = course_from u numbers later in
    let answer = (judged_record (after u later) d r).answer in
    (HandsOut answer ↔ ((c : List ℕ) × Due u.protection.keys course d r c))
    × ((c : List ℕ) → Due u.protection.keys course d r c → handed_by d answer ≡ c)
handed_out_at u numbers o h later go d r at =
    let a = goes-along-at u numbers o h later go in (
      due_exactly u.protection.keys u.expected (course_from u numbers later) (after u later) a d r at,
      due_handed u.protection.keys u.expected (course_from u numbers later) (after u later) a d r at,
    )

pub handed_out : HandedOut
unfolding HandedOut
handed_out u numbers o h later go d r at = handed_out_at u numbers o h later go d r at

-- ---- once

module _ (k : Keys) (expected : List ℕ) (n : ℕ) where
  grows-event : (e : Event) (course : Course) → accepted course.numbers n ≡ true → accepted (with_event k expected course e).numbers n ≡ true
  grows-event (took d r) course x =
      grows_by k expected n course (used_by k expected course d r) course.shut (genuine_bytes k d r)
      (is_new course.width course.numbers r.number) x (accepted_still r.number n course.numbers x)
  grows-event (greeting random macs refresh out) course x = x
  grows-event (repeating out) course x = x
  grows-event (sending bytes out) course x = x
  grows-event (alerting protected level description lent out) course x = x
  grows-event closing course x = x
  grows-event starting course x = x

  pub grows : (es : List Event) (course : Course) → accepted course.numbers n ≡ true → accepted (course_of k expected course es).numbers n ≡ true
  unfolding course_of
  grows [] course x = x
  grows (e ∷ es) course x = grows es (with_event k expected course e) (grows-event e course x)

-- what is due is used up
due_used : (k : Keys) (expected : List ℕ) (course : Course) → Held course.width → (d : List ℕ) (r : Record) (c : List ℕ) → Due k course d r c
    → accepted (with_record k expected course d r).numbers r.number ≡ true
due_used k expected course held d r c x =
    let g : genuine_bytes k d r ≡ true = bytes-right k d r c x.genuine.protected_as in
    let n : is_new course.width course.numbers r.number ≡ true
    = is_new_lem course.width held course.numbers r.number (due_below course.width held course.numbers r.number x.recent) x.not_before in
    let used : with_record k expected course d r ≡ used_by k expected course d r
    = λ i. pick (x.not_shut i) course (pick (g i) (pick (n i) (used_by k expected course d r) course) course) in
    ap (λ y. accepted y.numbers r.number) used ∙ accepted_here r.number course.numbers

pub course_more : (k : Keys) (expected : List ℕ) (es fs : List Event) (course : Course)
    → course_of k expected course (es ++ fs) ≡ course_of k expected (course_of k expected course es) fs
unfolding course_of
course_more k expected [] fs course = refl
course_more k expected (e ∷ es) fs course = course_more k expected es fs (with_event k expected course e)

pub ongoing_front : (k : Keys) (expected : List ℕ) (es fs : List Event) (course : Course) → Ongoing k expected course (es ++ fs)
    → Ongoing k expected course es
ongoing_front k expected [] fs course g = tt
ongoing_front k expected (e ∷ es) fs course g = (g.0, ongoing_front k expected es fs (with_event k expected course e) g.1)

pub handed_once : HandedOnce
unfolding HandedOnce course_of
handed_once u numbers o h later between d r d' r' here there go x y same =
    let k : Keys = u.protection.keys in
    let expected : List ℕ = u.expected in
    let start : Course = course_at u numbers in
    let all : List Event = later ++ (took d r ∷ between) in
    let before : OngoingFrom u numbers later = ongoing_front k expected later (took d r ∷ between) start go in
    let first = (handed_out_at u numbers o h later before d r here).0.0 x in
    let second = (handed_out_at u numbers o h all go d' r' there).0.0 y in
    let used : accepted (with_record k expected (course_from u numbers later) d r).numbers r.number ≡ true
    = due_used k expected (course_from u numbers later) (goes-along-at u numbers o h later before).held d r first.0 first.1 in
    let still : accepted (course_from u numbers all).numbers r.number ≡ true
    = ap (λ c. accepted c.numbers r.number) (course_more k expected later (took d r ∷ between) start)
    ∙ grows k expected r.number between (with_record k expected (course_from u numbers later) d r) used in
    true_false (accepted (course_from u numbers all).numbers r'.number) (ap (accepted (course_from u numbers all).numbers) (sym same) ∙ still) second.1.not_before
