-- The ship on its two courses: what it takes goes along with demand 3, and what it sends is a record of its own number.
use mathlib.Core.Path.{◌≡◌, refl, sym, ◌∙◌, ap, ap₂, subst}
use mathlib.Core.Logic.{inl, inr}
use mathlib.Core.Bool.{Bool, true, false}
use mathlib.Core.List.{List, [], ◌∷◌, ◌++◌, map, append-nil, append_assoc}
use Prim.Native.Nat.{ℕ, zero, suc, ◌-◌, ◌≤◌}
use native.Mathlib.Omega.{arith}
use lib.ListN.{length, take, replicate}
use lib.Dec.{eqb, ltb}
use borrow.Author.Tests.{eqb-false, le-ltb, ltb-false}
use Rattle.digest.specs.Pick.{pick}
use Rattle.digest.specs.Bytes.{laid_over}
use Rattle.record.specs.Datagram.{framed, faulty, framing_of}
use Rattle.record.specs.Protection.{next_record, counted_on, wrote_by, output_by}
use Rattle.record.specs.declared.header.Content.{Content}
use Rattle.record.specs.declared.header.Content.TheVariants as C
use Rattle.record.specs.declared.keys.Keys.{Keys}
use Rattle.record.specs.declared.keys.Sense.TheVariants.{FromUnit, FromShore}
use Rattle.record.specs.declared.protection.Writing.{Writing}
use Rattle.record.specs.declared.reader.Fault.{Fault}
use Rattle.record.specs.declared.reader.Record.{Record}
use Rattle.record.proofs.Histories.{decide}
use Rattle.record.proofs.Protecting.{wrote_when, output_when}
use Rattle.message.specs.Alert.{level_of, sorted_of}
use Rattle.message.specs.declared.alert.Description.{Description}
use Rattle.message.specs.declared.alert.Level.{Level}
use Rattle.connection.specs.Answer.{handed_of}
use Rattle.connection.specs.Send.{alert_body}
use Rattle.connection.specs.Sent.{sum_of}
use Rattle.connection.specs.declared.receive.Untaken.TheVariants as T
use Rattle.connection.specs.declared.refusal.Refusal.{Refusal}
use Rattle.connection.specs.declared.refusal.Refusal.TheVariants as X
use Rattle.unit.specs.Answer.{as_ashore, slot}
use Rattle.unit.specs.Judge.{judged_record, kind_in}
use Rattle.unit.specs.Receive.{end_of, answers_of, slots_of, received_of, whole_of, framed_to, run_of}
use Rattle.unit.specs.Send.{may_protect, may_clear, unsent, done_with, wrote_to, protected_sent, data_sent, data_output, alert_sent_by, alert_output_by, alert_sent_as, alert_sent, alert_output_as, alert_output}
use Rattle.unit.specs.State.{rule_of, opened_rule}
use Rattle.unit.specs.Unit.{with_sent}
use Rattle.unit.specs.declared.agree.Judged.{Judged}
use Rattle.unit.specs.declared.answer.Answer.{Answer}
use Rattle.unit.specs.declared.answer.Answer.TheVariants as W
use Rattle.unit.specs.declared.answer.Slot.{Slot}
use Rattle.unit.specs.declared.receive.Received.{Received}
use Rattle.unit.specs.declared.send.Sent.{Sent}
use Rattle.unit.specs.declared.state.Kind.{Kind}
use Rattle.unit.specs.declared.state.Kind.TheVariants as K
use Rattle.unit.specs.declared.state.Rule.TheVariants as R
use Rattle.unit.specs.declared.state.State.{State}
use Rattle.unit.specs.declared.state.State.TheVariants as S
use Rattle.unit.specs.declared.unit.Unit.{Unit as Ship}
use Rattle.demands.specs.Course.{Course}
use Rattle.demands.specs.Genuine.{RecordOf}
use Rattle.demands.specs.Past.{is_data}
use Rattle.demands.specs.Ship.Course.{Due, course_of}
use Rattle.demands.specs.Ship.Events.{took, after}
use Rattle.demands.specs.Ship.Genuine.{Genuine}
use Rattle.demands.specs.Ship.HandedOut.{Along}
use Rattle.demands.specs.Ship.Table.{Row, Up, row_stays, row_shuts, row_hello, row_change, row_marked, row_opens, row_bars, some_data}
use Rattle.demands.proofs.Genuine.{true_false}
use Rattle.demands.proofs.Refusals.{laid_front}
use Rattle.demands.proofs.Ship.HandedOut.{along_all, data_facts, due_exactly, due_handed}
use Rattle.demands.proofs.Ship.Table.{row_of, row_is}
use Rattle.ends.specs.Link.{GenuineFor, Handed, handed, number_in, handed_as, out_aboard}
use Rattle.ends.proofs.Courses.{DueFor, Taken, nothing, hands, passes, step_for, stays_shut}
use Rattle.std.specs.Prelude.{Err, None, Ok, Option, Some}

-- ---- what the answers of a datagram hand out

unfoldable pub out_answers : List ℕ → List Answer → List Handed
out_answers d [] = []
out_answers d (a ∷ answers) = handed_as d (as_ashore a) ++ out_answers d answers

out_none : (d : List ℕ) (n : ℕ) → out_aboard d (replicate n (slot W.Nothing)) ≡ []
unfolding out_aboard
out_none d zero = refl
out_none d (suc n) = out_none d n

out_slots : (d : List ℕ) (answers : List Answer) (rest : List Slot) → out_aboard d (map slot answers ++ rest) ≡ out_answers d answers ++ out_aboard d rest
unfolding out_aboard out_answers
out_slots d [] rest = refl
out_slots d (a ∷ answers) rest =
    ap (λ l. handed_as d (as_ashore a) ++ l) (out_slots d answers rest) ∙ sym (append_assoc (handed_as d (as_ashore a)) (out_answers d answers) (out_aboard d rest))

pub out_answers_lem : (d : List ℕ) (answers : List Answer) → out_aboard d (slots_of answers) ≡ out_answers d answers
unfolding slots_of
out_answers_lem d answers =
    out_slots d answers (replicate (8 - length answers) (slot W.Nothing))
    ∙ ap (λ l. out_answers d answers ++ l) (out_none d (8 - length answers)) ∙ append-nil (out_answers d answers)

-- ---- one record

up_agrees : {P : Type 0} (kind : Kind) → opened_rule kind ≡ R.Agree → P
up_agrees K.ClearHello e = let z : ◌≡◌ {A = ℕ} 0 1 = cc in absurd (omega arith)
up_agrees K.ClearRequest e = let z : ◌≡◌ {A = ℕ} 0 1 = cc in absurd (omega arith)
up_agrees K.ClearChange e = let z : ◌≡◌ {A = ℕ} 0 1 = cc in absurd (omega arith)
up_agrees K.ClearAlert e = let z : ◌≡◌ {A = ℕ} 0 1 = cc in absurd (omega arith)
up_agrees K.OtherClear e = let z : ◌≡◌ {A = ℕ} 0 1 = cc in absurd (omega arith)
up_agrees K.ProtectedChange e = let z : ◌≡◌ {A = ℕ} 0 1 = cc in absurd (omega arith)
up_agrees K.ProtectedAlert e = let z : ◌≡◌ {A = ℕ} 0 1 = cc in absurd (omega arith)
up_agrees K.ProtectedHandshake e = let z : ◌≡◌ {A = ℕ} 0 1 = cc in absurd (omega arith)
up_agrees K.ProtectedData e = let z : ◌≡◌ {A = ℕ} 0 1 = cc in absurd (omega arith)

no_agree : {P : Type 0} (s : State) (kind : Kind) → Up s → rule_of s kind ≡ R.Agree → P
no_agree s kind (inl e) q = up_agrees kind (sym (ap (λ x. rule_of x kind) e) ∙ q)
no_agree s kind (inr e) q = up_agrees kind (sym (ap (λ x. rule_of x kind) e) ∙ q)

no_spec : {P : Type 0} (s : State) → Up s → s ≡ S.Spec → P
no_spec s (inl e) q = let y : S.Opening ≡ S.Spec = sym e ∙ q in let z : ◌≡◌ {A = ℕ} 0 1 = cc in absurd (omega arith)
no_spec s (inr e) q = let y : S.Open ≡ S.Spec = sym e ∙ q in let z : ◌≡◌ {A = ℕ} 0 1 = cc in absurd (omega arith)

-- the sending number stays
number_kept : (u : Ship) (d : List ℕ) (r : Record) → Up u.state → {j : Judged} → Row u d r j → j.unit.protection.protected ≡ u.protection.protected
number_kept u d r o (row_stays s) = refl
number_kept u d r o (row_shuts s) = refl
number_kept u d r o (row_hello plan e f g) = no_agree u.state (kind_in d r) o e
number_kept u d r o (row_change e f) = refl
number_kept u d r o (row_marked c w n m) = refl
number_kept u d r o (row_opens c w n s e f g) = no_spec u.state o s
number_kept u d r o (row_bars c w a n e f g) = refl

module _ (k : Keys) (expected : List ℕ) where
  to_for : (d : List ℕ) (r : Record) (x : List ℕ) → Genuine k d r x → GenuineFor k FromShore d r x
  to_for d r x g = record { in_place = g.in_place; is_protected = g.protected_as.is_protected; is_coded = g.protected_as.is_coded }

  from_for : (d : List ℕ) (r : Record) (x : List ℕ) → GenuineFor k FromShore d r x → Genuine k d r x
  from_for d r x g = record { in_place = g.in_place; protected_as = record { is_protected = g.is_protected; is_coded = g.is_coded } }

  due_for : (course : Course) (d : List ℕ) (r : Record) (x : List ℕ) → Due k course d r x → DueFor k FromShore expected course d r x
  due_for course d r x u =
      record { not_shut = u.not_shut; genuine = to_for d r x u.genuine; is_data_lem = u.is_data_lem; some = u.some; not_before = u.not_before; recent = u.recent }

  for_due : (course : Course) (d : List ℕ) (r : Record) (x : List ℕ) → DueFor k FromShore expected course d r x → Due k course d r x
  for_due course d r x u =
      record { not_shut = u.not_shut; genuine = from_for d r x u.genuine; is_data_lem = u.is_data_lem; some = u.some; not_before = u.not_before; recent = u.recent }

  number_said : (u : Ship) (d : List ℕ) (r : Record) → is_data (as_ashore (judged_record u d r).answer) ≡ true → number_in (as_ashore (judged_record u d r).answer) ≡ r.number
  number_said u d r z =
      let f = data_facts u d r (row_of u d r) z in
      ap (λ (j : Judged). number_in (as_ashore j.answer)) (row_is u d r (row_marked f.c f.w f.new (some_data f.kind f.some)))

  -- ---- the records of a datagram

  pub record Took (u : Ship) (course : Course) (d : List ℕ) (rs : List Record) : Type 0 where
    pub end : Course
    pub taken : Taken k FromShore expected d course rs (out_answers d (answers_of u d rs)) end
    pub along : Along k expected end (end_of u d rs)
    pub number : (course.shut ≡ false → end.shut ≡ false → (end_of u d rs).protection.protected ≡ u.protection.protected)

  step_along : (u : Ship) (course : Course) (d : List ℕ) (r : Record) → Along k expected course u
      → Along k expected (step_for k FromShore expected course d r) (judged_record u d r).unit
  unfolding course_of after
  step_along u course d r a = along_all k expected (took d r ∷ []) course u a (tt, tt)

  one_out : (u : Ship) (course : Course) (d : List ℕ) (r : Record) → Along k expected course u → RecordOf d r
      → (rs : List Record) (out : List Handed) (end : Course) → Taken k FromShore expected d (step_for k FromShore expected course d r) rs out end
      → Taken k FromShore expected d course (r ∷ rs) (handed_as d (as_ashore (judged_record u d r).answer) ++ out) end
  one_out u course d r a at rs out end more = decide (is_data (as_ashore (judged_record u d r).answer)) yes_so no_so
    where
      yes_so : is_data (as_ashore (judged_record u d r).answer) ≡ true
          → Taken k FromShore expected d course (r ∷ rs) (handed_as d (as_ashore (judged_record u d r).answer) ++ out) end
      yes_so z =
          let answer = as_ashore (judged_record u d r).answer in
          let due = (due_exactly k expected course u a d r at).0 z in
          let is : handed_as d answer ++ out ≡ handed r.number due.0 ∷ out
          = ap (λ (b : Bool). pick b (handed (number_in answer) (handed_of d answer) ∷ []) [] ++ out) z
          ∙ ap₂ (λ n x. handed n x ∷ out) (number_said u d r z) (due_handed k expected course u a d r at due.0 due.1) in
          subst (λ l. Taken k FromShore expected d course (r ∷ rs) l end) (sym is) (hands due.0 (due_for course d r due.0 due.1) more)

      no_so : is_data (as_ashore (judged_record u d r).answer) ≡ false
          → Taken k FromShore expected d course (r ∷ rs) (handed_as d (as_ashore (judged_record u d r).answer) ++ out) end
      no_so z =
          let answer = as_ashore (judged_record u d r).answer in
          let is : handed_as d answer ++ out ≡ out = ap (λ (b : Bool). pick b (handed (number_in answer) (handed_of d answer) ∷ []) [] ++ out) z in
          subst (λ l. Taken k FromShore expected d course (r ∷ rs) l end) (sym is)
          (passes at (λ x v. true_false (is_data answer) ((due_exactly k expected course u a d r at).1 (x, for_due course d r x v)) z) more)

  pub take_all : (d : List ℕ) (before rs : List Record) → framing_of d ≡ framed (before ++ rs) → (u : Ship) (course : Course)
      → Along k expected course u → Took u course d rs
  unfolding answers_of end_of out_answers
  take_all d before [] f u course a = record { end = course; taken = nothing; along = a; number = λ y z. refl }
  take_all d before (r ∷ rs) f u course a =
      let next : Course = step_for k FromShore expected course d r in
      let t = (judged_record u d r).unit in
      let at : RecordOf d r = record { before = before; behind = rs; framing = f } in
      let b = step_along u course d r a in
      let q = take_all d (before ++ (r ∷ [])) rs (f ∙ ap framed (sym (append_assoc before (r ∷ []) rs))) t next b in
      record {
        end = q.end;
        taken = one_out u course d r a at rs (out_answers d (answers_of t d rs)) q.end q.taken;
        along = q.along;
        number = λ y z.
            q.number (decide next.shut (λ s. true_false q.end.shut (stays_shut k FromShore expected d q.taken s) z) (λ s. s)) z
            ∙ number_kept u d r (a.is_up y) (row_of u d r);
      }

-- ---- a call to receive

module _ (u : Ship) (d out : List ℕ) (lo : 128 ≤ length out) where
  pub framed_out : (rs : List Record) → framing_of d ≡ framed rs
      → (out_aboard d (received_of u d (length out)).answers ≡ out_answers d (answers_of u d rs)) × ((received_of u d (length out)).unit ≡ end_of u d rs)
  unfolding received_of run_of
  framed_out rs f =
      let e : received_of u d (length out) ≡ run_of u d rs
      = ap (λ a. pick a (whole_of u (Err (T.Refused X.Room))) (framed_to u d (framing_of d))) (le-ltb (length out) 128 lo) ∙ ap (framed_to u d) f in
      (ap (λ (x : Received). out_aboard d x.answers) e ∙ out_answers_lem d (answers_of u d rs), ap (λ (x : Received). x.unit) e)

  pub faulty_out : (fault : Fault) (at : ℕ) → framing_of d ≡ faulty fault at
      → (out_aboard d (received_of u d (length out)).answers ≡ []) × ((received_of u d (length out)).unit ≡ u)
  unfolding received_of whole_of out_answers
  faulty_out fault at f =
      let e : received_of u d (length out) ≡ whole_of u (Err (T.Misframed (X.Framing fault) at))
      = ap (λ a. pick a (whole_of u (Err (T.Refused X.Room))) (framed_to u d (framing_of d))) (le-ltb (length out) 128 lo) ∙ ap (framed_to u d) f in
      (ap (λ (x : Received). out_aboard d x.answers) e ∙ out_answers_lem d [], ap (λ (x : Received). x.unit) e)

-- ---- sends

module _ (u : Ship) (content : Content) (body out : List ℕ) where
  abbrev next : List ℕ
  next = next_record u.protection FromUnit content body

  -- a protected record goes out, or is refused and leaves the unit as it was
  pub data ProtectedSide : Type 0 where
    not_out : (x : Refusal) → protected_sent u content body (length out) ≡ unsent u x → ProtectedSide
    goes_out : u.protection.protected ≤ 65535
        → protected_sent u content body (length out) ≡ done_with (length next) (with_sent u (counted_on u.protection) (sum_of next))
        → output_by u.protection FromUnit content body out ≡ laid_over out 0 next → ProtectedSide

  pub protected_side : ProtectedSide
  unfolding protected_sent wrote_by
  protected_side =
      decide (ltb 65535 u.protection.protected)
      (λ a. not_out X.Spent (spent a))
      (λ a. decide (ltb (length out) (length next))
      (λ b. not_out X.Room (roomless a b))
      (λ b. goes_out (ltb-false 65535 u.protection.protected a)
      (ap (λ (w : Writing). wrote_to u next w.protection w.wrote)
      (wrote_when u.protection FromUnit content body out (ltb-false 65535 u.protection.protected a) (ltb-false (length out) (length next) b)))
      (output_when u.protection FromUnit content body out (ltb-false 65535 u.protection.protected a) (ltb-false (length out) (length next) b))))
    where
      spent : ltb 65535 u.protection.protected ≡ true → protected_sent u content body (length out) ≡ unsent u X.Spent
      spent a = rw a refl

      roomless : ltb 65535 u.protection.protected ≡ false → ltb (length out) (length next) ≡ true → protected_sent u content body (length out) ≡ unsent u X.Room
      roomless a b = rw (a, b) refl

-- by the state: in Opening and Open protected records go out, clear alerts do not
up_protects : (s : State) → Up s → may_protect s ≡ Ok tt
up_protects s (inl e) = ap may_protect e
up_protects s (inr e) = ap may_protect e

up_not_clear : (s : State) → Up s → may_clear s ≡ Err X.NotAllowed
up_not_clear s (inl e) = ap may_clear e
up_not_clear s (inr e) = ap may_clear e

module _ (u : Ship) (o : Up u.state) (bytes out : List ℕ) where
  pub data DataSide : Type 0 where
    data_refused_lem : (x : Refusal) → data_sent u bytes (length out) ≡ unsent u x → DataSide
    data_done : 1 ≤ length bytes → length bytes ≤ 1300 → u.protection.protected ≤ 65535
        → (data_sent u bytes (length out)).outcome ≡ Ok tt
        → take (data_sent u bytes (length out)).written (data_output u bytes out) ≡ next_record u.protection FromUnit C.Data bytes
        → (data_sent u bytes (length out)).unit ≡ with_sent u (counted_on u.protection) (sum_of (next_record u.protection FromUnit C.Data bytes)) → DataSide

  none_sent : eqb (length bytes) 0 ≡ true → data_sent u bytes (length out) ≡ unsent u X.Argument
  unfolding data_sent
  none_sent a = rw a refl

  too_long : eqb (length bytes) 0 ≡ false → ltb 1300 (length bytes) ≡ true → data_sent u bytes (length out) ≡ unsent u X.Argument
  unfolding data_sent
  too_long a b = rw (a, b) refl

  data_is : eqb (length bytes) 0 ≡ false → ltb 1300 (length bytes) ≡ false → data_sent u bytes (length out) ≡ protected_sent u C.Data bytes (length out)
  unfolding data_sent
  data_is a b = rw (a, b, up_protects u.state o) refl

  data_output_lem : eqb (length bytes) 0 ≡ false → ltb 1300 (length bytes) ≡ false → data_output u bytes out ≡ output_by u.protection FromUnit C.Data bytes out
  unfolding data_output
  data_output_lem a b = rw (a, b, up_protects u.state o) refl

  data_by : eqb (length bytes) 0 ≡ false → ltb 1300 (length bytes) ≡ false → ProtectedSide u C.Data bytes out → DataSide
  data_by a b (not_out x e) = data_refused_lem x (data_is a b ∙ e)
  data_by a b (goes_out few e f) =
      let next = next_record u.protection FromUnit C.Data bytes in
      let is = data_is a b ∙ e in
      data_done (some_bytes (length bytes) (eqb-false (length bytes) 0 a)) (ltb-false 1300 (length bytes) b) few (ap (λ (s : Sent). s.outcome) is)
      (ap₂ take (ap (λ (s : Sent). s.written) is) (data_output_lem a b ∙ f) ∙ laid_front out next)
      (ap (λ (s : Sent). s.unit) is)
    where
      some_bytes : (n : ℕ) → (n ≡ 0 → ⊥) → 1 ≤ n
      some_bytes zero f = absurd (f refl)
      some_bytes (suc n) f = omega arith

  pub data_side : DataSide
  data_side =
      decide (eqb (length bytes) 0) (λ a. data_refused_lem X.Argument (none_sent a))
      (λ a. decide (ltb 1300 (length bytes)) (λ b. data_refused_lem X.Argument (too_long a b)) (λ b. data_by a b (protected_side u C.Data bytes out)))

module _ (u : Ship) (o : Up u.state) (level description : ℕ) (answered out : List ℕ) where
  pub data AlertSide : Type 0 where
    alert_refused_lem : (x : Refusal) → alert_sent u true level description answered (length out) ≡ unsent u x → AlertSide
    alert_done : (l : Level) (m : Description) → level_of level ≡ Some l → u.protection.protected ≤ 65535
        → (alert_sent u true level description answered (length out)).outcome ≡ Ok tt
        → take (alert_sent u true level description answered (length out)).written (alert_output u true level description answered out)
        ≡ next_record u.protection FromUnit C.Alert (alert_body l m answered)
        → (alert_sent u true level description answered (length out)).unit
        ≡ with_sent u (counted_on u.protection) (sum_of (next_record u.protection FromUnit C.Alert (alert_body l m answered))) → AlertSide

  abbrev goes : Option Level → Option Description → Sent
  goes g s = alert_sent_as u true answered (length out) g s

  sent_as_lem : (l : Level) (m : Description) → level_of level ≡ Some l → sorted_of description ≡ Some m → ltb 1400 (length answered) ≡ false
      → alert_sent u true level description answered (length out) ≡ protected_sent u C.Alert (alert_body l m answered) (length out)
  unfolding alert_sent alert_sent_by
  sent_as_lem l m el em b = ap₂ goes el em ∙ rw (b, up_protects u.state o) refl

  output_as : (l : Level) (m : Description) → level_of level ≡ Some l → sorted_of description ≡ Some m → ltb 1400 (length answered) ≡ false
      → alert_output u true level description answered out ≡ output_by u.protection FromUnit C.Alert (alert_body l m answered) out
  unfolding alert_output alert_output_by
  output_as l m el em b = ap₂ (alert_output_as u true answered out) el em ∙ rw (b, up_protects u.state o) refl

  too_lent : (l : Level) (m : Description) → level_of level ≡ Some l → sorted_of description ≡ Some m → ltb 1400 (length answered) ≡ true
      → alert_sent u true level description answered (length out) ≡ unsent u X.Argument
  unfolding alert_sent
  too_lent l m el em b = ap₂ goes el em ∙ rw b refl

  alert_by_lem : (l : Level) (m : Description) → level_of level ≡ Some l → sorted_of description ≡ Some m → ltb 1400 (length answered) ≡ false
      → ProtectedSide u C.Alert (alert_body l m answered) out → AlertSide
  alert_by_lem l m el em b (not_out x e) = alert_refused_lem x (sent_as_lem l m el em b ∙ e)
  alert_by_lem l m el em b (goes_out few e f) =
      let next = next_record u.protection FromUnit C.Alert (alert_body l m answered) in
      let is = sent_as_lem l m el em b ∙ e in
      alert_done l m el few (ap (λ (s : Sent). s.outcome) is)
      (ap₂ take (ap (λ (s : Sent). s.written) is) (output_as l m el em b ∙ f) ∙ laid_front out next)
      (ap (λ (s : Sent). s.unit) is)

  by_words : (g : Option Level) → level_of level ≡ g → (s : Option Description) → sorted_of description ≡ s → AlertSide
  unfolding alert_sent
  by_words (Some l) el (Some m) em =
      decide (ltb 1400 (length answered)) (λ b. alert_refused_lem X.Argument (too_lent l m el em b))
      (λ b. alert_by_lem l m el em b (protected_side u C.Alert (alert_body l m answered) out))
  by_words (Some l) el None em = alert_refused_lem X.Argument (ap₂ goes el em)
  by_words None el (Some m) em = alert_refused_lem X.Argument (ap₂ goes el em)
  by_words None el None em = alert_refused_lem X.Argument (ap₂ goes el em)

  pub alert_side : AlertSide
  alert_side = by_words (level_of level) refl (sorted_of description) refl

  -- a clear one does not go out
  clear_words : (g : Option Level) (s : Option Description) → (alert_sent_as u false answered (length out) g s).unit ≡ u
  unfolding alert_sent_by
  clear_words (Some l) (Some m) =
      decide (ltb 1400 (length answered)) (λ b. lent_long b) (λ b. not_lent b)
    where
      lent_long : ltb 1400 (length answered) ≡ true → (alert_sent_as u false answered (length out) (Some l) (Some m)).unit ≡ u
      lent_long b = rw b refl

      not_lent : ltb 1400 (length answered) ≡ false → (alert_sent_as u false answered (length out) (Some l) (Some m)).unit ≡ u
      not_lent b = rw (b, up_not_clear u.state o) refl
  clear_words (Some l) None = refl
  clear_words None (Some m) = refl
  clear_words None None = refl

  pub clear_same : (alert_sent u false level description answered (length out)).unit ≡ u
  unfolding alert_sent
  clear_same = clear_words (level_of level) (sorted_of description)
