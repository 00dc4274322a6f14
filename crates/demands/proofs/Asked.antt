-- For whom a record is, and what is left: the definitions are the relations of specs/Asked.antt, case by case.
use mathlib.Core.Path.{◌≡◌, refl, sym, ◌∙◌, ap, ap₂, subst}
use mathlib.Core.Logic.{inl, inr, ◌≢◌}
use mathlib.Core.Bool.{Bool, true, false}
use mathlib.Core.List.{List}
use Prim.Native.Nat.{ℕ}
use native.Mathlib.Omega.{arith}
use lib.ListN.{get_or}
use lib.Dec.{eqb}
use borrow.Author.Tests.{eqb-true, eqb-false, eq-eqb, ne_eqb}
use Rattle.digest.specs.Pick.{pick}
use Rattle.digest.specs.Mac.{same_bytes}
use Rattle.digest.proofs.Same.{same_equal, equal_same, differ_same}
use Rattle.record.specs.declared.header.Content.{Content}
use Rattle.record.specs.declared.header.Content.TheVariants as C
use Rattle.record.specs.declared.reader.Record.{Record}
use Rattle.connection.specs.Handshake.{kept_hello, none_started}
use Rattle.connection.specs.Connection.{connection_of}
use Rattle.connection.specs.Judge.{fragment_of, kind_in, judged_record}
use Rattle.connection.specs.Asked.{under_way, is_spec, right_under, beside_to, hello_to, greeting_to, finished_to, open_to, whom_in, whom_of, asked_of}
use Rattle.connection.specs.Told.{beside_open, started_to, left_by, is_beside, told_by, judged_in, told_record}
use Rattle.connection.specs.declared.state.State.{State}
use Rattle.connection.specs.declared.state.State.TheVariants as S
use Rattle.connection.specs.declared.asked.Whom.{Whom}
use Rattle.connection.specs.declared.asked.Whom.TheVariants as A
use Rattle.connection.specs.declared.answer.Judged.{Judged}
use Rattle.connection.specs.declared.answer.Answer.TheVariants as W
use Rattle.connection.specs.declared.refusal.Refusal.TheVariants as X
use Rattle.connection.specs.declared.connection.Connection.{Connection}
use Rattle.connection.specs.declared.told.Told.{Told}
use Rattle.connection.proofs.OpeningRecords.{content_in}
use Rattle.demands.specs.Seen.{seen_in}
use Rattle.demands.specs.Genuine.{keys_of}
use Rattle.demands.specs.Table.{row_ended, Hears, IsHello}
use Rattle.demands.specs.Asked.{RightBeside, NotGreeting, NotItsHello, Asks, asks_only, asks_its_hello, asks_open_hello, asks_new_hello, asks_clear, asks_clear_alone, asks_right, asks_protected, AskedHolds, sent_with, Left, left_only, left_open, left_ended, left_started, left_replaced, left_dropped, left_greeted, left_unchanged, LeftHolds, Tells, tells, ConnectionTable}
use Rattle.demands.proofs.States.{ended, live_over, over_live, over_ended, ended_over}
use Rattle.demands.proofs.Genuine.{true_false, protected_right, right_protected}
use Rattle.demands.proofs.Rules.{kind_by, kind_by_lem}
use Rattle.demands.proofs.Table.{row_of, row_is}

-- ---- states

pub hears_way : (s : State) → Hears s → under_way s ≡ true
hears_way s (inl e) = ap under_way e
hears_way s (inr e) = ap under_way e

pub way_hears : (s : State) → under_way s ≡ true → Hears s
way_hears S.Idle e = true_false false e refl
way_hears S.Replied e = inl refl
way_hears S.Spec e = inr refl
way_hears S.Open e = true_false false e refl
way_hears S.Closed e = true_false false e refl
way_hears S.Barred e = true_false false e refl

spec_is : (s : State) → is_spec s ≡ true → s ≡ S.Spec
spec_is S.Idle e = true_false false e refl
spec_is S.Replied e = true_false false e refl
spec_is S.Spec e = refl
spec_is S.Open e = true_false false e refl
spec_is S.Closed e = true_false false e refl
spec_is S.Barred e = true_false false e refl

not_way : (s : State) → (Hears s → ⊥) → (b : Bool) → under_way s ≡ b → under_way s ≡ false
not_way s n true e = absurd (n (way_hears s e))
not_way s n false e = e

pub idle_never : S.Idle ≡ S.Open → ⊥
idle_never z = let w : ◌≡◌ {A = ℕ} 0 1 = cc in omega arith

-- ---- whom: each record has a row

module _ (c : Connection) (d : List ℕ) (r : Record) (o : c.handshake.state ≡ S.Open) where
  abbrev m : List ℕ
  m = fragment_of d r

  beside_of_lem : r.protected ≡ false → NotGreeting d r → (b : Bool) → under_way c.started.state ≡ b → Asks c d r (pick b A.Started A.Newcomer)
  beside_of_lem p n true e = asks_clear o p n (way_hears c.started.state e)
  beside_of_lem p n false e = asks_clear_alone o p n (λ s. true_false (under_way c.started.state) (hears_way c.started.state s) e)

  hello_of_lem : IsHello (seen_in d r) → r.start ≡ 0 → NotItsHello c d r → (b : Bool) → same_bytes m (kept_hello c.handshake) ≡ b
      → Asks c d r (pick b A.Open A.Newcomer)
  hello_of_lem i z n true e = asks_open_hello o i z n (same_equal m (kept_hello c.handshake) e)
  hello_of_lem i z n false e =
      asks_new_hello o i z n (λ q. true_false (same_bytes m (kept_hello c.handshake)) (equal_same m (kept_hello c.handshake) q) e)

  greeting_of : IsHello (seen_in d r) → r.start ≡ 0 → (a b : Bool) → under_way c.started.state ≡ a → same_bytes m (kept_hello c.started) ≡ b
      → Asks c d r (pick a (pick b A.Started (hello_to c m)) (hello_to c m))
  greeting_of i z true true ea eb =
      asks_its_hello o i z (way_hears c.started.state ea) (same_equal m (kept_hello c.started) eb)
  greeting_of i z true false ea eb =
      hello_of_lem i z (λ s q. true_false (same_bytes m (kept_hello c.started)) (equal_same m (kept_hello c.started) q) eb)
      (same_bytes m (kept_hello c.handshake)) refl
  greeting_of i z false b ea eb =
      hello_of_lem i z (λ s q. true_false (under_way c.started.state) (hears_way c.started.state s) ea)
      (same_bytes m (kept_hello c.handshake)) refl

  hello_in_lem : r.content ≡ C.Handshake → r.protected ≡ false → eqb (get_or m 0 0) 1 ≡ true → IsHello (seen_in d r)
  hello_in_lem e p o = record { clear = p; handshake = e; begins = eqb-true (get_or m 0 0) 1 o }

  first_of : IsHello (seen_in d r) → r.protected ≡ false → (b : Bool) → eqb r.start 0 ≡ b
      → Asks c d r (pick b (greeting_to c m) (beside_to c))
  first_of i p true e =
      greeting_of i (eqb-true r.start 0 e) (under_way c.started.state) (same_bytes m (kept_hello c.started)) refl refl
  first_of i p false e = beside_of_lem p (λ _. eqb-false r.start 0 e) (under_way c.started.state) refl

  right_of : r.protected ≡ true → r.content ≡ C.Handshake → (a b : Bool) → is_spec c.started.state ≡ a → right_under c.started r m ≡ b
      → Asks c d r (pick a (pick b A.Started A.Open) A.Open)
  right_of p h true true ea eb =
      asks_right (record {
        is_open = o;
        in_spec = spec_is c.started.state ea;
        handshake = h;
        content = content_in c.started m;
        coded = right_protected (keys_of c.started) d r p eb;
      })
  right_of p h true false ea eb =
      asks_protected o p (λ q. true_false (right_under c.started r m) (protected_right (keys_of c.started) d r q.content q.coded) eb)
  right_of p h false b ea eb = asks_protected o p (λ q. true_false (is_spec c.started.state) (ap is_spec q.in_spec) ea)

  other_of : r.protected ≡ true → (r.content ≡ C.Handshake → ⊥) → Asks c d r A.Open
  other_of p n = asks_protected o p (λ q. n q.handshake)

  other_clear : (x : Content) → r.protected ≡ false → r.content ≡ x → (x ≡ C.Handshake → ⊥) → Asks c d r (beside_to c)
  other_clear x p e n = beside_of_lem p (λ i. absurd (n (sym e ∙ i.handshake))) (under_way c.started.state) refl

  open_of : (x : Content) (p one : Bool) → r.content ≡ x → r.protected ≡ p → eqb (get_or m 0 0) 1 ≡ one → Asks c d r (open_to c r m (kind_by x p one))
  open_of C.ChangeCipherSpec false one ec ep eo = other_clear C.ChangeCipherSpec ep ec (λ z. let w : ◌≡◌ {A = ℕ} 0 1 = cc in omega arith)
  open_of C.ChangeCipherSpec true one ec ep eo = other_of ep (λ q. let z : C.ChangeCipherSpec ≡ C.Handshake = sym ec ∙ q in let w : ◌≡◌ {A = ℕ} 0 1 = cc in omega arith)
  open_of C.Alert false one ec ep eo = other_clear C.Alert ep ec (λ z. let w : ◌≡◌ {A = ℕ} 0 1 = cc in omega arith)
  open_of C.Alert true one ec ep eo = other_of ep (λ q. let z : C.Alert ≡ C.Handshake = sym ec ∙ q in let w : ◌≡◌ {A = ℕ} 0 1 = cc in omega arith)
  open_of C.Handshake false true ec ep eo = first_of (hello_in_lem ec ep eo) ep (eqb r.start 0) refl
  open_of C.Handshake false false ec ep eo =
      beside_of_lem ep (λ i. true_false (eqb (get_or m 0 0) 1) (eq-eqb (get_or m 0 0) 1 i.begins) eo) (under_way c.started.state) refl
  open_of C.Handshake true one ec ep eo = right_of ep ec (is_spec c.started.state) (right_under c.started r m) refl refl
  open_of C.Data false one ec ep eo = other_clear C.Data ep ec (λ z. let w : ◌≡◌ {A = ℕ} 0 1 = cc in omega arith)
  open_of C.Data true one ec ep eo = other_of ep (λ q. let z : C.Data ≡ C.Handshake = sym ec ∙ q in let w : ◌≡◌ {A = ℕ} 0 1 = cc in omega arith)

  open_row : Asks c d r (open_to c r m (kind_in d r))
  open_row =
      subst (λ k. Asks c d r (open_to c r m k)) (sym (kind_by_lem r.content r.protected (get_or m 0 0)))
      (open_of r.content r.protected (eqb (get_or m 0 0) 1) refl refl refl)

  -- ---- the other way round, in Open

  at_kind : (x : Content) (p one : Bool) → r.content ≡ x → r.protected ≡ p → eqb (get_or m 0 0) 1 ≡ one → whom_of c d r ≡ open_to c r m (kind_by x p one)
  unfolding whom_of
  at_kind x p one ec ep eo =
      ap (whom_in c d r) o ∙ ap (open_to c r m) (kind_by_lem r.content r.protected (get_or m 0 0) ∙ λ i. kind_by (ec i) (ep i) (eo i))

  at_hello : IsHello (seen_in d r) → r.start ≡ 0 → whom_of c d r ≡ greeting_to c m
  at_hello i z =
      at_kind C.Handshake false true i.handshake i.clear (eq-eqb (get_or m 0 0) 1 i.begins) ∙ ap (λ b. pick b (greeting_to c m) (beside_to c)) (eq-eqb r.start 0 z)

  not_its : NotItsHello c d r → (a : Bool) → under_way c.started.state ≡ a → greeting_to c m ≡ hello_to c m
  not_its n true e =
      ap (λ a. pick a (pick (same_bytes m (kept_hello c.started)) A.Started (hello_to c m)) (hello_to c m)) e
      ∙ ap (λ b. pick b A.Started (hello_to c m)) (differ_same m (kept_hello c.started) (n (way_hears c.started.state e)))
  not_its n false e = ap (λ a. pick a (pick (same_bytes m (kept_hello c.started)) A.Started (hello_to c m)) (hello_to c m)) e

  at_clear : r.protected ≡ false → NotGreeting d r → (x : Content) (one : Bool) → r.content ≡ x → eqb (get_or m 0 0) 1 ≡ one → whom_of c d r ≡ beside_to c
  at_clear p n C.ChangeCipherSpec one ec eo = at_kind C.ChangeCipherSpec false one ec p eo
  at_clear p n C.Alert one ec eo = at_kind C.Alert false one ec p eo
  at_clear p n C.Handshake true ec eo =
      at_kind C.Handshake false true ec p eo
      ∙ ap (λ b. pick b (greeting_to c m) (beside_to c)) (ne_eqb r.start 0 (n (hello_in_lem ec p eo)))
  at_clear p n C.Handshake false ec eo = at_kind C.Handshake false false ec p eo
  at_clear p n C.Data one ec eo = at_kind C.Data false one ec p eo

  unright : (RightBeside c d r → ⊥) → r.protected ≡ true → r.content ≡ C.Handshake → (a b : Bool) → is_spec c.started.state ≡ a
      → right_under c.started r m ≡ b → finished_to c r m ≡ A.Open
  unright n p h true true ea eb =
      absurd (n (record {
        is_open = o;
        in_spec = spec_is c.started.state ea;
        handshake = h;
        content = content_in c.started m;
        coded = right_protected (keys_of c.started) d r p eb;
      }))
  unright n p h true false ea eb = ap₂ (λ x y. pick x (pick y A.Started A.Open) A.Open) ea eb
  unright n p h false b ea eb = ap (λ x. pick x (pick (right_under c.started r m) A.Started A.Open) A.Open) ea

  at_protected : r.protected ≡ true → (RightBeside c d r → ⊥) → (x : Content) → r.content ≡ x → whom_of c d r ≡ A.Open
  at_protected p n C.ChangeCipherSpec ec = at_kind C.ChangeCipherSpec true (eqb (get_or m 0 0) 1) ec p refl
  at_protected p n C.Alert ec = at_kind C.Alert true (eqb (get_or m 0 0) 1) ec p refl
  at_protected p n C.Handshake ec =
      at_kind C.Handshake true (eqb (get_or m 0 0) 1) ec p refl
      ∙ unright n p ec (is_spec c.started.state) (right_under c.started r m) refl refl
  at_protected p n C.Data ec = at_kind C.Data true (eqb (get_or m 0 0) 1) ec p refl

module _ (c : Connection) (d : List ℕ) (r : Record) where
  by_state : (s : State) → c.handshake.state ≡ s → Asks c d r (whom_in c d r s)
  by_state S.Idle e = asks_only (λ z. let y : S.Idle ≡ S.Open = sym e ∙ z in let w : ◌≡◌ {A = ℕ} 0 1 = cc in omega arith)
  by_state S.Replied e = asks_only (λ z. let y : S.Replied ≡ S.Open = sym e ∙ z in let w : ◌≡◌ {A = ℕ} 0 1 = cc in omega arith)
  by_state S.Spec e = asks_only (λ z. let y : S.Spec ≡ S.Open = sym e ∙ z in let w : ◌≡◌ {A = ℕ} 0 1 = cc in omega arith)
  by_state S.Open e = open_row c d r e
  by_state S.Closed e = asks_only (λ z. let y : S.Closed ≡ S.Open = sym e ∙ z in let w : ◌≡◌ {A = ℕ} 0 1 = cc in omega arith)
  by_state S.Barred e = asks_only (λ z. let y : S.Barred ≡ S.Open = sym e ∙ z in let w : ◌≡◌ {A = ℕ} 0 1 = cc in omega arith)

  pub asks_of : Asks c d r (whom_of c d r)
  unfolding whom_of
  asks_of = by_state c.handshake.state refl

  only_in : (s : State) → (s ≡ S.Open → ⊥) → whom_in c d r s ≡ A.Only
  only_in S.Idle n = refl
  only_in S.Replied n = refl
  only_in S.Spec n = refl
  only_in S.Open n = absurd (n refl)
  only_in S.Closed n = refl
  only_in S.Barred n = refl

  pub asks_is : {w : Whom} → Asks c d r w → whom_of c d r ≡ w
  unfolding whom_of
  asks_is (asks_only n) = only_in c.handshake.state n
  asks_is (asks_its_hello o i z s e) =
      at_hello c d r o i z
      ∙ ap₂ (λ a b. pick a (pick b A.Started (hello_to c (fragment_of d r))) (hello_to c (fragment_of d r))) (hears_way c.started.state s)
      (equal_same (fragment_of d r) (kept_hello c.started) e)
  asks_is (asks_open_hello o i z n e) =
      at_hello c d r o i z ∙ not_its c d r o n (under_way c.started.state) refl
      ∙ ap (λ b. pick b A.Open A.Newcomer) (equal_same (fragment_of d r) (kept_hello c.handshake) e)
  asks_is (asks_new_hello o i z n e) =
      at_hello c d r o i z ∙ not_its c d r o n (under_way c.started.state) refl
      ∙ ap (λ b. pick b A.Open A.Newcomer) (differ_same (fragment_of d r) (kept_hello c.handshake) e)
  asks_is (asks_clear o p n s) =
      at_clear c d r o p n r.content (eqb (get_or (fragment_of d r) 0 0) 1) refl refl ∙ ap (λ b. pick b A.Started A.Newcomer) (hears_way c.started.state s)
  asks_is (asks_clear_alone o p n s) =
      at_clear c d r o p n r.content (eqb (get_or (fragment_of d r) 0 0) 1) refl refl
      ∙ ap (λ b. pick b A.Started A.Newcomer) (not_way c.started.state s (under_way c.started.state) refl)
  asks_is (asks_right q) =
      at_kind c d r q.is_open C.Handshake true (eqb (get_or (fragment_of d r) 0 0) 1) q.handshake q.coded.is_protected refl
      ∙ ap₂ (λ a b. pick a (pick b A.Started A.Open) A.Open) (ap is_spec q.in_spec)
      (protected_right (keys_of c.started) d r q.content q.coded)
  asks_is (asks_protected o p n) = at_protected c d r o p n r.content refl

pub asked_holds : AskedHolds
unfolding AskedHolds
asked_holds c d r w = (λ e. subst (Asks c d r) e (asks_of c d r), asks_is c d r)

-- ---- what is left

module _ (c : Connection) (j : Judged) where
  open_left : (s : State) → j.handshake.state ≡ s → Left c j A.Open (connection_of j.handshake (beside_open c.started s) (sent_with c j))
  open_left S.Idle e = left_ended (λ z. let y : S.Idle ≡ S.Open = sym e ∙ z in let w : ◌≡◌ {A = ℕ} 0 1 = cc in omega arith)
  open_left S.Replied e = left_ended (λ z. let y : S.Replied ≡ S.Open = sym e ∙ z in let w : ◌≡◌ {A = ℕ} 0 1 = cc in omega arith)
  open_left S.Spec e = left_ended (λ z. let y : S.Spec ≡ S.Open = sym e ∙ z in let w : ◌≡◌ {A = ℕ} 0 1 = cc in omega arith)
  open_left S.Open e = left_open e
  open_left S.Closed e = left_ended (λ z. let y : S.Closed ≡ S.Open = sym e ∙ z in let w : ◌≡◌ {A = ℕ} 0 1 = cc in omega arith)
  open_left S.Barred e = left_ended (λ z. let y : S.Barred ≡ S.Open = sym e ∙ z in let w : ◌≡◌ {A = ℕ} 0 1 = cc in omega arith)

  started_left : (s : State) → j.handshake.state ≡ s → Left c j A.Started (started_to c j.handshake (sent_with c j) s)
  started_left S.Idle e = left_started (λ z. let y : S.Idle ≡ S.Open = sym e ∙ z in let w : ◌≡◌ {A = ℕ} 0 1 = cc in omega arith) (live_over j.handshake.state (ap ended e))
  started_left S.Replied e = left_started (λ z. let y : S.Replied ≡ S.Open = sym e ∙ z in let w : ◌≡◌ {A = ℕ} 0 1 = cc in omega arith) (live_over j.handshake.state (ap ended e))
  started_left S.Spec e = left_started (λ z. let y : S.Spec ≡ S.Open = sym e ∙ z in let w : ◌≡◌ {A = ℕ} 0 1 = cc in omega arith) (live_over j.handshake.state (ap ended e))
  started_left S.Open e = left_replaced e
  started_left S.Closed e = left_dropped (inl e)
  started_left S.Barred e = left_dropped (inr e)

  newcomer_left : (b : Bool) → under_way j.handshake.state ≡ b
      → Left c j A.Newcomer (connection_of c.handshake (pick b j.handshake c.started) (sent_with c j))
  newcomer_left true e = left_greeted (way_hears j.handshake.state e)
  newcomer_left false e = left_unchanged (λ s. true_false (under_way j.handshake.state) (hears_way j.handshake.state s) e)

  pub left_of : (w : Whom) → Left c j w (left_by c w j)
  left_of A.Only = left_only
  left_of A.Open = open_left j.handshake.state refl
  left_of A.Started = started_left j.handshake.state refl
  left_of A.Newcomer = newcomer_left (under_way j.handshake.state) refl

  closed_beside : (s : State) → (s ≡ S.Open → ⊥) → beside_open c.started s ≡ none_started
  closed_beside S.Idle n = refl
  closed_beside S.Replied n = refl
  closed_beside S.Spec n = refl
  closed_beside S.Open n = absurd (n refl)
  closed_beside S.Closed n = refl
  closed_beside S.Barred n = refl

  goes_on : (s : State) → (s ≡ S.Open → ⊥) → ended s ≡ false
      → started_to c j.handshake (sent_with c j) s ≡ connection_of c.handshake j.handshake (sent_with c j)
  goes_on S.Idle n e = refl
  goes_on S.Replied n e = refl
  goes_on S.Spec n e = refl
  goes_on S.Open n e = absurd (n refl)
  goes_on S.Closed n e = true_false true refl e
  goes_on S.Barred n e = true_false true refl e

  drops : (s : State) → ended s ≡ true → started_to c j.handshake (sent_with c j) s ≡ connection_of c.handshake none_started (sent_with c j)
  drops S.Idle e = true_false false e refl
  drops S.Replied e = true_false false e refl
  drops S.Spec e = true_false false e refl
  drops S.Open e = true_false false e refl
  drops S.Closed e = refl
  drops S.Barred e = refl

  pub left_is : {w : Whom} {then : Connection} → Left c j w then → left_by c w j ≡ then
  left_is left_only = refl
  left_is (left_open e) = ap (λ s. connection_of j.handshake (beside_open c.started s) (sent_with c j)) e
  left_is (left_ended n) = ap (λ x. connection_of j.handshake x (sent_with c j)) (closed_beside j.handshake.state n)
  left_is (left_started n e) = goes_on j.handshake.state n (over_live j.handshake.state e)
  left_is (left_replaced e) = ap (started_to c j.handshake (sent_with c j)) e
  left_is (left_dropped e) = drops j.handshake.state (over_ended j.handshake.state e)
  left_is (left_greeted s) = ap (λ b. connection_of c.handshake (pick b j.handshake c.started) (sent_with c j)) (hears_way j.handshake.state s)
  left_is (left_unchanged n) =
      ap (λ b. connection_of c.handshake (pick b j.handshake c.started) (sent_with c j)) (not_way j.handshake.state n (under_way j.handshake.state) refl)

pub left_holds : LeftHolds
unfolding LeftHolds
left_holds c j w then = (λ e. subst (Left c j w) e (left_of c j w), left_is c j)

-- ---- the table of a connection

module _ (c : Connection) (random d : List ℕ) (r : Record) where
  pub tells_of : Tells c random d r (told_record c random d r)
  unfolding told_record judged_in
  tells_of =
      tells (asks_of c d r) (row_of (asked_of c (whom_of c d r)) c.sent random d r)
      (left_of c (judged_record (asked_of c (whom_of c d r)) c.sent random d r) (whom_of c d r))

  -- the judgement, where it is known who is asked
  pub told_by_lem : (w : Whom) → whom_of c d r ≡ w → told_record c random d r ≡ told_by c w (judged_record (asked_of c w) c.sent random d r)
  unfolding told_record judged_in
  told_by_lem w e = ap (λ x. told_by c x (judged_record (asked_of c x) c.sent random d r)) e

  pub tells_is : {t : Told} → Tells c random d r t → told_record c random d r ≡ t
  tells_is (tells {w = w} {j = j} {then = then} asks row left) =
      told_by_lem w (asks_is c d r asks)
      ∙ ap (told_by c w) (row_is (asked_of c w) c.sent random d r row)
      ∙ ap (λ x. record { answer = j.answer; connection = x; beside = is_beside w }) (left_is c j left)

pub connection_table : ConnectionTable
unfolding ConnectionTable
connection_table c random d r t = (λ e. subst (Tells c random d r) e (tells_of c random d r), tells_is c random d r)

-- an ended connection gives 7

ended_not_open : (s : State) → ended s ≡ true → s ≢ S.Open
ended_not_open s e z = true_false (ended s) e (ap ended z)

pub tells_seven : (c : Connection) (random d : List ℕ) (r : Record) → ended c.handshake.state ≡ true
    → Tells c random d r (record { answer = W.Refused X.Ended; connection = c; beside = false })
tells_seven c random d r e = tells (asks_only (ended_not_open c.handshake.state e)) (row_ended (ended_over c.handshake.state e)) left_only
