-- The facts of a record that is refused are true. The idea: the reason is told by the refusal, which has its reason in the bytes
-- (`Exactly.Record`); each fact is then read off where that reason says it stands.
use mathlib.Core.Path.{◌≡◌, refl, sym, ap, subst, ◌∙◌}
use mathlib.Core.Logic.{◌↔◌, ◌⊎◌, inl, inr}
use mathlib.Core.Bool.{Bool, true, false}
use mathlib.Core.List.{List, [], ◌∷◌, ◌++◌}
use Prim.Native.Nat.{ℕ, zero, suc, ◌+◌, ◌-◌, ◌/◌, ◌%◌, ◌^◌, ◌≤◌, ◌<◌}
use native.Mathlib.Omega.{arith}
use lib.ListN.{length, get_or, take, drop, length-append, length-drop}
use lib.Seq.{take_at, take-take, drop-drop, length-take-le}
use lib.Dec.{eqb, ltb}
use borrow.Author.Tests.{eq-eqb, eqb-true, ltb-true, ltb-false, le-leb}
use Rattle.digest.specs.Pick.{pick}
use Rattle.digest.specs.Hmac.{hmac}
use Rattle.digest.specs.Mac.{size_of}
use Rattle.record.specs.Code.{fragment_by, code_by}
use Rattle.record.specs.History.{accepted, highest_of, mark_of}
use Rattle.record.specs.Window.{held_width}
use Rattle.record.specs.Protection.{content_under}
use Rattle.record.proofs.Covering.{Lies}
use Rattle.record.proofs.Histories.{accepted_le, marks_digit, held_is}
use Rattle.record.specs.declared.header.Content.{Content}
use Rattle.record.specs.declared.header.Content.TheVariants as C
use Rattle.record.specs.declared.reader.Record.{Record}
use Rattle.message.specs.Hello.{read_of}
use Rattle.message.specs.Acceptance.{heard_of}
use Rattle.message.specs.Values.{values_at, places_of}
use Rattle.message.proofs.Givens.{Walked, walked}
use Rattle.message.proofs.Written.{read_written}
use Rattle.message.specs.declared.acceptance.Condition.{Condition}
use Rattle.message.specs.declared.acceptance.Condition.TheVariants as N
use Rattle.message.specs.declared.acceptance.Unheard.TheVariants as H
use Rattle.connection.specs.Asked.{asked_of, is_spec}
use Rattle.connection.specs.Judge.{fragment_of, kind_in}
use Rattle.connection.specs.declared.asked.Whom.{Whom}
use Rattle.connection.specs.declared.asked.Whom.TheVariants as A
use Rattle.connection.specs.declared.connection.Connection.{Connection}
use Rattle.connection.specs.declared.handshake.Handshake.{Handshake}
use Rattle.connection.specs.declared.refusal.Refusal.{Refusal}
use Rattle.connection.specs.declared.refusal.Refusal.TheVariants as X
use Rattle.connection.specs.declared.state.Kind.TheVariants as K
use Rattle.connection.specs.declared.state.State.{State}
use Rattle.connection.specs.declared.state.State.TheVariants as S
use Rattle.why.specs.Contents.{first_of, second_of, bad_clear, bad_protected}
use Rattle.why.specs.Hello.{field_of, fault_in, unmet_of, unmet_by, field_for, condition_in}
use Rattle.why.specs.Opening.{under_of, limit_of, both_tried, forged_by}
use Rattle.why.specs.Why.{is_hello, malformed_by, reason_by}
use Rattle.why.specs.declared.reason.Reason.{Reason}
use Rattle.why.specs.declared.reason.Reason.TheVariants as R
use Rattle.demands.specs.Seen.{Seen, seen_in}
use Rattle.demands.specs.Genuine.{Coded, keys_of, RecordOf}
use Rattle.demands.specs.Table.{Guarded, IsHello, Greets}
use Rattle.demands.specs.Asked.{Asks, asks_only, asks_its_hello, asks_open_hello, asks_new_hello, asks_clear, asks_clear_alone, asks_right, asks_protected}
use Rattle.demands.specs.Exactly.Record.{Bytes, HoldsNumbers, NewAs, WellFormedHello, WhyMalformed, bad_hello, bad_change, bad_alert, bad_protected_change, bad_protected_alert, bad_message, empty_data, WhyRecord}
use Rattle.demands.specs.Facts.{IsUnder, FirstAtFault, had_there, StandsIn, RecordFacts}
use Rattle.demands.proofs.Genuine.{true_false, protected_content}
use Rattle.demands.proofs.Rules.{kind_by, kind_by_lem}
use Rattle.demands.proofs.Exactly.Reasons.{decide}
use Rattle.demands.proofs.Exactly.Record.{lies_in}
use Rattle.demands.proofs.Exactly.Hello.{HeardHolds, heard-holds, not-acceptable, reads_so, values-so}
use Rattle.std.specs.Prelude.{Err, Ok, Result}
use Rattle.message.specs.declared.hello.Field.{Field}
use Rattle.message.specs.declared.hello.Hello.{Hello}

-- ---- parts of parts

inner : (n k s : ℕ) (l : List ℕ) → k + n ≤ s → take n (drop k (take s l)) ≡ take n (drop k l)
inner n zero s l h = take-take n s l (omega arith)
inner n (suc k) zero l h = absurd (omega arith)
inner n (suc k) (suc s) [] h = refl
inner n (suc k) (suc s) (x ∷ l) h = inner n k s l (omega arith)

-- what stands in the fragment of a record, in its datagram
found_at : (n k s p : ℕ) (d : List ℕ) → k + n ≤ s → take n (drop (p + k) d) ≡ take n (drop k (take s (drop p d)))
found_at n k s p d h = ap (take n) (sym (drop-drop k p d)) ∙ sym (inner n k s (drop p d) h)

front : (n k : ℕ) (b c : List ℕ) → k + n ≡ length b → take n (drop k (b ++ c)) ≡ drop k b
front n zero b c h = take_at b c n (omega arith)
front n (suc k) [] c h = absurd (omega arith)
front n (suc k) (x ∷ b) c h = front n k b c (omega arith)

one_at : (k : ℕ) (m : List ℕ) → k < length m → take 1 (drop k m) ≡ get_or m k 0 ∷ []
one_at k [] h = absurd (omega arith)
one_at zero (x ∷ m) h = refl
one_at (suc k) (x ∷ m) h = one_at k m (omega arith)

-- ---- contents and hellos

stands_in : (content : Content) (m : List ℕ) → StandsIn content m (first_of content m) (second_of content m)
unfolding first_of second_of
stands_in C.ChangeCipherSpec m = λ e. rw (eq-eqb (length m) 1 e) refl
stands_in C.Alert m = λ e. rw (eq-eqb (length m) 6 e) (refl, refl)
stands_in C.Handshake m = λ e. rw (le-leb 3 (length m) e) (refl, refl)
stands_in C.Data m = tt

module _ (m : List ℕ) (bytes : Bytes m) where
  first_at_fault : (WellFormedHello m → ⊥) → FirstAtFault m (field_of m)
  unfolding field_of
  first_at_fault n =
      decide (ltb 256 (length m)) (λ e. inl (ltb-true 256 (length m) e, rw e refl))
      (λ e. inr (ltb-false 256 (length m) e, by_reading (read_of m) refl ∙ sym (rw e refl)))
    where
      by_reading : (x : Result Hello Field) → read_of m ≡ x → read_of m ≡ Err (fault_in (read_of m))
      by_reading (Ok h) e =
          let w = read_written m bytes h e in absurd (n (record { values = values_at m h; can = w.0; layout = w.1 }))
      by_reading (Err fault) e = e ∙ ap Err (sym (ap fault_in e))

  -- where the fields of a hello stand, and what stands there
  module _ (id : List ℕ) (w : WellFormedHello m) where
    size_is : length m ≡ (places_of w.values).refresh.end
    size_is =
        let k : Walked m (places_of w.values) = walked m (places_of w.values) (reads_so m id w) in
        sym k.whole ∙ ap (λ h. h.refresh.end) k.places

    had_inside : (condition : Condition)
        → ((field_for (places_of w.values) condition).from ≤ (field_for (places_of w.values) condition).end)
        × ((field_for (places_of w.values) condition).end ≤ length m)
    had_inside N.Version = (omega arith, omega (arith, size_is))
    had_inside N.SessionId = (omega arith, omega (arith, size_is))
    had_inside N.CipherSuite = (omega arith, omega (arith, size_is))
    had_inside N.Compression = (omega arith, omega (arith, size_is))
    had_inside N.Numbering = (omega arith, omega (arith, size_is))

    had_is : (condition : Condition)
        → take ((field_for (places_of w.values) condition).end - (field_for (places_of w.values) condition).from)
        (drop (field_for (places_of w.values) condition).from m)
        ≡ had_there w.values condition
    had_is N.Version = one_at 3 m (omega (arith, size_is)) ∙ ap (λ v. v.version ∷ []) (values-so m id w)
    had_is N.SessionId = ap (λ v. v.session) (values-so m id w)
    had_is N.CipherSuite = ap (λ v. v.suites) (values-so m id w)
    had_is N.Compression = ap (λ v. v.methods) (values-so m id w)
    had_is N.Numbering =
        let at : ℕ = (places_of w.values).numbering.from in
        let one : at + 1 - at ≡ 1 = omega arith in
        ap (λ n. take n (drop at m)) one ∙ one_at at m (omega (arith, size_is)) ∙ ap (λ v. v.numbering ∷ []) (values-so m id w)

-- ---- kinds

hello_kind : (d : List ℕ) (r : Record) → IsHello (seen_in d r) → kind_in d r ≡ K.ClearHello
hello_kind d r i =
    kind_by_lem r.content r.protected (get_or (fragment_of d r) 0 0)
    ∙ λ j. kind_by (i.handshake j) (i.clear j) (eq-eqb (get_or (fragment_of d r) 0 0) 1 i.begins j)

kind_hello : (content : Content) (p : Bool) (first : ℕ) → is_hello (kind_by content p (eqb first 1)) ≡ true
    → (content ≡ C.Handshake) × (p ≡ false) × (first ≡ 1)
kind_hello C.ChangeCipherSpec false first e = true_false false e refl
kind_hello C.ChangeCipherSpec true first e = true_false false e refl
kind_hello C.Alert false first e = true_false false e refl
kind_hello C.Alert true first e = true_false false e refl
kind_hello C.Handshake false first e =
    decide (eqb first 1) (λ b. (refl, refl, eqb-true first 1 b)) (λ b. true_false false (sym (ap (λ x. is_hello (pick x K.ClearHello K.OtherClear)) b) ∙ e) refl)
kind_hello C.Handshake true first e = true_false false e refl
kind_hello C.Data false first e = true_false false e refl
kind_hello C.Data true first e = true_false false e refl

pub is_hello_lem : (d : List ℕ) (r : Record) → (is_hello (kind_in d r) ≡ true) ↔ IsHello (seen_in d r)
is_hello_lem d r = (
  λ e.
      let k = kind_hello r.content r.protected (get_or (fragment_of d r) 0 0)
      (sym (ap is_hello (kind_by_lem r.content r.protected (get_or (fragment_of d r) 0 0))) ∙ e) in
      record { clear = k.1; handshake = k.0; begins = k.2 },
  λ i. ap is_hello (hello_kind d r i),
)

-- ---- a record in its place

fragment_size : (d : List ℕ) (r : Record) → RecordOf d r → length (fragment_of d r) ≡ r.size
fragment_size d r o =
    let l : Lies d r = lies_in d r o in
    length-take-le r.size (drop (r.start + r.head) d)
    (omega (arith, l.inside, l.stand.used, length-drop (r.start + r.head) d))

-- under whose keys a protected record is judged
under_is : (c : Connection) (d : List ℕ) (r : Record) {w : Whom} → Asks c d r w → Guarded (asked_of c w).state (seen_in d r)
    → IsUnder (asked_of c w).state (under_of w)
under_is c d r (asks_only n) g = told g.kind
  where
    told : ((c.handshake.state ≡ S.Spec) × ((r.content ≡ C.Alert) ⊎ (r.content ≡ C.Handshake))) ⊎ (c.handshake.state ≡ S.Open)
        → c.handshake.state ≡ S.Spec
    told (inl (e, k)) = e
    told (inr o) = absurd (n o)
under_is c d r (asks_its_hello o i z s k) g = true_false r.protected g.protection i.clear
under_is c d r (asks_open_hello o i z n k) g = true_false r.protected g.protection i.clear
under_is c d r (asks_new_hello o i z n k) g = true_false r.protected g.protection i.clear
under_is c d r (asks_clear o p n s) g = true_false r.protected g.protection p
under_is c d r (asks_clear_alone o p n s) g = true_false r.protected g.protection p
under_is c d r (asks_right x) g = x.in_spec
under_is c d r (asks_protected o p n) g = o

-- which keys were tried
spec_is : (s : State) → is_spec s ≡ true → s ≡ S.Spec
spec_is S.Idle e = true_false false e refl
spec_is S.Replied e = true_false false e refl
spec_is S.Spec e = refl
spec_is S.Open e = true_false false e refl
spec_is S.Closed e = true_false false e refl
spec_is S.Barred e = true_false false e refl

both_is : (content : Content) (s : State) → both_tried s A.Open content ≡ true → (s ≡ S.Spec) × (content ≡ C.Handshake)
both_is C.ChangeCipherSpec s e = true_false false e refl
both_is C.Alert s e = true_false false e refl
both_is C.Handshake s e = (spec_is s e, refl)
both_is C.Data s e = true_false false e refl

is_both : (content : Content) (s : State) → s ≡ S.Spec → content ≡ C.Handshake → both_tried s A.Open content ≡ true
is_both content s e k = λ i. both_tried (e i) A.Open (k i)

module _ (c : Connection) (numbers d : List ℕ) (r : Record) (in_place : RecordOf d r) where
  forged_is : {w : Whom} → Asks c d r w → Guarded (asked_of c w).state (seen_in d r)
      → ((body : List ℕ) → Coded (keys_of (asked_of c w)) (seen_in d r) body → ⊥)
      → RecordFacts c w numbers d (seen_in d r) (forged_by c w (asked_of c w).protection.keys r)
  unfolding forged_by
  forged_is (asks_only n) g k =
      ((g, k), (λ b. n b.0), refl, sym (fragment_size d r in_place), (refl, refl))
  forged_is (asks_its_hello o i z s e) g k = true_false r.protected g.protection i.clear
  forged_is (asks_open_hello o i z n e) g k = true_false r.protected g.protection i.clear
  forged_is (asks_new_hello o i z n e) g k = true_false r.protected g.protection i.clear
  forged_is (asks_clear o p n s) g k = true_false r.protected g.protection p
  forged_is (asks_clear_alone o p n s) g k = true_false r.protected g.protection p
  forged_is (asks_right x) g k = absurd (k x.content x.coded.is_coded)
  forged_is (asks_protected o p n) g k =
      decide (both_tried c.started.state A.Open r.content)
      (λ e.
      let b = both_is r.content c.started.state e in
      rw e ((g, k), (o, b.0, b.1), started_not b.0 b.1, refl, sym (fragment_size d r in_place), (refl, refl), (refl, refl)))
      (λ e.
      rw e (
        (g, k),
        (λ b. true_false (both_tried c.started.state A.Open r.content) (is_both r.content c.started.state b.1 b.2) e),
        refl,
        sym (fragment_size d r in_place),
        (refl, refl),
      ))
    where
      started_not : c.started.state ≡ S.Spec → r.content ≡ C.Handshake
          → (body : List ℕ) → Coded (keys_of c.started) (seen_in d r) body → ⊥
      started_not s h body y =
          n (record { is_open = o; in_spec = s; handshake = h; content = body; coded = record { is_protected = p; is_coded = y } })

module _ (c : Connection) (whom : Whom) (numbers d : List ℕ) (r : Record) (in_place : RecordOf d r) (bytes : Bytes (fragment_of d r))
    (asks : Asks c d r whom) (window : HoldsNumbers (asked_of c whom) numbers) where
  abbrev q : Seen
  q = seen_in d r

  abbrev f : List ℕ
  f = fragment_of d r

  abbrev asked : Handshake
  asked = asked_of c whom

  abbrev Facts : Reason → Type 0
  Facts = RecordFacts c whom numbers d q

  abbrev reason_of : Refusal → Reason
  reason_of = reason_by asked whom c r d r.start

  width_is : held_width asked.protection.window.width ≡ asked.protection.window.width
  width_is = held_is asked.protection.window.width window.held

  highest_is : asked.protection.window.highest ≡ highest_of numbers
  highest_is = ap (λ w. w.highest) window.means

  -- the mark of a number that was accepted, and is not too old, is set
  mark_set : (s : ℕ) → accepted numbers s ≡ true → highest_of numbers < s + asked.protection.window.width
      → asked.protection.window.marks / 2 ^ (asked.protection.window.highest - s) % 2 ≡ 1
  unfolding mark_of
  mark_set s a l =
      let n : ℕ = highest_of numbers in
      let width : ℕ = asked.protection.window.width in
      let below : s ≤ n = accepted_le numbers s a in
      let back : n - (n - s) ≡ s = omega arith in
      let none : 0 + (n - s) ≡ n - s = omega arith in
      ap (λ w. w.marks / 2 ^ (w.highest - s) % 2) window.means
      ∙ marks_digit numbers n (n - s) width 0 (omega arith)
      ∙ ap (mark_of numbers n) none
      ∙ ap (λ b. pick b (pick (accepted numbers (n - (n - s))) 1 0) 0) (le-leb (n - s) n (omega arith))
      ∙ ap (λ b. pick b 1 0) (ap (accepted numbers) back ∙ a)

  content_is : (body : List ℕ) → NewAs asked numbers q body → take (length f - size_of asked.protection.keys.mac) f ≡ body
  content_is body n = protected_content (keys_of asked) d r body (record { is_protected = n.guarded.protection; is_coded = n.coded })

  abbrev clear_of : Bool → Reason
  clear_of hello = pick hello (R.BadHello (field_of f)) (bad_clear r.content f)

  clear_is : r.protected ≡ false → (hello : Bool) → is_hello (kind_in d r) ≡ hello → malformed_by asked whom d r ≡ clear_of hello
  unfolding malformed_by
  clear_is p hello e =
      ap (λ b. pick b (bad_protected (under_of whom) r.number r.content (content_under asked.protection.keys f)) (clear_of (is_hello (kind_in d r)))) p
      ∙ ap clear_of e

  protected_is : r.protected ≡ true → malformed_by asked whom d r
      ≡ bad_protected (under_of whom) r.number r.content (content_under asked.protection.keys f)
  unfolding malformed_by
  protected_is p =
      ap (λ b. pick b (bad_protected (under_of whom) r.number r.content (content_under asked.protection.keys f)) (clear_of (is_hello (kind_in d r)))) p

  bad_clear_lem : WhyMalformed asked numbers q → r.protected ≡ false → (IsHello q → ⊥) → Facts (malformed_by asked whom d r)
  bad_clear_lem w p n =
      decide (is_hello (kind_in d r)) (λ e. absurd (n ((is_hello_lem d r).0 e)))
      (λ e. subst Facts (sym (clear_is p false e)) (w, p, n, refl, stands_in r.content f))

  bad_protected_lem : WhyMalformed asked numbers q → (body : List ℕ) → NewAs asked numbers q body → Facts (malformed_by asked whom d r)
  bad_protected_lem w body n =
      subst Facts (sym (protected_is n.guarded.protection ∙ ap (bad_protected (under_of whom) r.number r.content) (content_is body n)))
      (w, under_is c d r asks n.guarded, refl, (body, n, refl, stands_in r.content body))

  other_no_hello : (x : Content) → r.content ≡ x → (x ≡ C.Handshake → ⊥) → IsHello q → ⊥
  other_no_hello x e n i = n (sym e ∙ i.handshake)

  malformed_facts : WhyMalformed asked numbers q → Facts (malformed_by asked whom d r)
  malformed_facts (bad_hello g n) =
      subst Facts (sym (clear_is g.hello.clear true ((is_hello_lem d r).1 g.hello))) (g, n, first_at_fault f bytes n)
  malformed_facts (bad_change s p k n) =
      bad_clear_lem (bad_change s p k n) p (other_no_hello C.ChangeCipherSpec k (λ z. let w : ◌≡◌ {A = ℕ} 0 1 = cc in omega arith))
  malformed_facts (bad_alert s p k n) =
      bad_clear_lem (bad_alert s p k n) p (other_no_hello C.Alert k (λ z. let w : ◌≡◌ {A = ℕ} 0 1 = cc in omega arith))
  malformed_facts (bad_protected_change body n k) = bad_protected_lem (bad_protected_change body n k) body n
  malformed_facts (bad_protected_alert body n k a) = bad_protected_lem (bad_protected_alert body n k a) body n
  malformed_facts (bad_message body n k a) = bad_protected_lem (bad_message body n k a) body n
  malformed_facts (empty_data body n k e) = bad_protected_lem (empty_data body n k e) body n

  unacceptable_facts : Greets asked q → (condition : Condition) → heard_of f asked.id ≡ Err (H.Unacceptable condition)
      → Facts (unmet_of (r.start + r.head) f asked.id)
  unfolding unmet_of
  unacceptable_facts g condition e =
      let (w, u) : HeardHolds f asked.id (Err (H.Unacceptable condition)) = subst (HeardHolds f asked.id) e (heard-holds f asked.id bytes) in
      let p = field_for (places_of w.values) condition in
      let inside = had_inside f bytes asked.id w condition in
      let told : unmet_by (r.start + r.head) (Ok (places_of w.values)) condition ≡ unmet_of (r.start + r.head) f asked.id
      = sym (ap (λ x. unmet_by (r.start + r.head) x (condition_in (heard_of f asked.id))) (reads_so f asked.id w)
      ∙ ap (λ x. unmet_by (r.start + r.head) (Ok (places_of w.values)) (condition_in x)) e) in
      subst Facts told (
        g,
        (
          w,
          u,
          found_at (p.end - p.from) p.from r.size (r.start + r.head) d (omega (arith, inside.0, inside.1, fragment_size d r in_place))
              ∙ had_is f bytes asked.id w condition,
        ),
      )

  finished_found : (body : List ℕ) → NewAs asked numbers q body → length body ≡ 15 → take 12 (drop (r.start + r.head + 3) d) ≡ drop 3 body
  unfolding fragment_by
  finished_found body n l =
      let code : List ℕ = code_by (hmac _) (size_of asked.protection.keys.mac) r.number r.byte body in
      let size : r.size ≡ length (body ++ code) = sym (fragment_size d r in_place) ∙ ap length n.coded in
      found_at 12 3 r.size (r.start + r.head) d (omega (arith, length-append body code))
      ∙ ap (λ m. take 12 (drop 3 m)) n.coded
      ∙ front 12 3 body code (omega arith)

  pub facts_of : (x : Refusal) → WhyRecord asked c.sent numbers q x → Facts (reason_of x)
  unfolding reason_by limit_of
  facts_of X.Ended w = w
  facts_of X.NotAllowed w = w
  facts_of X.Forged (g, n) = forged_is c numbers d r in_place asks g n
  facts_of X.TooOld (g, k, l) =
      ((g, k, l), under_is c d r asks g, refl, highest_is, omega (arith, l, width_is, highest_is))
  facts_of X.Repeated (g, k, l, a) = (
    (g, k, l, a),
    under_is c d r asks g,
    refl,
    highest_is,
    omega (arith, accepted_le numbers r.number a, highest_is),
    mark_set r.number a l,
  )
  facts_of X.Malformed w = malformed_facts w
  facts_of X.Unacceptable (g, (w, n)) =
      let (condition, e) = not-acceptable f asked.id w n in unacceptable_facts g condition e
  facts_of X.Checksum w = (w, refl)
  facts_of X.WrongFinished (body, n, k, i, z) =
      (under_is c d r asks n.guarded, refl, (body, n, k, i, z, finished_found body n i.0))
  facts_of (X.Framing fault) w = absurd w
  facts_of X.Room w = absurd w
  facts_of X.Spent w = absurd w
  facts_of X.Argument w = absurd w
