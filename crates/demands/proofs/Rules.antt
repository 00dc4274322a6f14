-- The state table by the bytes. The idea: what a record is, as the definitions sort it, is decided by its protected
-- bit, its content number and its first byte; so each rule of the table has its reason there, and each reason its
-- rule.
use mathlib.Core.Path.{◌≡◌, refl, sym, ap, ◌∙◌}
use mathlib.Core.Logic.{◌⊎◌, inl, inr}
use mathlib.Core.Bool.{Bool, true, false}
use mathlib.Core.List.{List}
use Prim.Native.Nat.{ℕ}
use native.Mathlib.Omega.{arith}
use lib.ListN.{get_or}
use lib.Dec.{eqb}
use borrow.Author.Tests.{eq-eqb, eqb-true}
use Rattle.digest.specs.Pick.{pick}
use Rattle.record.specs.declared.header.Content.{Content}
use Rattle.record.specs.declared.header.Content.TheVariants as C
use Rattle.connection.specs.State.{kind_of, rule_of}
use Rattle.connection.specs.declared.state.State.{State}
use Rattle.connection.specs.declared.state.State.TheVariants as S
use Rattle.connection.specs.declared.state.Kind.{Kind}
use Rattle.connection.specs.declared.state.Kind.TheVariants as K
use Rattle.connection.specs.declared.state.Rule.{Rule}
use Rattle.connection.specs.declared.state.Rule.TheVariants as T
use Rattle.demands.specs.Seen.{Seen}
use Rattle.demands.specs.Table.{Hears, Over, IsHello, Guarded, Allowed, hello, change, alert, guarded}

-- what a record's fields say of its bytes
abbrev pub seen_of : ℕ → Bool → Content → ℕ → List ℕ → ℕ → Seen
seen_of byte protected content number fragment at =
    record {
      byte = byte;
      protected = protected;
      content = content;
      number = number;
      fragment = fragment;
      at = at;
    }

-- the kind, with the test of the first byte as it came out
abbrev pub kind_by : Content → Bool → Bool → Kind
kind_by C.ChangeCipherSpec false one = K.ClearChange
kind_by C.ChangeCipherSpec true one = K.ProtectedChange
kind_by C.Alert false one = K.ClearAlert
kind_by C.Alert true one = K.ProtectedAlert
kind_by C.Handshake false one = pick one K.ClearHello K.OtherClear
kind_by C.Handshake true one = K.ProtectedHandshake
kind_by C.Data false one = K.OtherClear
kind_by C.Data true one = K.ProtectedData

pub kind_by_lem : (content : Content) (protected : Bool) (first : ℕ)
    → kind_of content protected first ≡ kind_by content protected (eqb first 1)
kind_by_lem C.ChangeCipherSpec false first = refl
kind_by_lem C.ChangeCipherSpec true first = refl
kind_by_lem C.Alert false first = refl
kind_by_lem C.Alert true first = refl
kind_by_lem C.Handshake false first = refl
kind_by_lem C.Handshake true first = refl
kind_by_lem C.Data false first = refl
kind_by_lem C.Data true first = refl

-- the kind of a protected record is its content's
abbrev pub protected_kind : Content → Kind
protected_kind C.ChangeCipherSpec = K.ProtectedChange
protected_kind C.Alert = K.ProtectedAlert
protected_kind C.Handshake = K.ProtectedHandshake
protected_kind C.Data = K.ProtectedData

pub kind_protected : (content : Content) (p one : Bool) → p ≡ true → kind_by content p one ≡ protected_kind content
kind_protected C.ChangeCipherSpec p one e = ap (λ b. kind_by C.ChangeCipherSpec b one) e
kind_protected C.Alert p one e = ap (λ b. kind_by C.Alert b one) e
kind_protected C.Handshake p one e = ap (λ b. kind_by C.Handshake b one) e
kind_protected C.Data p one e = ap (λ b. kind_by C.Data b one) e

-- protected, in Open: all four kinds
open_opens_record : (content : Content) (one : Bool) → rule_of S.Open (kind_by content true one) ≡ T.OpenRecord
open_opens_record C.ChangeCipherSpec one = refl
open_opens_record C.Alert one = refl
open_opens_record C.Handshake one = refl
open_opens_record C.Data one = refl

module _ (byte number : ℕ) (f : List ℕ) (at : ℕ) where
  -- ---- from a reason to its rule

  module _ (state : State) (content : Content) (p one : Bool) (first : eqb (get_or f 0 0) 1 ≡ one) where
    abbrev q : Seen
    q = seen_of byte p content number f at

    abbrev rule : Rule
    rule = rule_of state (kind_by content p one)

    hello_kind : IsHello q → kind_by content p one ≡ K.ClearHello
    hello_kind i =
        let is_one : one ≡ true = sym first ∙ eq-eqb (get_or f 0 0) 1 i.begins in
        (λ j. kind_by (i.handshake j) (i.clear j) (is_one j))

    change_kind : p ≡ false → content ≡ C.ChangeCipherSpec → kind_by content p one ≡ K.ClearChange
    change_kind c n = λ j. kind_by (n j) (c j) one

    alert_kind : p ≡ false → content ≡ C.Alert → kind_by content p one ≡ K.ClearAlert
    alert_kind c n = λ j. kind_by (n j) (c j) one

    pub over_rule : Over state → rule ≡ T.Ended
    over_rule (inl e) = ap (λ s. rule_of s (kind_by content p one)) e
    over_rule (inr e) = ap (λ s. rule_of s (kind_by content p one)) e

    pub open_rule : state ≡ S.Open → IsHello q → rule ≡ T.Resend
    open_rule e i = λ j. rule_of (e j) (hello_kind i j)

    pub idle_rule : state ≡ S.Idle → IsHello q → rule ≡ T.Greet
    idle_rule e i = λ j. rule_of (e j) (hello_kind i j)

    pub hears_rule : Hears state → IsHello q → rule ≡ T.GreetAgain
    hears_rule (inl e) i = λ j. rule_of (e j) (hello_kind i j)
    hears_rule (inr e) i = λ j. rule_of (e j) (hello_kind i j)

    pub change_rule : state ≡ S.Replied → p ≡ false → content ≡ C.ChangeCipherSpec → rule ≡ T.Change
    change_rule e c n = λ j. rule_of (e j) (change_kind c n j)

    pub alert_rule : Hears state → p ≡ false → content ≡ C.Alert → rule ≡ T.Hear
    alert_rule (inl e) c n = λ j. rule_of (e j) (alert_kind c n j)
    alert_rule (inr e) c n = λ j. rule_of (e j) (alert_kind c n j)

    pub guarded_rule : Guarded state q → rule ≡ T.OpenRecord
    guarded_rule g = go g.kind
      where
        go : ((state ≡ S.Spec) × ((content ≡ C.Alert) ⊎ (content ≡ C.Handshake))) ⊎ (state ≡ S.Open) → rule ≡ T.OpenRecord
        go (inl (e, inl n)) = λ j. rule_of (e j) (kind_by (n j) (g.protection j) one)
        go (inl (e, inr n)) = λ j. rule_of (e j) (kind_by (n j) (g.protection j) one)
        go (inr e) = (λ j. rule_of (e j) (kind_by content (g.protection j) one)) ∙ open_opens_record content one

    -- ---- from a rule to its reason

    abbrev pub RuleHolds : Rule → Type 0
    RuleHolds T.Ended = Over state
    RuleHolds T.NotAllowed = (Over state → ⊥) × (state ≡ S.Open → IsHello q → ⊥) × (Allowed state q → ⊥)
    RuleHolds T.Resend = (state ≡ S.Open) × IsHello q
    RuleHolds T.Greet = (state ≡ S.Idle) × IsHello q
    RuleHolds T.GreetAgain = Hears state × IsHello q
    RuleHolds T.Change = (state ≡ S.Replied) × (p ≡ false) × (content ≡ C.ChangeCipherSpec)
    RuleHolds T.Hear = Hears state × (p ≡ false) × (content ≡ C.Alert)
    RuleHolds T.OpenRecord = Guarded state q

    not_allowed : rule ≡ T.NotAllowed → Allowed state q → ⊥
    not_allowed e (hello (inl s) i z) = let t : T.NotAllowed ≡ T.Greet = sym e
        ∙ idle_rule s i in let n : ◌≡◌ {A = ℕ} 0 1 = cc in omega arith
    not_allowed e (hello (inr s) i z) = let t : T.NotAllowed ≡ T.GreetAgain = sym e
        ∙ hears_rule s i in let n : ◌≡◌ {A = ℕ} 0 1 = cc in omega arith
    not_allowed e (change s c n) = let t : T.NotAllowed ≡ T.Change = sym e
        ∙ change_rule s c n in let z : ◌≡◌ {A = ℕ} 0 1 = cc in omega arith
    not_allowed e (alert s c n) = let t : T.NotAllowed ≡ T.Hear = sym e
        ∙ alert_rule s c n in let z : ◌≡◌ {A = ℕ} 0 1 = cc in omega arith
    not_allowed e (guarded g) = let t : T.NotAllowed ≡ T.OpenRecord = sym e
        ∙ guarded_rule g in let z : ◌≡◌ {A = ℕ} 0 1 = cc in omega arith

    none_of : rule ≡ T.NotAllowed → RuleHolds T.NotAllowed
    none_of e = (
      λ o. let t : T.NotAllowed ≡ T.Ended = sym e ∙ over_rule o in let z : ◌≡◌ {A = ℕ} 0 1 = cc in omega arith,
      λ s i. let t : T.NotAllowed ≡ T.Resend = sym e
          ∙ open_rule s i in let z : ◌≡◌ {A = ℕ} 0 1 = cc in omega arith,
      not_allowed e,
    )

  as_hello : (first : eqb (get_or f 0 0) 1 ≡ true) → IsHello (seen_of byte false C.Handshake number f at)
  as_hello first = record { clear = refl; handshake = refl; begins = eqb-true (get_or f 0 0) 1 first }

  -- the cells of the table
  pub rule_holds : (state : State) (content : Content) (p one : Bool) (first : eqb (get_or f 0 0) 1 ≡ one)
      → RuleHolds state content p one first (rule_of state (kind_by content p one))
  rule_holds S.Idle C.ChangeCipherSpec false one e = none_of S.Idle C.ChangeCipherSpec false one e refl
  rule_holds S.Idle C.ChangeCipherSpec true one e = none_of S.Idle C.ChangeCipherSpec true one e refl
  rule_holds S.Idle C.Alert false one e = none_of S.Idle C.Alert false one e refl
  rule_holds S.Idle C.Alert true one e = none_of S.Idle C.Alert true one e refl
  rule_holds S.Idle C.Handshake false true e = (refl, as_hello e)
  rule_holds S.Idle C.Handshake false false e = none_of S.Idle C.Handshake false false e refl
  rule_holds S.Idle C.Handshake true one e = none_of S.Idle C.Handshake true one e refl
  rule_holds S.Idle C.Data false one e = none_of S.Idle C.Data false one e refl
  rule_holds S.Idle C.Data true one e = none_of S.Idle C.Data true one e refl
  rule_holds S.Replied C.ChangeCipherSpec false one e = (refl, refl, refl)
  rule_holds S.Replied C.ChangeCipherSpec true one e = none_of S.Replied C.ChangeCipherSpec true one e refl
  rule_holds S.Replied C.Alert false one e = (inl refl, refl, refl)
  rule_holds S.Replied C.Alert true one e = none_of S.Replied C.Alert true one e refl
  rule_holds S.Replied C.Handshake false true e = (inl refl, as_hello e)
  rule_holds S.Replied C.Handshake false false e = none_of S.Replied C.Handshake false false e refl
  rule_holds S.Replied C.Handshake true one e = none_of S.Replied C.Handshake true one e refl
  rule_holds S.Replied C.Data false one e = none_of S.Replied C.Data false one e refl
  rule_holds S.Replied C.Data true one e = none_of S.Replied C.Data true one e refl
  rule_holds S.Spec C.ChangeCipherSpec false one e = none_of S.Spec C.ChangeCipherSpec false one e refl
  rule_holds S.Spec C.ChangeCipherSpec true one e = none_of S.Spec C.ChangeCipherSpec true one e refl
  rule_holds S.Spec C.Alert false one e = (inr refl, refl, refl)
  rule_holds S.Spec C.Alert true one e = record { protection = refl; kind = inl (refl, inl refl) }
  rule_holds S.Spec C.Handshake false true e = (inr refl, as_hello e)
  rule_holds S.Spec C.Handshake false false e = none_of S.Spec C.Handshake false false e refl
  rule_holds S.Spec C.Handshake true one e = record { protection = refl; kind = inl (refl, inr refl) }
  rule_holds S.Spec C.Data false one e = none_of S.Spec C.Data false one e refl
  rule_holds S.Spec C.Data true one e = none_of S.Spec C.Data true one e refl
  rule_holds S.Open C.ChangeCipherSpec false one e = none_of S.Open C.ChangeCipherSpec false one e refl
  rule_holds S.Open C.ChangeCipherSpec true one e = record { protection = refl; kind = inr refl }
  rule_holds S.Open C.Alert false one e = none_of S.Open C.Alert false one e refl
  rule_holds S.Open C.Alert true one e = record { protection = refl; kind = inr refl }
  rule_holds S.Open C.Handshake false true e = (refl, as_hello e)
  rule_holds S.Open C.Handshake false false e = none_of S.Open C.Handshake false false e refl
  rule_holds S.Open C.Handshake true one e = record { protection = refl; kind = inr refl }
  rule_holds S.Open C.Data false one e = none_of S.Open C.Data false one e refl
  rule_holds S.Open C.Data true one e = record { protection = refl; kind = inr refl }
  rule_holds S.Closed content p one e = inl refl
  rule_holds S.Barred content p one e = inr refl
