-- Contents, byte by byte: change cipher spec, alerts and Finished. The idea: what is read of a content has its reason
-- in the bytes, and two readings of one content are equal.
use mathlib.Core.Path.{◌≡◌, refl, sym, ap, ◌∙◌}
use mathlib.Core.Logic.{◌≢◌, inl, inr}
use mathlib.Core.Bool.{true, false}
use mathlib.Core.List.{List, [], ◌∷◌}
use Prim.Native.Nat.{ℕ}
use native.Mathlib.Omega.{arith}
use lib.ListN.{length, get_or, drop, length-drop}
use lib.Seq.{take_all}
use lib.Dec.{eqb}
use borrow.Author.Tests.{eqb-true, eqb-false}
use Rattle.digest.specs.Bytes.{word_at}
use Rattle.digest.specs.Mac.{same_bytes}
use Rattle.digest.proofs.Same.{same_equal, equal_same}
use Rattle.message.specs.Alert.{level_of, sorted_of, leveled, alert_of}
use Rattle.message.specs.Change.{is_change}
use Rattle.message.specs.Field.{part_of}
use Rattle.message.specs.Finished.{judged_of}
use Rattle.message.specs.Handshake.{fills, finished}
use Rattle.message.proofs.Written.{Filled, filled, fills_of}
use Rattle.message.specs.declared.alert.Alert.{Alert}
use Rattle.message.specs.declared.finished.Unverified.TheVariants as F
use Rattle.demands.specs.Exactly.Numbers.{is_assigned}
use Rattle.demands.specs.Exactly.Record.{IsAlert, IsFinished}
use Rattle.demands.proofs.Exactly.Reasons.{clash, decide}
use Rattle.demands.proofs.Exactly.Sends.{LevelHolds, level_holds, SortedHolds, sorted-holds}
use Rattle.std.specs.Prelude.{Err, None, Ok, Option, Result, Some, ⊤}
use Rattle.message.specs.declared.alert.Description.{Description}
use Rattle.message.specs.declared.alert.Level.{Level}
use Rattle.message.specs.declared.finished.Unverified.{Unverified}

-- ---- change cipher spec

one_byte : (s : List ℕ) → length s ≡ 1 → get_or s 0 0 ≡ 1 → s ≡ 1 ∷ []
one_byte [] l e = absurd (omega arith)
one_byte (x ∷ []) l e = ap (λ y. y ∷ []) e
one_byte (x ∷ y ∷ s) l e = absurd (omega arith)

pub change-is : (s : List ℕ) → is_change s ≡ true → s ≡ 1 ∷ []
unfolding is_change
change-is s e = decide (eqb (length s) 1)
    (λ a. decide (eqb (get_or s 0 0) 1) (λ b. one_byte s (eqb-true (length s) 1 a) (eqb-true (get_or s 0 0) 1 b))
    (λ b. clash (sym (sym (rw (a, b) refl) ∙ e))))
    (λ a. clash (sym (sym (rw a refl) ∙ e)))

pub change-not : (s : List ℕ) → is_change s ≡ false → s ≢ 1 ∷ []
unfolding is_change
change-not s e f = clash (sym (ap is_change f) ∙ e)

pub not-change : (s : List ℕ) → s ≢ 1 ∷ [] → is_change s ≡ false
not-change s n = decide (is_change s) (λ e. absurd (n (change-is s e))) (λ e. e)

-- ---- alerts

abbrev pub AlertHolds : List ℕ → Option Alert → Type 0
AlertHolds s None = IsAlert s → ⊥
AlertHolds s (Some a) = IsAlert s × (a.checksum ≡ word_at s 2)

leveled-holds : (s : List ℕ) → length s ≡ 6 → (g : Option Level) (t : Option Description) → LevelHolds (get_or s 0 0) g
    → SortedHolds (is_assigned (get_or s 1 0)) t
    → AlertHolds s (leveled g t (word_at s 2))
leveled-holds s l (Some level) (Some d) (a, b) k = ((l, a, b, k), refl)
leveled-holds s l (Some level) None ab k = λ w. let z : ◌≡◌ {A = ℕ} 0 1 = cc w.3 in omega arith
leveled-holds s l None t (inl e) k = λ w. omega (arith, w.1)
leveled-holds s l None t (inr e) k = λ w. omega (arith, w.2)

pub alert-holds : (s : List ℕ) → AlertHolds s (alert_of s)
unfolding alert_of
alert-holds s =
    decide (eqb (length s) 6)
    (λ e. rw e (leveled-holds s (eqb-true (length s) 6 e) (level_of (get_or s 0 0)) (sorted_of (get_or s 1 0))
    (level_holds (get_or s 0 0)) (sorted-holds (get_or s 1 0))))
    (λ e. rw e (λ w. eqb-false (length s) 6 e w.0))

pub not-alert : (s : List ℕ) → (IsAlert s → ⊥) → alert_of s ≡ None
not-alert s n = go (alert_of s) (alert-holds s)
  where
    go : (x : Option Alert) → AlertHolds s x → x ≡ None
    go None w = refl
    go (Some a) w = absurd (n w.0)

pub is_alert : (s : List ℕ) → IsAlert s → (a : Alert) × (alert_of s ≡ Some a) × (a.checksum ≡ word_at s 2)
is_alert s i = go (alert_of s) refl (alert-holds s)
  where
    go : (x : Option Alert) → alert_of s ≡ x → AlertHolds s x
        → (a : Alert) × (alert_of s ≡ Some a) × (a.checksum ≡ word_at s 2)
    go None e w = absurd (w i)
    go (Some a) e w = (a, e, w.1)

-- ---- Finished

abbrev pub FinishedHolds : List ℕ → List ℕ → Result ⊤ Unverified → Type 0
FinishedHolds s expected (Ok tt) = IsFinished s × (drop 3 s ≡ expected)
FinishedHolds s expected (Err F.Wrong) = IsFinished s × (drop 3 s ≢ expected)
FinishedHolds s expected (Err F.Malformed) = IsFinished s → ⊥

twelve-left : (s : List ℕ) → length s ≡ 15 → part_of s 3 15 ≡ drop 3 s
twelve-left s l = take_all 12 (drop 3 s) (omega (arith, length-drop 3 s))

pub finished-holds : (s expected : List ℕ) → FinishedHolds s expected (judged_of s expected)
unfolding judged_of
finished-holds s expected =
    decide (eqb (length s) 15)
    (λ a. decide (fills finished s)
    (λ b.
    let l : length s ≡ 15 = eqb-true (length s) 15 a in
    let w : Filled finished s = filled finished s b in
    let i : IsFinished s = (l, w.type, omega (arith, w.size)) in
    decide (same_bytes (part_of s 3 15) expected)
    (λ e. rw (a, b, e) (i, sym (twelve-left s l) ∙ same_equal (part_of s 3 15) expected e))
    (λ e. rw (a, b, e) (i, λ f. clash (sym (equal_same (part_of s 3 15) expected (twelve-left s l ∙ f)) ∙ e))))
    (λ b. rw (a, b) (λ i.
    let w : Filled finished s = record {
      long_enough = omega (arith, i.0);
      type = i.1;
      size
          = omega (arith, i.0, i.2);
    } in
    let z : true ≡ false = sym (fills_of finished s w) ∙ b in
    let n : ◌≡◌ {A = ℕ} 0 1 = cc in
    omega arith)))
    (λ a. rw a (λ i. eqb-false (length s) 15 a i.0))

pub not_finished : (s expected : List ℕ) → (IsFinished s → ⊥) → judged_of s expected ≡ Err F.Malformed
not_finished s expected n = go (judged_of s expected) (finished-holds s expected)
  where
    go : (x : Result ⊤ Unverified) → FinishedHolds s expected x → x ≡ Err F.Malformed
    go (Ok tt) w = absurd (n w.0)
    go (Err F.Wrong) w = absurd (n w.0)
    go (Err F.Malformed) w = refl

pub wrong_finished : (s expected : List ℕ) → IsFinished s → drop 3 s ≢ expected → judged_of s expected ≡ Err F.Wrong
wrong_finished s expected i n = go (judged_of s expected) (finished-holds s expected)
  where
    go : (x : Result ⊤ Unverified) → FinishedHolds s expected x → x ≡ Err F.Wrong
    go (Ok tt) w = absurd (n w.1)
    go (Err F.Wrong) w = refl
    go (Err F.Malformed) w = absurd (w i)
