-- The searches of acceptance go on from where they stand: over what is left of the list.
use mathlib.Core.Path.{◌≡◌, refl, sym, ◌∙◌, ap}
use mathlib.Core.List.{List, [], ◌∷◌}
use mathlib.Core.Bool.{Bool, true, false}
use Prim.Native.Nat.{ℕ, ◌+◌, ◌≤◌, ◌<◌}
use native.Mathlib.Omega.{arith}
use lib.ListN.{length, get_or, drop, length-drop, drop_of_length-le}
use lib.Dec.{eqb}
use Rattle.std.specs.List.{list_any}
use Rattle.std.specs.Prelude.{◌||◌}
use Rattle.digest.specs.Pick.{pick}
use borrow.Author.Tests.{eq-eqb, ne_eqb}
use Rattle.message.specs.Acceptance.{fits_pair, first_fit, has_null}
use Rattle.message.proofs.Rests.{byte_piece}

pair_piece : (s : List ℕ) (i : ℕ) → i + 1 < length s → drop i s ≡ get_or s i 0 ∷ (get_or s (i + 1) 0 ∷ drop (i + 2) s)
pair_piece s i h =
    let z : i + 1 + 1 ≡ i + 2 = omega arith in
    byte_piece s i (omega arith)
    ∙ ap (λ (l : List ℕ). get_or s i 0 ∷ l) (byte_piece s (i + 1) (omega arith))
    ∙ ap (λ (k : ℕ). get_or s i 0 ∷ (get_or s (i + 1) 0 ∷ drop k s)) z

pub fit_here : (s : List ℕ) (i : ℕ) → i + 1 < length s → fits_pair (get_or s i 0) (get_or s (i + 1) 0) ≡ true
    → first_fit (drop i s) ≡ get_or s (i + 1) 0
unfolding first_fit
fit_here s i h k = ap first_fit (pair_piece s i h) ∙ rw k refl

pub fit_later : (s : List ℕ) (i : ℕ) → i + 1 < length s → fits_pair (get_or s i 0) (get_or s (i + 1) 0) ≡ false
    → first_fit (drop i s) ≡ first_fit (drop (i + 2) s)
unfolding first_fit
fit_later s i h k = ap first_fit (pair_piece s i h) ∙ rw k refl

pub fit_short : (s : List ℕ) → length s < 2 → 0 ≡ first_fit s
unfolding first_fit
fit_short [] h = refl
fit_short (a ∷ []) h = refl
fit_short (a ∷ b ∷ s) h = absurd (omega arith)

pub fit_none : (s : List ℕ) (i : ℕ) → length s ≤ i → first_fit (drop i s) ≡ 0
fit_none s i h = sym (fit_short (drop i s) (omega (arith, length-drop i s)))

pub fit_odd : (s : List ℕ) (i : ℕ) → i + 1 ≡ length s → first_fit (drop i s) ≡ 0
fit_odd s i h = sym (fit_short (drop i s) (omega (arith, length-drop i s)))

pub null_here : (s : List ℕ) (i : ℕ) → i < length s → get_or s i 0 ≡ 0 → has_null (drop i s) ≡ true
unfolding has_null
null_here s i h k = ap has_null (byte_piece s i (omega arith)) ∙ rw (eq-eqb (get_or s i 0) 0 k) refl

pub null_later : (s : List ℕ) (i : ℕ) → i < length s → (get_or s i 0 ≡ 0 → ⊥) → has_null (drop i s) ≡ has_null (drop (i + 1) s)
unfolding has_null
null_later s i h k = ap has_null (byte_piece s i (omega arith)) ∙ rw (ne_eqb (get_or s i 0) 0 k) refl

pub null_none : (s : List ℕ) (i : ℕ) → length s ≤ i → has_null (drop i s) ≡ false
unfolding has_null
null_none s i h = ap has_null (drop_of_length-le s h)

-- it is in the list where some method of the list is 0
pub null_any : (s : List ℕ) → list_any (λ method. eqb method 0) s ≡ has_null s
unfolding has_null
null_any [] = refl
null_any (method ∷ s) = or_pick (eqb method 0) _ _ (null_any s)
  where
    or_pick : (a b c : Bool) → b ≡ c → (a || b) ≡ pick a true c
    or_pick true b c e = refl
    or_pick false b c e = e
