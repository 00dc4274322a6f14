-- The sums over the sizes of a slot.
use mathlib.Core.Path.{◌≡◌, refl, ap, ◌∙◌}
use mathlib.Core.List.{List, [], ◌∷◌}
use Prim.Native.Nat.{ℕ, zero, suc, ◌+◌, ◌-◌, ◌≤◌, ◌<◌}
use native.Mathlib.Omega.{arith}
use native.Mathlib.Numerals.{add-one}
use native.Mathlib.Nat.{zero-add}
use lib.ListN.{length, get_or, take}
use lib.Dec.{eqb}
use mathlib.Core.Bool.{not}
use Rattle.std.specs.Prelude.{cond, min}
use Rattle.std.specs.List.{sum_by, count_by}
use Rattle.std.proofs.lemmas.List.Recursion.{is_sum_by, is_count_by}
use borrow.Author.Tests.{ne_eqb}
use Rattle.digest.proofs.Picks.{picks}
use Rattle.gather.specs.Slot.{held_in, together, count_of, sum_of, below}
use Rattle.gather.specs.declared.slot.Slot.{Slot}

together_suc : (f : ℕ → ℕ) (s : List ℕ) (i : ℕ) → i < length s → together f (take (suc i) s) ≡ together f (take i s) + f (get_or s i 0)
unfolding together
together_suc f [] i h = absurd (let z : suc i ≤ 0 = h in omega arith)
together_suc f (x ∷ s) zero h = omega arith
together_suc f (x ∷ s) (suc i) h =
    let rest : together f (take (suc i) s) ≡ together f (take i s) + f (get_or s i 0) = together_suc f s i (omega arith) in
    omega arith

-- one place more
pub together_more : (f : ℕ → ℕ) (s : List ℕ) (i : ℕ) → i < length s → together f (take (i + 1) s) ≡ together f (take i s) + f (get_or s i 0)
together_more f s i h = ap (λ (n : ℕ). together f (take n s)) (add-one i) ∙ together_suc f s i h

-- a slot's bytes up to a place, 1,400 at most
pub cut_down : (s : Slot) (n sum : ℕ) → sum ≡ sum_of (take n s.sizes) → 1400 < sum → 1400 ≡ below s n
unfolding below
cut_down s n sum e h = let t : 1400 < sum_of (take n s.sizes) = rw e at h in search picks

pub all_there : (s : Slot) (n sum : ℕ) → sum ≡ sum_of (take n s.sizes) → sum ≤ 1400 → sum ≡ below s n
unfolding below
all_there s n sum e h = let t : sum_of (take n s.sizes) ≤ 1400 = rw e at h in search picks

pub below_small : (s : Slot) (n : ℕ) → below s n ≤ 1400
unfolding below
below_small s n = go (sum_of (take n s.sizes))
  where
    go : (x : ℕ) → Rattle.digest.specs.Pick.pick (lib.Dec.ltb 1400 x) 1400 x ≤ 1400
    go x = mathlib.Core.Logic.by_cases (native.Mathlib.Decide.dec_le x 1400) (λ h. rw (borrow.Author.Tests.le-ltb 1400 x h) h) (λ h. rw (borrow.Author.Tests.lt-ltb 1400 x (omega arith)) (omega arith))

-- bytes are more the more places there are
pub together_mono : (f : ℕ → ℕ) (s : List ℕ) (m n : ℕ) → m ≤ n → together f (take m s) ≤ together f (take n s)
unfolding together
together_mono f [] zero n h = omega arith
together_mono f [] (suc m) zero h = omega arith
together_mono f [] (suc m) (suc n) h = omega arith
together_mono f (x ∷ s) zero n h = omega arith
together_mono f (x ∷ s) (suc m) zero h = absurd (let z : suc m ≤ 0 = h in omega arith)
together_mono f (x ∷ s) (suc m) (suc n) h =
    let rest : together f (take m s) ≤ together f (take n s) = together_mono f s m n (omega arith) in
    omega arith

pub below_mono : (s : Slot) (m n : ℕ) → m ≤ n → below s m ≤ below s n
unfolding below
below_mono s m n h = go (sum_of (take m s.sizes)) (sum_of (take n s.sizes)) (together_mono (λ x. x - 1) s.sizes m n h)
  where
    cut : ℕ → ℕ
    cut x = Rattle.digest.specs.Pick.pick (lib.Dec.ltb 1400 x) 1400 x

    small : (x : ℕ) → x ≤ 1400 → cut x ≡ x
    small x h = rw (borrow.Author.Tests.le-ltb 1400 x h)

    large : (x : ℕ) → 1400 < x → cut x ≡ 1400
    large x h = rw (borrow.Author.Tests.lt-ltb 1400 x h)

    go : (x y : ℕ) → x ≤ y → cut x ≤ cut y
    go x y h =
        mathlib.Core.Logic.by_cases (native.Mathlib.Decide.dec_le y 1400)
        (λ k. omega (arith, small x (omega arith), small y k))
        (λ k. mathlib.Core.Logic.by_cases (native.Mathlib.Decide.dec_le x 1400)
        (λ l. omega (arith, small x l, large y (omega arith)))
        (λ l. omega (arith, large x (omega arith), large y (omega arith))))

-- ---- the sums as std says them

pub summed : (f : ℕ → ℕ) (s : List ℕ) → together f s ≡ sum_by f s
unfolding together
summed f s = is_sum_by (together f) f refl (λ x xs. refl) s

held_or_not : (x : ℕ) (n : ℕ) → held_in x + n ≡ cond (not (eqb x 0)) (1 + n) n
held_or_not zero n = zero-add n
held_or_not (suc x) n = rw (ne_eqb (suc x) 0 (λ e. omega arith)) refl

pub counted : (s : List ℕ) → count_of s ≡ count_by (λ x. not (eqb x 0)) s
unfolding together
counted s = is_count_by count_of (λ x. not (eqb x 0)) refl (λ x xs. held_or_not x (count_of xs)) s

-- as the code takes the sum up to a place, 1,400 at most
pub below_min : (s : Slot) (n : ℕ) → min (sum_of (take n s.sizes)) 1400 ≡ below s n
unfolding below
below_min s n = go (sum_of (take n s.sizes))
  where
    go : (x : ℕ) → min x 1400 ≡ Rattle.digest.specs.Pick.pick (lib.Dec.ltb 1400 x) 1400 x
    go x = mathlib.Core.Logic.by_cases (native.Mathlib.Decide.dec_le x 1400) (λ h. rw (borrow.Author.Tests.le-ltb 1400 x h) (omega arith)) (λ h. rw (borrow.Author.Tests.lt-ltb 1400 x (omega arith)) (omega arith))
