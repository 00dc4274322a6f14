-- A part put among those that are held: room made for it between them, and all of them joined.
use mathlib.Core.Path.{◌≡◌, refl, ap, ◌∙◌}
use mathlib.Core.List.{List, ◌++◌}
use Prim.Native.Nat.{ℕ, ◌+◌, ◌-◌, ◌*◌, ◌≤◌, ◌<◌}
use native.Mathlib.Omega.{arith}
use lib.ListN.{length, take, drop}
use Rattle.digest.specs.Bytes.{laid_over, laid_within}
use Rattle.digest.proofs.Lay.{length_laid}
use Rattle.gather.specs.Slot.{together, below}
use Rattle.gather.specs.Gatherer.{kept, lower, upper}
use Rattle.gather.specs.declared.slot.Slot.{Slot}
use Rattle.gather.proofs.Sums.{below_small, below_mono}
use Rattle.gather.proofs.Laying.{fits, laid_in_front, laid_three, length_cut}

-- nothing stands below the first place
pub below_none : (s : Slot) → below s 0 ≡ 0
unfolding below together
below_none s = refl

module _ (s : Slot) (k i : ℕ) (store part : List ℕ) (few : k < 4) (eleven : i < 11) (long : 5600 ≤ length store)
    (room : length part ≤ 1400 - below s 11) where
  -- a part put in its place: those of the higher places moved up, and the part laid before them
  pub inserted : (from end : ℕ) (d₁ d₂ : List ℕ) → from ≡ k * 1400 + below s i → end ≡ k * 1400 + below s 11
      → d₁ ≡ laid_over store (from + length part) (take (end - from) (drop from store)) → d₂ ≡ laid_within d₁ from part
      → d₂ ≡ laid_over store (k * 1400 + below s i) (part ++ upper store k s i)
  inserted from end d₁ d₂ ef ee e₁ e₂ =
      let small = below_small s 11 in
      let more = below_mono s i 11 (omega arith) in
      let mid = take (end - from) (drop from store) in
      let l : length mid ≡ end - from = length_cut (end - from) from store (omega arith) in
      let l₁ : length d₁ ≡ length store = ap length e₁ ∙ length_laid store (from + length part) mid (omega arith) in
      let width : end - from ≡ below s 11 - below s i = omega arith in
      e₂
      ∙ fits d₁ from part (omega arith)
      ∙ ap (λ (q : List ℕ). laid_over q from part) e₁
      ∙ laid_in_front store from part mid (omega arith)
      ∙ (λ j. laid_over store (ef j) (part ++ take (width j) (drop (ef j) store)))

  -- all of them joined in another buffer, and how many bytes they are
  pub assembled : (low up a a₁ a₂ a₃ : List ℕ) → 1400 ≤ length a → low ≡ kept store k (below s 0) (below s i) → up ≡ upper store k s i
      → a₁ ≡ laid_within a 0 low → a₂ ≡ laid_within a₁ (length low) part → a₃ ≡ laid_within a₂ (length low + length part) up
      → (length low + length part + length up ≡ below s 11 + length part)
      × (a₃ ≡ laid_over a 0 (lower store k s i ++ part ++ upper store k s i))
  assembled low up a a₁ a₂ a₃ h el eu e₁ e₂ e₃ =
      let small = below_small s 11 in
      let more = below_mono s i 11 (omega arith) in
      let lowest : low ≡ lower store k s i = el ∙ ap (λ (n : ℕ). kept store k n (below s i)) (below_none s) in
      let l : length low ≡ below s i = ap length lowest ∙ length_cut (below s i - 0) (k * 1400 + 0) store (omega arith) ∙ (let z : below s i - 0 ≡ below s i = omega arith in z) in
      let u : length up ≡ below s 11 - below s i = ap length eu ∙ length_cut (below s 11 - below s i) (k * 1400 + below s i) store (omega arith) in (
        omega arith,
        e₃
            ∙ ap (λ (q : List ℕ). laid_within q (length low + length part) up) (e₂ ∙ ap (λ (q : List ℕ). laid_within q (length low) part) e₁)
            ∙ laid_three a low part up (omega arith)
            ∙ (λ j. laid_over a 0 (lowest j ++ part ++ eu j)),
      )
