-- The checksum of two stretches joined (02, P12). The idea: XOR is associative, so blocks XORed onto a block are that block
-- XORed with their own sum; and where four divides the first length, the blocks of the two are the blocks of the whole.
use mathlib.Core.Path.{◌≡◌, refl, sym, ap, ap₂, ◌∙◌}
use mathlib.Core.List.{List, [], ◌∷◌, ◌++◌}
use Prim.Native.Nat.{ℕ, zero, suc, ◌+◌, ◌*◌, ◌/◌, ◌%◌, ◌<◌}
use native.Mathlib.Nat.{mod-lt, mod-eq-sub-mod}
use native.Mathlib.Omega.{arith}
use lib.Arith.{bin_ind}
use lib.Bits.{bit_xor, differ, xor_step, xor_shr, xor_mod, xor_zero_r}
use lib.Dec.{lit<}
use lib.ListN.{length}
use Rattle.record.specs.Checksum.{checksum_of, padded, xor_with, xor_with_blocks}
use Rattle.record.specs.Bench.{Joined, Apart}
use Rattle.record.proofs.Blocks.{block, padded_four}

-- ---- XOR is associative: digit by digit

digit : (x y : ℕ) → x < 2 → y < 2 → bit_xor x y ≡ differ x y
digit zero y h k = refl
digit (suc zero) zero h k = refl
digit (suc zero) (suc zero) h k = refl
digit (suc zero) (suc (suc y)) h k = absurd (omega arith)
digit (suc (suc x)) y h k = absurd (omega arith)

differ_assoc : (x y z : ℕ) → x < 2 → y < 2 → z < 2 → differ (differ x y) z ≡ differ x (differ y z)
differ_assoc zero y z h k l = refl
differ_assoc (suc zero) zero z h k l = refl
differ_assoc (suc zero) (suc zero) zero h k l = refl
differ_assoc (suc zero) (suc zero) (suc zero) h k l = refl
differ_assoc (suc zero) (suc zero) (suc (suc z)) h k l = absurd (omega arith)
differ_assoc (suc zero) (suc (suc y)) z h k l = absurd (omega arith)
differ_assoc (suc (suc x)) y z h k l = absurd (omega arith)

odd_lt : (n : ℕ) → n % 2 < 2
odd_lt n = mod-lt n (lit< tt)

xor_odd : (a b : ℕ) → bit_xor a b % 2 ≡ differ (a % 2) (b % 2)
xor_odd a b = xor_mod a b 1 ∙ digit (a % 2) (b % 2) (odd_lt a) (odd_lt b)

pub xor_assoc : (a b c : ℕ) → bit_xor (bit_xor a b) c ≡ bit_xor a (bit_xor b c)
xor_assoc a =
    bin_ind (λ (n : ℕ). (b c : ℕ) → bit_xor (bit_xor n b) c ≡ bit_xor n (bit_xor b c)) (λ b c. refl)
    (λ n ih b c.
    xor_step (bit_xor n b) c
    ∙ ap₂ (λ (x y : ℕ). bit_xor x (c / 2) * 2 + differ y (c % 2)) (xor_shr n b 1) (xor_odd n b)
    ∙ ap₂ (λ (x y : ℕ). x * 2 + y) (ih (b / 2) (c / 2)) (differ_assoc (n % 2) (b % 2) (c % 2) (odd_lt n) (odd_lt b) (odd_lt c))
    ∙ sym
    (xor_step n (bit_xor b c)
    ∙ ap₂ (λ (x y : ℕ). bit_xor (n / 2) x * 2 + differ (n % 2) y) (xor_shr b c 1) (xor_odd b c)))
    a

-- ---- blocks

block_assoc : (s t u : List ℕ) → xor_with (xor_with s t) u ≡ xor_with s (xor_with t u)
unfolding xor_with
block_assoc [] t u = refl
block_assoc (a ∷ s) [] u = refl
block_assoc (a ∷ s) (b ∷ t) [] = refl
block_assoc (a ∷ s) (b ∷ t) (c ∷ u) = ap₂ (λ (x : ℕ) (y : List ℕ). x ∷ y) (xor_assoc a b c) (block_assoc s t u)

abbrev none : List ℕ
none = block 0 0 0 0

onto_none : (a b c d : ℕ) → xor_with (block a b c d) none ≡ block a b c d
unfolding xor_with
onto_none a b c d = rw (xor_zero_r a, xor_zero_r b, xor_zero_r c, xor_zero_r d)

-- blocks XORed onto a block
onto : (a b c d : ℕ) (s : List ℕ) → xor_with_blocks (block a b c d) s ≡ xor_with (block a b c d) (xor_with_blocks none s)
unfolding xor_with_blocks xor_with
onto a b c d [] = sym (onto_none a b c d)
onto a b c d (p ∷ []) = sym (onto_none a b c d)
onto a b c d (p ∷ q ∷ []) = sym (onto_none a b c d)
onto a b c d (p ∷ q ∷ r ∷ []) = sym (onto_none a b c d)
onto a b c d (p ∷ q ∷ r ∷ t ∷ s) =
    let sum : List ℕ = xor_with_blocks none s in
    onto (bit_xor a p) (bit_xor b q) (bit_xor c r) (bit_xor d t) s
    ∙ block_assoc (block a b c d) (block p q r t) sum
    ∙ ap (xor_with (block a b c d)) (sym (onto p q r t s))

-- ---- joined

less_four : (n : ℕ) → suc (suc (suc (suc n))) % 4 ≡ 0 → n % 4 ≡ 0
less_four n e = ap (λ (x : ℕ). x % 4) (omega arith) ∙ sym (mod-eq-sub-mod {n = suc (suc (suc (suc n)))} {m = 4} (omega arith)) ∙ e

joined_onto : (a b c d : ℕ) (s t : List ℕ) → length s % 4 ≡ 0 → xor_with_blocks (block a b c d) (padded (s ++ t)) ≡ xor_with (xor_with_blocks (block a b c d) (padded s)) (checksum_of t)
unfolding xor_with_blocks xor_with checksum_of padded
joined_onto a b c d [] t e = onto a b c d (padded t)
joined_onto a b c d (p ∷ []) t e = absurd (omega (arith, e))
joined_onto a b c d (p ∷ q ∷ []) t e = absurd (omega (arith, e))
joined_onto a b c d (p ∷ q ∷ r ∷ []) t e = absurd (omega (arith, e))
joined_onto a b c d (p ∷ q ∷ r ∷ u ∷ s) t e =
    ap (xor_with_blocks (block a b c d)) (padded_four p q r u (s ++ t))
    ∙ joined_onto (bit_xor a p) (bit_xor b q) (bit_xor c r) (bit_xor d u) s t (less_four (length s) e)
    ∙ ap (λ (x : List ℕ). xor_with (xor_with_blocks (block a b c d) x) (checksum_of t)) (sym (padded_four p q r u s))

pub joined : Joined
unfolding checksum_of
joined s t e = joined_onto 0 0 0 0 s t e

-- without the proviso: 01 and 01
pub apart : Apart
unfolding checksum_of padded xor_with_blocks xor_with
apart e = let z : ◌≡◌ {A = ℕ} 0 1 = cc e in absurd (omega arith)
