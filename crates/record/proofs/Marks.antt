-- The machine's masks and shifts on the window's marks, as arithmetic, for every width up to 64.
use mathlib.Core.Path.{◌≡◌, sym, ap, ◌∙◌}
use Prim.Native.Nat.{ℕ, ◌+◌, ◌-◌, ◌*◌, ◌/◌, ◌%◌, ◌^◌, ◌≤◌, ◌<◌}
use native.Mathlib.Nat.{zero-mul, mul_assoc, mul-mod_left, mod-eq_of_lt}
use native.Mathlib.Omega.{arith}
use lib.Bits.{bit_and, bit_or, and_mask, and_high, or_disjoint, or_shifted}
use lib.Pow.{pow-add, ones_split, ones_lt, high, mod-mod-pow, split}
use lib.Dec.{lit<}

-- all ones, shifted down to the width
pub all_ones : (w : ℕ) → w ≤ 64 → (2 ^ 64 - 1) / 2 ^ (64 - w) ≡ 2 ^ w - 1
all_ones w h =
    let k : ℕ = 64 - w in
    let e : w + k ≡ 64 = omega arith in
    ap (λ (x : ℕ). (2 ^ x - 1) / 2 ^ k) (sym e) ∙ ap (λ (x : ℕ). x / 2 ^ k) (ones_split w k)
    ∙ high (2 ^ w - 1) k (ones_lt k)

pub cut_is : (m w : ℕ) → w ≤ 64 → bit_and m ((2 ^ 64 - 1) / 2 ^ (64 - w)) ≡ m % 2 ^ w
cut_is m w h = ap (bit_and m) (all_ones w h) ∙ and_mask m w

-- what a shift by the whole width or more leaves
pub moved_out : (m by w : ℕ) → w ≤ by → m * 2 ^ by % 2 ^ w ≡ 0
moved_out m by w h =
    let e : by ≡ by - w + w = omega arith in
    ap (λ (x : ℕ). m * 2 ^ x % 2 ^ w) e ∙ ap (λ (x : ℕ). m * x % 2 ^ w) (pow-add 2 (by - w) w)
    ∙ ap (λ (x : ℕ). x % 2 ^ w) (sym (mul_assoc m (2 ^ (by - w)) (2 ^ w))) ∙ mul-mod_left (m * 2 ^ (by - w)) (2 ^ w)

-- cut to the width, a shift in 64 bits is a shift
pub shift_cut : (m by w : ℕ) → w ≤ 64 → m * 2 ^ by % 2 ^ 64 % 2 ^ w ≡ m * 2 ^ by % 2 ^ w
shift_cut m by w h =
    let e : 64 - w + w ≡ 64 = omega arith in
    ap (λ (x : ℕ). m * 2 ^ by % 2 ^ x % 2 ^ w) (sym e) ∙ mod-mod-pow (m * 2 ^ by) (64 - w) w

-- moved by one place or more, the lowest place is free
pub lowest_set : (m by w : ℕ) → 0 < by → 0 < w → bit_or (m * 2 ^ by % 2 ^ w) 1 ≡ m * 2 ^ by % 2 ^ w + 1
lowest_set m by w h k =
    let x : ℕ = m * 2 ^ by % 2 ^ w in
    let e : w ≡ w - 1 + 1 = omega arith in
    let even : x % 2 ^ 1 ≡ 0 =
    ap (λ (v : ℕ). m * 2 ^ by % 2 ^ v % 2 ^ 1) e ∙ mod-mod-pow (m * 2 ^ by) (w - 1) 1 ∙ moved_out m by 1 h in
    let twice : x / 2 ^ 1 * 2 ^ 1 ≡ x = omega (arith, split x 1, even) in
    ap (λ (v : ℕ). bit_or v 1) (sym twice) ∙ or_shifted (x / 2 ^ 1) 1 1 (lit< tt) ∙ ap (λ (v : ℕ). v + 1) twice

-- a mark that is not there is added
pub mark_added : (m j : ℕ) → m / 2 ^ j % 2 ≡ 0 → bit_or m (2 ^ j) ≡ m + 2 ^ j
mark_added m j e =
    let one : 2 ^ (1 + j) - 2 ^ j ≡ 2 ^ j = omega (arith, pow-add 2 1 j) in
    or_disjoint m (2 ^ j) (ap (bit_and m) (sym one) ∙ and_high m 1 j ∙ ap (λ (x : ℕ). x * 2 ^ j) e ∙ zero-mul (2 ^ j))

-- shifted down and up again, the remainder is gone
pub remainder_gone : (s k : ℕ) → s < 2 ^ 16 → s / 2 ^ k * 2 ^ k % 2 ^ 16 ≡ s - s % 2 ^ k
remainder_gone s k h =
    let low : s / 2 ^ k * 2 ^ k ≡ s - s % 2 ^ k = omega (arith, split s k) in
    mod-eq_of_lt (omega (arith, split s k)) ∙ low
