-- A slot in its 24 bytes: had back from the bytes, and the bytes from it. Its sizes are a row of numbers in two bytes each.
use mathlib.Core.Path.{◌≡◌, refl, sym, ◌∙◌, ap, ap₂}
use mathlib.Core.List.{List, ◌∷◌, ◌++◌}
use Prim.Native.Nat.{ℕ, zero, suc, ◌+◌, ◌*◌, ◌/◌, ◌%◌, ◌≤◌, ◌<◌}
use native.Mathlib.Omega.{arith}
use native.Mathlib.Nat.{add-zero}
use lib.ListN.{length, take, drop, get_or}
use lib.Seq.{get_or-drop, drop-drop, take-add}
use Rattle.digest.specs.Bytes.{bytes2}
use Rattle.gather.specs.declared.slot.Slot.{Slot}
use Rattle.lent.specs.Fields.{bytes_in, two_in}
use Rattle.lent.specs.Saved.{Bytes}
use Rattle.lent.proofs.Numbers.{two_part, two_there}
use Rattle.lentshort.specs.Saved.{row_in, many_in, slot_bytes, slot_in, SlotRanged}
use Rattle.lentshort.proofs.Rows.{row_size, row_back, row_there}

-- ---- from where they were spelled

-- the first elements of what stands from a place on
pub first_at : (b : List ℕ) (at : ℕ) (s : List ℕ) → drop at b ≡ s → get_or b at 0 ≡ get_or s 0 0
first_at b at s e = ap (λ k. get_or b k 0) (sym (add-zero at)) ∙ sym (get_or-drop at b 0 0) ∙ ap (λ l. get_or l 0 0) e

pub second_at : (b : List ℕ) (at : ℕ) (s : List ℕ) → drop at b ≡ s → get_or b (at + 1) 0 ≡ get_or s 1 0
second_at b at s e = sym (get_or-drop at b 1 0) ∙ ap (λ l. get_or l 1 0) e

two_of : (n : ℕ) → n < 65536 → n / 256 % 256 * 256 + n % 256 ≡ n
two_of n h = omega arith

two_back : (n : ℕ) (b : List ℕ) (at : ℕ) (rest : List ℕ) → n < 65536 → drop at b ≡ bytes2 n ++ rest → two_in b at ≡ n
two_back n b at rest h e = ap₂ (λ p q. p * 256 + q) (first_at b at _ e) (second_at b at _ e) ∙ two_of n h

-- a size is a number of sixteen bits
abbrev pub Small : ℕ → Type 0
Small n = n < 65536

two_size : (n : ℕ) → Small n → length (bytes2 n) ≡ 2
two_size n h = refl

pub slot_back : (s : Slot) (b : List ℕ) (at : ℕ) (rest : List ℕ) → SlotRanged s → drop at b ≡ slot_bytes s ++ rest → slot_in b at ≡ s
unfolding slot_bytes slot_in
slot_back s b at rest r e =
    let on : drop (at + 2) b ≡ _ ++ rest = sym (drop-drop 2 at b) ∙ ap (drop 2) e in
    let sizes : row_in two_in 2 11 b (at + 2) ≡ s.sizes
    = ap (λ n. row_in two_in 2 n b (at + 2)) (sym r.eleven)
    ∙ row_back 0 two_in bytes2 Small 2 two_size two_back s.sizes b (at + 2) rest (λ i h. r.size i) on in
    λ i. record { reference = first_at b at _ e i; total = second_at b at _ e i; sizes = sizes i }

-- how many bytes it has
pub slot_size : (s : Slot) → SlotRanged s → length (slot_bytes s) ≡ 24
unfolding slot_bytes
slot_size s r =
    ap (λ n. suc (suc n)) (row_size 0 two_in bytes2 Small 2 two_size s.sizes (λ i h. r.size i)) ∙ ap (λ n. suc (suc (2 * n))) r.eleven

-- ---- from the bytes that spell it

pub slot_there : (b : List ℕ) (at : ℕ) → Bytes b → at + 24 ≤ length b → slot_bytes (slot_in b at) ≡ bytes_in b at 24
unfolding slot_bytes slot_in
slot_there b at all h =
    ap (λ l. get_or b at 0 ∷ get_or b (at + 1) 0 ∷ l) (row_there 0 two_in bytes2 Small 2 two_there 11 b (at + 2) all (omega arith))
    ∙ ap (λ l. l ++ bytes_in b (at + 2) 22) (sym (two_part b at (omega arith)))
    ∙ ap (λ l. take 2 (drop at b) ++ take 22 l) (sym (drop-drop 2 at b))
    ∙ sym (take-add 2 22 (drop at b))

-- numbers that are read from bytes are of sixteen bits
two_below : (p q : ℕ) → p < 256 → q < 256 → p * 256 + q < 65536
two_below p q hp hq = omega arith

below_in : (n : ℕ) (b : List ℕ) (at : ℕ) → Bytes b → (i : ℕ) → get_or (row_in two_in 2 n b at) i 0 < 65536
unfolding row_in
below_in zero b at all i = omega arith
below_in (suc n) b at all zero = two_below (get_or b at 0) (get_or b (at + 1) 0) (all at) (all (at + 1))
below_in (suc n) b at all (suc i) = below_in n b (at + 2) all i

pub slot_ranged : (b : List ℕ) (at : ℕ) → Bytes b → SlotRanged (slot_in b at)
unfolding slot_in
slot_ranged b at all =
    record { reference = all at; total = all (at + 1); eleven = many_in two_in 2 11 b (at + 2); size = below_in 11 b (at + 2) all }
