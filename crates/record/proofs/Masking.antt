-- The mask of an initial vector (002 11.2): its bytes by their places, the loop that makes it, and that twice is not at all.
use mathlib.Core.Path.{◌≡◌, refl, sym, ap, ap₂, ◌∙◌}
use mathlib.Core.List.{List, [], ◌∷◌, ◌++◌, append-nil}
use Prim.Native.Nat.{ℕ, zero, suc, ◌+◌, ◌*◌, ◌/◌, ◌%◌, ◌≤◌, ◌<◌}
use native.Mathlib.Nat.{zero-add, div-add-mod', mod-lt, mod-eq-sub-mod, add-mod_right}
use native.Mathlib.Numerals.{add-one}
use native.Mathlib.Omega.{arith}
use lib.Bits.{bit_xor, xor_self, xor_zero_r}
use lib.Dec.{lit<}
use lib.ListN.{length, get_or, set, drop}
use lib.Seq.{paste, paste-suc, drop-paste, length-take-le, take_all, drop-length, get_or-take, get_or-drop}
use Rattle.digest.specs.Bytes.{bytes2}
use Rattle.record.specs.Checksum.{xor_with}
use Rattle.record.specs.Mask.{times, numbers_over, mask_of}
use Rattle.record.specs.Bench.{Unmasked, MaskedOdd}
use Rattle.record.proofs.Joining.{xor_assoc}

-- ---- the number, as often as needed

length_times : (number n : ℕ) → length (times n (bytes2 number)) ≡ n * 2
unfolding times
length_times number zero = refl
length_times number (suc n) = omega (arith, length_times number n)

enough : (n : ℕ) → n ≤ (n + 1) / 2 * 2
enough n = omega (arith, div-add-mod' (n + 1) 2, mod-lt (n + 1) {m = 2} (lit< tt))

length_numbers : (number n : ℕ) → length (numbers_over number n) ≡ n
unfolding numbers_over
length_numbers number n =
    length-take-le n (times ((n + 1) / 2) (bytes2 number)) (omega (arith, length_times number ((n + 1) / 2), enough n))

two_later : (i : ℕ) → suc (suc i) % 2 ≡ i % 2
two_later i = mod-eq-sub-mod {n = suc (suc i)} {m = 2} (omega arith) ∙ ap (λ (x : ℕ). x % 2) (omega arith)

pub two_on : (i : ℕ) → i % 2 ≡ 0 → (i + 2) % 2 ≡ 0
two_on i e = add-mod_right i 2 ∙ e

-- the number's two bytes in turn
in_turn : (number i n : ℕ) → i < n * 2 → get_or (times n (bytes2 number)) i 0 ≡ get_or (bytes2 number) (i % 2) 0
unfolding times
in_turn number i zero h = absurd (omega arith)
in_turn number zero (suc n) h = refl
in_turn number (suc zero) (suc n) h = refl
in_turn number (suc (suc i)) (suc n) h =
    in_turn number i n (omega arith) ∙ ap (λ (x : ℕ). get_or (bytes2 number) x 0) (sym (two_later i))

pub byte_over : (number n i : ℕ) → i < n → get_or (numbers_over number n) i 0 ≡ get_or (bytes2 number) (i % 2) 0
unfolding numbers_over
byte_over number n i h =
    get_or-take n (times ((n + 1) / 2) (bytes2 number)) i 0 h ∙ in_turn number i ((n + 1) / 2) (omega (arith, enough n))

-- the high byte at the even places, the low one at the odd
pub even_byte : (number n i : ℕ) → i % 2 ≡ 0 → i < n → get_or (numbers_over number n) i 0 ≡ number / 256 % 256
even_byte number n i e h = byte_over number n i h ∙ ap (λ (x : ℕ). get_or (bytes2 number) x 0) e

pub odd_byte : (number n i : ℕ) → i % 2 ≡ 0 → suc i < n → get_or (numbers_over number n) (suc i) 0 ≡ number % 256
odd_byte number n i e h =
    let odd : suc i % 2 ≡ 1 = omega arith in
    byte_over number n (suc i) h ∙ ap (λ (x : ℕ). get_or (bytes2 number) x 0) odd

-- ---- XOR byte by byte

length_xor : (s t : List ℕ) → length s ≤ length t → length (xor_with s t) ≡ length s
unfolding xor_with
length_xor [] t h = refl
length_xor (a ∷ s) [] h = absurd (omega arith)
length_xor (a ∷ s) (b ∷ t) h = ap suc (length_xor s t (omega arith))

xor_at : (s t : List ℕ) (i : ℕ) → i < length s → length s ≤ length t → get_or (xor_with s t) i 0 ≡ bit_xor (get_or s i 0) (get_or t i 0)
unfolding xor_with
xor_at [] t i h k = absurd (omega arith)
xor_at (a ∷ s) [] i h k = absurd (omega arith)
xor_at (a ∷ s) (b ∷ t) zero h k = refl
xor_at (a ∷ s) (b ∷ t) (suc i) h k = xor_at s t i (omega arith) (omega arith)

xor_twice : (s t : List ℕ) → length s ≤ length t → xor_with (xor_with s t) t ≡ s
unfolding xor_with
xor_twice [] t h = refl
xor_twice (a ∷ s) [] h = absurd (omega arith)
xor_twice (a ∷ s) (b ∷ t) h =
    ap₂ (λ (x : ℕ) (y : List ℕ). x ∷ y)
    (xor_assoc a b b ∙ ap (bit_xor a) (xor_self b) ∙ xor_zero_r a) (xor_twice s t (omega arith))

-- ---- the mask

numbers_reach : (iv : List ℕ) (number : ℕ) → length iv ≤ length (numbers_over number (length iv))
numbers_reach iv number = omega (arith, length_numbers number (length iv))

pub length_mask : (iv : List ℕ) (number : ℕ) → length (mask_of iv number) ≡ length iv
unfolding mask_of
length_mask iv number = length_xor iv (numbers_over number (length iv)) (numbers_reach iv number)

pub unmasked : Unmasked
unfolding mask_of
unmasked iv number =
    let s : List ℕ = numbers_over number (length iv) in
    ap (λ (n : ℕ). xor_with (xor_with iv s) (numbers_over number n)) (length_xor iv s (numbers_reach iv number))
    ∙ xor_twice iv s (numbers_reach iv number)

pub masked_odd : MaskedOdd
unfolding mask_of numbers_over times xor_with
masked_odd = (refl, refl)

-- ---- the loop: a byte is masked in its place, and those behind it are as they were

module _ (iv : List ℕ) (number : ℕ) where
  abbrev pub so_far : ℕ → List ℕ
  so_far i = paste iv 0 (mask_of iv number) i

  mask_at : (i : ℕ) → i < length iv → get_or (mask_of iv number) i 0 ≡ bit_xor (get_or iv i 0) (get_or (numbers_over number (length iv)) i 0)
  unfolding mask_of
  mask_at i h = xor_at iv (numbers_over number (length iv)) i h (numbers_reach iv number)

  unread : (v : List ℕ) (i : ℕ) → i < length iv → v ≡ so_far i → get_or v i 0 ≡ get_or iv i 0
  unread v i h e =
      let front : drop (0 + i) v ≡ drop (0 + i) iv =
      ap (drop (0 + i)) e ∙ drop-paste iv 0 (mask_of iv number) i (omega arith) (omega (arith, length_mask iv number)) in
      let at : 0 + i + 0 ≡ i = omega arith in
      ap (λ (k : ℕ). get_or v k 0) (sym at) ∙ sym (get_or-drop (0 + i) v 0 0) ∙ ap (λ (l : List ℕ). get_or l 0 0) front
      ∙ get_or-drop (0 + i) iv 0 0 ∙ ap (λ (k : ℕ). get_or iv k 0) at

  pub one_more : (v : List ℕ) (i byte : ℕ) → i < length iv → v ≡ so_far i → get_or (numbers_over number (length iv)) i 0 ≡ byte → set v i (bit_xor (get_or v i 0) byte) ≡ so_far (suc i)
  one_more v i byte h e f =
      let here : bit_xor (get_or v i 0) byte ≡ get_or (mask_of iv number) i 0 =
      ap₂ bit_xor (unread v i h e) (sym f) ∙ sym (mask_at i h) in
      ap₂ (λ (l : List ℕ) (x : ℕ). set l i x) e here
      ∙ ap (λ (k : ℕ). set (so_far i) k (get_or (mask_of iv number) i 0)) (sym (zero-add i))
      ∙ paste-suc iv 0 (mask_of iv number) i 0 (omega arith) (omega (arith, length_mask iv number))

  -- a turn: the number's two bytes, from an even place on
  pub two_more : (v x : List ℕ) (i : ℕ) → i % 2 ≡ 0 → i + 1 < length iv → v ≡ so_far i → x ≡ set v i (bit_xor (get_or v i 0) (number / 256 % 256)) → set x (i + 1) (bit_xor (get_or x (i + 1) 0) (number % 256)) ≡ so_far (i + 2)
  two_more v x i even h e f =
      ap (λ (k : ℕ). set x k (bit_xor (get_or x k 0) (number % 256))) (add-one i)
      ∙ one_more x (suc i) (number % 256) (omega arith)
      (f ∙ one_more v i (number / 256 % 256) (omega arith) e (even_byte number (length iv) i even (omega arith)))
      (odd_byte number (length iv) i even (omega arith))
      ∙ ap so_far {x = suc (suc i)} {y = i + 2} (omega arith)

  -- the whole vector
  pub all_done : (i : ℕ) → i ≡ length iv → so_far i ≡ mask_of iv number
  all_done i e =
      ap₂ (λ (x y : List ℕ). x ++ y)
      (take_all i (mask_of iv number) (omega (arith, length_mask iv number)))
      (ap (λ (k : ℕ). drop k iv) (zero-add i ∙ e) ∙ drop-length iv)
      ∙ append-nil (mask_of iv number)

  -- the last byte of an odd number
  pub last_one : (v : List ℕ) (i : ℕ) → i % 2 ≡ 0 → i < length iv → length iv ≤ suc i → v ≡ so_far i → set v i (bit_xor (get_or v i 0) (number / 256 % 256)) ≡ mask_of iv number
  last_one v i even h k e =
      one_more v i (number / 256 % 256) h e (even_byte number (length iv) i even h) ∙ all_done (suc i) (omega arith)
