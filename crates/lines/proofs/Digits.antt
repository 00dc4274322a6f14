-- The laws of numbers and byte strings, by one digit or one byte more. Assumes nothing.
use mathlib.Core.Path.{◌≡◌, refl, sym, ◌∙◌, ap}
use mathlib.Core.List.{List, [], ◌∷◌, ◌++◌}
use Prim.Native.Nat.{ℕ, zero, suc, ◌+◌, ◌*◌, ◌/◌, ◌<◌, ◌≤◌}
use native.Mathlib.Omega.{arith}
use native.Mathlib.Numerals.{add-one}
use lib.ListN.{length, take, drop, get_or, drop_of_length-le}
use lib.Seq.{drop-cons, take-suc}
use borrow.Author.Tests.{lt-ltb, le-ltb}
use Rattle.digest.specs.Pick.{pick}
use Rattle.lines.specs.Decimal.{digit_of, number_from}
use Rattle.lines.specs.Hex.{hex_digit, bytes_of}

drop_step : (w : List ℕ) (i : ℕ) → i < length w → drop i w ≡ get_or w i 0 ∷ drop (i + 1) w
drop_step w i h = drop-cons w i 0 h ∙ ap (λ n. get_or w i 0 ∷ drop n w) (sym (add-one i))

pub number_step : (w : List ℕ) (i n : ℕ) → i < length w → n ≤ 99999999
    → number_from (n * 10 + digit_of (get_or w i 0)) (drop (i + 1) w) ≡ number_from n (drop i w)
unfolding number_from
number_step w i n h k =
    sym (ap (number_from n) (drop_step w i h)
    ∙ ap (λ b. pick b n (number_from (n * 10 + digit_of (get_or w i 0)) (drop (i + 1) w))) (le-ltb 99999999 n k))

pub number_stop : (w : List ℕ) (i n : ℕ) → i < length w → 99999999 < n → number_from n (drop i w) ≡ n
unfolding number_from
number_stop w i n h k =
    ap (number_from n) (drop_step w i h)
    ∙ ap (λ b. pick b n (number_from (n * 10 + digit_of (get_or w i 0)) (drop (i + 1) w))) (lt-ltb 99999999 n k)

pub number_end : (w : List ℕ) (i n : ℕ) → length w ≤ i → number_from n (drop i w) ≡ n
unfolding number_from
number_end w i n h = ap (number_from n) (drop_of_length-le w h)

-- the byte of an index
unfoldable pub byte_at : List ℕ → ℕ → ℕ
byte_at w i = hex_digit (get_or w (2 * i) 0) * 16 + hex_digit (get_or w (2 * i + 1) 0)

-- two digits before the rest
head_first : (a b : ℕ) (s : List ℕ) (i : ℕ) → get_or (a ∷ b ∷ s) (2 * suc i) 0 ≡ get_or s (2 * i) 0
head_first a b s i = ap (λ n. get_or (a ∷ b ∷ s) n 0) (let e : 2 * suc i ≡ suc (suc (2 * i)) = omega arith in e)

head_second : (a b : ℕ) (s : List ℕ) (i : ℕ) → get_or (a ∷ b ∷ s) (2 * suc i + 1) 0 ≡ get_or s (2 * i + 1) 0
head_second a b s i = ap (λ n. get_or (a ∷ b ∷ s) n 0) (let e : 2 * suc i + 1 ≡ suc (suc (2 * i + 1)) = omega arith in e)

pub byte_at_lem : (w : List ℕ) (i : ℕ) → 2 * i + 1 < length w → (i < length (bytes_of w)) × (get_or (bytes_of w) i 0 ≡ byte_at w i)
unfolding bytes_of byte_at
byte_at_lem [] i h = let e : 2 * i + 1 < 0 = h in absurd (omega (arith, e))
byte_at_lem (a ∷ []) i h = let e : 2 * i + 1 < 1 = h in absurd (omega (arith, e))
byte_at_lem (a ∷ b ∷ s) zero h = (omega arith, refl)
byte_at_lem (a ∷ b ∷ s) (suc i) h =
    let l : 2 * i + 1 < length s = omega (arith, h) in
    let r = byte_at_lem s i l in
    (omega (arith, r.0), r.1 ∙ sym (λ j. hex_digit (head_first a b s i j) * 16 + hex_digit (head_second a b s i j)))

-- one byte more
pub bytes_step : (w : List ℕ) (i : ℕ) → 2 * i + 1 < length w → take i (bytes_of w) ++ byte_at w i ∷ [] ≡ take (i + 1) (bytes_of w)
bytes_step w i h =
    let b = byte_at_lem w i h in
    ap (λ v. take i (bytes_of w) ++ v ∷ []) (sym b.1) ∙ sym (ap (λ n. take n (bytes_of w)) (add-one i) ∙ take-suc (bytes_of w) i 0 b.0)

pub length-bytes_of : (w : List ℕ) → length (bytes_of w) ≡ length w / 2
unfolding bytes_of
length-bytes_of [] = refl
length-bytes_of (a ∷ []) = refl
length-bytes_of (a ∷ b ∷ s) = omega (arith, length-bytes_of s)
