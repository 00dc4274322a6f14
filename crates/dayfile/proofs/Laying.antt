-- Bytes laid over others, one piece behind the other.
use mathlib.Core.Path.{◌≡◌, refl, sym, ◌∙◌, ap}
use mathlib.Core.List.{List, [], ◌∷◌, ◌++◌, append_assoc, append-nil}
use Prim.Native.Nat.{ℕ, ◌+◌, ◌*◌, ◌/◌, ◌%◌, ◌<◌, ◌≤◌}
use native.Mathlib.Omega.{arith}
use native.Mathlib.Nat.{zero-add}
use native.Mathlib.Numerals.{towards_suc}
use lib.Pow.{recompose}
use lib.ListN.{length, take, drop, set, length-append, take-append-drop}
use lib.Seq.{length-take-le, take-append-le, take-take, drop-append-add, drop-drop, sets-eq}
use Rattle.digest.specs.Bytes.{laid_over, laid_within, bytes2}
use Rattle.digest.proofs.Lay.{laid_front, laid_all}

-- the definition, opened
pub opened : (d : List ℕ) (at : ℕ) (s : List ℕ) → laid_over d at s ≡ take at d ++ s ++ drop (at + length s) d
unfolding laid_over
opened d at s = refl

-- two pieces are laid as one
pub laid_append : (d : List ℕ) (at : ℕ) (a b : List ℕ) → at + length a ≤ length d
    → laid_over d at (a ++ b) ≡ laid_over (laid_over d at a) (at + length a) b
laid_append d at a b h =
    let front : length (take at d ++ a) ≡ at + length a = length-append (take at d) a ∙ ap (λ n. n + length a) (length-take-le at d (omega arith)) in
    let before : take (at + length a) (laid_over d at a) ≡ take at d ++ a = laid_front d at (at + length a) a (omega arith) refl in
    let sum : at + length a + length b ≡ at + length (a ++ b) = omega (arith, length-append a b) in
    let behind : drop (at + length a + length b) (laid_over d at a) ≡ drop (at + length (a ++ b)) d
    = ap (drop (at + length a + length b)) (opened d at a)
    ∙ ap (λ n. drop (n + length b) (take at d ++ a ++ drop (at + length a) d)) (sym front)
    ∙ drop-append-add (take at d ++ a) (drop (at + length a) d) (length b)
    ∙ drop-drop (length b) (at + length a) d
    ∙ ap (λ n. drop n d) sum in
    opened d at (a ++ b)
    ∙ ap (λ l. l ++ drop (at + length (a ++ b)) d) (sym (append_assoc (take at d) a b))
    ∙ sym (opened (laid_over d at a) (at + length a) b ∙ (λ i. before i ++ b ++ behind i))

-- what stands before the place stays
pub laid_before : (d : List ℕ) (n at : ℕ) (s : List ℕ) → n ≤ at → at + length s ≤ length d → take n (laid_over d at s) ≡ take n d
laid_before d n at s h k =
    let front : length (take at d) ≡ at = length-take-le at d (omega arith) in
    ap (take n) (opened d at s ∙ append_assoc (take at d) s (drop (at + length s) d))
    ∙ take-append-le n (take at d) (s ++ drop (at + length s) d) (omega arith)
    ∙ take-take n at d h

-- what was laid at the front
pub laid_at_front : (d s : List ℕ) (n : ℕ) → n ≡ length s → take n (laid_over d 0 s) ≡ s
laid_at_front d s n e = laid_front d 0 n s (omega arith) (e ∙ sym (zero-add (length s)))

-- nothing laid changes nothing
pub laid_none : (d : List ℕ) (at : ℕ) → laid_over d at [] ≡ d
laid_none d at =
    let z : at + 0 ≡ at = omega arith in
    opened d at [] ∙ (λ i. append-nil (take at d) i ++ drop (z i) d) ∙ take-append-drop at d

-- what fits is laid
pub laid_within_lem : (d : List ℕ) (at : ℕ) (s : List ℕ) → at + length s ≤ length d → laid_within d at s ≡ laid_over d at s
laid_within_lem d at s h = sym (laid_all d (laid_over d at s) at s h refl)

-- one store, and two in a row
pub laid_one : (d : List ℕ) (at x : ℕ) → at + 1 ≤ length d → set d at x ≡ laid_over d at (x ∷ [])
laid_one d at x h = sets-eq (x ∷ []) d at h ∙ sym (opened d at (x ∷ []))

pub laid_two : (d : List ℕ) (at x y : ℕ) → at + 2 ≤ length d → set (set d at x) (at + 1) y ≡ laid_over d at (x ∷ y ∷ [])
unfolding laid_over
laid_two d at x y h = simp towards_suc (simp towards_suc at (sets-eq (x ∷ y ∷ []) d at h))

-- two bytes spell the number that they were made of, and are those of the number that they spell
pub pair_back : (n : ℕ) → n < 65536 → n / 256 % 256 * 256 + n % 256 ≡ n
pair_back n h = recompose {n = n} 8 8 h

pub bytes2_of : (x y : ℕ) → x < 256 → y < 256 → bytes2 (x * 256 + y) ≡ x ∷ y ∷ []
bytes2_of x y h k =
    let p : (x * 256 + y) / 256 % 256 ≡ x = omega arith in
    let q : (x * 256 + y) % 256 ≡ y = omega arith in
    λ i. p i ∷ q i ∷ []
