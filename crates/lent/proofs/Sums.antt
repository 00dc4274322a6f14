-- Eight numbers laid one behind the other.
use mathlib.Core.Path.{◌≡◌, refl, sym, ap, subst}
use mathlib.Core.List.{List, [], ◌∷◌, ◌++◌}
use Prim.Native.Nat.{ℕ, zero, suc, ◌+◌, ◌*◌, ◌<◌}
use native.Mathlib.Omega.{arith}
use native.Mathlib.Numerals.{add-one}
use lib.ListN.{get_or, replicate}
use Rattle.digest.specs.Bytes.{bytes4, laid_within}
use Rattle.lent.specs.Saved.{sum_fields}
use Rattle.lent.proofs.Laying.{Laid, laid_none, laid_more}

-- the first n of them
unfoldable pub first_words : List ℕ → ℕ → List (List ℕ)
first_words numbers zero = []
first_words numbers (suc n) = first_words numbers n ++ (bytes4 (get_or numbers n 0) ∷ [])

pub words_none : (numbers : List ℕ) → Laid (replicate 32 0) 0 (first_words numbers 0) (replicate 32 0) (4 * 0)
unfolding first_words
words_none numbers = laid_none (replicate 32 0) 0 (omega arith)

-- one number more
pub words_more : (numbers e e' : List ℕ) (i : ℕ) (x : List ℕ) → Laid (replicate 32 0) 0 (first_words numbers i) e (4 * i) → i < 8
    → x ≡ bytes4 (get_or numbers i 0) → e' ≡ laid_within e (4 * i) x → Laid (replicate 32 0) 0 (first_words numbers (i + 1)) e' (4 * (i + 1))
unfolding first_words
words_more numbers e e' i x laid h is made =
    let g = bytes4 (get_or numbers i 0) in
    let more : Laid (replicate 32 0) 0 (first_words numbers i ++ (g ∷ [])) e' (4 * i + 4) = laid_more (4 * i) 4 x g e' laid (omega arith) is refl (omega arith) made in
    let fields : first_words numbers i ++ (g ∷ []) ≡ first_words numbers (i + 1) = sym (ap (first_words numbers) (add-one i)) in
    let count : 4 * i + 4 ≡ 4 * (i + 1) = omega arith in
    subst (λ n. Laid (replicate 32 0) 0 (first_words numbers (i + 1)) e' n) count (subst (λ fs. Laid (replicate 32 0) 0 fs e' (4 * i + 4)) fields more)

-- all eight
pub words_all : (numbers e : List ℕ) (i : ℕ) → i ≡ 8 → Laid (replicate 32 0) 0 (first_words numbers i) e (4 * i)
    → Laid (replicate 32 0) 0 (sum_fields numbers) e 32
unfolding first_words
words_all numbers e i done laid = subst (λ n. Laid (replicate 32 0) 0 (first_words numbers n) e (4 * n)) done laid
