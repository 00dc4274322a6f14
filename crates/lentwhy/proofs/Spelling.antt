-- Eight numbers laid one behind the other, and three times eight.
use mathlib.Core.Path.{◌≡◌, refl, sym, ◌∙◌, ap, subst}
use mathlib.Core.Bool.{true}
use mathlib.Core.List.{List, [], ◌∷◌, ◌++◌}
use Prim.Native.Nat.{ℕ, ◌+◌, ◌*◌, ◌≤◌, ◌<◌}
use native.Mathlib.Omega.{arith}
use native.Mathlib.Numerals.{add-one}
use lib.ListN.{length, get_or}
use Rattle.digest.specs.Bytes.{bytes4, laid_over, laid_within}
use Rattle.digest.proofs.Picks.{if_eq}
use Rattle.lent.specs.Fields.{joined}
use Rattle.lent.specs.Saved.{state_size, sum_fields, is_saved, connection_in, connection_within}
use Rattle.lent.proofs.Calling.{saved_size}
use Rattle.lentwhy.specs.Facts.{eight_of, spelled_first, spelled}
use Rattle.lent.proofs.Laying.{Laid, laid_none, laid_more, laid_part, laid_whole, joined_one}

-- the same eight
pub same_eight : {u v a b c d e f u' v' a' b' c' d' e' f' : ℕ} → u ≡ u' → v ≡ v' → a ≡ a' → b ≡ b' → c ≡ c' → d ≡ d' → e ≡ e' → f ≡ f'
    → eight_of u v a b c d e f ≡ eight_of u' v' a' b' c' d' e' f'
same_eight pu pv pa pb pc pd pe pf = λ i. eight_of (pu i) (pv i) (pa i) (pb i) (pc i) (pd i) (pe i) (pf i)

-- eight numbers, as `lent` spells them
pub spelled_words : (numbers : List ℕ) → joined (sum_fields numbers) ≡ spelled numbers
unfolding spelled spelled_first
spelled_words numbers = refl

-- one number more
pub spelled_more : (numbers d e e' : List ℕ) (at i : ℕ) (x : List ℕ) → Laid d at (spelled_first numbers i) e (4 * i) → at + 32 ≤ length d
    → i < 8 → x ≡ bytes4 (get_or numbers i 0) → e' ≡ laid_within e (at + 4 * i) x → Laid d at (spelled_first numbers (i + 1)) e' (4 * (i + 1))
unfolding spelled_first
spelled_more numbers d e e' at i x laid room h is made =
    let g = bytes4 (get_or numbers i 0) in
    let more : Laid d at (spelled_first numbers i ++ (g ∷ [])) e' (4 * i + 4) = laid_more (at + 4 * i) 4 x g e' laid refl is refl (omega arith) made in
    let fields : spelled_first numbers i ++ (g ∷ []) ≡ spelled_first numbers (i + 1) = sym (ap (spelled_first numbers) (add-one i)) in
    let count : 4 * i + 4 ≡ 4 * (i + 1) = omega arith in
    subst (λ n. Laid d at (spelled_first numbers (i + 1)) e' n) count (subst (λ fs. Laid d at fs e' (4 * i + 4)) fields more)

-- all eight
pub spelled_all : (numbers d e : List ℕ) (at i : ℕ) → i ≡ 8 → Laid d at (spelled_first numbers i) e (4 * i)
    → (e ≡ laid_over d at (spelled numbers)) × (length (spelled numbers) ≡ 32)
unfolding spelled
spelled_all numbers d e at i done laid =
    let all : Laid d at (spelled_first numbers 8) e 32 = subst (λ n. Laid d at (spelled_first numbers n) e (4 * n)) done laid in
    (all.bytes, all.count)

-- three times
pub three_eights : (d a b c f g h x y z : List ℕ) → length d ≡ 96 → length x ≡ 32 → length y ≡ 32 → length z ≡ 32 → f ≡ x → g ≡ y → h ≡ z
    → a ≡ laid_within d 0 f → b ≡ laid_within a 32 g → c ≡ laid_within b 64 h → c ≡ joined (x ∷ y ∷ z ∷ [])
three_eights d a b c f g h x y z l lx ly lz ef eg eh ea eb ec =
    let one : Laid d 0 (x ∷ []) a 32
    = laid_part 0 32 (x ∷ []) f a (laid_none d 0 (omega arith)) refl (ef ∙ sym (joined_one x)) (ap length (joined_one x) ∙ lx) (omega arith) ea in
    let two : Laid d 0 (x ∷ y ∷ []) b 64
    = laid_part 32 32 (y ∷ []) g b one refl (eg ∙ sym (joined_one y)) (ap length (joined_one y) ∙ ly) (omega arith) eb in
    let three : Laid d 0 (x ∷ y ∷ z ∷ []) c 96
    = laid_part 64 32 (z ∷ []) h c two refl (eh ∙ sym (joined_one z)) (ap length (joined_one z) ∙ lz) (omega arith) ec in
    laid_whole three l

-- bytes that are a saved connection hold it
pub saved_within : (b : List ℕ) → is_saved b ≡ true → connection_within b ≡ connection_in b
unfolding connection_within
saved_within b h = sym (if_eq _ (length b) state_size (saved_size b h) refl)
