-- Laws of a lent buffer: a piece that is pasted behind what was written goes on with it.
use mathlib.Core.Path.{◌≡◌, refl, sym, ◌∙◌, ap, subst}
use mathlib.Core.List.{List, [], ◌∷◌, ◌++◌, append_assoc}
use mathlib.Core.Bool.{Bool, true, false}
use Prim.Native.Nat.{ℕ, ◌+◌, ◌≤◌, ◌<◌}
use native.Mathlib.Omega.{arith}
use lib.ListN.{length, take, drop, length-append}
use lib.Seq.{paste, take_at, drop_at, drop-drop, take-length}
use lib.Dec.{leb}
use borrow.Author.Tests.{le-leb, lt-leb}
use Rattle.digest.specs.Pick.{pick}
use Rattle.message.specs.Buffer.{over, fitting, Puts}

-- a piece pasted behind the first p of the buffer
pub paste_over : (d p s : List ℕ) → length p + length s ≤ length d → paste (over d p) (length p) s (length s) ≡ over d (p ++ s)
paste_over d p s h =
    let a : take (length p) (over d p) ≡ p = take_at p (drop (length p) d) (length p) refl in
    let b : drop (length p + length s) (over d p) ≡ drop (length (p ++ s)) d =
    sym (drop-drop (length s) (length p) (over d p))
    ∙ ap (drop (length s)) (drop_at p (drop (length p) d) (length p) refl)
    ∙ drop-drop (length s) (length p) d
    ∙ ap (λ (k : ℕ). drop k d) (sym (length-append p s)) in
    λ i. a i ++ take-length s i ++ b i

-- a piece that is pasted whole is put
pub pasted : (s o o' : List ℕ) (at r : ℕ) → o' ≡ paste o at s (length s) → r ≡ at + length s → Puts s o at o' r
pasted s o o' at r e k d p f g h = (
  e ∙ ap (λ (l : List ℕ). paste l at s (length s)) f ∙ ap (λ (j : ℕ). paste (over d p) j s (length s)) g ∙ paste_over d p s h,
  k ∙ ap (λ (j : ℕ). j + length s) g ∙ sym (length-append p s),
)

pub length_over : (d p : List ℕ) → length p ≤ length d → length (over d p) ≡ length d
length_over d p h = omega (arith, length-append p (drop (length p) d), lib.ListN.length-drop (length p) d)

-- one piece after another
pub put_on : (x y o o' o'' : List ℕ) (at n r : ℕ) → Puts x o at o' n → Puts y o' n o'' r → Puts (x ++ y) o at o'' r
put_on x y o o' o'' at n r a b d p f g h =
    let l = length-append x y in
    let l' = length-append p x in
    let u = a d p f g (omega (arith, l)) in
    let w = b d (p ++ x) u.0 u.1 (omega (arith, l, l')) in
    (w.0 ∙ ap (over d) (append_assoc p x y), w.1 ∙ ap length (append_assoc p x y))

-- a piece for which there is no room is never asked for
pub put_none : (s o o' : List ℕ) (at r : ℕ) → length o < at + length s → Puts s o at o' r
put_none s o o' at r n d p f g h = absurd (omega (arith, ap length f, length_over d p (omega arith)))

pub puts_as : (x y o o' : List ℕ) (at r : ℕ) → x ≡ y → Puts x o at o' r → Puts y o at o' r
puts_as x y o o' at r e p = subst (λ (l : List ℕ). Puts l o at o' r) e p

-- what a writer leaves, by what it has to write and the room that it has
module _ (d b : List ℕ) where
  pub wrote_none : length b ≡ 0 → (0 ≡ length (fitting (length d) b)) × (d ≡ over d (fitting (length d) b))
  wrote_none h =
      let e : b ≡ [] = empty b h in
      rw e (pick_cases (leb 0 (length d)))
    where
      empty : (l : List ℕ) → length l ≡ 0 → l ≡ []
      empty [] k = refl
      empty (x ∷ l) k = absurd (omega arith)

      pick_cases : (t : Bool) → (0 ≡ length (pick {A = List ℕ} t [] [])) × (d ≡ over d (pick {A = List ℕ} t [] []))
      pick_cases true = (refl, refl)
      pick_cases false = (refl, refl)

  pub wrote_no_room : length d < length b → (0 ≡ length (fitting (length d) b)) × (d ≡ over d (fitting (length d) b))
  wrote_no_room h = rw (lt-leb (length b) (length d) h) (refl, refl)

  pub wrote_all : (o' : List ℕ) (r : ℕ) → length b ≤ length d → Puts b d 0 o' r
      → (r ≡ length (fitting (length d) b)) × (o' ≡ over d (fitting (length d) b))
  wrote_all o' r h p =
      let w = p d [] refl refl (omega arith) in
      rw (le-leb (length b) (length d) h) (w.1, w.0)
