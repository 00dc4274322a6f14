-- Fields laid one behind the other. `Laid d at fs e n`: e is d with the fields fs, of n bytes in all, laid over it
-- from place `at` on. Each store of one more field is one step.
use mathlib.Core.Path.{◌≡◌, refl, sym, ◌∙◌, ap, ap₂}
use mathlib.Core.List.{List, [], ◌∷◌, ◌++◌, append-nil, append_assoc}
use Prim.Native.Nat.{ℕ, ◌+◌, ◌≤◌}
use native.Mathlib.Omega.{arith}
use lib.ListN.{length, take, drop, length-append, drop_of_length-le, take-append-drop}
use lib.Seq.{length-take-le, drop-append-add, drop-drop}
use borrow.Rule.Slice.PartMut.{put_mid}
use Rattle.digest.specs.Bytes.{laid_over, laid_within, bytes8}
use Rattle.digest.proofs.Lay.{laid_front, length_laid}
use Rattle.connection.proofs.Filling.{within}
use Rattle.lent.specs.Fields.{joined}

-- fields and more fields
pub joined_append : (a b : List (List ℕ)) → joined (a ++ b) ≡ joined a ++ joined b
unfolding joined
joined_append [] b = refl
joined_append (f ∷ a) b = ap (λ x. f ++ x) (joined_append a b) ∙ sym (append_assoc f (joined a) (joined b))

pub joined_one : (f : List ℕ) → joined (f ∷ []) ≡ f
unfolding joined
joined_one f = append-nil f

-- bytes behind bytes
pub laid_on : (d s t : List ℕ) (at : ℕ) → at ≤ length d → laid_over (laid_over d at s) (at + length s) t ≡ laid_over d at (s ++ t)
unfolding laid_over
laid_on d s t at h =
    ap₂ (λ x y. x ++ t ++ y) (laid_front d at (at + length s) s h refl) (behind d s (length t) at h)
    ∙ ap (λ n. take at d ++ s ++ t ++ drop n d) (sum at (length s) (length t) ∙ ap (λ x. at + x) (sym (length-append s t)))
    ∙ ap (λ x. x ++ drop (at + length (s ++ t)) d) (append_assoc (take at d) s t)
  where
    sum : (a b c : ℕ) → a + b + c ≡ a + (b + c)
    sum a b c = omega arith

    front : (d s : List ℕ) (at : ℕ) → at ≤ length d → length (take at d ++ s) ≡ at + length s
    front d s at h = length-append (take at d) s ∙ ap (λ x. x + length s) (length-take-le at d h)

    behind : (d s : List ℕ) (k at : ℕ) → at ≤ length d → drop (at + length s + k) (laid_over d at s) ≡ drop (at + length s + k) d
    behind d s k at h =
        ap (λ n. drop (n + k) (laid_over d at s)) (sym (front d s at h))
        ∙ drop-append-add (take at d ++ s) (drop (at + length s) d) k
        ∙ drop-drop k (at + length s) d

pub record Laid (d : List ℕ) (at : ℕ) (fs : List (List ℕ)) (e : List ℕ) (n : ℕ) : Type 0 where
  pub bytes : e ≡ laid_over d at (joined fs)
  pub count : length (joined fs) ≡ n
  pub same : length e ≡ length d

-- no field yet
pub laid_none : (d : List ℕ) (at : ℕ) → at ≤ length d → Laid d at [] d 0
unfolding laid_over joined
laid_none d at h =
    let end : at ≡ at + length {A = ℕ} [] = omega arith in
    record {
      bytes = sym (take-append-drop at d) ∙ ap₂ (λ x n. x ++ drop n d) (sym (append-nil (take at d))) end;
      count = refl;
      same = refl;
    }

-- one field more: the bytes f, which are the field g
pub laid_more : {d e : List ℕ} {at n : ℕ} {fs : List (List ℕ)} (place k : ℕ) (f g e' : List ℕ) → Laid d at fs e n → place ≡ at + n
    → f ≡ g → length g ≡ k → place + k ≤ length d → e' ≡ laid_within e place f → Laid d at (fs ++ (g ∷ [])) e' (n + k)
laid_more {d} {e} {at} {n} {fs} place k f g e' laid p is l room made =
    let all : joined (fs ++ (g ∷ [])) ≡ joined fs ++ g = joined_append fs (g ∷ []) ∙ ap (λ x. joined fs ++ x) (joined_one g) in
    let there : place ≡ at + length (joined fs) = omega (arith, laid.count) in
    let lf : length f ≡ k = ap length is ∙ l in
    let fits : place + length f ≤ length e = omega (arith, laid.same) in
    let over : e' ≡ laid_over e place f = within e place f e' fits made in
    let size : length (joined (fs ++ (g ∷ []))) ≡ n + k = ap length all ∙ length-append (joined fs) g ∙ ap₂ (λ x y. x + y) laid.count l in
    record {
      bytes =
          over
          ∙ (λ i. laid_over (laid.bytes i) (there i) (is i))
          ∙ laid_on d (joined fs) g at (omega arith)
          ∙ ap (laid_over d at) (sym all);
      count = size;
      same = ap length over ∙ length_laid e place f fits ∙ laid.same;
    }

-- fields that fill the room are all that is left
pub laid_whole : {d e : List ℕ} {n : ℕ} {fs : List (List ℕ)} → Laid d 0 fs e n → length d ≡ n → e ≡ joined fs
unfolding laid_over
laid_whole {d} {e} {n} {fs} laid l =
    laid.bytes ∙ ap (λ x. joined fs ++ x) (drop_of_length-le d {i = 0 + length (joined fs)} (omega (arith, laid.count))) ∙ append-nil (joined fs)

pub length_eight : (x : ℕ) → length (bytes8 x) ≡ 8
unfolding bytes8
length_eight x = refl

-- how long fields are
pub joined_size : (f : List ℕ) (fs : List (List ℕ)) (k n : ℕ) → length f ≡ k → length (joined fs) ≡ n → length (joined (f ∷ fs)) ≡ k + n
unfolding joined
joined_size f fs k n e es = length-append f (joined fs) ∙ ap₂ (λ x y. x + y) e es

pub joined_none : length (joined []) ≡ 0
unfolding joined
joined_none = refl

-- several fields more
pub laid_block : {d e : List ℕ} {at n : ℕ} {fs : List (List ℕ)} (place k : ℕ) (gs : List (List ℕ)) (e' : List ℕ) → Laid d at fs e n
    → place ≡ at + n → length (joined gs) ≡ k → place + k ≤ length d → e' ≡ laid_over e place (joined gs) → Laid d at (fs ++ gs) e' (n + k)
laid_block {d} {e} {at} {n} {fs} place k gs e' laid p l room made =
    let all : joined (fs ++ gs) ≡ joined fs ++ joined gs = joined_append fs gs in
    let there : place ≡ at + length (joined fs) = omega (arith, laid.count) in
    let fits : place + length (joined gs) ≤ length e = omega (arith, laid.same) in
    record {
      bytes =
          made
          ∙ (λ i. laid_over (laid.bytes i) (there i) (joined gs))
          ∙ laid_on d (joined fs) (joined gs) at (omega arith)
          ∙ ap (laid_over d at) (sym all);
      count = ap length all ∙ length-append (joined fs) (joined gs) ∙ ap₂ (λ x y. x + y) laid.count l;
      same = ap length made ∙ length_laid e place (joined gs) fits ∙ laid.same;
    }

-- several fields more, as bytes of their own
pub laid_part : {d e : List ℕ} {at n : ℕ} {fs : List (List ℕ)} (place k : ℕ) (gs : List (List ℕ)) (f e' : List ℕ) → Laid d at fs e n
    → place ≡ at + n → f ≡ joined gs → length (joined gs) ≡ k → place + k ≤ length d → e' ≡ laid_within e place f → Laid d at (fs ++ gs) e' (n + k)
laid_part {d} {e} {at} {n} {fs} place k gs f e' laid p is l room made =
    let lf : length f ≡ k = ap length is ∙ l in
    laid_block place k gs e' laid p l room (within e place f e' (omega (arith, laid.same, lf)) made ∙ ap (laid_over e place) is)

-- a part that was lent is laid where it stood
pub part_laid : (d s : List ℕ) (at k : ℕ) → length s ≡ k → put_mid at k d s ≡ laid_over d at s
unfolding laid_over
part_laid d s at k l =
    ap (λ x. take at d ++ (s ++ x)) (drop-drop k at d ∙ ap (λ n. drop (at + n) d) (sym l))
    ∙ sym (append_assoc (take at d) s (drop (at + length s) d))
