-- The walk over a header's elements. The idea: the answer for the whole header is the answer for what is left of it, from
-- what is noted so far on; one more element moves both one on (`go_on`), and each way out of the loop ends it.
use mathlib.Core.Path.{◌≡◌, refl, ap, ◌∙◌, sym}
use mathlib.Core.List.{List}
use Prim.Native.Nat.{ℕ, zero, suc, ◌+◌, ◌-◌, ◌≤◌, ◌<◌}
use native.Mathlib.Omega.{arith}
use lib.ListN.{length, get_or, take, drop, length-drop}
use lib.Seq.{drop-drop, take_all}
use borrow.Author.Tests.{eq-eqb, ne_eqb, lt-ltb, le-ltb}
use Rattle.std.specs.Prelude.{Result, Ok, Err}
use Rattle.std.specs.List.{IsSplitAt}
use Rattle.gather.specs.Header.{nothing, element_of, onward, elements_from, walked_of}
use Rattle.gather.specs.declared.header.Noted.{Noted}
use Rattle.gather.specs.declared.refusal.Refusal.{Refusal}
use Rattle.gather.specs.declared.refusal.Refusal.TheVariants as R

-- where the loop stands in the header h: these bytes are left, and n is noted
pub record Walking (h : List ℕ) (n : Noted) (rest : List ℕ) : Type 0 where
  pub most : ℕ
  pub enough : length rest ≤ most
  pub so_far : walked_of h ≡ elements_from most n rest

pub begun : (h : List ℕ) → Walking h nothing h
unfolding walked_of
begun h = record { most = length h; enough = omega arith; so_far = refl }

-- ---- one step of the definition

none_left : (most : ℕ) (n : Noted) (s : List ℕ) → length s ≡ 0 → elements_from most n s ≡ Ok n
unfolding elements_from
none_left zero n s e = rw (eq-eqb (length s) 0 e)
none_left (suc most) n s e = rw (eq-eqb (length s) 0 e)

lone : (most : ℕ) (n : Noted) (s : List ℕ) → (length s ≡ 0 → ⊥) → length s < 2 → elements_from most n s ≡ Err R.Header
unfolding elements_from
lone zero n s h k = rw (ne_eqb (length s) 0 h)
lone (suc most) n s h k = rw (ne_eqb (length s) 0 h, lt-ltb (length s) 2 k)

past : (most : ℕ) (n : Noted) (s : List ℕ) → 2 ≤ length s → length s - 2 < get_or s 1 0 → length s ≤ most → elements_from most n s ≡ Err R.Header
unfolding elements_from
past zero n s h k m = absurd (omega arith)
past (suc most) n s h k m = rw (ne_eqb (length s) 0 (λ e. omega arith), le-ltb (length s) 2 h, lt-ltb (length s - 2) (get_or s 1 0) k)

one_more : (most : ℕ) (n : Noted) (s : List ℕ) → 2 ≤ length s → get_or s 1 0 ≤ length s - 2
    → elements_from (suc most) n s ≡ onward (element_of n (get_or s 0 0) (take (get_or s 1 0) (drop 2 s))) (λ m. elements_from most m (drop (2 + get_or s 1 0) s))
unfolding elements_from
one_more most n s h k =
    rw (ne_eqb (length s) 0 (λ e. omega arith), le-ltb (length s) 2 h, le-ltb (length s - 2) (get_or s 1 0) k)

-- ---- the loop

module _ (h : List ℕ) (n : Noted) (rest : List ℕ) (w : Walking h n rest) where
  pub done : length rest ≡ 0 → walked_of h ≡ Ok n
  done e = w.so_far ∙ none_left w.most n rest e

  pub fault_lone : (length rest ≡ 0 → ⊥) → length rest < 2 → walked_of h ≡ Err R.Header
  fault_lone k l = w.so_far ∙ lone w.most n rest k l

  -- the bytes behind the number and the length of the next element
  abbrev pub more : List ℕ
  more = take (length rest - 2) (drop 2 rest)

  all_more : more ≡ drop 2 rest
  all_more = take_all (length rest - 2) (drop 2 rest) (omega (arith, length-drop 2 rest))

  size_more : length more ≡ length rest - 2
  size_more = ap length all_more ∙ length-drop 2 rest

  pub fault_past : (size : ℕ) → size ≡ get_or rest 1 0 → 2 ≤ length rest → length more < size → walked_of h ≡ Err R.Header
  fault_past size e k l = w.so_far ∙ past w.most n rest k (omega (arith, size_more)) w.enough

  -- an element with its body, and what is left behind it
  module _ (two : 2 ≤ length rest) (size : ℕ) (body next : List ℕ) (e : size ≡ get_or rest 1 0) (cut : IsSplitAt more size body next) where
    on : (x : Result Noted Refusal) → element_of n (get_or rest 0 0) body ≡ x
        → walked_of h ≡ onward x (λ m. elements_from (w.most - 1) m next)
    on x made =
        let one : w.most ≡ suc (w.most - 1) = omega (arith, w.enough) in
        let is_body : take (get_or rest 1 0) (drop 2 rest) ≡ body = (λ i. take (sym e i) (sym all_more i)) ∙ sym cut.1 in
        let is_next : drop (2 + get_or rest 1 0) rest ≡ next =
        sym (drop-drop (get_or rest 1 0) 2 rest) ∙ (λ i. drop (sym e i) (sym all_more i)) ∙ sym cut.2 in
        w.so_far
        ∙ ap (λ (m : ℕ). elements_from m n rest) one
        ∙ one_more (w.most - 1) n rest two (omega (arith, size_more, cut.0))
        ∙ (λ i. onward (element_of n (get_or rest 0 0) (is_body i)) (λ m. elements_from (w.most - 1) m (is_next i)))
        ∙ ap (λ y. onward y (λ m. elements_from (w.most - 1) m next)) made

    pub fault_element : (refusal : Refusal) → element_of n (get_or rest 0 0) body ≡ Err refusal → walked_of h ≡ Err refusal
    fault_element refusal made = on (Err refusal) made

    pub go_on : (m : Noted) → element_of n (get_or rest 0 0) body ≡ Ok m → Walking h m next
    go_on m made =
        record { most = w.most - 1; enough = omega (arith, w.enough, size_more, cut.4); so_far = on (Ok m) made }
