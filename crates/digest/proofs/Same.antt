-- The laws of the comparison of codes.
use Rattle.std.proofs.Common.{◌≡◌, ℕ, suc, ◌+◌, ◌<◌, Bool, true, false, ◌&&◌, eqb, List, [], ◌∷◌, ◌++◌, length, get_or, take, sym, refl, ap, ◌∙◌, add-one, arith, take_all, get_or-take, take-suc, take-take, eq-eqb, ne_eqb}
use mathlib.Core.Logic.{by_cases, ◌⊎◌, inl, inr}
use native.Mathlib.Decide.{ℕ_discrete}
use lib.Bits.{bit_or, bit_xor, or_add_and, xor_add_and, and_le_l, and_le_r, xor_self, or_zero_l}
use Rattle.digest.specs.Mac.{same_bytes}

-- Codes that are the same are equal, and equal codes are the same.
pub same_self : (s : List ℕ) → same_bytes s s ≡ true
unfolding same_bytes
same_self [] = refl
same_self (x ∷ s) = ap (λ b. b && same_bytes s s) (eq-eqb x x refl) ∙ same_self s

pub equal_same : (s t : List ℕ) → s ≡ t → same_bytes s t ≡ true
equal_same s t e = ap (same_bytes s) (sym e) ∙ same_self s

and_left : (a b : Bool) → (a && b) ≡ true → a ≡ true
and_left true b e = refl
and_left false b e = e

and_right : (a b : Bool) → (a && b) ≡ true → b ≡ true
and_right true b e = e
and_right false b e = let z : false ≡ true = e in cc

pub same_equal : (s t : List ℕ) → same_bytes s t ≡ true → s ≡ t
unfolding same_bytes
same_equal [] [] e = refl
same_equal [] (y ∷ t) e = let z : false ≡ true = e in cc
same_equal (x ∷ s) [] e = let z : false ≡ true = e in cc
same_equal (x ∷ s) (y ∷ t) e =
    let ex : x ≡ y = borrow.Author.Tests.eqb-true x y (and_left (eqb x y) (same_bytes s t) e) in
    let es : s ≡ t = same_equal s t (and_right (eqb x y) (same_bytes s t) e) in
    λ i. ex i ∷ es i

pub differ_same : (s t : List ℕ) → (s ≡ t → ⊥) → same_bytes s t ≡ false
differ_same s t h = go (same_bytes s t) refl
  where
    go : (b : Bool) → same_bytes s t ≡ b → same_bytes s t ≡ false
    go true e = absurd (h (same_equal s t e))
    go false e = e

-- The bits in which any of the bytes so far differ: none if and only if those bytes are equal.
or_none : (a b : ℕ) → bit_or a b ≡ 0 → (a ≡ 0) × (b ≡ 0)
or_none a b e = (omega (arith, or_add_and a b, and_le_l a b, and_le_r a b), omega (arith, or_add_and a b, and_le_l a b, and_le_r a b))

xor_none : (a b : ℕ) → bit_xor a b ≡ 0 → a ≡ b
xor_none a b e = omega (arith, xor_add_and a b, and_le_l a b, and_le_r a b)

-- A byte more of each.
pub differ_more : (a b : List ℕ) (differ i : ℕ) → i < length a → i < length b
    → (differ ≡ 0 → take i a ≡ take i b) → (take i a ≡ take i b → differ ≡ 0)
    → (bit_or differ (bit_xor (get_or a i 0) (get_or b i 0)) ≡ 0 → take (i + 1) a ≡ take (i + 1) b)
    × (take (i + 1) a ≡ take (i + 1) b → bit_or differ (bit_xor (get_or a i 0) (get_or b i 0)) ≡ 0)
differ_more a b differ i ha hb yes_so only_so = (
  λ e.
      let both = or_none differ (bit_xor (get_or a i 0) (get_or b i 0)) e in
      ap (λ n. take n a) (add-one i)
      ∙ take-suc a i 0 ha
      ∙ (λ j. yes_so both.0 j ++ (xor_none (get_or a i 0) (get_or b i 0) both.1 j ∷ []))
      ∙ sym (ap (λ n. take n b) (add-one i) ∙ take-suc b i 0 hb),
  λ e.
      let front : take i a ≡ take i b = sym (take-take i (i + 1) a (omega arith)) ∙ ap (take i) e ∙ take-take i (i + 1) b (omega arith) in
      let here : get_or a i 0 ≡ get_or b i 0
      = sym (get_or-take (i + 1) a i 0 (omega arith)) ∙ ap (λ l. get_or l i 0) e ∙ get_or-take (i + 1) b i 0 (omega arith) in
      (λ j. bit_or (only_so front j) (bit_xor (here j) (get_or b i 0)))
      ∙ or_zero_l (bit_xor (get_or b i 0) (get_or b i 0))
      ∙ xor_self (get_or b i 0),
)

-- Whether any bits differ tells whether the codes are the same.
pub differ_whole : (a b : List ℕ) (differ : ℕ) → length a ≡ length b → (differ ≡ 0 → take (length a) a ≡ take (length a) b)
    → (take (length a) a ≡ take (length a) b → differ ≡ 0) → eqb differ 0 ≡ same_bytes a b
differ_whole a b differ l yes_so only_so =
    by_cases (ℕ_discrete differ 0)
    (λ e. eq-eqb differ 0 e ∙ sym (equal_same a b (sym (take_all (length a) a (omega arith)) ∙ yes_so e ∙ take_all (length a) b (omega arith))))
    (λ ne. ne_eqb differ 0 ne ∙ sym (differ_same a b (λ e. ne (only_so (ap (take (length a)) e)))))

-- What a comparison knows that has joined the differences of the bytes before those that are left, ra and rb.
pub record Joined (a b ra rb : List ℕ) (differ : ℕ) : Type 0 where
  pub long : length ra ≡ length rb
  pub yes_so : differ ≡ 0 → ra ≡ rb → a ≡ b
  pub only_so : a ≡ b → (differ ≡ 0) × (ra ≡ rb)

pub joined_none : (a b ra rb : List ℕ) → length a ≡ length b → ra ≡ a → rb ≡ b → Joined a b ra rb 0
joined_none a b ra rb l ea eb =
    record {
      long = ap length ea ∙ l ∙ sym (ap length eb);
      yes_so = λ z e. sym ea ∙ e ∙ eb;
      only_so = λ e. (refl, ea ∙ e ∙ sym eb);
    }

-- A byte of each is taken in;
pub joined_more : (a b ra rb sa sb : List ℕ) (differ x y : ℕ) → Joined a b ra rb differ → ra ≡ x ∷ sa → rb ≡ y ∷ sb
    → Joined a b sa sb (bit_or differ (bit_xor x y))
joined_more a b ra rb sa sb differ x y j ea eb =
    record {
      long = omega (arith, j.long, ap length ea, ap length eb);
      yes_so =
          λ z e.
          let both = or_none differ (bit_xor x y) z in
          j.yes_so both.0 (ea ∙ (λ i. xor_none x y both.1 i ∷ e i) ∙ sym eb);
      only_so =
          λ e.
          let both = j.only_so e in
          let front : x ∷ sa ≡ y ∷ sb = sym ea ∙ both.1 ∙ eb in
          let here : x ≡ y = cc in
          let left : sa ≡ sb = cc in
          ((λ i. bit_or (both.0 i) (bit_xor (here i) y)) ∙ or_zero_l (bit_xor y y) ∙ xor_self y, left);
    }

-- and where none is left, no bit differs if and only if the codes are the same.
pub joined_all : (a b ra rb : List ℕ) (differ : ℕ) → length a ≡ length b → Joined a b ra rb differ → (length ra ≡ 0) ⊎ (length rb ≡ 0)
    → eqb differ 0 ≡ same_bytes a b
joined_all a b ra rb differ l j none =
    differ_whole a b differ l
    (λ z. ap (take (length a)) (j.yes_so z (none_left ra rb j.long none)))
    (λ e. (j.only_so (sym (take_all (length a) a (omega arith)) ∙ e ∙ take_all (length a) b (omega arith))).0)
  where
    none_left : (s t : List ℕ) → length s ≡ length t → (length s ≡ 0) ⊎ (length t ≡ 0) → s ≡ t
    none_left [] [] l n = refl
    none_left [] (y ∷ t) l n = absurd (let z : 0 ≡ suc (length t) = l in omega arith)
    none_left (x ∷ s) [] l n = absurd (let z : suc (length s) ≡ 0 = l in omega arith)
    none_left (x ∷ s) (y ∷ t) l (inl e) = absurd (let z : suc (length s) ≡ 0 = e in omega arith)
    none_left (x ∷ s) (y ∷ t) l (inr e) = absurd (let z : suc (length t) ≡ 0 = e in omega arith)
