-- Things of so many bytes each, one behind the other: read back from the bytes that they were written as, the bytes written
-- again from what is read, and one more laid behind the others.
use mathlib.Core.Path.{◌≡◌, refl, sym, ◌∙◌, ap, ap₂, subst}
use mathlib.Core.List.{List, [], ◌∷◌, ◌++◌, map, append_assoc, map-append}
use Prim.Native.Nat.{ℕ, zero, suc, ◌+◌, ◌*◌, ◌≤◌, ◌<◌}
use native.Mathlib.Omega.{arith}
use native.Mathlib.Numerals.{add-one}
use Rattle.std.proofs.Math.Nat.{mul-suc, mul-le-mul_left}
use denote.Param.Members.{Mut}
use lib.ListN.{length, take, drop, get_or, length-append}
use Rattle.std.specs.Fn.{Called}
use Rattle.std.specs.Array.{IsFromFnResultFrom, IsFromFnResult}
use lib.Seq.{drop-drop, drop_at, take-add, take-suc, length-take-le, get_or-take}
use Rattle.digest.specs.Bytes.{laid_over, laid_within}
use Rattle.connection.proofs.Filling.{within}
use Rattle.digest.proofs.Lay.{length_laid}
use Rattle.lent.specs.Fields.{joined, bytes_in}
use Rattle.lent.specs.Saved.{Bytes}
use Rattle.lent.proofs.Laying.{joined_append, joined_one, laid_on}
use Rattle.lentshort.specs.Saved.{row_in}

-- what an array that is made place by place holds
made : {F A : Type 0} (none : A) (g : Mut F (ℕ × Unit {0}) A) (h : ℕ → A) (f : F)
    → ((i : ℕ) (y : A) (q : F) → Called g f (i, tt) y q → (q ≡ f) × (y ≡ h i))
    → (ys : List A) (i n : ℕ) → IsFromFnResultFrom g f ys i n → (k : ℕ) → k < n → get_or ys (i + k) none ≡ h (i + k)
made none g h f each ys i zero w k l = absurd (omega arith)
made none g h f each ys i (suc n) w zero l =
    let here : i + 0 ≡ i = omega arith in
    ap (λ m. get_or ys m none) here ∙ w.2.1 none ∙ (each i w.1 w.0 w.3).1 ∙ ap h (sym here)
made none g h f each ys i (suc n) w (suc k) l =
    let on : i + 1 + k ≡ i + suc k = omega arith in
    let rest = subst (λ p. IsFromFnResultFrom g p ys (i + 1) n) (each i w.1 w.0 w.3).0 w.4 in
    ap (λ m. get_or ys m none) (sym on) ∙ made none g h f each ys (i + 1) n rest k (omega arith) ∙ ap h on

module _ {A : Type 0} (none : A) (read : List ℕ → ℕ → A) (write : A → List ℕ) (Fine : A → Type 0) (step : ℕ) where
  abbrev pub Each : List A → Type 0
  Each xs = (i : ℕ) → i < length xs → Fine (get_or xs i none)

  abbrev pub row : List A → List ℕ
  row xs = joined (map write xs)

  -- what is read place by place
  row_from : (n : ℕ) (b : List ℕ) (at : ℕ) (ys : List A) → length ys ≡ n → ((i : ℕ) → i < n → get_or ys i none ≡ read b (at + step * i))
      → ys ≡ row_in read step n b at
  unfolding row_in
  row_from zero b at [] l each = refl
  row_from zero b at (y ∷ ys) l each = absurd (omega arith)
  row_from (suc n) b at [] l each = absurd (omega arith)
  row_from (suc n) b at (y ∷ ys) l each =
      let here : at + step * 0 ≡ at = omega arith in
      ap₂ (λ p q. p ∷ q) (each 0 (omega arith) ∙ ap (read b) here)
      (row_from n b (at + step) ys (omega arith) (λ i h. each (suc i) (omega arith) ∙ ap (read b) (next i)))
    where
      next : (i : ℕ) → at + step * suc i ≡ at + step + step * i
      next i = let d : step * suc i ≡ step * i + step = mul-suc step i in omega arith

  -- as an array is made of what is read
  pub row_made : {F : Type 0} {g : Mut F (ℕ × Unit {0}) A} {f : F} {ys : List A} (n : ℕ) (b : List ℕ) (at : ℕ) → IsFromFnResult g f ys n
      → ((i : ℕ) (y : A) (q : F) → Called g f (i, tt) y q → (q ≡ f) × (y ≡ read b (at + step * i))) → ys ≡ row_in read step n b at
  row_made {g = g} {f = f} {ys = ys} n b at w each =
      row_from n b at ys w.long
      (λ i h.
      let here : 0 + i ≡ i = omega arith in
      subst (λ k. get_or ys k none ≡ read b (at + step * k)) here (made none g (λ k. read b (at + step * k)) f each ys 0 n w.each i h))

  module _ (size : (x : A) → Fine x → length (write x) ≡ step) where
    -- how many bytes they are
    pub row_size : (xs : List A) → Each xs → length (row xs) ≡ step * length xs
    unfolding joined
    row_size [] each = let z : 0 ≡ step * 0 = omega arith in z
    row_size (x ∷ xs) each =
        let d : step * suc (length xs) ≡ step * length xs + step = mul-suc step (length xs) in
        omega (arith, length-append (write x) (row xs), size x (each 0 (omega arith)), row_size xs (λ i h. each (suc i) (omega arith)))

    -- read back from where they were written
    pub row_back : ((x : A) (b : List ℕ) (at : ℕ) (rest : List ℕ) → Fine x → drop at b ≡ write x ++ rest → read b at ≡ x)
        → (xs : List A) (b : List ℕ) (at : ℕ) (rest : List ℕ) → Each xs → drop at b ≡ row xs ++ rest → row_in read step (length xs) b at ≡ xs
    unfolding row_in joined
    row_back back [] b at rest each e = refl
    row_back back (x ∷ xs) b at rest each e =
        let first : drop at b ≡ write x ++ (row xs ++ rest) = e ∙ append_assoc (write x) (row xs) rest in
        let on : drop (at + step) b ≡ row xs ++ rest =
        sym (drop-drop step at b) ∙ ap (drop step) first ∙ drop_at (write x) (row xs ++ rest) step (size x (each 0 (omega arith))) in
        ap₂ (λ p q. p ∷ q) (back x b at (row xs ++ rest) (each 0 (omega arith)) first)
        (row_back back xs b (at + step) rest (λ i h. each (suc i) (omega arith)) on)

    -- one more laid behind the front and the others
    module _ (d e front : List ℕ) (at i : ℕ) (xs : List A) (each : (j : ℕ) → j < i + 1 → Fine (get_or xs j none)) (h : i < length xs)
        (room : at + length front + step * length xs ≤ length d) (so_far : e ≡ laid_over d at (front ++ row (take i xs))) where
      abbrev here : A
      here = get_or xs i none

      width : length (write here) ≡ step
      width = size here (each i (omega arith))

      long : length (take i xs) ≡ i
      long = length-take-le i xs (omega arith)

      before : Each (take i xs)
      before j l = subst Fine (sym (get_or-take i xs j none (omega (arith, long)))) (each j (omega (arith, long)))

      most : step * i + step ≤ step * length xs
      most = subst (λ m. m ≤ step * length xs) (mul-suc step i) (mul-le-mul_left step h)

      both : length (front ++ row (take i xs)) ≡ length front + step * i
      both =
          length-append front (row (take i xs))
          ∙ ap (λ n. length front + n) (row_size (take i xs) before ∙ ap (λ n. step * n) long)

      same : length e ≡ length d
      same = ap length so_far ∙ length_laid d at (front ++ row (take i xs)) (omega (arith, both, most))

      pub row_more : (f : List ℕ) → f ≡ laid_over e (at + length front + step * i) (write (get_or xs i none))
          → f ≡ laid_over d at (front ++ row (take (i + 1) xs))
      row_more f made =
          let all : row (take (i + 1) xs) ≡ row (take i xs) ++ write here =
          ap (λ n. row (take n xs)) (add-one i) ∙ ap row (take-suc xs i none h) ∙ ap joined (map-append write (take i xs) (here ∷ []))
          ∙ joined_append (map write (take i xs)) (write here ∷ []) ∙ ap (λ l. row (take i xs) ++ l) (joined_one (write here)) in
          let place : at + length front + step * i ≡ at + length (front ++ row (take i xs)) = omega (arith, both) in
          made
          ∙ (λ j. laid_over (so_far j) (place j) (write here))
          ∙ laid_on d (front ++ row (take i xs)) (write here) at (omega arith)
          ∙ ap (laid_over d at) (append_assoc front (row (take i xs)) (write here) ∙ ap (λ l. front ++ l) (sym all))

      -- put there, since it fits
      pub row_put : (f : List ℕ) → f ≡ laid_within e (at + length front + step * i) (write (get_or xs i none))
          → f ≡ laid_over d at (front ++ row (take (i + 1) xs))
      row_put f made =
          row_more f (within e (at + length front + step * i) (write here) f (omega (arith, same, width, most)) made)

  -- the bytes that they were read from
  pub row_there : ((b : List ℕ) (at : ℕ) → Bytes b → at + step ≤ length b → write (read b at) ≡ bytes_in b at step)
      → (n : ℕ) (b : List ℕ) (at : ℕ) → Bytes b → at + step * n ≤ length b → row (row_in read step n b at) ≡ bytes_in b at (step * n)
  unfolding row_in joined
  row_there there zero b at all h = let z : 0 ≡ step * 0 = omega arith in ap (bytes_in b at) z
  row_there there (suc n) b at all h =
      let d : step * n + step ≡ step * suc n = sym (mul-suc step n) in
      ap₂ (λ p q. p ++ q) (there b at all (omega arith)) (row_there there n b (at + step) all (omega arith))
      ∙ ap (λ l. take step (drop at b) ++ take (step * n) l) (sym (drop-drop step at b))
      ∙ sym (take-add step (step * n) (drop at b))
      ∙ ap (bytes_in b at) (let z : step + step * n ≡ step * suc n = omega arith in z)
