-- The window means the history of accepted numbers, for every width. The idea: the marks of a history are its digits
-- (`marks_from`), one for each of the newest numbers; accepting a number either moves all of them and sets the lowest, or
-- sets one, and the definition over the history says the same digit by digit.
use mathlib.Core.Path.{◌≡◌, refl, sym, ap, ap₂, ◌∙◌}
use mathlib.Core.Bool.{Bool, true, false}
use mathlib.Core.List.{List, [], ◌∷◌}
use Prim.Native.Nat.{ℕ, zero, suc, ◌+◌, ◌-◌, ◌*◌, ◌/◌, ◌%◌, ◌^◌, ◌≤◌, ◌<◌, max}
use native.Mathlib.Nat.{add-zero, mod-one, mod-eq_of_lt, pow-suc, mul_assoc, mul-one, mul-mod_left, div-one}
use native.Mathlib.Omega.{arith}
use lib.Arith.{digits_div, digits_mod}
use lib.Count.{ones, ones_step}
use lib.Dec.{lit<, lit≤, eqb, leb, ltb}
use lib.Pow.{shr-shr, shl-shr, mod-pow-add}
use borrow.Author.Tests.{eq-eqb, ne_eqb, le-leb, lt-leb, le-ltb, eqb-true, leb-true, leb-false, ltb-true, ltb-false}
use Rattle.digest.specs.Pick.{pick}
use Rattle.record.specs.Window.{window_width, Held, held_width, fresh_window, accept_by, accept_within, accept_of, arrived_at, arrival_of}
use Rattle.record.specs.History.{accepted, highest_of, mark_of, marks_from, count_from, window_of, arrived_of, judged_of}
use Rattle.record.specs.declared.window.Window.{Window}
use Rattle.record.specs.declared.window.NotNew.TheVariants.{TooOld, Repeated}
use Rattle.std.specs.Prelude.{Err, Ok}

pub decide : {P : Type 0} (b : Bool) → (b ≡ true → P) → (b ≡ false → P) → P
decide true y n = y refl
decide false y n = n refl

-- ---- the history

none : (s : ℕ) → accepted [] s ≡ false
unfolding accepted
none s = refl

-- what was accepted is at most the highest number
pub accepted_le : (h : List ℕ) (s : ℕ) → accepted h s ≡ true → s ≤ highest_of h
unfolding accepted highest_of
accepted_le [] s e = let z : ◌≡◌ {A = ℕ} 0 1 = cc in absurd (omega arith)
accepted_le (t ∷ h) s e =
    decide (eqb t s) (λ f. omega (arith, eqb-true t s f)) (λ f. omega (arith, accepted_le h s (rw f at e)))

-- a number above the highest was not accepted
pub above : (h : List ℕ) (s : ℕ) → highest_of h < s → accepted h s ≡ false
above h s l = decide (accepted h s) (λ e. absurd (omega (arith, accepted_le h s e))) (λ e. e)

pub accepted_here : (s : ℕ) (h : List ℕ) → accepted (s ∷ h) s ≡ true
unfolding accepted
accepted_here s h = rw (eq-eqb s s refl)

pub accepted_other : (s t : ℕ) (h : List ℕ) → (s ≡ t → ⊥) → accepted (s ∷ h) t ≡ accepted h t
unfolding accepted
accepted_other s t h d = rw (ne_eqb s t d)

-- once accepted, accepted for good
pub accepted_still : (s t : ℕ) (h : List ℕ) → accepted h t ≡ true → accepted (s ∷ h) t ≡ true
unfolding accepted
accepted_still s t h e = decide (eqb s t) (λ f. rw f) (λ f. rw f e)

-- the highest number was accepted
pub highest_in : (t : ℕ) (h : List ℕ) → accepted (t ∷ h) (highest_of (t ∷ h)) ≡ true
unfolding highest_of
highest_in t [] = ap (accepted (t ∷ [])) (omega arith) ∙ accepted_here t []
highest_in t (u ∷ h) =
    decide (leb (highest_of (u ∷ h)) t)
    (λ e. ap (accepted (t ∷ u ∷ h)) (omega (arith, leb-true (highest_of (u ∷ h)) t e)) ∙ accepted_here t (u ∷ h))
    (λ e. ap (accepted (t ∷ u ∷ h)) (omega (arith, leb-false (highest_of (u ∷ h)) t e))
    ∙ accepted_still t (highest_of (u ∷ h)) (u ∷ h) (highest_in u h))

-- ---- marks

pub mark_le : (h : List ℕ) (n j : ℕ) → mark_of h n j ≤ 1
unfolding mark_of
mark_le h n j =
    decide (leb j n)
    (λ e. decide (accepted h (n - j)) (λ f. rw (e, f) (lit≤ tt)) (λ f. rw (e, f) (lit≤ tt)))
    (λ e. rw e (lit≤ tt))

mark_in : (h : List ℕ) (n j : ℕ) (b : Bool) → j ≤ n → accepted h (n - j) ≡ b → mark_of h n j ≡ pick b 1 0
unfolding mark_of
mark_in h n j b l e = rw (le-leb j n l, e)

mark_out : (h : List ℕ) (n j : ℕ) → n < j → mark_of h n j ≡ 0
unfolding mark_of
mark_out h n j l = rw (lt-leb j n l)

half : (r m : ℕ) → m ≤ 1 → (r * 2 + m) / 2 ≡ r
half r m l = digits_div r {m = 2} {r = m} (omega arith)

odd : (r m : ℕ) → m ≤ 1 → (r * 2 + m) % 2 ≡ m
odd r m l = digits_mod r {m = 2} {r = m} (omega arith)

doubled : (x w : ℕ) → x * 2 % 2 ^ suc w ≡ x % 2 ^ w * 2
doubled x w =
    ap (λ (y : ℕ). x * 2 % 2 ^ y) (omega arith) ∙ mod-pow-add (x * 2) w 1
    ∙ ap₂ (λ (a b : ℕ). a % 2 ^ w * 2 + b) (shl-shr x 1) (mul-mod_left x 2) ∙ add-zero (x % 2 ^ w * 2)

-- ---- the digits of a history

module _ (h : List ℕ) (n : ℕ) where
  pub marks_lt : (w j : ℕ) → marks_from h n w j < 2 ^ w
  unfolding marks_from
  marks_lt zero j = lit< tt
  marks_lt (suc w) j = omega (arith, mark_le h n j, marks_lt w (suc j), pow-suc 2 w)

  pub marks_ones : (w j : ℕ) → ones (marks_from h n w j) ≡ count_from h n w j
  unfolding marks_from count_from ones
  marks_ones zero j = refl
  marks_ones (suc w) j =
      let r : ℕ = marks_from h n w (suc j) in
      let m : ℕ = mark_of h n j in
      ones_step (r * 2 + m) ∙ ap₂ (λ (a b : ℕ). a + ones b) (odd r m (mark_le h n j)) (half r m (mark_le h n j))
      ∙ ap (λ (x : ℕ). m + x) (marks_ones w (suc j))

  pub marks_digit : (i w j : ℕ) → i < w → marks_from h n w j / 2 ^ i % 2 ≡ mark_of h n (j + i)
  unfolding marks_from
  marks_digit i zero j l = absurd (omega arith)
  marks_digit zero (suc w) j l =
      ap (λ (x : ℕ). x % 2) (div-one (marks_from h n w (suc j) * 2 + mark_of h n j))
      ∙ odd (marks_from h n w (suc j)) (mark_of h n j) (mark_le h n j) ∙ ap (mark_of h n) (sym (add-zero j))
  marks_digit (suc i) (suc w) j l =
      let r : ℕ = marks_from h n w (suc j) in
      let m : ℕ = mark_of h n j in
      ap (λ (x : ℕ). (r * 2 + m) / 2 ^ x % 2) (omega arith) ∙ ap (λ (x : ℕ). x % 2) (sym (shr-shr (r * 2 + m) 1 i))
      ∙ ap (λ (x : ℕ). x / 2 ^ i % 2) (half r m (mark_le h n j)) ∙ marks_digit i w (suc j) (omega arith)
      ∙ ap (mark_of h n) (omega arith)

  pub marks_zero : (w j : ℕ) → ((i : ℕ) → j ≤ i → mark_of h n i ≡ 0) → marks_from h n w j ≡ 0
  unfolding marks_from
  marks_zero zero j z = refl
  marks_zero (suc w) j z = rw (marks_zero w (suc j) (λ i l. z i (omega arith)), z j (omega arith))

  pub marks_cut : (w v j : ℕ) → w ≤ v → marks_from h n v j % 2 ^ w ≡ marks_from h n w j
  unfolding marks_from
  marks_cut zero v j l = mod-one (marks_from h n v j)
  marks_cut (suc w) zero j l = absurd (omega arith)
  marks_cut (suc w) (suc v) j l =
      let r : ℕ = marks_from h n v (suc j) in
      let m : ℕ = mark_of h n j in
      ap (λ (x : ℕ). (r * 2 + m) % 2 ^ x) (omega arith) ∙ mod-pow-add (r * 2 + m) w 1
      ∙ ap₂ (λ (a b : ℕ). a % 2 ^ w * 2 + b) (half r m (mark_le h n j)) (odd r m (mark_le h n j))
      ∙ ap (λ (x : ℕ). x * 2 + m) (marks_cut w v (suc j) (omega arith))

-- ---- the digits of two histories

module _ (k h : List ℕ) (m n : ℕ) where
  pub marks_same : (w j l : ℕ) → ((i : ℕ) → mark_of k m (j + i) ≡ mark_of h n (l + i)) → marks_from k m w j ≡ marks_from h n w l
  unfolding marks_from
  marks_same zero j l e = refl
  marks_same (suc w) j l e =
      ap₂ (λ (a b : ℕ). a * 2 + b)
      (marks_same w (suc j) (suc l) (λ i. ap (mark_of k m) (omega arith) ∙ e (suc i) ∙ ap (mark_of h n) (omega arith)))
      (ap (mark_of k m) (sym (add-zero j)) ∙ e 0 ∙ ap (mark_of h n) (add-zero l))

  -- one mark more, p places on
  pub marks_set : (p w j : ℕ) → p < w → mark_of h n (j + p) ≡ 0 → mark_of k m (j + p) ≡ 1 → ((i : ℕ) → (i ≡ p → ⊥) → mark_of k m (j + i) ≡ mark_of h n (j + i)) → marks_from k m w j ≡ marks_from h n w j + 2 ^ p
  unfolding marks_from
  marks_set p zero j l free full e = absurd (omega arith)
  marks_set zero (suc w) j l free full e =
      let rest : marks_from k m w (suc j) ≡ marks_from h n w (suc j) =
      marks_same w (suc j) (suc j) (λ i. ap (mark_of k m) (omega arith) ∙ e (suc i) (λ z. omega arith) ∙ ap (mark_of h n) (omega arith)) in
      let a : mark_of k m j ≡ 1 = ap (mark_of k m) (sym (add-zero j)) ∙ full in
      let b : mark_of h n j ≡ 0 = ap (mark_of h n) (sym (add-zero j)) ∙ free in
      omega (arith, rest, a, b)
  marks_set (suc p) (suc w) j l free full e =
      let go : (x : ℕ) → j + suc x ≡ suc j + x = λ x. omega arith in
      let rest : marks_from k m w (suc j) ≡ marks_from h n w (suc j) + 2 ^ p =
      marks_set p w (suc j) (omega arith) (ap (mark_of h n) (sym (go p)) ∙ free) (ap (mark_of k m) (sym (go p)) ∙ full)
      (λ i d. ap (mark_of k m) (sym (go i)) ∙ e (suc i) (λ z. d (omega arith)) ∙ ap (mark_of h n) (go i)) in
      let a : mark_of k m j ≡ mark_of h n j =
      ap (mark_of k m) (sym (add-zero j)) ∙ e 0 (λ z. omega arith) ∙ ap (mark_of h n) (add-zero j) in
      omega (arith, rest, a, pow-suc 2 p)

  -- all marks d places on, with none in the places that come free, cut to the width
  pub marks_moved : (d w v j : ℕ) → w ≤ v → ((i : ℕ) → i < d → mark_of k m (j + i) ≡ 0) → ((i : ℕ) → mark_of k m (j + (d + i)) ≡ mark_of h n i) → marks_from k m w j ≡ marks_from h n v 0 * 2 ^ d % 2 ^ w
  unfolding marks_from
  marks_moved zero w v j l none e =
      marks_same w j 0 (λ i. ap (λ (x : ℕ). mark_of k m (j + x)) (omega arith) ∙ e i ∙ ap (mark_of h n) (omega arith))
      ∙ sym (marks_cut h n w v 0 l) ∙ ap (λ (x : ℕ). x % 2 ^ w) (sym (mul-one (marks_from h n v 0)))
  marks_moved (suc d) zero v j l none e = sym (mod-one (marks_from h n v 0 * 2 ^ suc d))
  marks_moved (suc d) (suc w) v j l none e =
      let x : ℕ = marks_from h n v 0 in
      let go : (y : ℕ) → suc j + y ≡ j + suc y = λ y. omega arith in
      let rest : marks_from k m w (suc j) ≡ x * 2 ^ d % 2 ^ w =
      marks_moved d w v (suc j) (omega arith) (λ i q. ap (mark_of k m) (go i) ∙ none (suc i) (omega arith))
      (λ i. ap (mark_of k m) (omega arith) ∙ e i) in
      let first : mark_of k m j ≡ 0 = ap (mark_of k m) (sym (add-zero j)) ∙ none 0 (omega arith) in
      ap₂ (λ (a b : ℕ). a * 2 + b) rest first ∙ add-zero (x * 2 ^ d % 2 ^ w * 2) ∙ sym (doubled (x * 2 ^ d) w)
      ∙ ap (λ (y : ℕ). y % 2 ^ suc w) (mul_assoc x (2 ^ d) 2 ∙ ap (λ (y : ℕ). x * y) (sym (pow-suc 2 d)))

-- ---- the theorem

-- the window and the count after s, from its highest number and its marks
taken : (w s n m : ℕ) (h : List ℕ) → highest_of (s ∷ h) ≡ n → marks_from (s ∷ h) n w 0 ≡ m → arrived_at w n m ≡ Ok (window_of w (s ∷ h), arrived_of w (s ∷ h))
taken w s n m h e f = rw (e, f, sym (marks_ones (s ∷ h) n w 0), f)

-- the first number of all
first_marks : (w s : ℕ) → 0 < w → marks_from (s ∷ []) s w 0 ≡ 1
unfolding marks_from
first_marks zero s p = absurd (omega arith)
first_marks (suc w) s p =
    let rest : marks_from (s ∷ []) s w 1 ≡ 0 =
    marks_zero (s ∷ []) s w 1
    (λ i l. decide (leb i s)
    (λ e. let q : i ≤ s = leb-true i s e in
    mark_in (s ∷ []) s i false q (accepted_other s (s - i) [] (λ z. omega arith) ∙ none (s - i)))
    (λ e. mark_out (s ∷ []) s i (leb-false i s e))) in
    let own : mark_of (s ∷ []) s 0 ≡ 1 = mark_in (s ∷ []) s 0 true (omega arith) (ap (accepted (s ∷ [])) (omega arith) ∙ accepted_here s []) in
    rw (rest, own)

-- the marks of two histories agree where they agree on the number
mark_same : (k h : List ℕ) (m n i j : ℕ) → m - i ≡ n - j → (i ≤ m → j ≤ n) → (j ≤ n → i ≤ m) → (j ≤ n → accepted k (n - j) ≡ accepted h (n - j)) → mark_of k m i ≡ mark_of h n j
mark_same k h m n i j e to fro same =
    decide (leb j n)
    (λ f. let q : j ≤ n = leb-true j n f in
    mark_in k m i (accepted k (n - j)) (fro q) (ap (accepted k) e)
    ∙ ap (λ (b : Bool). pick b 1 0) (same q) ∙ sym (mark_in h n j (accepted h (n - j)) q refl))
    (λ f. let q : n < j = leb-false j n f in
    let o : m < i = decide (leb i m) (λ g. absurd (omega (arith, to (leb-true i m g)))) (leb-false i m) in
    mark_out k m i o ∙ sym (mark_out h n j q))

-- a number above the highest
newer_marks : (w s : ℕ) (h : List ℕ) → 0 < w → highest_of h < s → marks_from (s ∷ h) s w 0 ≡ marks_from h (highest_of h) w 0 * 2 ^ (s - highest_of h) % 2 ^ w + 1
unfolding marks_from
newer_marks zero s h p l = absurd (omega arith)
newer_marks (suc w) s h p l =
    let n : ℕ = highest_of h in
    let x : ℕ = marks_from h n (suc w) 0 in
    let d : ℕ = s - n - 1 in
    let own : mark_of (s ∷ h) s 0 ≡ 1 = mark_in (s ∷ h) s 0 true (omega arith) (ap (accepted (s ∷ h)) (omega arith) ∙ accepted_here s h) in
    let rest : marks_from (s ∷ h) s w 1 ≡ x * 2 ^ d % 2 ^ w =
    marks_moved (s ∷ h) h s n d w (suc w) 1 (omega arith)
    (λ i q. mark_in (s ∷ h) s (1 + i) false (omega arith)
    (accepted_other s (s - (1 + i)) h (λ z. omega arith) ∙ above h (s - (1 + i)) (omega arith)))
    (λ i. mark_same (s ∷ h) h s n (1 + (d + i)) i (omega arith) (λ q. omega arith) (λ q. omega arith)
    (λ q. accepted_other s (n - i) h (λ z. omega arith))) in
    ap₂ (λ (a b : ℕ). a * 2 + b) rest own
    ∙ ap (λ (y : ℕ). y + 1)
    (sym (doubled (x * 2 ^ d) w)
    ∙ ap (λ (y : ℕ). y % 2 ^ suc w) (mul_assoc x (2 ^ d) 2 ∙ ap (λ (y : ℕ). x * y) (sym (pow-suc 2 d)))
    ∙ ap (λ (y : ℕ). x * 2 ^ y % 2 ^ suc w) (omega arith))

-- a number below the highest, and not accepted
older_marks : (w s : ℕ) (h : List ℕ) → s ≤ highest_of h → highest_of h < s + w → accepted h s ≡ false → marks_from (s ∷ h) (highest_of h) w 0 ≡ marks_from h (highest_of h) w 0 + 2 ^ (highest_of h - s)
older_marks w s h l q e =
    let n : ℕ = highest_of h in
    let p : ℕ = n - s in
    let back : n - (0 + p) ≡ s = omega arith in
    marks_set (s ∷ h) h n n p w 0 (omega arith)
    (mark_in h n (0 + p) false (omega arith) (ap (accepted h) back ∙ e))
    (mark_in (s ∷ h) n (0 + p) true (omega arith) (ap (accepted (s ∷ h)) back ∙ accepted_here s h))
    (λ i d. mark_same (s ∷ h) h n n (0 + i) (0 + i) refl (λ z. z) (λ z. z)
    (λ z. accepted_other s (n - (0 + i)) h (λ y. d (omega arith))))

-- a window with a mark: the highest number of a history that is not empty has one
marked_some : (w t : ℕ) (h : List ℕ) → 0 < w → marks_from (t ∷ h) (highest_of (t ∷ h)) w 0 ≡ 0 → ⊥
marked_some w t h p z =
    let n : ℕ = highest_of (t ∷ h) in
    let one : mark_of (t ∷ h) n 0 ≡ 1 = mark_in (t ∷ h) n 0 true (omega arith) (ap (accepted (t ∷ h)) (omega arith) ∙ highest_in t h) in
    let digit = marks_digit (t ∷ h) n 0 w 0 p in
    let zero_is : ◌≡◌ {A = ℕ} 0 1 = ap (λ (x : ℕ). x / 2 ^ 0 % 2) (sym z) ∙ digit ∙ one in
    omega arith

lowest : highest_of [] ≡ 0
unfolding highest_of
lowest = refl

highest_of_lem : (s n : ℕ) (h : List ℕ) → highest_of h ≡ n → highest_of (s ∷ h) ≡ max s n
unfolding highest_of
highest_of_lem s n h e = rw e

not_newer : (w : ℕ) → 0 < w → (t : ℕ) (h : List ℕ) (s : ℕ) → s ≤ highest_of (t ∷ h) → accept_by w (highest_of (t ∷ h)) (marks_from (t ∷ h) (highest_of (t ∷ h)) w 0) s ≡ judged_of w (t ∷ h) s
unfolding accept_by judged_of
not_newer w p t h s l =
    let g : List ℕ = t ∷ h in
    let n : ℕ = highest_of g in
    let m : ℕ = marks_from g n w 0 in
    decide (leb (s + w) n)
    (λ old. rw (ne_eqb m 0 (marked_some w t h p), le-ltb n s l, old))
    (λ young.
    let q : n < s + w = leb-false (s + w) n young in
    let j : ℕ = n - s in
    let digit : m / 2 ^ j % 2 ≡ mark_of g n (0 + j) = marks_digit g n j w 0 (omega arith) in
    decide (accepted g s)
    (λ in-it.
    let set-bit : m / 2 ^ j % 2 ≡ 1 = digit ∙ mark_in g n (0 + j) true (omega arith) (ap (accepted g) (omega arith) ∙ in-it) in
    rw (ne_eqb m 0 (marked_some w t h p), le-ltb n s l, young, in-it, set-bit))
    (λ not_in.
    let clear-bit : m / 2 ^ j % 2 ≡ 0 = digit ∙ mark_in g n (0 + j) false (omega arith) (ap (accepted g) (omega arith) ∙ not_in) in
    rw (ne_eqb m 0 (marked_some w t h p), le-ltb n s l, young, not_in, clear-bit)
    (taken w s n (m + 2 ^ j) g (highest_of_lem s n g refl ∙ omega arith) (older_marks w s g l q not_in))))

judged : (w : ℕ) → 0 < w → (h : List ℕ) (s : ℕ) → accept_by w (highest_of h) (marks_from h (highest_of h) w 0) s ≡ judged_of w h s
unfolding accept_by judged_of
judged w p [] s =
    let n : ℕ = highest_of [] in
    let m : marks_from [] n w 0 ≡ 0 =
    marks_zero [] n w 0
    (λ i l. decide (leb i n) (λ e. mark_in [] n i false (leb-true i n e) (none (n - i))) (λ e. mark_out [] n i (leb-false i n e))) in
    rw (m, lt-leb (s + w) n (omega (arith, lowest)), none s)
    (taken w s s 1 [] (highest_of_lem s 0 [] lowest ∙ omega arith) (first_marks w s p))
judged w p (t ∷ h) s =
    let g : List ℕ = t ∷ h in
    let n : ℕ = highest_of g in
    let m : ℕ = marks_from g n w 0 in
    decide (ltb n s)
    (λ e.
    let l : n < s = ltb-true n s e in
    rw (ne_eqb m 0 (marked_some w t h p), e, lt-leb (s + w) n (omega arith), above g s l)
    (taken w s s (m * 2 ^ (s - n) % 2 ^ w + 1) g (highest_of_lem s n g refl ∙ omega arith) (newer_marks w s g p l)))
    (λ e. not_newer w p t h s (ltb-false n s e))

within_means : (w : ℕ) → 0 < w → (h : List ℕ) (s : ℕ) → accept_within w (window_of w h) s ≡ judged_of w h s
within_means w p h s =
    ap (λ (m : ℕ). accept_by w (highest_of h) m s) (mod-eq_of_lt (marks_lt h (highest_of h) w 0)) ∙ judged w p h s

-- a width that a window may have is the one it keeps
pub held_is : (w : ℕ) → Held w → held_width w ≡ w
unfolding held_width
held_is w k = rw (le-ltb w 32 k.0, le-ltb 64 w k.1)

pub held_some : (w : ℕ) → Held w → 0 < w
held_some w k = omega (arith, k.0)

-- The window of a history answers as the history does: number s is too old, repeated, or new; and if new, the window is
-- that of the history with s, and the count is how many of its newest numbers have arrived.
pub meaning : (w : ℕ) → Held w → (h : List ℕ) (s : ℕ) → accept_of (window_of w h) s ≡ judged_of w h s
meaning w k h s = ap (λ (v : ℕ). accept_within v (window_of w h) s) (held_is w k) ∙ within_means w (held_some w k) h s

-- the arrival report of the window of a history: how many of its newest numbers have arrived
pub arrival_means : (w : ℕ) → Held w → (h : List ℕ) → arrival_of (window_of w h) ≡ arrived_of w h
unfolding arrival_of
arrival_means w k h =
    let m : ℕ = marks_from h (highest_of h) w 0 in
    ap (λ (v : ℕ). ones (m % 2 ^ v)) (held_is w k)
    ∙ ap (λ (x : ℕ). ones x) (mod-eq_of_lt (marks_lt h (highest_of h) w 0))
    ∙ marks_ones h (highest_of h) w 0

-- a fresh window is that of no number
pub fresh_means : (w : ℕ) → fresh_window w ≡ window_of w []
fresh_means w =
    let m : marks_from [] 0 w 0 ≡ 0 =
    marks_zero [] 0 w 0
    (λ i l. decide (leb i 0) (λ e. mark_in [] 0 i false (leb-true i 0 e) (none (0 - i))) (λ e. mark_out [] 0 i (leb-false i 0 e))) in
    rw (lowest, m)

-- the narrowest width is one that a window may have
pub held_ours : Held window_width
held_ours = (lit≤ tt, lit≤ tt)

-- of the newest numbers at least the highest has arrived, and at most all
pub arrived_some : (w s : ℕ) (h : List ℕ) → 0 < w → 0 < arrived_of w (s ∷ h)
unfolding count_from
arrived_some zero s h p = absurd (omega arith)
arrived_some (suc w) s h p =
    let n : ℕ = highest_of (s ∷ h) in
    let one : mark_of (s ∷ h) n 0 ≡ 1 = mark_in (s ∷ h) n 0 true (omega arith) (ap (accepted (s ∷ h)) (omega arith) ∙ highest_in s h) in
    omega (arith, one)

count_le : (h : List ℕ) (n w j : ℕ) → count_from h n w j ≤ w
unfolding count_from
count_le h n zero j = lit≤ tt
count_le h n (suc w) j = omega (arith, mark_le h n j, count_le h n w (suc j))

pub arrived_most : (w : ℕ) (h : List ℕ) → arrived_of w h ≤ w
arrived_most w h = count_le h (highest_of h) w 0

-- ---- the answers, each exactly when

module _ (w : ℕ) (h : List ℕ) (s : ℕ) where
  pub old_when : s + w ≤ highest_of h → judged_of w h s ≡ Err TooOld
  unfolding judged_of
  old_when l = rw (le-leb (s + w) (highest_of h) l)

  pub repeated_when : highest_of h < s + w → accepted h s ≡ true → judged_of w h s ≡ Err Repeated
  unfolding judged_of
  repeated_when l e = rw (lt-leb (s + w) (highest_of h) l, e)

  pub new_when : highest_of h < s + w → accepted h s ≡ false → judged_of w h s ≡ Ok (window_of w (s ∷ h), arrived_of w (s ∷ h))
  unfolding judged_of
  new_when l e = rw (lt-leb (s + w) (highest_of h) l, e)

  -- one of the three holds
  which : {P : Type 0} → (s + w ≤ highest_of h → P) → (highest_of h < s + w → accepted h s ≡ true → P) → (highest_of h < s + w → accepted h s ≡ false → P) → P
  which a b c =
      decide (leb (s + w) (highest_of h)) (λ e. a (leb-true (s + w) (highest_of h) e))
      (λ e. decide (accepted h s) (b (leb-false (s + w) (highest_of h) e)) (c (leb-false (s + w) (highest_of h) e)))

  pub old_means : judged_of w h s ≡ Err TooOld → s + w ≤ highest_of h
  old_means e =
      which (λ l. l)
      (λ l a. let z : ◌≡◌ {A = ℕ} 0 1 = cc (repeated_when l a) in absurd (omega arith))
      (λ l a. let z : ◌≡◌ {A = ℕ} 0 1 = cc (new_when l a) in absurd (omega arith))

  pub repeated_means : judged_of w h s ≡ Err Repeated → (highest_of h < s + w) × (accepted h s ≡ true)
  repeated_means e =
      which (λ l. let z : ◌≡◌ {A = ℕ} 0 1 = cc (old_when l) in absurd (omega arith)) (λ l a. (l, a))
      (λ l a. let z : ◌≡◌ {A = ℕ} 0 1 = cc (new_when l a) in absurd (omega arith))

  pub new_means : (v : Window) (k : ℕ) → judged_of w h s ≡ Ok (v, k) → (highest_of h < s + w) × (accepted h s ≡ false) × (v ≡ window_of w (s ∷ h)) × (k ≡ arrived_of w (s ∷ h))
  new_means v k e =
      which (λ l. let z : ◌≡◌ {A = ℕ} 0 1 = cc (old_when l) in absurd (omega arith))
      (λ l a. let z : ◌≡◌ {A = ℕ} 0 1 = cc (repeated_when l a) in absurd (omega arith))
      (λ l a. let is : ◌≡◌ {A = Window × ℕ} (v, k) (window_of w (s ∷ h), arrived_of w (s ∷ h)) = cc (new_when l a) in (l, a, ap (λ x. x.0) is, ap (λ x. x.1) is))

-- below s + w the highest number is, exactly if every number accepted is
pub all_below : (w : ℕ) (h : List ℕ) (s : ℕ) → highest_of h < s + w → (n : ℕ) → accepted h n ≡ true → n < s + w
all_below w h s l n e = omega (arith, accepted_le h n e)

pub below_all : (w : ℕ) → 0 < w → (h : List ℕ) (s : ℕ) → ((n : ℕ) → accepted h n ≡ true → n < s + w) → highest_of h < s + w
below_all w p [] s f = omega (arith, lowest)
below_all w p (t ∷ h) s f = f (highest_of (t ∷ h)) (highest_in t h)
