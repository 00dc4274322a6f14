-- The laws of bytes moved up and laid between others.
use mathlib.Core.Path.{◌≡◌, refl, sym, ap, ◌∙◌}
use mathlib.Core.List.{List, [], ◌∷◌, ◌++◌, append_assoc, append-nil}
use Prim.Native.Nat.{ℕ, suc, ◌+◌, ◌-◌, ◌≤◌, ◌<◌}
use native.Mathlib.Omega.{arith}
use native.Mathlib.Nat.{zero-add, add-zero}
use lib.ListN.{length, get_or, take, drop, set, length-append, length-drop, length-set, take-append-drop}
use lib.Seq.{take-suc, drop-cons, set_at, take_at, drop_at, take-take, take-append-le, drop-append-le, get_or-take, length-take-le, take-add, drop-drop, take-append-add, drop-append-add}
use Rattle.std.proofs.lemmas.List.{drop-take}
use Rattle.digest.specs.Bytes.{laid_over, laid_within}
use Rattle.digest.proofs.Lay.{laid_all, length_laid}

-- what fits is laid
pub fits : (d : List ℕ) (at : ℕ) (s : List ℕ) → at + length s ≤ length d → laid_within d at s ≡ laid_over d at s
fits d at s h = sym (laid_all d (laid_over d at s) at s h refl)

-- nothing laid
pub laid_nothing : (d : List ℕ) (at : ℕ) → laid_over d at [] ≡ d
unfolding laid_over
laid_nothing d at =
    ap (λ (m : ℕ). take at d ++ [] ++ drop m d) (add-zero at)
    ∙ ap (λ (l : List ℕ). l ++ drop at d) (append-nil (take at d))
    ∙ take-append-drop at d

-- one byte more, in front
pub laid_cons : (d : List ℕ) (at v : ℕ) (xs : List ℕ) → at < length d → set (laid_over d (suc at) xs) at v ≡ laid_over d at (v ∷ xs)
unfolding laid_over
laid_cons d at v xs h =
    let end : suc at + length xs ≡ at + suc (length xs) = omega arith in
    let rest = drop (suc at + length xs) d in
    let joined : take at d ++ (get_or d at 0 ∷ []) ++ xs ++ rest ≡ take at d ++ (get_or d at 0 ∷ (xs ++ rest)) = simp append_assoc in
    ap (λ (l : List ℕ). set (l ++ xs ++ rest) at v) (take-suc d at 0 h)
    ∙ ap (λ (l : List ℕ). set l at v) joined
    ∙ set_at (take at d) (get_or d at 0) (xs ++ drop (suc at + length xs) d) v at (length-take-le at d (omega arith))
    ∙ ap (λ (n : ℕ). take at d ++ (v ∷ (xs ++ drop n d))) end
    ∙ sym (append_assoc (take at d) (v ∷ xs) (drop (at + suc (length xs)) d))

-- bytes before what is laid stay
pub laid_before : (d : List ℕ) (at : ℕ) (s : List ℕ) (i : ℕ) → i < at → at ≤ length d → get_or (laid_over d at s) i 0 ≡ get_or d i 0
unfolding laid_over
laid_before d at s i h k =
    let l : length (take at d) ≡ at = length-take-le at d k in
    ap (λ (x : List ℕ). get_or x i 0) (append_assoc (take at d) s (drop (at + length s) d))
    ∙ lib.ListN.get_or-append (take at d) (s ++ drop (at + length s) d) 0 i (omega arith)
    ∙ get_or-take at d i 0 h

-- ---- the loop that moves bytes up

-- the bytes from i up to `end` are moved up by n
pub record Shifted (d₀ : List ℕ) (from end n : ℕ) (d : List ℕ) (i : ℕ) : Type 0 where
  pub low : from ≤ i
  pub high : i ≤ end
  pub room : end + n ≤ length d₀
  pub so_far : d ≡ laid_over d₀ (i + n) (take (end - i) (drop i d₀))
  pub size : length d ≡ length d₀

pub nothing_moved : (d : List ℕ) (from end n : ℕ) → from ≤ end → end + n ≤ length d → Shifted d from end n d end
nothing_moved d from end n h k =
    record {
      low = h;
      high = omega arith;
      room = k;
      so_far =
          sym (laid_nothing d (end + n))
          ∙ ap (λ (m : ℕ). laid_over d (end + n) (take m (drop end d))) (let z : 0 ≡ end - end = omega arith in z);
      size = refl;
    }

pub one_moved : (d₀ : List ℕ) (from end n : ℕ) (d : List ℕ) (i : ℕ) → Shifted d₀ from end n d i → from < i
    → Shifted d₀ from end n (set d (i - 1 + n) (get_or d (i - 1) 0)) (i - 1)
one_moved d₀ from end n d i w h =
    let j = i - 1 in
    let up : i + n ≡ suc (j + n) = omega arith in
    let more : end - j ≡ suc (end - i) = omega (arith, w.high) in
    let next : i ≡ suc j = omega arith in
    let inside : j < length d₀ = omega (arith, w.high, w.room) in
    let same : get_or d j 0 ≡ get_or d₀ j 0 =
    ap (λ (l : List ℕ). get_or l j 0) w.so_far
    ∙ laid_before d₀ (i + n) (take (end - i) (drop i d₀)) j (omega arith) (omega (arith, w.high, w.room)) in
    let taken : take (end - j) (drop j d₀) ≡ get_or d₀ j 0 ∷ take (end - i) (drop i d₀) =
    ap (λ (m : ℕ). take m (drop j d₀)) more
    ∙ ap (take (suc (end - i))) (drop-cons d₀ j 0 inside)
    ∙ ap (λ (m : ℕ). get_or d₀ j 0 ∷ take (end - i) (drop m d₀)) (sym next) in
    record {
      low = omega arith;
      high = omega (arith, w.high);
      room = w.room;
      so_far =
          ap (λ (v : ℕ). set d (j + n) v) same
          ∙ ap (λ (l : List ℕ). set l (j + n) (get_or d₀ j 0)) (w.so_far ∙ ap (λ (m : ℕ). laid_over d₀ m (take (end - i) (drop i d₀))) up)
          ∙ laid_cons d₀ (j + n) (get_or d₀ j 0) (take (end - i) (drop i d₀)) (omega (arith, w.high, w.room))
          ∙ ap (laid_over d₀ (j + n)) (sym taken);
      size = length-set d (j + n) (get_or d j 0) ∙ w.size;
    }

pub all_moved : (d₀ : List ℕ) (from end n : ℕ) (d : List ℕ) (i : ℕ) → Shifted d₀ from end n d i → i ≤ from
    → d ≡ laid_over d₀ (from + n) (take (end - from) (drop from d₀))
all_moved d₀ from end n d i w h =
    let e : i ≡ from = omega (arith, w.low) in
    w.so_far ∙ ap (λ (m : ℕ). laid_over d₀ (m + n) (take (end - m) (drop m d₀))) e

-- ---- bytes laid beside others

-- bytes laid right before those that were laid
pub laid_in_front : (d : List ℕ) (at : ℕ) (x y : List ℕ) → at + length x + length y ≤ length d
    → laid_over (laid_over d (at + length x) y) at x ≡ laid_over d at (x ++ y)
unfolding laid_over
laid_in_front d at x y h =
    let n = at + length x in
    let rest = drop (n + length y) d in
    let l : length (take n d) ≡ n = length-take-le n d (omega arith) in
    let front : take at (take n d ++ y ++ rest) ≡ take at d =
    ap (take at) (append_assoc (take n d) y rest)
    ∙ take-append-le at (take n d) (y ++ rest) (omega arith)
    ∙ take-take at n d (omega arith) in
    let back : drop n (take n d ++ y ++ rest) ≡ y ++ rest =
    ap (drop n) (append_assoc (take n d) y rest) ∙ drop_at (take n d) (y ++ rest) n l in
    let end : n + length y ≡ at + length (x ++ y) = omega (arith, length-append x y) in
    ap (λ (q : List ℕ). q ++ x ++ drop n (take n d ++ y ++ rest)) front
    ∙ ap (λ (q : List ℕ). take at d ++ x ++ q) back
    ∙ ap (λ (m : ℕ). take at d ++ x ++ (y ++ drop m d)) end
    ∙ simp append_assoc

-- bytes laid right behind those that were laid at the front
pub laid_behind : (d : List ℕ) (x y : List ℕ) → length x + length y ≤ length d → laid_over (laid_over d 0 x) (length x) y ≡ laid_over d 0 (x ++ y)
unfolding laid_over
laid_behind d x y h =
    let one : drop (0 + length x) d ≡ drop (length x) d = ap (λ (m : ℕ). drop m d) (zero-add (length x)) in
    let rest = drop (length x) d in
    let front : take (length x) (x ++ rest) ≡ x = take_at x rest (length x) refl in
    let back : drop (length x + length y) (x ++ rest) ≡ drop (0 + length (x ++ y)) d =
    lib.Seq.drop-append-add x rest (length y)
    ∙ drop-drop (length y) (length x) d
    ∙ ap (λ (m : ℕ). drop m d) (sym (length-append x y) ∙ sym (zero-add (length (x ++ y)))) in
    ap (λ (q : List ℕ). take (length x) (x ++ q) ++ y ++ drop (length x + length y) (x ++ q)) one
    ∙ ap (λ (q : List ℕ). q ++ y ++ drop (length x + length y) (x ++ rest)) front
    ∙ ap (λ (q : List ℕ). x ++ y ++ q) back

-- the parts of lower places, one part, and those of higher places, at the front
pub laid_three : (d : List ℕ) (x p y : List ℕ) → length x + length p + length y ≤ length d
    → laid_within (laid_within (laid_within d 0 x) (length x) p) (length x + length p) y ≡ laid_over d 0 (x ++ p ++ y)
laid_three d x p y h =
    let one : laid_within d 0 x ≡ laid_over d 0 x = fits d 0 x (omega arith) in
    let l₁ : length (laid_over d 0 x) ≡ length d = length_laid d 0 x (omega arith) in
    let two : laid_within (laid_over d 0 x) (length x) p ≡ laid_over d 0 (x ++ p) =
    fits (laid_over d 0 x) (length x) p (omega arith) ∙ laid_behind d x p (omega arith) in
    let l₂ : length (laid_over d 0 (x ++ p)) ≡ length d = length_laid d 0 (x ++ p) (omega (arith, length-append x p)) in
    ap (λ (q : List ℕ). laid_within (laid_within q (length x) p) (length x + length p) y) one
    ∙ ap (λ (q : List ℕ). laid_within q (length x + length p) y) two
    ∙ ap (λ (m : ℕ). laid_within (laid_over d 0 (x ++ p)) m y) (sym (length-append x p))
    ∙ fits (laid_over d 0 (x ++ p)) (length (x ++ p)) y (omega (arith, length-append x p))
    ∙ laid_behind d (x ++ p) y (omega (arith, length-append x p))

-- a cut of a list has the length that was asked for
pub length_cut : (n at : ℕ) (d : List ℕ) → at + n ≤ length d → length (take n (drop at d)) ≡ n
length_cut n at d h = length-take-le n (drop at d) (omega (arith, length-drop at d))

-- a part that reaches to the end
pub rest_of : (d : List ℕ) (at : ℕ) → take (length d - at) (drop at d) ≡ drop at d
rest_of d at = lib.Seq.take_all (length d - at) (drop at d) (native.Mathlib.Nat.le_of_eq (length-drop at d))

-- ---- blocks moved up

-- behind other bytes
laid_after : (a d : List ℕ) (at : ℕ) (s : List ℕ) → a ++ laid_over d at s ≡ laid_over (a ++ d) (length a + at) s
unfolding laid_over
laid_after a d at s =
    let rest = drop (at + length s) d in
    let sum : length a + at + length s ≡ length a + (at + length s) = omega arith in
    let joined : a ++ (take at d ++ s ++ rest) ≡ a ++ take at d ++ s ++ rest = simp append_assoc in
    joined
    ∙ ap (λ (l : List ℕ). l ++ s ++ rest) (sym (take-append-add a d at))
    ∙ ap (λ (l : List ℕ). take (length a + at) (a ++ d) ++ s ++ l) (sym (ap (λ (n : ℕ). drop n (a ++ d)) sum ∙ drop-append-add a d (at + length s)))

-- what stands before what was laid
front_kept : (d : List ℕ) (at : ℕ) (s : List ℕ) (i : ℕ) → i ≤ at → at ≤ length d → take i (laid_over d at s) ≡ take i d
unfolding laid_over
front_kept d at s i h k =
    let rest = drop (at + length s) d in
    let l : length (take at d) ≡ at = length-take-le at d k in
    ap (take i) (append_assoc (take at d) s rest) ∙ take-append-le i (take at d) (s ++ rest) (omega arith) ∙ take-take i at d h

-- bytes laid over themselves
pub laid_same : (d : List ℕ) (at n : ℕ) → at + n ≤ length d → laid_over d at (take n (drop at d)) ≡ d
unfolding laid_over
laid_same d at n h =
    let l : length (take n (drop at d)) ≡ n = length_cut n at d h in
    let sum : at + length (take n (drop at d)) ≡ at + n = omega arith in
    ap (λ (m : ℕ). take at d ++ take n (drop at d) ++ drop m d) sum
    ∙ ap (λ (r : List ℕ). take at d ++ take n (drop at d) ++ r) (sym (drop-drop n at d))
    ∙ append_assoc (take at d) (take n (drop at d)) (drop n (drop at d))
    ∙ ap (λ (r : List ℕ). take at d ++ r) (take-append-drop n (drop at d))
    ∙ take-append-drop at d

-- a block moved up from right below i, where the bytes are lent in two parts that meet at i
pub some_moved : (d₀ : List ℕ) (from end n : ℕ) (d : List ℕ) (i : ℕ) → Shifted d₀ from end n d i
    → (m : ℕ) → m ≤ n → m + from ≤ i → (low high s moved : List ℕ) → d ≡ low ++ high → length low ≡ i → s ≡ drop (i - m) low
    → moved ≡ laid_within high (n - m) s → Shifted d₀ from end n (low ++ moved) (i - m)
some_moved d₀ from end n d i w m few room low high s moved both front es em =
    let j = i - m in
    let ij : i ≡ j + m = omega arith in
    let rest = take (end - i) (drop i d₀) in
    let block = take m (drop j d₀) in
    let lr : length rest ≡ end - i = length_cut (end - i) i d₀ (omega (arith, w.high, w.room)) in
    let lb : length block ≡ m = length_cut m j d₀ (omega (arith, w.high, w.room)) in
    let low_is : low ≡ take (j + m) d₀ =
    sym (take_at low high i front) ∙ ap (take i) (sym both ∙ w.so_far)
    ∙ front_kept d₀ (i + n) rest i (omega arith) (omega (arith, w.high, w.room)) ∙ ap (λ (k : ℕ). take k d₀) ij in
    let s_is : s ≡ block = es ∙ ap (drop j) low_is ∙ drop-take j m d₀ in
    let ls : length s ≡ m = ap length s_is ∙ lb in
    let sizes : length low + length high ≡ length d₀ = sym (length-append low high) ∙ ap length (sym both) ∙ w.size in
    let up : length low + (n - m) ≡ j + n = omega arith in
    let behind : i + n ≡ j + n + length block = omega arith in
    let more : m + (end - i) ≡ end - j = omega (arith, w.high) in
    let laid : low ++ moved ≡ laid_over d (j + n) s =
    ap (λ (l : List ℕ). low ++ l) (em ∙ fits high (n - m) s (omega (arith, w.high, w.room)))
    ∙ laid_after low high (n - m) s
    ∙ (λ k. laid_over (sym both k) (up k) s) in
    let joined : block ++ rest ≡ take (end - j) (drop j d₀) =
    ap (λ (l : List ℕ). block ++ take (end - i) l) (ap (λ (k : ℕ). drop k d₀) (omega arith) ∙ sym (drop-drop m j d₀))
    ∙ sym (take-add m (end - i) (drop j d₀))
    ∙ ap (λ (k : ℕ). take k (drop j d₀)) more in
    record {
      low = omega arith;
      high = omega (arith, w.high);
      room = w.room;
      so_far =
          laid
          ∙ (λ k. laid_over (w.so_far k) (j + n) (s_is k))
          ∙ ap (λ (k : ℕ). laid_over (laid_over d₀ k rest) (j + n) block) behind
          ∙ laid_in_front d₀ (j + n) block rest (omega (arith, w.high, w.room))
          ∙ ap (laid_over d₀ (j + n)) joined;
      size = ap length laid ∙ length_laid d (j + n) s (omega (arith, w.size, w.high, w.room)) ∙ w.size;
    }
