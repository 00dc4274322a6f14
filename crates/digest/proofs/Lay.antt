-- The laws of bytes laid over others.
use Rattle.std.proofs.Common.{◌≡◌, ℕ, suc, ◌+◌, ◌-◌, ◌<◌, ◌≤◌, List, [], ◌∷◌, ◌++◌, length, take, drop, set, replicate, sym, refl, ap, ◌∙◌, ap₂, append_assoc, zero-add, arith, length-append, length-drop, length-take-le, drop-drop, take_at, drop_at}
use native.Mathlib.Numerals.{towards_suc}
use lib.ListN.{length-replicate, replicate-append-replicate}
use borrow.Rule.Slice.PartMut.{put_mid}
use lib.Seq.{paste, take-length, sets-eq, set_at, take-append-add, drop-append-add}
use Rattle.digest.proofs.Picks.{picks}
use Rattle.digest.specs.Bytes.{laid_over, laid_within, bytes4}

pub laid_paste : (d : List ℕ) (at : ℕ) (s : List ℕ) → paste d at s (length s) ≡ laid_over d at s
unfolding laid_over
laid_paste d at s = ap (λ x. take at d ++ x ++ drop (at + length s) d) (take-length s)

-- bytes written over a part, which is as long
pub laid_part : (d t : List ℕ) (at n : ℕ) (s : List ℕ) → t ≡ s → n ≡ length s → put_mid at n d t ≡ laid_over d at s
unfolding laid_over
laid_part d t at n s e l =
    ap₂ (λ x y. take at d ++ (x ++ y)) e (drop-drop n at d ∙ ap (λ k. drop (at + k) d) l)
    ∙ sym (append_assoc (take at d) s (drop (at + length s) d))

pub length_laid : (d : List ℕ) (at : ℕ) (s : List ℕ) → at + length s ≤ length d → length (laid_over d at s) ≡ length d
unfolding laid_over
length_laid d at s h =
    simp (length-append, length-drop) (omega (arith, length-take-le at d (omega arith)))

-- four stores in a row
pub laid_four : (d : List ℕ) (at x y z w : ℕ) → at + 4 ≤ length d
    → set (set (set (set d at x) (at + 1) y) (at + 2) z) (at + 3) w ≡ laid_over d at (x ∷ y ∷ z ∷ w ∷ [])
unfolding laid_over
laid_four d at x y z w h = simp towards_suc (simp towards_suc at (sets-eq (x ∷ y ∷ z ∷ w ∷ []) d at h))

-- five words spelled one behind the other
pub laid_words : (z : List ℕ) (a b c d e : ℕ) (d₁ d₂ d₃ d₄ d₅ : List ℕ) → z ≡ replicate 20 0
    → d₁ ≡ laid_over z 0 (bytes4 a) → d₂ ≡ laid_over d₁ 4 (bytes4 b) → d₃ ≡ laid_over d₂ 8 (bytes4 c)
    → d₄ ≡ laid_over d₃ 12 (bytes4 d) → d₅ ≡ laid_over d₄ 16 (bytes4 e)
    → d₅ ≡ bytes4 a ++ bytes4 b ++ bytes4 c ++ bytes4 d ++ bytes4 e
unfolding laid_over
laid_words z a b c d e d₁ d₂ d₃ d₄ d₅ e₀ e₁ e₂ e₃ e₄ e₅ =
    e₅
    ∙ ap (λ l. laid_over l 16 (bytes4 e))
    (e₄
    ∙ ap (λ l. laid_over l 12 (bytes4 d))
    (e₃
    ∙ ap (λ l. laid_over l 8 (bytes4 c))
    (e₂ ∙ ap (λ l. laid_over l 4 (bytes4 b)) (e₁ ∙ ap (λ l. laid_over l 0 (bytes4 a)) e₀))))

-- what was laid, and what stands before it
pub laid_front : (d : List ℕ) (at n : ℕ) (s : List ℕ) → at ≤ length d → n ≡ at + length s → take n (laid_over d at s) ≡ take at d ++ s
unfolding laid_over
laid_front d at n s h e =
    take_at (take at d ++ s) (drop (at + length s) d) n
    (length-append (take at d) s ∙ ap (λ x. x + length s) (length-take-le at d h) ∙ sym e)

-- a piece laid behind what stands at the front, and one laid before it
pub laid_behind : (d s t : List ℕ) (n : ℕ) → length s ≡ n → laid_over (laid_over d 0 s) n t ≡ laid_over d 0 (s ++ t)
unfolding laid_over
laid_behind d s t n l =
    let r = drop (0 + length s) d in
    let there : 0 + length s + length t ≡ 0 + length (s ++ t) = omega (arith, length-append s t) in
    ap₂ (λ y z. y ++ t ++ z)
    (take_at s r n l)
    (ap (λ k. drop (k + length t) (s ++ r)) (sym l) ∙ drop-append-add s r (length t) ∙ drop-drop (length t) (0 + length s) d ∙ ap (λ k. drop k d) there)

pub laid_before : (d s t : List ℕ) (n : ℕ) → length s ≡ n → n ≤ length d → laid_over (laid_over d n t) 0 s ≡ laid_over d 0 (s ++ t)
unfolding laid_over
laid_before d s t n l h =
    let r = drop (n + length t) d in
    let from : 0 + length s ≡ n = omega arith in
    let there : n + length t ≡ 0 + length (s ++ t) = omega (arith, length-append s t) in
    ap (λ y. s ++ y)
    (ap₂ drop from (append_assoc (take n d) t r) ∙ drop_at (take n d) (t ++ r) n (length-take-le n d h) ∙ ap (λ k. t ++ drop k d) there)
    ∙ sym (append_assoc s t (drop (0 + length (s ++ t)) d))

-- four pieces laid one behind the other
pub laid_pieces : (d d₁ d₂ d₃ d₄ s t u v : List ℕ) → d₁ ≡ laid_over d 0 s → d₂ ≡ laid_over d₁ (length s) t
    → d₃ ≡ laid_over d₂ (length s + length t) u → d₄ ≡ laid_over d₃ (length s + length t + length u) v
    → d₄ ≡ laid_over d 0 (s ++ (t ++ u ++ v))
laid_pieces d d₁ d₂ d₃ d₄ s t u v e₁ e₂ e₃ e₄ =
    let two : length (s ++ t) ≡ length s + length t = length-append s t in
    let three : length (s ++ t ++ u) ≡ length s + length t + length u = length-append (s ++ t) u ∙ ap (λ n. n + length u) two in
    e₄
    ∙ ap (λ x. laid_over x (length s + length t + length u) v)
    (e₃
    ∙ ap (λ x. laid_over x (length s + length t) u) (e₂ ∙ ap (λ x. laid_over x (length s) t) e₁ ∙ laid_behind d s t (length s) refl)
    ∙ laid_behind d (s ++ t) u (length s + length t) two)
    ∙ laid_behind d (s ++ t ++ u) v (length s + length t + length u) three
    ∙ ap (laid_over d 0) (append_assoc (s ++ t) u v ∙ append_assoc s t (u ++ v) ∙ ap (λ x. s ++ x) (sym (append_assoc t u v)))

pub length_pieces : (s t u v : List ℕ) → length (s ++ (t ++ u ++ v)) ≡ length s + length t + length u + length v
length_pieces s t u v =
    length-append s (t ++ u ++ v)
    ∙ ap (λ x. length s + x) (length-append (t ++ u) v ∙ ap (λ x. x + length v) (length-append t u))
    ∙ omega arith

-- what stands at the front of one block, laid in another behind twenty bytes a that come last
pub laid_second : (s d₁ e₁ e₂ a : List ℕ) (n : ℕ) → length s ≡ n → n ≤ 108 → length a ≡ 20 → d₁ ≡ laid_over (replicate 128 0) 0 s
    → e₁ ≡ laid_over (replicate 128 0) 20 (take n d₁) → e₂ ≡ laid_over e₁ 0 a → e₂ ≡ laid_over (replicate 128 0) 0 (a ++ s)
laid_second s d₁ e₁ e₂ a n l h la e f g =
    let z : List ℕ = replicate 128 0 in
    let there : n ≡ 0 + length s = omega arith in
    let room : 20 ≤ length z = omega (arith, length-replicate {A = ℕ} 128 0) in
    let part : take n d₁ ≡ s = ap (take n) e ∙ laid_front z 0 n s (omega arith) there in
    g ∙ ap (λ x. laid_over x 0 a) (f ∙ ap (laid_over z 20) part) ∙ laid_before z a s 20 la room

-- a part of equal elements
pub take_replicate : (n k x : ℕ) → k ≤ n → take k (replicate n x) ≡ replicate k x
take_replicate n k x h =
    let whole : k + (n - k) ≡ n = omega arith in
    ap (λ j. take k (replicate j x)) (sym whole)
    ∙ ap (take k) (sym (replicate-append-replicate k (n - k) x))
    ∙ take_at (replicate k x) (replicate (n - k) x) k (length-replicate k x)

pub drop_replicate : (n k x : ℕ) → k ≤ n → drop k (replicate n x) ≡ replicate (n - k) x
drop_replicate n k x h =
    let whole : k + (n - k) ≡ n = omega arith in
    ap (λ j. drop k (replicate j x)) (sym whole)
    ∙ ap (drop k) (sym (replicate-append-replicate k (n - k) x))
    ∙ drop_at (replicate k x) (replicate (n - k) x) k (length-replicate k x)

-- bytes at the front of zeros, one byte behind them, and zeros up to n
pub marked : (f d : List ℕ) (m n x : ℕ) → length f < n → n ≤ m → length f < m → d ≡ laid_over (replicate m 0) 0 f
    → take n (set d (length f) x) ≡ f ++ (x ∷ replicate (n - suc (length f)) 0)
unfolding laid_over
marked f d m n x h b b₂ e =
    let k = length f in
    let zeros : d ≡ f ++ replicate (m - k) 0 = e ∙ ap (λ l. f ++ l) (ap (λ j. drop j (replicate m 0)) (zero-add k) ∙ drop_replicate m k 0 (omega arith)) in
    let one : m - k ≡ suc (m - suc k) = omega arith in
    let end : n ≡ k + suc (n - suc k) = omega arith in
    ap (λ l. take n (set l k x)) (zeros ∙ ap (λ j. f ++ replicate j 0) one)
    ∙ ap (take n) (set_at f 0 (replicate (m - suc k) 0) x k refl)
    ∙ ap (λ j. take j (f ++ (x ∷ replicate (m - suc k) 0))) end
    ∙ take-append-add f (x ∷ replicate (m - suc k) 0) (suc (n - suc k))
    ∙ ap (λ l. f ++ (x ∷ l)) (take_replicate (m - suc k) (n - suc k) 0 (omega arith))

-- what fits is laid, and what does not changes nothing
pub laid_all : (d r : List ℕ) (at : ℕ) (s : List ℕ) → at + length s ≤ length d → r ≡ laid_over d at s → r ≡ laid_within d at s
unfolding laid_within
laid_all d r at s h e = search picks

pub laid_none : (d : List ℕ) (at : ℕ) (s : List ℕ) → length d < at + length s → d ≡ laid_within d at s
unfolding laid_within
laid_none d at s h = let same : d ≡ d = refl in search picks
