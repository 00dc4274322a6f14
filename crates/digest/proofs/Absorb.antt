-- The laws of blocks absorbed in a row: a message may be cut anywhere.
use Rattle.std.specs.Simd.{first_chunks}
use Rattle.std.proofs.Common.{◌≡◌, ℕ, zero, suc, ◌+◌, ◌-◌, ◌*◌, ◌/◌, ◌<◌, ◌≤◌, List, [], ◌++◌, length, get_or, take, drop, sym, refl, ap, ◌∙◌, ap₂, add-zero, zero-add, add-suc, add-one, arith, length-append, length-drop, length-take-le, take_all, drop-drop}
use lib.Seq.{take-append-le, drop-append-le}
use Rattle.digest.specs.Sha1.{compress, absorb, blocks_of}
use Rattle.digest.specs.declared.block.State.{State}

-- One block absorbed.
pub absorb_one : (b : List ℕ) (g : State) → length b ≡ 64 → absorb b 1 g ≡ compress b g
unfolding absorb
absorb_one b g l = ap (λ x. compress x g) (take_all 64 b (omega arith))

pub absorb_block : (b : List ℕ) (g : State) → length b ≡ 64 → absorb b (blocks_of b) g ≡ compress b g
absorb_block b g l = ap (λ n. absorb b (n / 64) g) l ∙ absorb_one b g l

-- One block more, as a loop counts it.
pub absorb_more : (s : List ℕ) (from i : ℕ) (h g r : State)
    → r ≡ compress (take 64 (drop (from + 64 * i) s)) g → g ≡ absorb (drop from s) i h → r ≡ absorb (drop from s) (i + 1) h
unfolding absorb
absorb_more s from i h g r e p =
    e
    ∙ ap₂ (λ l k. compress (take 64 l) k) (sym (drop-drop (64 * i) from s)) p
    ∙ sym (ap (λ n. absorb (drop from s) n h) (add-one i))

-- The blocks of s, cut off one by one.
chunk_at : (n i : ℕ) (s d : List ℕ) → i < n → get_or (first_chunks 64 n s) i d ≡ take 64 (drop (64 * i) s)
chunk_at zero i s d h = absurd (omega arith)
chunk_at (suc n) zero s d h = refl
chunk_at (suc n) (suc i) s d h =
    chunk_at n i (drop 64 s) d (omega arith)
    ∙ ap (take 64) (drop-drop (64 * i) 64 s ∙ ap (λ k. drop k s) (omega arith))

pub chunk_long : (n i : ℕ) (s : List ℕ) (blocks : List (List ℕ)) → blocks ≡ first_chunks 64 n s → n ≡ blocks_of s → i < length blocks
    → length blocks ≡ n → length (get_or blocks i []) ≡ 64
chunk_long n i s blocks cut count b l =
    ap (λ x. length (get_or x i [])) cut
    ∙ ap length (chunk_at n i s [] (omega arith))
    ∙ length-take-le 64 (drop (64 * i) s) (omega (arith, length-drop (64 * i) s))

-- One block more, as a loop over them takes it.
pub absorb_next : (s : List ℕ) (i n : ℕ) (h g r : State) (blocks : List (List ℕ)) → blocks ≡ first_chunks 64 n s → i < n
    → r ≡ compress (get_or blocks i []) g → g ≡ absorb s i h → r ≡ absorb s (i + 1) h
absorb_next s i n h g r blocks cut b e p =
    let block : get_or blocks i [] ≡ take 64 (drop (0 + 64 * i) s)
    = ap (λ l. get_or l i []) cut ∙ chunk_at n i s [] b ∙ ap (λ k. take 64 (drop k s)) (sym (zero-add (64 * i))) in
    absorb_more s 0 i h g r (e ∙ ap (λ l. compress l g) block) p

-- Some blocks, and then others.
pub absorb_add : (s : List ℕ) (n k : ℕ) (h : State) → absorb s (n + k) h ≡ absorb (drop (64 * n) s) k (absorb s n h)
unfolding absorb
absorb_add s n zero h = ap (λ x. absorb s x h) (add-zero n)
absorb_add s n (suc k) h =
    let there : 64 * (n + k) ≡ 64 * n + 64 * k = omega arith in
    ap (λ x. absorb s x h) (add-suc n k)
    ∙ ap₂ (λ l g. compress (take 64 l) g) (ap (λ x. drop x s) there ∙ sym (drop-drop (64 * k) (64 * n) s)) (absorb_add s n k h)

-- Blocks do not look behind themselves.
pub absorb_front : (s t : List ℕ) (n : ℕ) (h : State) → 64 * n ≤ length s → absorb (s ++ t) n h ≡ absorb s n h
unfolding absorb
absorb_front s t zero h l = refl
absorb_front s t (suc n) h l =
    let inside : 64 * n ≤ length s = omega arith in
    let room : 64 ≤ length (drop (64 * n) s) = omega (arith, length-drop (64 * n) s) in
    ap₂ (λ x g. compress x g)
    (ap (take 64) (drop-append-le (64 * n) s t inside) ∙ take-append-le 64 (drop (64 * n) s) t room)
    (absorb_front s t n h inside)

-- A message cut behind m: the whole blocks of m, then those of what is left of m with s behind it.
pub absorb_cut : (m s : List ℕ) (h : State)
    → absorb (m ++ s) (blocks_of (m ++ s)) h
    ≡ absorb (drop (64 * blocks_of m) m ++ s) (blocks_of (drop (64 * blocks_of m) m ++ s)) (absorb m (blocks_of m) h)
absorb_cut m s h =
    let left : length (drop (64 * blocks_of m) m ++ s) ≡ length m - 64 * (length m / 64) + length s
    = length-append (drop (64 * blocks_of m) m) s ∙ ap (λ x. x + length s) (length-drop (64 * blocks_of m) m) in
    let all : blocks_of (m ++ s) ≡ blocks_of m + blocks_of (drop (64 * blocks_of m) m ++ s) = omega (arith, length-append m s, left) in
    let inside : 64 * blocks_of m ≤ length m = omega arith in
    ap (λ n. absorb (m ++ s) n h) all
    ∙ absorb_add (m ++ s) (blocks_of m) (blocks_of (drop (64 * blocks_of m) m ++ s)) h
    ∙ ap₂ (λ l g. absorb l (blocks_of (drop (64 * blocks_of m) m ++ s)) g) (drop-append-le (64 * blocks_of m) m s inside) (absorb_front m s (blocks_of m) h inside)
