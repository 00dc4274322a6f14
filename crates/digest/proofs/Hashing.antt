-- The laws of a message that comes in pieces: what each call of a hasher leaves, and what it means.
use Rattle.std.proofs.Common.{◌≡◌, ℕ, suc, ◌+◌, ◌-◌, ◌*◌, ◌/◌, ◌%◌, ◌^◌, ◌<◌, ◌≤◌, min, List, [], ◌∷◌, ◌++◌, length, take, drop, set, replicate, sym, refl, ap, ◌∙◌, subst, ap₂, append_assoc, zero-add, arith, length-append, length-drop, length-set, take-append-drop, length-take, length-take-le, drop-drop, take_at}
use lib.ListN.{length-replicate}
use lib.Seq.{drop-append-add, drop-append-le}
use Rattle.digest.proofs.Lay.{laid_front, length_laid, marked}
use Rattle.digest.proofs.Absorb.{absorb_one, absorb_add, absorb_front, absorb_cut}
use Rattle.digest.specs.Bytes.{laid_over, bytes4, bytes8}
use Rattle.digest.specs.Sha1.{absorb, compress, blocks_of, padding, spelled, sha1, initial_state}
use Rattle.digest.specs.Hasher.{fresh_hasher, updated, finished, waiting, Absorbed, AbsorbedFrom, digest_from}
use Rattle.digest.specs.declared.block.State.{State}
use Rattle.digest.specs.declared.pieces.Hasher.{Hasher}

-- The bytes that wait, with a piece behind them.
module _ (rest s : List ℕ) (fill : ℕ) (l : length rest ≡ 64) (b : fill < 64) where
  front : length (take fill rest) ≡ fill
  front = length-take-le fill rest (omega arith)

  both : length (take fill rest ++ s) ≡ fill + length s
  both = length-append (take fill rest) s ∙ ap (λ x. x + length s) front

  behind : (n k : ℕ) → n ≡ fill + k → drop n (take fill rest ++ s) ≡ drop k s
  behind n k e =
      ap (λ x. drop x (take fill rest ++ s)) (e ∙ ap (λ x. x + k) (sym front)) ∙ drop-append-add (take fill rest) s k

-- A piece that fills no block waits behind the others.
pub updated_short : (h : Hasher) (s r : List ℕ) (n : ℕ) → length h.rest ≡ 64 → length s < 64 - h.count % 64
    → r ≡ laid_over h.rest (h.count % 64) s → n ≡ (h.count + length s) % 2 ^ 64
    → ◌≡◌ {A = Hasher} (record { state = h.state; rest = r; count = n }) (updated h s)
unfolding updated absorb laid_over
updated_short h s r n l b e c =
    let fill = h.count % 64 in
    let p = waiting h ++ s in
    let size : length p ≡ fill + length s = both h.rest s fill l (omega arith) in
    let none : blocks_of p ≡ 0 = omega arith in
    let there : fill + length s ≡ 0 + length p = omega arith in
    let same : r ≡ laid_over h.rest 0 (drop (64 * blocks_of p) p)
    = e ∙ ap (λ x. take fill h.rest ++ s ++ drop x h.rest) there ∙ ap (λ x. laid_over h.rest 0 (drop (64 * x) p)) (sym none) in
    λ i. record { state = absorb p (sym none i) h.state; rest = same i; count = c i }

-- The arithmetic of a piece that fills a block or more: what tops the first block, and the blocks behind it.
topped_up : (fill : ℕ) → fill < 64 → 64 * ((fill + 63) / 64) ≡ fill + (64 - fill) % 64
topped_up fill h = omega arith

blocks_behind : (fill n need k : ℕ) → 64 * k ≡ fill + need → need ≤ n → k + (n - need) / 64 ≡ (fill + n) / 64
blocks_behind fill n need k e h = omega arith

fits_behind : (fill n need : ℕ) → 64 - fill ≤ n → need ≡ (64 - fill) % 64 → need ≤ n
fits_behind fill n need h e = omega arith

ends_behind : (k blocks fill need done all : ℕ) → 64 * k ≡ fill + need → k + blocks ≡ all → done ≡ need + 64 * blocks → 64 * all ≡ fill + done
ends_behind k blocks fill need done all e₁ e₂ e₃ = omega arith

less_than_block : (n need m : ℕ) → m ≡ 64 → 0 + min (n - (need + 64 * ((n - need) / 64))) (n - (need + 64 * ((n - need) / 64))) ≤ m
less_than_block n need m e = omega arith

-- The arithmetic of a message that grows: its blocks, what is left of it, and its count.
blocks_cut : (m s p w : ℕ) → p ≡ m - 64 * (m / 64) + s → w ≡ m + s → 64 * (m / 64) + 64 * (p / 64) ≡ 64 * (w / 64)
blocks_cut m s p w e f = omega arith

left_is : (p : ℕ) → p - 64 * (p / 64) ≡ p % 64
left_is p = omega arith

less_blocks : (m : ℕ) → (m - 64 * (m / 64)) % 64 ≡ m % 64
less_blocks m = omega arith

sum_mod : (a b s : ℕ) → a % 64 ≡ b % 64 → (a + s) % 64 ≡ (b + s) % 64
sum_mod a b s e = omega arith

count_mod : (m n c : ℕ) → n % 64 ≡ 0 → c ≡ (n + m) % 2 ^ 64 → c % 64 ≡ m % 64
count_mod m n c z f = omega arith

mod-mod : (x : ℕ) → x % 2 ^ 64 % 64 ≡ x % 64
mod-mod x = omega arith

bytes_left : (m s p n c : ℕ) → p ≡ m - 64 * (m / 64) + s → n % 64 ≡ 0 → c ≡ (n + m) % 2 ^ 64 → p - 64 * (p / 64) ≡ (c + s) % 2 ^ 64 % 64
bytes_left m s p n c e z f =
    left_is p
    ∙ ap (λ x. x % 64) e
    ∙ sum_mod (m - 64 * (m / 64)) c s (less_blocks m ∙ sym (count_mod m n c z f))
    ∙ sym (mod-mod (c + s))

counted : (m s w n c : ℕ) → w ≡ m + s → c ≡ (n + m) % 2 ^ 64 → (c + s) % 2 ^ 64 ≡ (n + w) % 2 ^ 64
counted m s w n c e f = omega arith

one_block : (fill : ℕ) → fill < 64 → (fill ≡ 0 → ⊥) → 1 ≡ (fill + 63) / 64
one_block fill b some = omega arith

-- A piece that fills a block or more.
pub updated_long : (h : Hasher) (s r : List ℕ) (g a : State) (n need blocks done : ℕ) → length h.rest ≡ 64
    → 64 - h.count % 64 ≤ length s → need ≡ (64 - h.count % 64) % 64 → blocks ≡ (length s - need) / 64 → done ≡ need + 64 * blocks
    → g ≡ absorb (waiting h ++ s) ((h.count % 64 + 63) / 64) h.state → a ≡ absorb (drop need s) blocks g
    → r ≡ laid_over h.rest 0 (drop done s) → n ≡ (h.count + length s) % 2 ^ 64
    → ◌≡◌ {A = Hasher} (record { state = a; rest = r; count = n }) (updated h s)
unfolding updated
updated_long h s r g a n need blocks done l b e₁ e₂ e₃ eg ea er ec =
    let fill = h.count % 64 in
    let p = waiting h ++ s in
    let k = (fill + 63) / 64 in
    let size : length p ≡ fill + length s = both h.rest s fill l (omega arith) in
    let top : 64 * k ≡ fill + need = topped_up fill (omega arith) ∙ ap (λ x. fill + x) (sym e₁) in
    let all : k + blocks ≡ blocks_of p
    = ap (λ x. k + x) e₂ ∙ blocks_behind fill (length s) need k top (fits_behind fill (length s) need b e₁) ∙ ap (λ x. x / 64) (sym size) in
    let end : 64 * blocks_of p ≡ fill + done = ends_behind k blocks fill need done (blocks_of p) top all e₃ in
    let state_is : a ≡ absorb p (blocks_of p) h.state
    = ea
    ∙ ap₂ (λ x y. absorb x blocks y) (sym (behind h.rest s fill l (omega arith) (64 * k) need top)) eg
    ∙ sym (absorb_add p k blocks h.state)
    ∙ ap (λ x. absorb p x h.state) all in
    let rest_is : r ≡ laid_over h.rest 0 (drop (64 * blocks_of p) p)
    = er ∙ ap (laid_over h.rest 0) (sym (behind h.rest s fill l (omega arith) (64 * blocks_of p) done end)) in
    λ i. record { state = state_is i; rest = rest_is i; count = ec i }

-- What is left behind whole blocks is less than a block.
pub left_over : (s rest : List ℕ) (count : ℕ) → length rest ≡ 64
    → 0 + length (take (length s - ((64 - count % 64) % 64 + 64 * ((length s - (64 - count % 64) % 64) / 64))) (drop ((64 - count % 64) % 64 + 64 * ((length s - (64 - count % 64) % 64) / 64)) s)) ≤ length rest
left_over s rest count l =
    simp (length-take, length-drop) (less_than_block (length s) ((64 - count % 64) % 64) (length rest) l)

-- The first block, topped by the front of the piece.
pub topped_by : (rest s block : List ℕ) (fill : ℕ) (h g : State) → length rest ≡ 64 → fill < 64 → (fill ≡ 0 → ⊥) → 64 ≤ fill + length s
    → block ≡ laid_over rest fill (take (64 - fill) s) → g ≡ absorb (drop 0 block) 1 h
    → g ≡ absorb (take fill rest ++ s) ((fill + 63) / 64) h
unfolding laid_over
topped_by rest s block fill h g l b some long e eg =
    let n = 64 - fill in
    let x = take fill rest ++ take n s in
    let size : length x ≡ 64
    = both rest (take n s) fill l b ∙ ap (λ y. fill + y) (length-take-le n s (omega arith)) ∙ omega arith in
    let whole : x ++ drop n s ≡ take fill rest ++ s
    = append_assoc (take fill rest) (take n s) (drop n s) ∙ ap (λ y. take fill rest ++ y) (take-append-drop n s) in
    let one : 1 ≡ (fill + 63) / 64 = one_block fill b some in
    eg
    ∙ ap (λ y. absorb y 1 h) e
    ∙ absorb_front x (drop (fill + length (take n s)) rest) 1 h (omega arith)
    ∙ sym (absorb_front x (drop n s) 1 h (omega arith))
    ∙ ap₂ (λ y k. absorb y k h) whole one

-- The same of a block by itself.
pub topped_alone : (rest s block : List ℕ) (fill : ℕ) (h g : State) → length rest ≡ 64 → fill < 64 → (fill ≡ 0 → ⊥) → 64 ≤ fill + length s
    → block ≡ laid_over rest fill (take (64 - fill) s) → length block ≡ 64 → g ≡ compress block h
    → g ≡ absorb (take fill rest ++ s) ((fill + 63) / 64) h
topped_alone rest s block fill h g l b some long e lb eg = topped_by rest s block fill h g l b some long e (eg ∙ sym (absorb_one block h lb))

pub none_topped : (p : List ℕ) (fill : ℕ) (h : State) → fill ≡ 0 → h ≡ absorb p ((fill + 63) / 64) h
unfolding absorb
none_topped p fill h e = let none : 0 ≡ (fill + 63) / 64 = omega arith in ap (λ k. absorb p k h) none

-- What a piece means: it stands behind the message.
pub absorbed_more : (g : State) (n : ℕ) (h : Hasher) (m s : List ℕ) → n % 64 ≡ 0 → AbsorbedFrom g n h m → AbsorbedFrom g n (updated h s) (m ++ s)
unfolding updated laid_over
absorbed_more g n h m s z a =
    let p = waiting h ++ s in
    let whole = drop (64 * blocks_of m) m in
    let p-is : p ≡ whole ++ s = ap (λ x. x ++ s) a.waits in
    let size : length p ≡ length m - 64 * (length m / 64) + length s
    = ap length p-is ∙ length-append whole s ∙ ap (λ x. x + length s) (length-drop (64 * blocks_of m) m) in
    let q = drop (64 * blocks_of p) p in
    let inside : 64 * blocks_of m ≤ length m = omega arith in
    let there : 64 * blocks_of m + 64 * blocks_of p ≡ 64 * blocks_of (m ++ s) = blocks_cut (length m) (length s) (length p) (length (m ++ s)) size (length-append m s) in
    let left : length q ≡ (h.count + length s) % 2 ^ 64 % 64
    = length-drop (64 * blocks_of p) p ∙ bytes_left (length m) (length s) (length p) n h.count size z a.counts in
    record {
      state_is = ap₂ (λ x k. absorb x (blocks_of x) k) p-is a.state_is ∙ sym (absorb_cut m s g);
      waits =
          take_at q (drop (0 + length q) h.rest) ((h.count + length s) % 2 ^ 64 % 64) left
          ∙ ap (drop (64 * blocks_of p)) (p-is ∙ sym (drop-append-le (64 * blocks_of m) m s inside))
          ∙ drop-drop (64 * blocks_of p) (64 * blocks_of m) (m ++ s)
          ∙ ap (λ x. drop x (m ++ s)) there;
      counts = counted (length m) (length s) (length (m ++ s)) n h.count (length-append m s) a.counts;
    }

pub both_updated : (h r : Hasher) (s : List ℕ) → r ≡ updated h s → (r ≡ updated h s) × ((m : List ℕ) → Absorbed h m → Absorbed r (m ++ s))
both_updated h r s e = (e, λ m a. subst (λ x. Absorbed x (m ++ s)) (sym e) (absorbed_more initial_state 0 h m s refl a))

-- The last blocks as they are written: the bytes f that are left, the one, and the two halves of the length.
pub padded_by : (f d₁ d₃ d₄ : List ℕ) (end x : ℕ) → length f + 9 ≤ end → end ≤ 128
    → d₁ ≡ laid_over (replicate 128 0) 0 f
    → d₃ ≡ laid_over (set d₁ (length f) 128) (end - 8) (bytes4 (x / 4294967296))
    → d₄ ≡ laid_over d₃ (end - 4) (bytes4 (x % 4294967296))
    → take end d₄ ≡ f ++ ((128 ∷ replicate (end - (length f + 9)) 0) ++ bytes8 x)
unfolding bytes8
padded_by f d₁ d₃ d₄ end x lo hi e₁ e₃ e₄ =
    let size₁ : length d₁ ≡ 128
    = ap length e₁ ∙ length_laid (replicate 128 0) 0 f (omega (arith, length-replicate {A = ℕ} 128 0)) in
    let size₂ : length (set d₁ (length f) 128) ≡ 128 = length-set d₁ (length f) 128 ∙ size₁ in
    let size₃ : length d₃ ≡ 128
    = ap length e₃ ∙ length_laid (set d₁ (length f) 128) (end - 8) (bytes4 (x / 4294967296)) (omega arith) ∙ size₂ in
    let four : end ≡ end - 4 + 4 = omega arith in
    let eight : end - 4 ≡ end - 8 + 4 = omega arith in
    let zeros : end - 8 - suc (length f) ≡ end - (length f + 9) = omega arith in
    ap (take end) e₄
    ∙ laid_front d₃ (end - 4) end (bytes4 (x % 4294967296)) (omega arith) four
    ∙ ap (λ y. y ++ bytes4 (x % 4294967296))
    (ap (take (end - 4)) e₃
    ∙ laid_front (set d₁ (length f) 128) (end - 8) (end - 4) (bytes4 (x / 4294967296)) (omega arith) eight
    ∙ ap (λ y. y ++ bytes4 (x / 4294967296))
    (marked f d₁ 128 (end - 8) 128 (omega arith) (omega arith) (omega arith) e₁
    ∙ ap (λ k. f ++ (128 ∷ replicate k 0)) zeros))
    ∙ ap (λ y. y ++ bytes4 (x % 4294967296)) (append_assoc f (128 ∷ replicate (end - (length f + 9)) 0) (bytes4 (x / 4294967296)))
    ∙ append_assoc f ((128 ∷ replicate (end - (length f + 9)) 0) ++ bytes4 (x / 4294967296)) (bytes4 (x % 4294967296))
    ∙ ap (λ y. f ++ y) (append_assoc (128 ∷ replicate (end - (length f + 9)) 0) (bytes4 (x / 4294967296)) (bytes4 (x % 4294967296)))

-- The last blocks: d, n of them, holds the bytes f that are left of c, and the padding.
pub ended_alone : (f d : List ℕ) (h g : State) (c n : ℕ) → length f < 120 → length f % 64 ≡ c % 64 → n ≡ (length f + 72) / 64
    → d ≡ f ++ ((128 ∷ replicate (64 * n - (length f + 9)) 0) ++ bytes8 (8 * c % 2 ^ 64))
    → g ≡ absorb d (blocks_of d) h → g ≡ absorb (f ++ padding c) (blocks_of (f ++ padding c)) h
unfolding padding
ended_alone f d h g c n few l en t eg =
    let zeros : 64 * n - (length f + 9) ≡ (119 - c % 64) % 64 = zeros_are (length f) (c % 64) n l en few in
    let p-is : d ≡ f ++ padding c = t ∙ ap (λ x. f ++ ((128 ∷ replicate x 0) ++ bytes8 (8 * c % 2 ^ 64))) zeros in
    eg ∙ ap (λ x. absorb x (blocks_of x) h) p-is
  where
    zeros_are : (fill m n : ℕ) → fill % 64 ≡ m → n ≡ (fill + 72) / 64 → fill < 120 → 64 * n - (fill + 9) ≡ (119 - m) % 64
    zeros_are fill m n e en h = omega arith

-- The same of the n blocks at the front of d.
pub ended_by : (f d : List ℕ) (h g : State) (c n : ℕ) → length f < 120 → length f % 64 ≡ c % 64 → n ≡ (length f + 72) / 64 → 64 * n ≤ length d
    → take (64 * n) d ≡ f ++ ((128 ∷ replicate (64 * n - (length f + 9)) 0) ++ bytes8 (8 * c % 2 ^ 64))
    → g ≡ absorb (drop 0 d) n h → g ≡ absorb (f ++ padding c) (blocks_of (f ++ padding c)) h
ended_by f d h g c n few l en b t eg =
    let front = take (64 * n) d in
    let size : length front ≡ 64 * n = length-take-le (64 * n) d b in
    let all : n ≡ blocks_of front = omega arith in
    ended_alone f front h g c n few l en t
    (eg
    ∙ ap (λ x. absorb x n h) (sym (take-append-drop (64 * n) d))
    ∙ absorb_front front (drop (64 * n) d) n h (omega arith)
    ∙ ap (λ k. absorb front k h) all)

-- What the end means: the digest of the message.
pub finished_from : (g : State) (n : ℕ) (h : Hasher) (m : List ℕ) → n % 64 ≡ 0 → AbsorbedFrom g n h m → finished h ≡ digest_from g n m
unfolding finished digest_from padding
finished_from g n h m z a =
    let fill_is : h.count % 64 ≡ (n + length m) % 64 = omega (arith, a.counts) in
    let bits_are : 8 * h.count % 2 ^ 64 ≡ 8 * (n + length m) % 2 ^ 64 = omega (arith, a.counts) in
    let pad : padding h.count ≡ padding (n + length m)
    = ap₂ (λ x y. (128 ∷ replicate ((119 - x) % 64) 0) ++ bytes8 y) fill_is bits_are in
    ap spelled
    (ap₂ (λ x k. absorb x (blocks_of x) k) (ap₂ (λ x y. x ++ y) a.waits pad) a.state_is
    ∙ sym (absorb_cut m (padding (n + length m)) g))

pub finished_means : (h : Hasher) (m : List ℕ) → Absorbed h m → finished h ≡ sha1 m
unfolding digest_from sha1
finished_means h m a =
    finished_from initial_state 0 h m refl a
    ∙ ap (λ k. spelled (absorb (m ++ padding k) (blocks_of (m ++ padding k)) initial_state)) (zero-add (length m))

pub both_finished : (h : Hasher) (r : List ℕ) → r ≡ finished h → (r ≡ finished h) × ((m : List ℕ) → Absorbed h m → r ≡ sha1 m)
both_finished h r e = (e, λ m a. e ∙ finished_means h m a)

-- The digest of a message in one piece: its whole blocks, and then what is left of it.
pub sha1_by : (s l : List ℕ) (g : State) → l ≡ drop (64 * blocks_of s) s → g ≡ absorb s (blocks_of s) initial_state
    → spelled (absorb (l ++ padding (length s)) (blocks_of (l ++ padding (length s))) g) ≡ sha1 s
unfolding sha1
sha1_by s l g e eg =
    ap spelled
    (ap₂ (λ x k. absorb (x ++ padding (length s)) (blocks_of (x ++ padding (length s))) k) e eg
    ∙ sym (absorb_cut s (padding (length s)) initial_state))

-- A fresh hasher has absorbed nothing.
pub fresh_absorbed : (h : Hasher) → h ≡ fresh_hasher → Absorbed h []
unfolding absorb
fresh_absorbed h e =
    subst (λ x. Absorbed x []) (sym e) (record { state_is = refl; waits = refl; counts = refl })
