-- The checksum's loop. The idea: a block of four bytes is the number that it spells, and XOR of numbers is XOR of their
-- bytes; so the sum so far is a block onto which the blocks that are left are XORed, and each turn takes one of them.
use mathlib.Core.Path.{◌≡◌, refl, sym, ap, ◌∙◌}
use mathlib.Core.List.{List, [], ◌∷◌, ◌++◌}
use Prim.Native.Nat.{ℕ, zero, suc, ◌/◌, ◌+◌, ◌-◌, ◌*◌, ◌%◌, ◌≤◌, ◌<◌}
use native.Mathlib.Nat.{mod-eq-sub-mod}
use native.Mathlib.Numerals.{add-one}
use native.Mathlib.Omega.{arith}
use lib.Bits.{bit_xor, xor_block, xor_lt, xor_zero_r}
use lib.ListN.{length, get_or, drop, replicate}
use lib.Seq.{drop-cons, get_or-drop, get_or-take}
use borrow.Rule.Slice.PartMut.{put_mid}
use Rattle.std.specs.Simd.{first_chunks}
use Rattle.std.specs.Int.{from_be_bytes, w32}
use Rattle.digest.specs.Bytes.{word_at}
use Rattle.record.specs.Checksum.{checksum_of, padded, xor_with, xor_with_blocks}

-- the number that four bytes spell
abbrev pub spelled : ℕ → ℕ → ℕ → ℕ → ℕ
spelled a b c d = ((a * 256 + b) * 256 + c) * 256 + d

abbrev pub block : ℕ → ℕ → ℕ → ℕ → List ℕ
block a b c d = a ∷ b ∷ c ∷ d ∷ []

pub xor_spelled : (a b c d p q r s : ℕ) → b < 256 → c < 256 → d < 256 → q < 256 → r < 256 → s < 256 → bit_xor (spelled a b c d) (spelled p q r s) ≡ spelled (bit_xor a p) (bit_xor b q) (bit_xor c r) (bit_xor d s)
xor_spelled a b c d p q r s hb hc hd hq hr hs =
    xor_block 8 ((a * 256 + b) * 256 + c) ((p * 256 + q) * 256 + r) d s hd hs
    ∙ ap (λ (x : ℕ). x * 256 + bit_xor d s)
    (xor_block 8 (a * 256 + b) (p * 256 + q) c r hc hr
    ∙ ap (λ (x : ℕ). x * 256 + bit_xor c r) (xor_block 8 a p b q hb hq))

-- where the loop stands: the sum is that of a block, and the blocks from i on are to be XORed onto it
pub record Summed (s : List ℕ) (sum i : ℕ) : Type 0 where
  pub a : ℕ
  pub b : ℕ
  pub c : ℕ
  pub d : ℕ
  pub small_a : a < 256
  pub small_b : b < 256
  pub small_c : c < 256
  pub small_d : d < 256
  pub spells : sum ≡ spelled a b c d
  pub inside : i ≤ length s
  pub so_far : checksum_of s ≡ xor_with_blocks (block a b c d) (padded (drop i s))

pub begun : (s : List ℕ) → Summed s 0 0
unfolding checksum_of
begun s =
    record { a = 0; b = 0; c = 0; d = 0; small_a = omega arith; small_b = omega arith; small_c = omega arith; small_d = omega arith; spells = refl; inside = omega arith; so_far = refl }

-- four bytes in front need no more padding
pub padded_four : (p q r t : ℕ) (s : List ℕ) → padded (p ∷ q ∷ r ∷ t ∷ s) ≡ p ∷ q ∷ r ∷ t ∷ padded s
unfolding padded
padded_four p q r t s =
    let n : ℕ = length s in
    let four : suc (suc (suc (suc n))) % 4 ≡ n % 4 = mod-eq-sub-mod (omega arith) ∙ ap (λ (x : ℕ). x % 4) (omega arith) in
    ap (λ (x : ℕ). p ∷ q ∷ r ∷ t ∷ (s ++ replicate ((4 - x) % 4) 0)) four

drop_one : (s : List ℕ) (i j : ℕ) → j ≡ i + 1 → i < length s → drop i s ≡ get_or s i 0 ∷ drop j s
drop_one s i j e h = drop-cons s i 0 h ∙ ap (λ (k : ℕ). get_or s i 0 ∷ drop k s) (sym (add-one i) ∙ sym e)

drop_four : (s : List ℕ) (i : ℕ) → i + 4 ≤ length s → drop i s ≡ get_or s i 0 ∷ get_or s (i + 1) 0 ∷ get_or s (i + 2) 0 ∷ get_or s (i + 3) 0 ∷ drop (i + 4) s
drop_four s i h =
    drop_one s i (i + 1) refl (omega arith)
    ∙ ap (λ (x : List ℕ). get_or s i 0 ∷ x)
    (drop_one s (i + 1) (i + 2) (omega arith) (omega arith)
    ∙ ap (λ (x : List ℕ). get_or s (i + 1) 0 ∷ x)
    (drop_one s (i + 2) (i + 3) (omega arith) (omega arith)
    ∙ ap (λ (x : List ℕ). get_or s (i + 2) 0 ∷ x) (drop_one s (i + 3) (i + 4) (omega arith) (omega arith))))

pub go_on : (s : List ℕ) (sum i : ℕ) → Summed s sum i → 4 ≤ length s - i → ((k : ℕ) → get_or s k 0 < 256) → Summed s (bit_xor sum (spelled (get_or s i 0) (get_or s (i + 1) 0) (get_or s (i + 2) 0) (get_or s (i + 3) 0))) (i + 4)
unfolding xor_with_blocks xor_with
go_on s sum i w h small =
    let p : ℕ = get_or s i 0 in
    let q : ℕ = get_or s (i + 1) 0 in
    let r : ℕ = get_or s (i + 2) 0 in
    let t : ℕ = get_or s (i + 3) 0 in
    record {
      a = bit_xor w.a p;
      b = bit_xor w.b q;
      c = bit_xor w.c r;
      d = bit_xor w.d t;
      small_a = xor_lt 8 w.a p w.small_a (small i);
      small_b = xor_lt 8 w.b q w.small_b (small (i + 1));
      small_c = xor_lt 8 w.c r w.small_c (small (i + 2));
      small_d = xor_lt 8 w.d t w.small_d (small (i + 3));
      spells =
          ap (λ (x : ℕ). bit_xor x (spelled p q r t)) w.spells
          ∙ xor_spelled w.a w.b w.c w.d p q r t w.small_b w.small_c w.small_d (small (i + 1)) (small (i + 2)) (small (i + 3));
      inside = omega (arith, w.inside);
      so_far =
          w.so_far
          ∙ ap (xor_with_blocks (block w.a w.b w.c w.d))
          (ap padded (drop_four s i (omega (arith, w.inside))) ∙ padded_four p q r t (drop (i + 4) s));
    }

-- the bytes of the block k
block_at : (n k : ℕ) (s : List ℕ) (j : ℕ) → k < n → j < 4 → get_or (get_or (first_chunks 4 n s) k []) j 0 ≡ get_or s (k * 4 + j) 0
block_at zero k s j h l = absurd (omega arith)
block_at (suc n) zero s j h l = get_or-take 4 s j 0 l ∙ ap (λ (i : ℕ). get_or s i 0) (omega arith)
block_at (suc n) (suc k) s j h l =
    block_at n k (drop 4 s) j (omega arith) l ∙ get_or-drop 4 s (k * 4 + j) 0 ∙ ap (λ (i : ℕ). get_or s i 0) (omega arith)

-- a turn of the loop
pub block_on : (s : List ℕ) (blocks : List (List ℕ)) (sum k w : ℕ) → blocks ≡ first_chunks 4 (length s / 4) s → k < length s / 4 → w ≡ from_be_bytes w32 (get_or blocks k []) → ((j : ℕ) → get_or s j 0 < 256) → Summed s sum (k * 4) → Summed s (bit_xor sum w) ((k + 1) * 4)
block_on s blocks sum k w e h f small n =
    let i : ℕ = k * 4 in
    let at : (j : ℕ) → j < 4 → get_or (get_or blocks k []) j 0 ≡ get_or s (i + j) 0 =
    λ j l. ap (λ (x : List (List ℕ)). get_or (get_or x k []) j 0) e ∙ block_at (length s / 4) k s j h l in
    let p : get_or (get_or blocks k []) 0 0 ≡ get_or s i 0 = at 0 (omega arith) ∙ ap (λ (x : ℕ). get_or s x 0) (omega arith) in
    let is : w ≡ spelled (get_or s i 0) (get_or s (i + 1) 0) (get_or s (i + 2) 0) (get_or s (i + 3) 0) =
    omega (arith, f, p, at 1 (omega arith), at 2 (omega arith), at 3 (omega arith)) in
    let next : i + 4 ≡ (k + 1) * 4 = omega arith in
    rw (is, sym next) (go_on s sum i n (omega arith) small)

-- what is left is less than a block: padded it is none or one
one_block : (a b c d : ℕ) → a < 256 → b < 256 → c < 256 → d < 256 → (t : List ℕ) → length t < 4 → ((k : ℕ) → get_or t k 0 < 256) → word_at (xor_with_blocks (block a b c d) (padded t)) 0 ≡ bit_xor (spelled a b c d) (word_at (padded t) 0)
unfolding word_at xor_with_blocks xor_with padded
one_block a b c d ha hb hc hd [] h small = sym (xor_zero_r (spelled a b c d))
one_block a b c d ha hb hc hd (p ∷ []) h small =
    sym (xor_spelled a b c d p 0 0 0 hb hc hd (omega arith) (omega arith) (omega arith))
one_block a b c d ha hb hc hd (p ∷ q ∷ []) h small =
    sym (xor_spelled a b c d p q 0 0 hb hc hd (small 1) (omega arith) (omega arith))
one_block a b c d ha hb hc hd (p ∷ q ∷ r ∷ []) h small =
    sym (xor_spelled a b c d p q r 0 hb hc hd (small 1) (small 2) (omega arith))
one_block a b c d ha hb hc hd (p ∷ q ∷ r ∷ s ∷ t) h small = absurd (omega arith)

pub done : (s : List ℕ) (sum i : ℕ) → Summed s sum i → length (drop i s) < 4 → ((k : ℕ) → get_or s k 0 < 256) → bit_xor sum (word_at (padded (drop i s)) 0) ≡ word_at (checksum_of s) 0
done s sum i w h small =
    ap (λ (x : ℕ). bit_xor x (word_at (padded (drop i s)) 0)) w.spells
    ∙ sym (one_block w.a w.b w.c w.d w.small_a w.small_b w.small_c w.small_d (drop i s) h (λ k. rw (get_or-drop i s k 0) (small (i + k))))
    ∙ ap (λ (x : List ℕ). word_at x 0) (sym w.so_far)

-- the last block, by how many bytes it has
pub none_left : (s : List ℕ) → length s ≡ 0 → 0 ≡ word_at (padded s) 0
unfolding word_at padded
none_left [] e = refl
none_left (p ∷ s) e = absurd (omega arith)

pub one_left : (s : List ℕ) → length s ≡ 1 → spelled (get_or s 0 0) 0 0 0 ≡ word_at (padded s) 0
unfolding word_at padded
one_left [] e = absurd (omega arith)
one_left (p ∷ []) e = refl
one_left (p ∷ q ∷ s) e = absurd (omega arith)

pub two_left : (s : List ℕ) → length s ≡ 2 → spelled (get_or s 0 0) (get_or s 1 0) 0 0 ≡ word_at (padded s) 0
unfolding word_at padded
two_left [] e = absurd (omega arith)
two_left (p ∷ []) e = absurd (omega arith)
two_left (p ∷ q ∷ []) e = refl
two_left (p ∷ q ∷ r ∷ s) e = absurd (omega arith)

pub three_left : (s : List ℕ) → length s ≡ 3 → spelled (get_or s 0 0) (get_or s 1 0) (get_or s 2 0) 0 ≡ word_at (padded s) 0
unfolding word_at padded
three_left [] e = absurd (omega arith)
three_left (p ∷ []) e = absurd (omega arith)
three_left (p ∷ q ∷ []) e = absurd (omega arith)
three_left (p ∷ q ∷ r ∷ []) e = refl
three_left (p ∷ q ∷ r ∷ t ∷ s) e = absurd (omega arith)

-- the last block, as zeros with its bytes over them
pub last_block : (s t b : List ℕ) → length s < 4 → t ≡ s → b ≡ put_mid 0 (length s) (0 ∷ 0 ∷ 0 ∷ 0 ∷ []) t → from_be_bytes w32 b ≡ word_at (padded s) 0
unfolding word_at padded
last_block [] t b h e f = rw (f, e) (omega arith)
last_block (p ∷ []) t b h e f = rw (f, e) (omega arith)
last_block (p ∷ q ∷ []) t b h e f = rw (f, e) (omega arith)
last_block (p ∷ q ∷ r ∷ []) t b h e f = rw (f, e) (omega arith)
last_block (p ∷ q ∷ r ∷ t ∷ s) u b h e f = absurd (omega arith)
