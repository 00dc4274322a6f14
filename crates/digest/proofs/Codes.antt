-- The laws of HMAC: a key with both pads absorbed gives HMAC's codes.
use Rattle.std.proofs.Common.{◌≡◌, ℕ, ◌+◌, ◌-◌, ◌*◌, ◌/◌, ◌<◌, ◌≤◌, ltb, List, [], ◌∷◌, ◌++◌, map, length, get_or, take, drop, set, replicate, sym, refl, ap, ◌∙◌, subst, ap₂, append_assoc, zero-add, add-one, arith, length-append, take_all, take-suc, le-ltb, lt-ltb}
use mathlib.Core.Logic.{by_cases}
use native.Mathlib.Decide.{dec_le}
use lib.ListN.{length-replicate, length-map}
use lib.Seq.{drop-length}
use lib.Bits.{bit_xor}
use Rattle.digest.proofs.Rounds.{fill_step}
use Rattle.digest.proofs.Lay.{drop_replicate, length_laid}
use Rattle.digest.proofs.Absorb.{absorb_one, absorb_cut}
use Rattle.digest.proofs.Hashing.{absorbed_more, finished_from}
use Rattle.digest.proofs.Picks.{pick_yes, pick_no}
use Rattle.digest.specs.Bytes.{laid_over}
use Rattle.digest.specs.Sha1.{absorb, blocks_of, compress, padding, spelled, sha1, initial_state}
use Rattle.digest.specs.Hasher.{AbsorbedFrom, updated, finished, digest_from, begun, ended}
use Rattle.digest.specs.Hmac.{actual_key, key_block, masked, ipad, opad, hmac, key_of, code_under}
use Rattle.digest.specs.declared.block.State.{State}
use Rattle.digest.specs.declared.key.Key.{Key}
use Rattle.digest.specs.declared.pieces.Hasher.{Hasher}

-- Digests are twenty bytes.
pub length_spelled : (h : State) → length (spelled h) ≡ 20
unfolding spelled
length_spelled h = refl

pub length_sha1 : (m : List ℕ) → length (sha1 m) ≡ 20
unfolding sha1
length_sha1 m = length_spelled (absorb (m ++ padding (length m)) (blocks_of (m ++ padding (length m))) initial_state)

pub length_digest : (g : State) (n : ℕ) (m : List ℕ) → length (digest_from g n m) ≡ 20
unfolding digest_from
length_digest g n m = length_spelled (absorb (m ++ padding (n + length m)) (blocks_of (m ++ padding (n + length m))) g)

pub length_code : (key : Key) (m : List ℕ) → length (code_under key m) ≡ 20
unfolding code_under
length_code key m = length_digest key.outer 64 (digest_from key.inner 64 m)

pub length_hmac : (k m : List ℕ) → length (hmac k m) ≡ 20
unfolding hmac
length_hmac k m = length_sha1 (masked opad (key_block k) ++ sha1 (masked ipad (key_block k) ++ m))

-- The key's block.
pub laid_zeros : (n : ℕ) (s : List ℕ) → length s ≤ n → laid_over (replicate n 0) 0 s ≡ s ++ replicate (n - length s) 0
unfolding laid_over
laid_zeros n s h = ap (λ x. s ++ x) (ap (λ k. drop k (replicate n 0)) (zero-add (length s)) ∙ drop_replicate n (length s) 0 h)

pub block_by : (k a d : List ℕ) → a ≡ actual_key k → length a ≤ 64 → d ≡ laid_over (replicate 64 0) 0 a → d ≡ key_block k
unfolding key_block
block_by k a d e h l = l ∙ laid_zeros 64 a h ∙ ap (λ x. x ++ replicate (64 - length x) 0) e

pub length_laid_zeros : (a d : List ℕ) → length a ≤ 64 → d ≡ laid_over (replicate 64 0) 0 a → length d ≡ 64
length_laid_zeros a d h l =
    ap length l ∙ length_laid (replicate 64 0) 0 a (omega (arith, length-replicate {A = ℕ} 64 0)) ∙ length-replicate {A = ℕ} 64 0

pub long_key : (k : List ℕ) → 64 < length k → sha1 k ≡ actual_key k
unfolding actual_key
long_key k h = pick_yes (List ℕ) (sha1 k) (sha1 k) k (ltb 64 (length k)) (lt-ltb 64 (length k) h) refl

pub short_key : (k : List ℕ) → length k ≤ 64 → k ≡ actual_key k
unfolding actual_key
short_key k h = pick_no (List ℕ) k (sha1 k) k (ltb 64 (length k)) (le-ltb 64 (length k) h) refl

-- The pads, byte by byte.
map_snoc : (f : ℕ → ℕ) (s : List ℕ) (v : ℕ) → map f (s ++ (v ∷ [])) ≡ map f s ++ (f v ∷ [])
map_snoc f [] v = refl
map_snoc f (x ∷ s) v = ap (λ t. f x ∷ t) (map_snoc f s v)

pub masked_more : (x : ℕ) (b d : List ℕ) (i : ℕ) → i < length b → i < length d → take i d ≡ masked x (take i b)
    → take (i + 1) (set d i (bit_xor (get_or b i 0) x)) ≡ masked x (take (i + 1) b)
unfolding masked
masked_more x b d i hb hd e =
    fill_step d (masked x (take i b)) i (bit_xor (get_or b i 0) x) hd e
    ∙ sym (ap (λ n. masked x (take n b)) (add-one i) ∙ ap (masked x) (take-suc b i 0 hb) ∙ map_snoc (λ v. bit_xor v x) (take i b) (get_or b i 0))

pub length_masked : (x : ℕ) (b : List ℕ) → length (masked x b) ≡ length b
unfolding masked
length_masked x b = length-map b (λ v. bit_xor v x)

pub masked_whole : (x n : ℕ) (b d : List ℕ) → length b ≡ n → length d ≡ n → take n d ≡ masked x (take n b) → d ≡ masked x b
masked_whole x n b d lb ld e =
    sym (take_all n d (omega arith)) ∙ e ∙ ap (masked x) (take_all n b (omega arith))

-- A digest behind one block.
pub sha1_behind : (b m : List ℕ) → length b ≡ 64 → sha1 (b ++ m) ≡ digest_from (compress b initial_state) 64 m
unfolding sha1 digest_from
sha1_behind b m l =
    let pad = padding (64 + length m) in
    let size : length (b ++ m) ≡ 64 + length m = length-append b m ∙ ap (λ x. x + length m) l in
    let one : blocks_of b ≡ 1 = ap (λ x. x / 64) l in
    let none : drop (64 * blocks_of b) b ≡ []
    = ap (λ x. drop (64 * x) b) one ∙ ap (λ x. drop x b) (sym l) ∙ drop-length b in
    let p-is : b ++ m ++ padding (length (b ++ m)) ≡ b ++ (m ++ pad) = ap (λ x. b ++ m ++ padding x) size ∙ append_assoc b m pad in
    ap spelled
    (ap (λ p. absorb p (blocks_of p) initial_state) p-is
    ∙ absorb_cut b (m ++ pad) initial_state
    ∙ ap₂ (λ p g. absorb p (blocks_of p) g) (ap (λ x. x ++ (m ++ pad)) none) (ap (λ x. absorb b x initial_state) one ∙ absorb_one b initial_state l))

length_actual : (k : List ℕ) → length (actual_key k) ≤ 64
length_actual k =
    by_cases (dec_le (length k) 64)
    (λ h. omega (arith, ap length (short_key k h)))
    (λ h. omega (arith, ap length (long_key k (omega arith)), length_sha1 k))

pub length_block : (k : List ℕ) → length (key_block k) ≡ 64
unfolding key_block
length_block k =
    length-append (actual_key k) (replicate (64 - length (actual_key k)) 0)
    ∙ ap (λ x. length (actual_key k) + x) (length-replicate (64 - length (actual_key k)) 0)
    ∙ omega (arith, length_actual k)

pub key_by : (k b : List ℕ) (x y : State) → b ≡ key_block k
    → x ≡ compress (masked ipad b) initial_state → y ≡ compress (masked opad b) initial_state
    → ◌≡◌ {A = Key} (record { inner = x; outer = y }) (key_of k)
unfolding key_of
key_by k b x y e ex ey =
    let pad : (v : ℕ) → compress (masked v b) initial_state ≡ compress (masked v (key_block k)) initial_state
    = λ v. ap (λ z. compress (masked v z) initial_state) e in
    λ i. record { inner = (ex ∙ pad ipad) i; outer = (ey ∙ pad opad) i }

-- A key of bytes gives HMAC.
pub code_key : (k m : List ℕ) → code_under (key_of k) m ≡ hmac k m
unfolding code_under key_of hmac
code_key k m =
    let size : (v : ℕ) → length (masked v (key_block k)) ≡ 64 = λ v. length_masked v (key_block k) ∙ length_block k in
    ap (digest_from (key_of k).outer 64) (sym (sha1_behind (masked ipad (key_block k)) m (size ipad)))
    ∙ sym (sha1_behind (masked opad (key_block k)) (sha1 (masked ipad (key_block k) ++ m)) (size opad))

pub code_is : (key : Key) (k m : List ℕ) → key ≡ key_of k → code_under key m ≡ hmac k m
code_is key k m e = ap (λ x. code_under x m) e ∙ code_key k m

-- A message behind one block, in pieces.
pub begun_absorbed : (g : State) (h : Hasher) → h ≡ begun g → AbsorbedFrom g 64 h []
unfolding absorb
begun_absorbed g h e = subst (λ x. AbsorbedFrom g 64 x []) (sym e) (record { state_is = refl; waits = refl; counts = refl })

pub piece : (g : State) (h r : Hasher) (m s : List ℕ) → r ≡ updated h s → AbsorbedFrom g 64 h m → AbsorbedFrom g 64 r (m ++ s)
piece g h r m s e a = subst (λ x. AbsorbedFrom g 64 x (m ++ s)) (sym e) (absorbed_more g 64 h m s refl a)

-- The digest of twenty bytes behind one block.
pub behind_block : (g : State) (d : List ℕ) → length d ≡ 20
    → spelled (absorb (d ++ padding 84) (blocks_of (d ++ padding 84)) g) ≡ digest_from g 64 d
unfolding digest_from
behind_block g d l =
    ap (λ n. spelled (absorb (d ++ padding (64 + n)) (blocks_of (d ++ padding (64 + n))) g)) (sym l)

-- The digest of n bytes behind one block.
pub behind_blocks : (g : State) (m : List ℕ) (n : ℕ) → length m ≡ n
    → spelled (absorb (m ++ padding (n + 64)) (blocks_of (m ++ padding (n + 64))) g) ≡ digest_from g 64 m
unfolding digest_from
behind_blocks g m n l =
    let all : n + 64 ≡ 64 + length m = omega arith in
    ap (λ k. spelled (absorb (m ++ padding k) (blocks_of (m ++ padding k)) g)) all

pub ended_as : (g : State) (d : List ℕ) → digest_from g 64 d ≡ finished (updated (begun g) d)
ended_as g d =
    let h = updated (begun g) d in
    sym (finished_from g 64 h d refl (piece g (begun g) h [] d refl (begun_absorbed g (begun g) refl)))

pub ended_means : (key : Key) (h : Hasher) (m : List ℕ) → AbsorbedFrom key.inner 64 h m → ended key.outer h ≡ code_under key m
unfolding code_under
ended_means key h m a =
    finished_from key.outer 64 (updated (begun key.outer) (finished h)) (finished h) refl
    (piece key.outer (begun key.outer) (updated (begun key.outer) (finished h)) [] (finished h) refl (begun_absorbed key.outer (begun key.outer) refl))
    ∙ ap (digest_from key.outer 64) (finished_from key.inner 64 h m refl a)
