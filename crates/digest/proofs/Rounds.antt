-- The laws of SHA-1's words, schedule and rounds, on which the functions of block.rt stand.
use Rattle.std.proofs.Common.{◌≡◌, ℕ, zero, suc, ◌+◌, ◌-◌, ◌*◌, ◌%◌, ◌<◌, ◌≤◌, List, [], ◌∷◌, ◌++◌, length, get_or, take, drop, set, sym, refl, ap, ◌∙◌, ap₂, add-zero, add-suc, add-one, arith, length-append, get_or-drop, get_or-set_other, get_or-take, get_or-set_same, take-suc-set}
use mathlib.Core.Logic.{by_cases, ◌⊎◌, inl, inr}
use native.Mathlib.Decide.{dec_le}
use lib.ListN.{get_or-append}
use lib.Seq.{get_or_at}
use lib.Bits.{bit_and, bit_or, bit_xor}
use Rattle.digest.proofs.Picks.{picks}
use Rattle.digest.specs.Bytes.{word_at}
use Rattle.digest.specs.Sha1.{f, k, inverted, words, round, rounds, schedule, next_word}
use Rattle.digest.specs.Midway.{turned_over, Reached}
use Rattle.digest.specs.declared.block.State.{State}
use Rattle.digest.specs.declared.block.Midway.{Midway}

-- A store behind the first i elements is one element more.
pub fill_step : {A : Type 0} (w p : List A) (i : ℕ) (v : A) → i < length w → take i w ≡ p → take (i + 1) (set w i v) ≡ p ++ (v ∷ [])
fill_step w p i v h e = rw add-one (take-suc-set w i v h ∙ ap (λ l. l ++ (v ∷ [])) e)

-- The word at a place of a part is the word at that place of the whole.
byte_part : (s : List ℕ) (at n i j : ℕ) → i + j < n → get_or (take n (drop at s)) (i + j) 0 ≡ get_or s (at + i + j) 0
byte_part s at n i j h =
    get_or-take n (drop at s) (i + j) 0 h ∙ get_or-drop at s (i + j) 0 ∙ ap (λ x. get_or s x 0) (omega arith)

pub word_part : (s : List ℕ) (at n i : ℕ) → i + 3 < n → word_at (take n (drop at s)) i ≡ word_at s (at + i)
unfolding word_at
word_part s at n i h =
    let e0 : get_or (take n (drop at s)) i 0 ≡ get_or s (at + i) 0 = get_or-take n (drop at s) i 0 (omega arith) ∙ get_or-drop at s i 0 in
    let e1 : get_or (take n (drop at s)) (i + 1) 0 ≡ get_or s (at + i + 1) 0 = byte_part s at n i 1 (omega arith) in
    let e2 : get_or (take n (drop at s)) (i + 2) 0 ≡ get_or s (at + i + 2) 0 = byte_part s at n i 2 (omega arith) in
    let e3 : get_or (take n (drop at s)) (i + 3) 0 ≡ get_or s (at + i + 3) 0 = byte_part s at n i 3 h in
    cc

-- The functions and constants of the four phases.
pub f_first : (t b c d : ℕ) → t < 20 → bit_or (bit_and b c) (bit_and (inverted b) d) ≡ f t b c d
unfolding f
f_first t b c d h = search picks

pub f_second : (t b c d : ℕ) → 20 ≤ t → t < 40 → bit_xor (bit_xor b c) d ≡ f t b c d
unfolding f
f_second t b c d l h = search picks

pub f_third : (t b c d : ℕ) → 40 ≤ t → t < 60 → bit_or (bit_or (bit_and b c) (bit_and b d)) (bit_and c d) ≡ f t b c d
unfolding f
f_third t b c d l h =
    let l₂ : 20 ≤ t = omega arith in search picks

pub f_fourth : (t b c d : ℕ) → 60 ≤ t → bit_xor (bit_xor b c) d ≡ f t b c d
unfolding f
f_fourth t b c d l =
    let l₂ : 20 ≤ t = omega arith in let l₄ : 40 ≤ t = omega arith in search picks

pub f_parity : (t b c d : ℕ) → ((20 ≤ t) × (t < 40)) ⊎ (60 ≤ t) → bit_xor (bit_xor b c) d ≡ f t b c d
f_parity t b c d (inl (l, h)) = f_second t b c d l h
f_parity t b c d (inr l) = f_fourth t b c d l

pub k_first : (t : ℕ) → t < 20 → 0x5a827999 ≡ k t
unfolding k
k_first t h = search picks

pub k_second : (t : ℕ) → 20 ≤ t → t < 40 → 0x6ed9eba1 ≡ k t
unfolding k
k_second t l h = search picks

pub k_third : (t : ℕ) → 40 ≤ t → t < 60 → 0x8f1bbcdc ≡ k t
unfolding k
k_third t l h =
    let l₂ : 20 ≤ t = omega arith in search picks

pub k_fourth : (t : ℕ) → 60 ≤ t → 0xca62c1d6 ≡ k t
unfolding k
k_fourth t l =
    let l₂ : 20 ≤ t = omega arith in let l₄ : 40 ≤ t = omega arith in search picks

-- The words of a block, one by one.
pub length_words : (s : List ℕ) (n : ℕ) → length (words s n) ≡ n
unfolding words
length_words s zero = refl
length_words s (suc n) = length-append (words s n) (word_at s (4 * n) ∷ []) ∙ ap (λ x. x + 1) (length_words s n) ∙ add-one n

get_d_words : (s : List ℕ) (n d t : ℕ) → t < n → get_or (words s (n + d)) t 0 ≡ get_or (words s n) t 0
unfolding words
get_d_words s n zero t h = ap (λ x. get_or (words s x) t 0) (add-zero n)
get_d_words s n (suc d) t h =
    ap (λ x. get_or (words s x) t 0) (add-suc n d)
    ∙ get_or-append (words s (n + d)) (word_at s (4 * (n + d)) ∷ []) 0 t (omega (arith, length_words s (n + d)))
    ∙ get_d_words s n d t h

last_of_words : (s : List ℕ) (t : ℕ) → get_or (words s (suc t)) t 0 ≡ word_at s (4 * t)
unfolding words
last_of_words s t = get_or_at (words s t) (word_at s (4 * t)) [] 0 t (length_words s t)

word_at_lem : (s : List ℕ) (n t : ℕ) → t < n → get_or (words s n) t 0 ≡ word_at s (4 * t)
word_at_lem s n t h =
    let whole : suc t + (n - suc t) ≡ n = omega arith in
    ap (λ x. get_or (words s x) t 0) (sym whole) ∙ get_d_words s (suc t) (n - suc t) t (omega arith) ∙ last_of_words s t

-- The schedule: a shorter one is the front of a longer one.
pub length_schedule : (m : List ℕ) (n : ℕ) → length (schedule m n) ≡ length m + n
unfolding schedule
length_schedule m zero = omega arith
length_schedule m (suc n) =
    length-append (schedule m n) (next_word (schedule m n) (16 + n) ∷ []) ∙ ap (λ x. x + 1) (length_schedule m n) ∙ omega arith

schedule_front : (m : List ℕ) (n d i : ℕ) → i < length m + n → get_or (schedule m n) i 0 ≡ get_or (schedule m (n + d)) i 0
unfolding schedule
schedule_front m n zero i h = ap (λ x. get_or (schedule m x) i 0) (sym (add-zero n))
schedule_front m n (suc d) i h =
    schedule_front m n d i h
    ∙ sym (get_or-append (schedule m (n + d)) (next_word (schedule m (n + d)) (16 + (n + d)) ∷ []) 0 i (omega (arith, length_schedule m (n + d))))
    ∙ ap (λ x. get_or (schedule m x) i 0) (sym (add-suc n d))

front : (m : List ℕ) (n i : ℕ) → n ≤ 64 → i < length m + n → get_or (schedule m n) i 0 ≡ get_or (schedule m 64) i 0
front m n i b h =
    let whole : n + (64 - n) ≡ 64 = omega arith in
    schedule_front m n (64 - n) i h ∙ ap (λ x. get_or (schedule m x) i 0) whole

-- Its first sixteen words are the block's,
schedule_none : (m : List ℕ) → schedule m 0 ≡ m
unfolding schedule
schedule_none m = refl

pub front_word : (s : List ℕ) (t x : ℕ) → t < 16 → x ≡ word_at s (4 * t) → x ≡ get_or (schedule (words s 16) 64) t 0
front_word s t x h e =
    e
    ∙ sym (word_at_lem s 16 t h)
    ∙ ap (λ l. get_or l t 0) (sym (schedule_none (words s 16)))
    ∙ front (words s 16) 0 t (omega arith) (omega (arith, length_words s 16))

-- wherever the block stands,
pub block_word : (s : List ℕ) (at t x : ℕ) → t < 16 → x ≡ word_at s (at + 4 * t)
    → x ≡ get_or (schedule (words (take 64 (drop at s)) 16) 64) t 0
block_word s at t x h e = front_word (take 64 (drop at s)) t x h (e ∙ sym (word_part s at 64 (4 * t) (omega arith)))

-- and word t + 16 is made of words before it.
last_word : (m : List ℕ) (n : ℕ) → length m ≡ 16 → get_or (schedule m (suc n)) (n + 16) 0 ≡ next_word (schedule m n) (16 + n)
unfolding schedule
last_word m n l =
    get_or_at (schedule m n) (next_word (schedule m n) (16 + n)) [] 0 (n + 16) (length_schedule m n ∙ omega arith)

-- The law of the sixteen words that are turned over in place. Where round t has been reached, what takes the place of the
-- word of round t - 16 is word t of the schedule of eighty: of the four words that it is made of, t - 3, t - 8, t - 14 and
-- t - 16, each stands at its number modulo 16.
stands : (m v : List ℕ) (n j i : ℕ) → length m ≡ 16 → n < 64 → 0 < j → j ≤ 16 → i + j ≡ n + 32
    → ((i : ℕ) → i < n + 16 → n + 16 ≤ i + 16 → get_or v (i % 16) 0 ≡ get_or (schedule m 64) i 0)
    → get_or v (i % 16) 0 ≡ get_or (schedule m n) (16 + n - j) 0
stands m v n j i l b lo hi e w =
    let same : i % 16 ≡ (16 + n - j) % 16 = omega arith in
    ap (λ x. get_or v x 0) same
    ∙ w (16 + n - j) (omega arith) (omega arith)
    ∙ sym (front m n (16 + n - j) (omega arith) (omega arith))

pub turned_over_lem : (m v : List ℕ) (t : ℕ) (h g : State) → length m ≡ 16 → 16 ≤ t → t < 80
    → Reached m h t (record { state = g; words = v }) → turned_over v t ≡ get_or (schedule m 64) t 0
unfolding turned_over next_word
turned_over_lem m v t h g l lo hi p =
    let n = t - 16 in
    let at : t ≡ n + 16 = omega arith in
    let w : (i : ℕ) → i < n + 16 → n + 16 ≤ i + 16 → get_or v (i % 16) 0 ≡ get_or (schedule m 64) i 0
    = λ i a b. p.words_are i (omega arith) (omega arith) in
    let e3 : get_or v ((t + 13) % 16) 0 ≡ get_or (schedule m n) (16 + n - 3) 0 = stands m v n 3 (t + 13) l (omega arith) (omega arith) (omega arith) (omega arith) w in
    let e8 : get_or v ((t + 8) % 16) 0 ≡ get_or (schedule m n) (16 + n - 8) 0 = stands m v n 8 (t + 8) l (omega arith) (omega arith) (omega arith) (omega arith) w in
    let e14 : get_or v ((t + 2) % 16) 0 ≡ get_or (schedule m n) (16 + n - 14) 0 = stands m v n 14 (t + 2) l (omega arith) (omega arith) (omega arith) (omega arith) w in
    let e16 : get_or v (t % 16) 0 ≡ get_or (schedule m n) (16 + n - 16) 0 = stands m v n 16 t l (omega arith) (omega arith) (omega arith) (omega arith) w in
    let made : turned_over v t ≡ next_word (schedule m n) (16 + n) = cc in
    made
    ∙ sym (last_word m n l)
    ∙ front m (suc n) (n + 16) (omega arith) (omega arith)
    ∙ ap (λ x. get_or (schedule m 64) x 0) (sym at)

-- In other words: when round t uses its word, that word of the schedule stands at t modulo 16.
pub word_in_place : (m : List ℕ) (h : State) (t : ℕ) (p : Midway) → Reached m h (t + 1) p → get_or p.words (t % 16) 0 ≡ get_or (schedule m 64) t 0
word_in_place m h t p reached = reached.words_are t (omega arith) (omega arith)

-- A block on its way. Before the first round no word is needed;
pub none_reached : (m v : List ℕ) (h : State) → Reached m h 0 (record { state = h; words = v })
unfolding rounds
none_reached m v h = record { words_are = λ i a b. absurd (omega arith); state_is = refl }

-- and a word of the schedule, stored at its place, and its round are one round more.
pub round_more : (m v : List ℕ) (t x : ℕ) (h g r : State) → length v ≡ 16
    → Reached m h t (record { state = g; words = v }) → x ≡ get_or (schedule m 64) t 0 → r ≡ round t x g
    → Reached m h (t + 1) (record { state = r; words = set v (t % 16) x })
unfolding rounds
round_more m v t x h g r l p word e =
    record {
      words_are =
          λ i a b.
          by_cases (dec_le t i)
          (λ c.
          let same : i ≡ t = omega arith in
          ap (λ y. get_or (set v (t % 16) x) (y % 16) 0) same
          ∙ get_or-set_same v (t % 16) x 0 (omega arith)
          ∙ word
          ∙ ap (λ y. get_or (schedule m 64) y 0) (sym same))
          (λ c. get_or-set_other v (t % 16) (i % 16) x 0 (λ q. omega arith) ∙ p.words_are i (omega arith) (omega arith));
      state_is =
          e ∙ ap₂ (round t) word p.state_is ∙ sym (ap (λ n. rounds (schedule m 64) n h) (add-one t));
    }
