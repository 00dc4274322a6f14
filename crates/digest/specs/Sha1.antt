-- SHA-1 (FIPS 180-1) on lists of bytes.
use Rattle.std.specs.Prelude.{ℕ, zero, suc, ◌+◌, ◌-◌, ◌*◌, ◌/◌, ◌%◌, ◌^◌, List, [], ◌∷◌, ◌++◌, length, take, drop, replicate, bit_and, bit_or, bit_xor, nat_lt, slice_index}
use Rattle.digest.specs.Pick.{pick}
use Rattle.digest.specs.Bytes.{word_at, bytes4, bytes8}
use Rattle.digest.specs.declared.block.State.{State}

-- Section 3: operations on words.

-- the complement of a word
abbrev pub inverted : ℕ → ℕ
inverted x = 2 ^ 32 - 1 - x

-- the sum modulo 2 ^ 32
abbrev pub plus : ℕ → ℕ → ℕ
plus x y = (x + y) % 2 ^ 32

-- S^n(X), the circular shift to the left by n places
unfoldable pub shifted : ℕ → ℕ → ℕ
shifted n x = bit_or (x * 2 ^ n % 2 ^ 32) (x / 2 ^ (32 - n))

-- Section 4: padding. Behind a message of n bytes stand a one, as many zeros as leave eight bytes of a block, and
-- the length in bits in those eight (modulo 2 ^ 64: the paper defines shorter messages only).
unfoldable pub padding : ℕ → List ℕ
padding n = (128 ∷ replicate ((119 - n % 64) % 64) 0) ++ bytes8 (8 * n % 2 ^ 64)

-- Section 5: the function of round t.
unfoldable pub f : ℕ → ℕ → ℕ → ℕ → ℕ
f t b c d =
    pick (nat_lt t 20) (bit_or (bit_and b c) (bit_and (inverted b) d))
    (pick (nat_lt t 40) (bit_xor (bit_xor b c) d)
    (pick (nat_lt t 60) (bit_or (bit_or (bit_and b c) (bit_and b d)) (bit_and c d))
    (bit_xor (bit_xor b c) d)))

-- Section 6: the constant of round t.
unfoldable pub k : ℕ → ℕ
k t = pick (nat_lt t 20) 0x5a827999 (pick (nat_lt t 40) 0x6ed9eba1 (pick (nat_lt t 60) 0x8f1bbcdc 0xca62c1d6))

-- Section 7: the words that the computation starts with.
abbrev pub initial_state : State
initial_state =
    record { a = 0x67452301; b = 0xefcdab89; c = 0x98badcfe; d = 0x10325476; e = 0xc3d2e1f0 }

-- step a: the first n words of a block
unfoldable pub words : List ℕ → ℕ → List ℕ
words s zero = []
words s (suc n) = words s n ++ (word_at s (4 * n) ∷ [])

-- step b: the word of round t, from the words before it
unfoldable pub next_word : List ℕ → ℕ → ℕ
next_word w t =
    shifted 1
    (bit_xor
    (bit_xor (bit_xor (slice_index w (t - 3)) (slice_index w (t - 8))) (slice_index w (t - 14)))
    (slice_index w (t - 16)))

-- and the sixteen words of a block with the n words after them
unfoldable pub schedule : List ℕ → ℕ → List ℕ
schedule w zero = w
schedule w (suc n) = schedule w n ++ (next_word (schedule w n) (16 + n) ∷ [])

-- step d: round t with its word
unfoldable pub round : ℕ → ℕ → State → State
round t w h =
    record {
      a = plus (plus (plus (plus (shifted 5 h.a) (f t h.b h.c h.d)) h.e) w) (k t);
      b = h.a;
      c = shifted 30 h.b;
      d = h.c;
      e = h.d;
    }

-- steps c and d: the rounds before round n
unfoldable pub rounds : List ℕ → ℕ → State → State
rounds w zero h = h
rounds w (suc n) h = round n (slice_index w n) (rounds w n h)

-- step e: the words of both states, added
unfoldable pub joined : State → State → State
joined g h =
    record {
      a = plus g.a h.a;
      b = plus g.b h.b;
      c = plus g.c h.c;
      d = plus g.d h.d;
      e = plus g.e h.e;
    }

-- one block
unfoldable pub compress : List ℕ → State → State
compress s h = joined h (rounds (schedule (words s 16) 64) 80 h)

-- the first n blocks of s
unfoldable pub absorb : List ℕ → ℕ → State → State
absorb s zero h = h
absorb s (suc n) h = compress (take 64 (drop (64 * n) s)) (absorb s n h)

-- the five words as bytes
unfoldable pub spelled : State → List ℕ
spelled h = bytes4 h.a ++ bytes4 h.b ++ bytes4 h.c ++ bytes4 h.d ++ bytes4 h.e

-- the whole blocks of s
abbrev pub blocks_of : List ℕ → ℕ
blocks_of s = length s / 64

-- the digest of a message
unfoldable pub sha1 : List ℕ → List ℕ
sha1 m = let p = m ++ padding (length m) in spelled (absorb p (blocks_of p) initial_state)
