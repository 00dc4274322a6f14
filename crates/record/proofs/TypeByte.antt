-- The type byte's bits stand apart: joined by `|` they add up.
use mathlib.Core.Path.{◌≡◌}
use mathlib.Core.Bool.{Bool, true, false}
use Prim.Native.Nat.{ℕ, ◌+◌, ◌*◌, ◌/◌, ◌%◌, ◌^◌}
use native.Mathlib.Nat.{mod-lt}
use lib.Bits.{bit_and, bit_or, and_mask, or_shifted}
use lib.Dec.{eqb, lit<}
use mir.Val.{bool_byte}
use Rattle.record.specs.Header.{kind_of, weight}

-- four bits above and four below
low : (k n : ℕ) → bit_or (k * 16) (bit_and n 15) ≡ k * 16 + n % 16
low k n = rw (and_mask n 4) (or_shifted k 4 (n % 2 ^ 4) (mod-lt n (lit< tt)))

pub joined : (a b c d : Bool) (n : ℕ) → bit_or (bit_or (bit_or (bit_or (bool_byte a * 128 % 256) (bool_byte b * 64 % 256)) (bool_byte c * 32 % 256)) (bool_byte d * 16 % 256)) (bit_and n 15) ≡ weight 0 a + weight 1 b + weight 2 c + weight 3 d + n % 16
joined false false false false n = low 0 n
joined false false false true n = low 1 n
joined false false true false n = low 2 n
joined false false true true n = low 3 n
joined false true false false n = low 4 n
joined false true false true n = low 5 n
joined false true true false n = low 6 n
joined false true true true n = low 7 n
joined true false false false n = low 8 n
joined true false false true n = low 9 n
joined true false true false n = low 10 n
joined true false true true n = low 11 n
joined true true false false n = low 12 n
joined true true false true n = low 13 n
joined true true true false n = low 14 n
joined true true true true n = low 15 n

-- and each is taken off by a shift and a mask
pub parted : (b : ℕ) → record { long = eqb (bit_and (b / 128) 1) 1; numbered = eqb (bit_and (b / 64) 1) 1; protected = eqb (bit_and (b / 32) 1) 1; reserved = eqb (bit_and (b / 16) 1) 1; content = bit_and b 15 } ≡ kind_of b
unfolding kind_of
parted b = simp (and_mask (b / 128) 1, and_mask (b / 64) 1, and_mask (b / 32) 1, and_mask (b / 16) 1, and_mask b 4)
