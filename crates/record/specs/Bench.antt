-- The laws of the test bench (02, P12): "The bench joins and reorders traffic."
use Rattle.std.specs.Prelude.{◌≡◌, List, [], ◌∷◌, ◌++◌, ℕ, ◌+◌, ◌%◌, ◌^◌, length, Err, Ok}
use Rattle.record.specs.Checksum.{checksum_of, xor_with}
use Rattle.record.specs.Mask.{mask_of}
use Rattle.record.specs.Window.{window_width, fresh_window, arrived_at, accept_of}
use Rattle.record.specs.declared.window.Window.{Window}
use Rattle.record.specs.declared.window.NotNew.TheVariants.{TooOld}

-- "The checksum of two stretches joined is the XOR of their checksums, provided that the first has a length divisible by four."
abbrev pub Joined : Type 0
Joined = (s t : List ℕ) → length s % 4 ≡ 0 → checksum_of (s ++ t) ≡ xor_with (checksum_of s) (checksum_of t)

-- the proviso is needed: 01 joined to 01 has 01 01 00 00, and the XOR is nothing
abbrev pub Apart : Type 0
Apart = checksum_of ((1 ∷ []) ++ (1 ∷ [])) ≡ xor_with (checksum_of (1 ∷ [])) (checksum_of (1 ∷ [])) → ⊥

-- "Masking an initial vector by a record number (11.2) twice gives it back."
abbrev pub Unmasked : Type 0
Unmasked = (iv : List ℕ) (number : ℕ) → mask_of (mask_of iv number) number ≡ iv

-- number 0x1234 over three bytes, and over none
abbrev pub MaskedOdd : Type 0
MaskedOdd = (mask_of (0x01 ∷ 0x02 ∷ 0x03 ∷ []) 0x1234 ≡ 0x13 ∷ 0x36 ∷ 0x11 ∷ []) × (mask_of [] 0x1234 ≡ [])

-- "Two different numbers that are both accepted in either order leave the same window": a and then b leave `ab`, b and then
-- a leave `ba`; for every value of a window, whatever its width and its marks. (i, j, k, l are the counts that come with an
-- acceptance. That a and b differ need not be asked: of two equal numbers the second is not accepted.)
abbrev pub Swapped : Type 0
Swapped =
    (w : Window) (a b : ℕ) (wa ab wb ba : Window) (i j k l : ℕ)
    → accept_of w a ≡ Ok (wa, i)
    → accept_of wa b ≡ Ok (ab, j)
    → accept_of w b ≡ Ok (wb, k)
    → accept_of wb a ≡ Ok (ba, l)
    → ab ≡ ba

-- such numbers there are, and the marks are cut for both: of width 40, with 0 accepted, 30 and 60
abbrev pub EitherOrder : Type 0
EitherOrder =
    (accept_of record { width = 40; highest = 0; marks = 1 } 30 ≡ arrived_at 40 30 (1 + 2 ^ 30))
    × (accept_of record { width = 40; highest = 30; marks = 1 + 2 ^ 30 } 60 ≡ arrived_at 40 60 (1 + 2 ^ 30))
    × (accept_of record { width = 40; highest = 0; marks = 1 } 60 ≡ arrived_at 40 60 1)
    × (accept_of record { width = 40; highest = 60; marks = 1 } 30 ≡ arrived_at 40 60 (1 + 2 ^ 30))

-- one order does not give the other: at a fresh window 0 and then 32 are both accepted, but after 32 number 0 is too old
abbrev pub OneOrder : Type 0
OneOrder =
    (accept_of (fresh_window window_width) 0 ≡ arrived_at window_width 0 1)
    × (accept_of record { width = window_width; highest = 0; marks = 1 } 32 ≡ arrived_at window_width 32 1)
    × (accept_of (fresh_window window_width) 32 ≡ arrived_at window_width 32 1)
    × (accept_of record { width = window_width; highest = 32; marks = 1 } 0 ≡ Err TooOld)

pub record BenchLaws : Type 0 where
  pub joined : Joined
  pub unmasked : Unmasked
  pub swapped : Swapped
  pub apart : Apart
  pub masked_odd : MaskedOdd
  pub either_order : EitherOrder
  pub one_order : OneOrder
