-- What the window answers of a number s where its highest is n, its marks m and its width w: each answer exactly when.
use mathlib.Core.Path.{◌≡◌}
use mathlib.Core.Bool.{true, false}
use Prim.Native.Nat.{ℕ, ◌+◌, ◌-◌, ◌*◌, ◌/◌, ◌%◌, ◌^◌, ◌≤◌, ◌<◌}
use lib.Dec.{eqb, leb}
use lib.Bits.{bit_and, and_mask}
use borrow.Author.Tests.{eq-eqb, ne_eqb, lt-ltb, le-ltb}
use Rattle.record.specs.Window.{accept_by, arrived_at}
use Rattle.record.specs.declared.window.NotNew.TheVariants.{TooOld, Repeated}
use Rattle.std.specs.Prelude.{Err}

module _ (w n m s : ℕ) where
  pub fresh_when : m ≡ 0 → accept_by w n m s ≡ arrived_at w s 1
  unfolding accept_by
  fresh_when e = rw (eq-eqb m 0 e)

  pub newer_when : (m ≡ 0 → ⊥) → n < s → accept_by w n m s ≡ arrived_at w s (m * 2 ^ (s - n) % 2 ^ w + 1)
  unfolding accept_by
  newer_when z l = rw (ne_eqb m 0 z, lt-ltb n s l)

  pub old_when : (m ≡ 0 → ⊥) → s ≤ n → leb (s + w) n ≡ true → accept_by w n m s ≡ Err TooOld
  unfolding accept_by
  old_when z l e = rw (ne_eqb m 0 z, le-ltb n s l, e)

  pub repeated_when : (m ≡ 0 → ⊥) → s ≤ n → leb (s + w) n ≡ false → eqb (m / 2 ^ (n - s) % 2) 1 ≡ true → accept_by w n m s ≡ Err Repeated
  unfolding accept_by
  repeated_when z l e f = rw (ne_eqb m 0 z, le-ltb n s l, e, f)

  pub older_when : (m ≡ 0 → ⊥) → s ≤ n → leb (s + w) n ≡ false → eqb (m / 2 ^ (n - s) % 2) 1 ≡ false → accept_by w n m s ≡ arrived_at w n (m + 2 ^ (n - s))
  unfolding accept_by
  older_when z l e f = rw (ne_eqb m 0 z, le-ltb n s l, e, f)

-- the lowest bit
pub masked_bit : (x : ℕ) → bit_and x 1 ≡ x % 2
masked_bit x = and_mask x 1
