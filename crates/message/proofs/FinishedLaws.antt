-- A Finished message of twelve bytes is judged right against these, and against them alone.
use mathlib.Core.Path.{◌≡◌, refl, sym, ◌∙◌, ap}
use mathlib.Core.List.{List}
use mathlib.Core.Bool.{Bool, true, false}
use Prim.Native.Nat.{ℕ}
use native.Mathlib.Omega.{arith}
use lib.ListN.{length}
use lib.Seq.{take_all}
use native.Mathlib.Nat.{le_of_eq}
use borrow.Author.Tests.{eq-eqb}
use Rattle.digest.specs.Mac.{same_bytes}
use Rattle.message.specs.Field.{part_of}
use Rattle.message.specs.Handshake.{fills, finished}
use Rattle.message.specs.Finished.{finished_of, judged_of, verified_number}
use Rattle.message.specs.declared.finished.Unverified.TheVariants.{Wrong}
use Rattle.digest.specs.Pick.{pick}
use Rattle.digest.proofs.Same.{same_self, same_equal, differ_same}
use Rattle.message.proofs.Written.{fills_of}
use Rattle.std.specs.Prelude.{Err, Ok, Result, ⊤}
use Rattle.message.specs.declared.finished.Unverified.{Unverified}

module _ (v : List ℕ) (e : length v ≡ 12) where
  pub finished_size : length (finished_of v) ≡ 15
  finished_size = omega arith

  pub finished_part : part_of (finished_of v) 3 15 ≡ v
  finished_part = take_all 12 v (le_of_eq e)

  pub finished_fills : fills finished (finished_of v) ≡ true
  finished_fills =
      fills_of finished (finished_of v) (record { long_enough = omega arith; type = refl; size = omega arith })

  pub finished_judged : (w : List ℕ) → judged_of (finished_of v) w ≡ pick (same_bytes v w) (Ok tt) (Err Wrong)
  unfolding judged_of
  finished_judged w = rw (eq-eqb (length (finished_of v)) 15 finished_size, finished_fills, finished_part) refl

pub finished_right : (v : List ℕ) → length v ≡ 12 → judged_of (finished_of v) v ≡ Ok tt
finished_right v e = finished_judged v e v ∙ rw (same_self v) refl

pub finished_alone : (v w : List ℕ) → length v ≡ 12 → judged_of (finished_of v) w ≡ Ok tt → v ≡ w
finished_alone v w e h = go (same_bytes v w) refl (sym (finished_judged v e w) ∙ h)
  where
    go : (b : Bool) → same_bytes v w ≡ b → ◌≡◌ {A = Result ⊤ Unverified} (pick b (Ok tt) (Err Wrong)) (Ok tt) → v ≡ w
    go true k z = same_equal v w k
    go false k z = let y : ◌≡◌ {A = ℕ} 0 1 = cc in absurd (omega arith)

-- the refusal numbers of the two
pub right_number : (v : List ℕ) → length v ≡ 12 → verified_number (judged_of (finished_of v) v) ≡ 0
right_number v e = ap verified_number (finished_right v e)

pub wrong_number : (v w : List ℕ) → length v ≡ 12 → (v ≡ w → ⊥) → verified_number (judged_of (finished_of v) w) ≡ 17
wrong_number v w e h = ap verified_number (finished_judged v e w) ∙ rw (differ_same v w h) refl
