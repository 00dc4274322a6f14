-- What 02, P11 says of the lists, of the exported call.
use mathlib.Core.Path.{◌≡◌, refl, sym, ◌∙◌, ap}
use mathlib.Core.Bool.{Bool, true, false}
use mathlib.Core.Logic.{◌⊎◌, inl, inr}
use mathlib.Core.List.{List}
use Prim.Native.Nat.{ℕ, ◌<◌, ◌≤◌}
use native.Mathlib.Omega.{arith}
use lib.ListN.{length}
use lib.Dec.{ltb}
use borrow.Author.Tests.{le-ltb}
use Rattle.digest.specs.Pick.{pick}
use Rattle.digest.proofs.Picks.{pick_no}
use Rattle.digest.proofs.Editions.{unknown_edition, unlisted_above}
use Rattle.std.specs.Prelude.{Some}
use Rattle.lent.specs.Calls.{result_of, not_taken}
use Rattle.lent.specs.Macs.{sizes_count, key_part, code_part, named_result, named_out, mac_result, mac_out}

-- The sizes can be taken out of the count again.
pub sizes_back : (key code : ℕ) → key < 128 → code < 256
    → (key_part (sizes_count (Some (record { key = key; code = code }))) ≡ key) × (code_part (sizes_count (Some (record { key = key; code = code }))) ≡ code)
sizes_back key code k c = (omega arith, omega arith)

-- "an unknown edition is 16", and no byte changes.
pub unknown_is_16 : (edition n : ℕ) (out : List ℕ) → (edition ≡ 1 → ⊥) → (edition ≡ 2 → ⊥)
    → (mac_result edition n (length out) ≡ not_taken) × (mac_out edition n out ≡ out)
unfolding mac_result mac_out
unknown_is_16 edition n out not1 not2 =
    let unknown = unknown_edition edition n not1 not2 in (
      same (ltb 255 edition) refl (same (ltb 255 n) refl (sym (ap (λ m. named_result m (length out)) unknown))),
      same (ltb 255 edition) refl (same (ltb 255 n) refl (sym (ap (λ m. named_out m out) unknown))),
    )
  where
    same : {A : Type 0} {x y z : A} (b : Bool) → x ≡ z → y ≡ z → pick b x y ≡ z
    same true e f = e
    same false e f = f

-- "an unlisted number has no name": done, and nothing written.
pub unlisted_is : (edition n : ℕ) (out : List ℕ) → (edition ≡ 1) ⊎ (edition ≡ 2) → 8 ≤ n → n ≤ 255 → 10 ≤ length out
    → mac_result edition n (length out) ≡ result_of 0 0 0
unfolding mac_result
unlisted_is edition n out known above byte room =
    sym (pick_no ℕ (result_of 0 0 0) not_taken _ (ltb 255 edition) (le-ltb 255 edition (small known))
    (pick_no ℕ (result_of 0 0 0) not_taken _ (ltb 255 n) (le-ltb 255 n byte)
    (pick_no ℕ (result_of 0 0 0) _ (result_of 0 0 0) (ltb (length out) 10) (le-ltb (length out) 10 room) refl
    ∙ sym (ap (λ m. named_result m (length out)) (unlisted_above edition n known above)))))
  where
    small : (edition ≡ 1) ⊎ (edition ≡ 2) → edition ≤ 255
    small (inl e) = omega arith
    small (inr e) = omega arith
