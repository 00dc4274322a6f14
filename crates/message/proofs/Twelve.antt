-- Twelve bytes, written out one by one.
use mathlib.Core.Path.{◌≡◌, ◌∙◌, ap}
use mathlib.Core.List.{List, [], ◌∷◌}
use Prim.Native.Nat.{ℕ, ◌≤◌}
use native.Mathlib.Omega.{arith}
use lib.ListN.{length, get_or, drop, drop_of_length-le}
use Rattle.message.proofs.Rests.{byte_piece}

pub twelve : (l : List ℕ) → length l ≡ 12
    → l ≡ get_or l 0 0 ∷ get_or l 1 0 ∷ get_or l 2 0 ∷ get_or l 3 0 ∷ get_or l 4 0 ∷ get_or l 5 0 ∷ get_or l 6 0 ∷ get_or l 7 0 ∷ get_or l 8 0 ∷ get_or l 9 0 ∷ get_or l 10 0 ∷ get_or l 11 0 ∷ []
twelve l h =
    let k : length l ≤ 12 = omega arith in
    let ends : drop 12 l ≡ [] = drop_of_length-le l k in
    byte_piece l 0 (omega arith) ∙ ap (λ (t : List ℕ). get_or l 0 0 ∷ t)
    (byte_piece l 1 (omega arith) ∙ ap (λ (t : List ℕ). get_or l 1 0 ∷ t)
    (byte_piece l 2 (omega arith) ∙ ap (λ (t : List ℕ). get_or l 2 0 ∷ t)
    (byte_piece l 3 (omega arith) ∙ ap (λ (t : List ℕ). get_or l 3 0 ∷ t)
    (byte_piece l 4 (omega arith) ∙ ap (λ (t : List ℕ). get_or l 4 0 ∷ t)
    (byte_piece l 5 (omega arith) ∙ ap (λ (t : List ℕ). get_or l 5 0 ∷ t)
    (byte_piece l 6 (omega arith) ∙ ap (λ (t : List ℕ). get_or l 6 0 ∷ t)
    (byte_piece l 7 (omega arith) ∙ ap (λ (t : List ℕ). get_or l 7 0 ∷ t)
    (byte_piece l 8 (omega arith) ∙ ap (λ (t : List ℕ). get_or l 8 0 ∷ t)
    (byte_piece l 9 (omega arith) ∙ ap (λ (t : List ℕ). get_or l 9 0 ∷ t)
    (byte_piece l 10 (omega arith) ∙ ap (λ (t : List ℕ). get_or l 10 0 ∷ t)
    (byte_piece l 11 (omega arith) ∙ ap (λ (t : List ℕ). get_or l 11 0 ∷ t)
    (ends))))))))))))
