-- What is held of a line is the front of all that came of it, and words are equal byte by byte. Assumes nothing.
use Rattle.std.proofs.Common.{◌≡◌, ℕ, ◌+◌, List, [], ◌∷◌, ◌++◌, ◌&&◌, length, take, min, refl, sym, ◌∙◌, ap, arith, eqb}
use Rattle.std.proofs.lemmas.List.{take_min}
use Rattle.std.proofs.Math.Seq.{take-append-add}
use lib.Pointwise.{pointwise}
use Rattle.digest.specs.Mac.{same_bytes}

pub held_front : (most left n : ℕ) (held part : List ℕ) → left + length held ≡ most → n ≡ min left (length part)
    → held ++ take n part ≡ take most (held ++ part)
held_front most left n held part room e =
    let whole : most ≡ length held + left = omega arith in
    ap (λ k. held ++ take k part) e
    ∙ ap (λ t. held ++ t) (take_min left part)
    ∙ sym (ap (λ k. take k (held ++ part)) whole ∙ take-append-add held part left)

pub pointwise-same_bytes : (s t : List ℕ) → pointwise eqb s t ≡ same_bytes s t
unfolding same_bytes
pointwise-same_bytes [] [] = refl
pointwise-same_bytes [] (y ∷ t) = refl
pointwise-same_bytes (x ∷ s) [] = refl
pointwise-same_bytes (x ∷ s) (y ∷ t) = ap (λ b. eqb x y && b) (pointwise-same_bytes s t)
