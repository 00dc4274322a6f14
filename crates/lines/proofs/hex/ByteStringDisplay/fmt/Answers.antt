-- `hex::ByteString` shown: `-` for none.
use Rattle.std.proofs.Common.{◌≡◌, ◌∷◌, [], ℕ, ◌<◌, List, length, refl, arith}
use Rattle.std.proofs.Output.{has_written_of_eq}
use Rattle.lines.specs.Shown.{string_of}
use Rattle.lines.proofs.hex.ByteStringDisplay.fmt.Goals as goal

none : (s : List ℕ) → length s < 1 → 45 ∷ [] ≡ string_of s
none [] h = refl
none (b ∷ s) h = absurd (omega (arith, h))

pub returns-in-empty-clause-writes : goal.returns-in-empty-clause-writes
returns-in-empty-clause-writes g c p ok =
    has_written_of_eq _ _ _ _ _ (none _ c.in-empty.len_below) (c.write.ensures.writes p ok)
