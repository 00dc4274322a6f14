-- `load::sent_in`: word by word.
use mathlib.Core.Path.{◌∙◌}
use mathlib.Core.List.{[], ◌∷◌}
use native.Mathlib.Omega.{arith}
use Rattle.lent.specs.Saved.{sent_in}
use Rattle.lent.proofs.Within.{four_stands}
use Rattle.lent.proofs.load.sent_in.Goals as goal

pub returns : goal.returns
unfolding sent_in
returns c = let b = c.args.b.now in
    λ i. record {
      count = (c.four_within-count.ensures.exact ∙ four_stands b 4 (omega (arith, c.requires))) i;
      checksums =
          (c.four_within.ensures.exact ∙ four_stands b 8 (omega (arith, c.requires))) i
          ∷ (c.four_within-2.ensures.exact ∙ four_stands b 12 (omega (arith, c.requires))) i
          ∷ (c.four_within-3.ensures.exact ∙ four_stands b 16 (omega (arith, c.requires))) i
          ∷ (c.four_within-4.ensures.exact ∙ four_stands b 20 (omega (arith, c.requires))) i
          ∷ (c.four_within-5.ensures.exact ∙ four_stands b 24 (omega (arith, c.requires))) i
          ∷ (c.four_within-6.ensures.exact ∙ four_stands b 28 (omega (arith, c.requires))) i
          ∷ (c.four_within-7.ensures.exact ∙ four_stands b 32 (omega (arith, c.requires))) i
          ∷ (c.four_within-8.ensures.exact ∙ four_stands b 36 (omega (arith, c.requires))) i ∷ [];
    }
