-- `counts::tally_in`: four numbers.
use mathlib.Core.Path.{◌∙◌}
use native.Mathlib.Omega.{arith}
use Rattle.lent.specs.Counts.{tally_in}
use Rattle.lent.proofs.Within.{four_stands}
use Rattle.lent.proofs.counts.tally_in.Goals as goal

pub returns : goal.returns
unfolding tally_in
returns c = let b = c.args.b.now in
    λ i. record {
      handed = (c.four_within.ensures.exact ∙ four_stands b 0 (omega (arith, c.requires))) i;
      forged = (c.four_within-2.ensures.exact ∙ four_stands b 4 (omega (arith, c.requires))) i;
      old = (c.four_within-3.ensures.exact ∙ four_stands b 8 (omega (arith, c.requires))) i;
      repeated = (c.four_within-4.ensures.exact ∙ four_stands b 12 (omega (arith, c.requires))) i;
    }
