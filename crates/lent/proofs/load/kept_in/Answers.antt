-- `load::kept_in`: each field at its place.
use mathlib.Core.Path.{◌∙◌}
use native.Mathlib.Omega.{arith}
use Rattle.lent.specs.Saved.{kept_in}
use Rattle.lent.proofs.Within.{bytes_stand, eight_stands}
use Rattle.lent.proofs.load.kept_in.Goals as goal

pub returns : goal.returns
unfolding kept_in
returns c = let s = c.args.s.now in
    λ i. record {
      hello = (c.bytes_within.ensures.exact ∙ bytes_stand s 75 256 (omega (arith, c.requires))) i;
      heard = (c.eight_within.ensures.exact ∙ eight_stands s 331 (omega (arith, c.requires))) i;
      reply = (c.bytes_within-2.ensures.exact ∙ bytes_stand s 339 84 (omega (arith, c.requires))) i;
      size = (c.eight_within-2.ensures.exact ∙ eight_stands s 423 (omega (arith, c.requires))) i;
    }
