-- `load::unit_in`: group by group.
use mathlib.Core.Path.{◌∙◌, ap₂}
use native.Mathlib.Omega.{arith}
use Rattle.lent.specs.Saved.{protection_of}
use Rattle.lent.proofs.Within.{bytes_stand, sent_stands}
use Rattle.lentunit.specs.Saved.{unit_in}
use Rattle.lentunit.proofs.Parts.{protection_parts}
use Rattle.lentunit.proofs.load.unit_in.Goals as goal

pub returns : goal.returns
unfolding unit_in
returns c = let b = c.args.b.now in
    λ i. record {
      state = c.state_numbered.ensures i;
      id = (c.bytes_within.ensures.exact ∙ bytes_stand b 41 8 (omega (arith, c.requires))) i;
      offer = c.offer_in.ensures i;
      expected = (c.bytes_within-2.ensures.exact ∙ bytes_stand b 103 12 (omega (arith, c.requires))) i;
      flight = (c.bytes_within-3.ensures.exact ∙ bytes_stand b 117 44 (omega (arith, c.requires))) i;
      sent = (c.sent_within.ensures.exact ∙ sent_stands b (omega (arith, c.requires))) i;
      protection =
          (c.protection_in.ensures.exact
          ∙ ap₂ protection_of (c.bytes_within-4.ensures.exact ∙ bytes_stand b 49 54 (omega (arith, c.requires))) (c.bytes_within-5.ensures.exact ∙ bytes_stand b 161 19 (omega (arith, c.requires)))
          ∙ protection_parts b) i;
    }
