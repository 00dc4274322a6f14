-- `load::handshake_in`: group by group.
use mathlib.Core.Path.{◌∙◌, ap₂}
use native.Mathlib.Omega.{arith}
use Rattle.lent.specs.Saved.{handshake_in, protection_of}
use Rattle.lent.proofs.PartsOf.{protection_parts}
use Rattle.lent.proofs.Within.{bytes_stand}
use Rattle.lent.proofs.load.handshake_in.Goals as goal

pub returns : goal.returns
unfolding handshake_in
returns c = let s = c.args.s.now in
    λ i. record {
      state = c.state_numbered.ensures i;
      id = (c.bytes_within.ensures.exact ∙ bytes_stand s 1 8 (omega (arith, c.requires))) i;
      expected = (c.bytes_within-2.ensures.exact ∙ bytes_stand s 63 12 (omega (arith, c.requires))) i;
      kept = c.kept_in.ensures i;
      protection =
          (c.protection_in.ensures.exact
          ∙ ap₂ protection_of (c.bytes_within-3.ensures.exact ∙ bytes_stand s 9 54 (omega (arith, c.requires))) (c.bytes_within-4.ensures.exact ∙ bytes_stand s 431 19 (omega (arith, c.requires)))
          ∙ protection_parts s) i;
    }
