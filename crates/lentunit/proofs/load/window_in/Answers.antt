-- `load::window_in`: the window in its part.
use mathlib.Core.Path.{◌∙◌, ap}
use native.Mathlib.Omega.{arith}
use Rattle.lent.specs.Saved.{window_of}
use Rattle.lent.proofs.Within.{bytes_stand}
use Rattle.lentunit.proofs.Parts.{window_parts}
use Rattle.lentunit.proofs.load.window_in.Goals as goal

pub returns : goal.returns
returns c = let b = c.args.b.now in
    c.window_in.ensures.exact ∙ ap window_of (c.bytes_within.ensures.exact ∙ bytes_stand b 161 11 (omega (arith, c.requires))) ∙ window_parts b
