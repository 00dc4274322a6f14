-- `opening::limit_of`: the highest less the width.
use mathlib.Core.Path.{◌∙◌, ap}
use Prim.Native.Nat.{◌-◌}
use Rattle.why.specs.Opening.{limit_of}
use Rattle.why.proofs.opening.limit_of.Goals as goal

pub returns : goal.returns
unfolding limit_of
returns c = c.below.ensures ∙ ap (λ x. c.args.w.highest - x) c.held.ensures
