-- `run::hold`: what there is room for is the front of what came.
use Rattle.std.proofs.Common.{◌∙◌}
use Rattle.lines.proofs.Held.{held_front}
use Rattle.lines.proofs.run.hold.Goals as goal

pub returns : goal.returns
returns c = c.in-Ok.ensures.ok ∙ held_front _ _ _ _ _ c.remaining_capacity.ensures c.min-n.ensures
