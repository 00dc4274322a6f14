-- `has_lost`: what the field says.
use mathlib.Core.Path.{refl}
use Rattle.lines.proofs.output.Output.has_lost.Goals as goal

pub returns : goal.returns
returns g c = refl
