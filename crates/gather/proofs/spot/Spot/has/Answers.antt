-- `has`: the bytes of the place, compared.
use mathlib.Core.Path.{ap, ◌∙◌}
use Rattle.digest.specs.Mac.{same_bytes}
use Rattle.gather.proofs.spot.Spot.has.Goals as goal

pub returns : goal.returns
returns c = c.same_code.ensures.exact ∙ ap (λ q. same_bytes q c.args.part.now) c.kept.ensures
