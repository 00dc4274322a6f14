-- `said::named`: slices are compared byte by byte.
use Rattle.std.proofs.Common.{◌∙◌, ap}
use Rattle.digest.specs.Mac.{same_bytes}
use Rattle.lines.proofs.Held.{pointwise-same_bytes}
use Rattle.lines.proofs.said.named.Goals as goal

pub returns : goal.returns
returns c = c.eq.ensures ∙ pointwise-same_bytes _ _ ∙ ap (λ w. same_bytes w c.args.name.now) c.word.ensures
