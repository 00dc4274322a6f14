-- `write_protected`: the size counts.
use mathlib.Core.Path.{ap, ◌∙◌}
use Rattle.std.specs.Prelude.{unwrap_or}
use Rattle.record.proofs.Fronts.{count_within}
use Rattle.record.proofs.code.write_protected.Goals as goal

pub returns-clause-count : goal.returns-clause-count
returns-clause-count c =
    c.unwrap_or.ensures ∙ ap (λ r. unwrap_or r 0) c.write_coded.ensures.size ∙ count_within c.args.out.now _
