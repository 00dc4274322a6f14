-- `judge::stepped`: the answer, and the unit that the step leaves.
use mathlib.Core.Path.{◌∙◌, ap}
use Rattle.unit.specs.Agree.{judged}
use Rattle.unit.proofs.judge.stepped.Goals as goal

pub returns : goal.returns
returns c = c.judge_as.ensures ∙ ap (judged c.args.step.answer) c.left_by.ensures
