-- `judge::ruled`: a ServerHello in its place, or a step.
use mathlib.Core.Path.{sym, ◌∙◌, ap}
use Rattle.unit.specs.Judge.{ruled_by, stepped_by}
use Rattle.unit.proofs.judge.ruled.Goals as goal

pub returns-then-agrees : goal.returns-then-agrees
unfolding ruled_by
returns-then-agrees c = rw (sym c.agrees.ensures, c.if-agrees.true) c.agree.ensures

pub returns : goal.returns
unfolding ruled_by
returns c = rw (sym c.agrees.ensures, c.if-agrees.false) (c.stepped.ensures ∙ ap (stepped_by c.args.u) c.step_by.ensures)
