-- `protected::alerted`: by what the alert is, and by its level.
use mathlib.Core.Path.{sym, ◌∙◌, ap}
use Rattle.unit.specs.Step.{step}
use Rattle.unit.specs.Protected.{alerted_by}
use Rattle.unit.specs.declared.answer.Answer.TheVariants as W
use Rattle.unit.proofs.protected.alerted.Goals as goal

pub returns-in-None : goal.returns-in-None
unfolding alerted_by
returns-in-None c = rw (sym c.read.ensures, c.in-None.is) c.refuse.ensures

pub returns-in-Warning : goal.returns-in-Warning
unfolding alerted_by
returns-in-Warning c = rw (sym c.read.ensures, c.in-Some.is, c.in-Warning.is) (c.lead.ensures ∙ ap (step (W.Warning c.in-Some.a.description) c.args.window) c.warned.ensures)

pub returns-in-Critical : goal.returns-in-Critical
unfolding alerted_by
returns-in-Critical c = rw (sym c.read.ensures, c.in-Some.is, c.in-Critical.is) c.lead-in-Critical.ensures

pub returns-in-Fatal : goal.returns-in-Fatal
unfolding alerted_by
returns-in-Fatal c = rw (sym c.read.ensures, c.in-Some.is, c.in-Fatal.is) c.lead-in-Fatal.ensures
