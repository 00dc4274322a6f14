-- `protected::alerted`: by what the alert is, and by its level.
use mathlib.Core.Path.{sym, ◌∙◌, ap}
use Rattle.connection.specs.Protected.{alerted_by}
use Rattle.connection.specs.Step.{stepped_by}
use Rattle.connection.proofs.protected.alerted.Goals as goal

pub returns-in-None : goal.returns-in-None
unfolding alerted_by
returns-in-None c = rw (sym c.read.ensures ∙ c.in-None.is) (ap (stepped_by c.args.h) c.refuse.ensures)

pub returns-in-Warning : goal.returns-in-Warning
unfolding alerted_by
returns-in-Warning c = rw (sym c.read.ensures ∙ c.in-Some.is) (rw c.in-Warning.is (ap (stepped_by c.args.h) c.lead.ensures))

pub returns-in-Critical : goal.returns-in-Critical
unfolding alerted_by
returns-in-Critical c = rw (sym c.read.ensures ∙ c.in-Some.is) (rw c.in-Critical.is (ap (stepped_by c.args.h) c.lead-in-Critical.ensures))

pub returns-in-Fatal : goal.returns-in-Fatal
unfolding alerted_by
returns-in-Fatal c = rw (sym c.read.ensures ∙ c.in-Some.is) (rw c.in-Fatal.is (ap (stepped_by c.args.h) c.lead-in-Fatal.ensures))
