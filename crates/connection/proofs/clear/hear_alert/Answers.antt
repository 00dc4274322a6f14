-- `clear::hear_alert`: the alert, its checksum, its level.
use mathlib.Core.Path.{sym, ap, ◌∙◌}
use Rattle.digest.proofs.Picks.{pick_yes, pick_no}
use Rattle.connection.specs.Clear.{heard_alert}
use Rattle.connection.specs.Step.{stepped_by}
use Rattle.connection.specs.declared.answer.Judged.{Judged}
use Rattle.connection.proofs.clear.hear_alert.Goals as goal

pub returns-then-not-matches : goal.returns-then-not-matches
unfolding heard_alert
returns-then-not-matches c = rw (sym c.read.ensures ∙ c.in-Some.is) (pick_no Judged _ _ _ _ (sym c.matches.ensures ∙ c.if-not-matches.true) (ap (stepped_by c.args.h) c.refuse-then-not-matches.ensures))

pub returns-in-None : goal.returns-in-None
unfolding heard_alert
returns-in-None c = rw (sym c.read.ensures ∙ c.in-None.is) (ap (stepped_by c.args.h) c.refuse.ensures)

pub returns-in-Warning : goal.returns-in-Warning
unfolding heard_alert
returns-in-Warning c = rw (sym c.read.ensures ∙ c.in-Some.is) (rw c.in-Warning.is (pick_yes Judged _ _ _ _ (sym c.matches.ensures ∙ c.if-not-matches.false) (ap (stepped_by c.args.h) c.lead.ensures)))

pub returns-in-Critical : goal.returns-in-Critical
unfolding heard_alert
returns-in-Critical c = rw (sym c.read.ensures ∙ c.in-Some.is) (rw c.in-Critical.is (pick_yes Judged _ _ _ _ (sym c.matches.ensures ∙ c.if-not-matches.false) (ap (stepped_by c.args.h) c.lead-in-Critical.ensures)))

pub returns-in-Fatal : goal.returns-in-Fatal
unfolding heard_alert
returns-in-Fatal c = rw (sym c.read.ensures ∙ c.in-Some.is) (rw c.in-Fatal.is (pick_yes Judged _ _ _ _ (sym c.matches.ensures ∙ c.if-not-matches.false) (ap (stepped_by c.args.h) c.lead-in-Fatal.ensures)))
