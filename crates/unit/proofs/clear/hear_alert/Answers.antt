-- `clear::hear_alert`: the alert, its checksum, its level.
use mathlib.Core.Path.{sym}
use Rattle.unit.specs.Clear.{heard_alert}
use Rattle.unit.proofs.clear.hear_alert.Goals as goal

pub returns-then-not-matches : goal.returns-then-not-matches
unfolding heard_alert
returns-then-not-matches c = rw (sym c.read.ensures, c.in-Some.is, sym c.matches.ensures, c.if-not-matches.true) c.refuse-then-not-matches.ensures

pub returns-in-None : goal.returns-in-None
unfolding heard_alert
returns-in-None c = rw (sym c.read.ensures, c.in-None.is) c.refuse.ensures

pub returns-in-Warning : goal.returns-in-Warning
unfolding heard_alert
returns-in-Warning c = rw (sym c.read.ensures, c.in-Some.is, sym c.matches.ensures, c.if-not-matches.false, c.in-Warning.is) c.lead.ensures

pub returns-in-Critical : goal.returns-in-Critical
unfolding heard_alert
returns-in-Critical c = rw (sym c.read.ensures, c.in-Some.is, sym c.matches.ensures, c.if-not-matches.false, c.in-Critical.is) c.lead-in-Critical.ensures

pub returns-in-Fatal : goal.returns-in-Fatal
unfolding heard_alert
returns-in-Fatal c = rw (sym c.read.ensures, c.in-Some.is, sym c.matches.ensures, c.if-not-matches.false, c.in-Fatal.is) c.lead-in-Fatal.ensures
