-- `judge::step_by`: by the rule.
use Rattle.unit.specs.Judge.{step_by}
use Rattle.unit.proofs.judge.step_by.Goals as goal

pub returns-in-Ended : goal.returns-in-Ended
unfolding step_by
returns-in-Ended c = rw c.in-Ended.is c.refuse.ensures

pub returns-in-NotAllowed : goal.returns-in-NotAllowed
unfolding step_by
returns-in-NotAllowed c = rw c.in-NotAllowed.is c.refuse-in-NotAllowed.ensures

pub returns-in-Agree : goal.returns-in-Agree
unfolding step_by
returns-in-Agree c = rw c.in-Agree.is c.refuse-in-Agree.ensures

pub returns-in-Request : goal.returns-in-Request
unfolding step_by
returns-in-Request c = rw c.in-Request.is c.request.ensures

pub returns-in-Change : goal.returns-in-Change
unfolding step_by
returns-in-Change c = rw c.in-Change.is c.change.ensures

pub returns-in-Hear : goal.returns-in-Hear
unfolding step_by
returns-in-Hear c = rw c.in-Hear.is c.hear_alert.ensures

pub returns-in-Unprotect : goal.returns-in-Unprotect
unfolding step_by
returns-in-Unprotect c = rw c.in-Unprotect.is c.unprotect.ensures
