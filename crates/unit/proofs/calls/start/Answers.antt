-- `calls::start`: by the state.
use mathlib.Core.Path.{sym, ◌∙◌, ap}
use Rattle.unit.specs.Calls.{leaving, started_in}
use Rattle.unit.proofs.calls.start.Goals as goal
use Rattle.std.specs.Prelude.{Ok}

pub returns-in-Barred : goal.returns-in-Barred
returns-in-Barred c = c.leave.ensures ∙ sym (ap (started_in c.args.u) c.in-Barred.is)

pub returns-in-Idle : goal.returns-in-Idle
returns-in-Idle c = c.leave-in-Idle.ensures ∙ sym (ap (started_in c.args.u) c.in-Idle.is)

pub returns-in-Sent : goal.returns-in-Sent
returns-in-Sent c = c.leave-in-Sent.ensures ∙ sym (ap (started_in c.args.u) c.in-Sent.is)

pub returns-in-Replied : goal.returns-in-Replied
returns-in-Replied c = c.leave-in-Replied.ensures ∙ sym (ap (started_in c.args.u) c.in-Replied.is)

pub returns-in-Spec : goal.returns-in-Spec
returns-in-Spec c = c.leave-in-Spec.ensures ∙ sym (ap (started_in c.args.u) c.in-Spec.is)

pub returns-in-Opening : goal.returns-in-Opening
returns-in-Opening c = c.leave-in-Opening.ensures ∙ sym (ap (started_in c.args.u) c.in-Opening.is)

pub returns-in-Open : goal.returns-in-Open
returns-in-Open c = c.leave-in-Open.ensures ∙ sym (ap (started_in c.args.u) c.in-Open.is)

pub returns-in-Closed : goal.returns-in-Closed
returns-in-Closed c = rw c.in-Closed.is (c.leave-in-Closed.ensures ∙ ap (leaving (Ok tt)) c.reopened.ensures)
