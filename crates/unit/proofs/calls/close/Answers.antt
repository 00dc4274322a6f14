-- `calls::close`: by the state.
use mathlib.Core.Path.{sym, ◌∙◌, ap}
use Rattle.unit.specs.Calls.{leaving, closed_in}
use Rattle.unit.proofs.calls.close.Goals as goal
use Rattle.std.specs.Prelude.{Ok}

pub returns-in-Barred : goal.returns-in-Barred
returns-in-Barred c = c.leave.ensures ∙ sym (ap (closed_in c.args.u) c.in-Barred.is)

pub returns-in-Idle : goal.returns-in-Idle
returns-in-Idle c = rw c.in-Idle.is (c.leave-in-Idle.ensures ∙ ap (leaving (Ok tt)) c.with_state.ensures)

pub returns-in-Sent : goal.returns-in-Sent
returns-in-Sent c = rw c.in-Sent.is (c.leave-in-Sent.ensures ∙ ap (leaving (Ok tt)) c.with_state-in-Sent.ensures)

pub returns-in-Replied : goal.returns-in-Replied
returns-in-Replied c = rw c.in-Replied.is (c.leave-in-Replied.ensures ∙ ap (leaving (Ok tt)) c.with_state-in-Replied.ensures)

pub returns-in-Spec : goal.returns-in-Spec
returns-in-Spec c = rw c.in-Spec.is (c.leave-in-Spec.ensures ∙ ap (leaving (Ok tt)) c.with_state-in-Spec.ensures)

pub returns-in-Opening : goal.returns-in-Opening
returns-in-Opening c = rw c.in-Opening.is (c.leave-in-Opening.ensures ∙ ap (leaving (Ok tt)) c.with_state-in-Opening.ensures)

pub returns-in-Open : goal.returns-in-Open
returns-in-Open c = rw c.in-Open.is (c.leave-in-Open.ensures ∙ ap (leaving (Ok tt)) c.with_state-in-Open.ensures)

pub returns-in-Closed : goal.returns-in-Closed
returns-in-Closed c = rw c.in-Closed.is (c.leave-in-Closed.ensures ∙ ap (leaving (Ok tt)) c.with_state-in-Closed.ensures)
