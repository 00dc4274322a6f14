-- `calls::close`: by the state.
use mathlib.Core.Path.{◌∙◌, ap, sym}
use Rattle.connection.specs.Calls.{leaving, closed_in}
use mathlib.Core.Path.{◌∙◌, ap}
use Rattle.connection.specs.Calls.{leaving}
use Rattle.connection.proofs.calls.close.Goals as goal
use Rattle.std.specs.Prelude.{Ok}

pub returns-in-Barred : goal.returns-in-Barred
returns-in-Barred c = c.leave.ensures ∙ sym (ap (closed_in c.args.c) c.in-Barred.is)

pub returns-in-Idle : goal.returns-in-Idle
returns-in-Idle c = rw c.in-Idle.is (c.leave-in-Idle.ensures ∙ ap (leaving (Ok tt)) c.ended.ensures)

pub returns-in-Replied : goal.returns-in-Replied
returns-in-Replied c = rw c.in-Replied.is (c.leave-in-Replied.ensures ∙ ap (leaving (Ok tt)) c.ended-in-Replied.ensures)

pub returns-in-Spec : goal.returns-in-Spec
returns-in-Spec c = rw c.in-Spec.is (c.leave-in-Spec.ensures ∙ ap (leaving (Ok tt)) c.ended-in-Spec.ensures)

pub returns-in-Open : goal.returns-in-Open
returns-in-Open c = rw c.in-Open.is (c.leave-in-Open.ensures ∙ ap (leaving (Ok tt)) c.ended-in-Open.ensures)

pub returns-in-Closed : goal.returns-in-Closed
returns-in-Closed c = rw c.in-Closed.is (c.leave-in-Closed.ensures ∙ ap (leaving (Ok tt)) c.ended-in-Closed.ensures)
