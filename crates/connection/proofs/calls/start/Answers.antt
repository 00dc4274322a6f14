-- `calls::start`: by the state.
use mathlib.Core.Path.{◌∙◌, ap, sym}
use Rattle.connection.specs.Calls.{leaving, started_in}
use mathlib.Core.Path.{◌∙◌, ap}
use Rattle.connection.specs.Connection.{alone}
use Rattle.connection.proofs.calls.start.Goals as goal
use Rattle.std.specs.Prelude.{Ok}

pub returns-in-Barred : goal.returns-in-Barred
returns-in-Barred c = c.leave.ensures ∙ sym (ap (started_in c.args.c) c.in-Barred.is)

pub returns-in-Idle : goal.returns-in-Idle
returns-in-Idle c = c.leave-in-Idle.ensures ∙ sym (ap (started_in c.args.c) c.in-Idle.is)

pub returns-in-Replied : goal.returns-in-Replied
returns-in-Replied c = c.leave-in-Replied.ensures ∙ sym (ap (started_in c.args.c) c.in-Replied.is)

pub returns-in-Spec : goal.returns-in-Spec
returns-in-Spec c = c.leave-in-Spec.ensures ∙ sym (ap (started_in c.args.c) c.in-Spec.is)

pub returns-in-Open : goal.returns-in-Open
returns-in-Open c = c.leave-in-Open.ensures ∙ sym (ap (started_in c.args.c) c.in-Open.is)

pub returns-in-Closed : goal.returns-in-Closed
returns-in-Closed c = rw c.in-Closed.is (c.leave-in-Closed.ensures ∙ ap (leaving (Ok tt)) (c.alone.ensures ∙ ap alone c.reopened.ensures))
