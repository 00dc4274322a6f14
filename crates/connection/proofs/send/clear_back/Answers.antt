-- `send::clear_back`: by the state of the open handshake or the only one.
use mathlib.Core.Path.{sym, ap}
use Rattle.connection.specs.Send.{clear_back}
use Rattle.connection.proofs.send.clear_back.Goals as goal

pub returns-in-Idle : goal.returns-in-Idle
returns-in-Idle c = sym (ap (clear_back c.args.c c.args.after c.args.sent) c.in-Idle.is)

pub returns-in-Replied : goal.returns-in-Replied
returns-in-Replied c = sym (ap (clear_back c.args.c c.args.after c.args.sent) c.in-Replied.is)

pub returns-in-Spec : goal.returns-in-Spec
returns-in-Spec c = sym (ap (clear_back c.args.c c.args.after c.args.sent) c.in-Spec.is)

pub returns-in-Open : goal.returns-in-Open
returns-in-Open c = sym (ap (clear_back c.args.c c.args.after c.args.sent) c.in-Open.is)

pub returns-in-Closed : goal.returns-in-Closed
returns-in-Closed c = sym (ap (clear_back c.args.c c.args.after c.args.sent) c.in-Closed.is)

pub returns-in-Barred : goal.returns-in-Barred
returns-in-Barred c = sym (ap (clear_back c.args.c c.args.after c.args.sent) c.in-Barred.is)
