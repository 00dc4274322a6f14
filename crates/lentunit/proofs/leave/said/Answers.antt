-- `leave::said`: by the outcome.
use mathlib.Core.Path.{◌∙◌, ap}
use Rattle.lent.specs.Calls.{result_of}
use Rattle.lentunit.proofs.leave.said.Goals as goal

pub returns-in-Err : goal.returns-in-Err
returns-in-Err c = rw c.in-Err.is (c.result_of.ensures.exact ∙ ap (λ x. result_of x c.args.sent.written 0) c.number.ensures)

pub returns-in-Ok : goal.returns-in-Ok
returns-in-Ok c = rw c.in-Ok.is c.result_of-in-Ok.ensures.exact
