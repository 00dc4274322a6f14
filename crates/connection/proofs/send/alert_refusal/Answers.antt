-- `send::alert_refusal`: the tests in their order.
use Rattle.connection.specs.Send.{alert_refused}
use Rattle.digest.proofs.Picks.{picks}
use Rattle.std.proofs.lemmas.Result.{err_from_is_err_and}
use Rattle.std.specs.Prelude.{Err}
use native.Mathlib.Omega.{arith}
use mathlib.Core.Path.{ap, ◌∙◌}
use Rattle.digest.proofs.Picks.{if_ge}
use Rattle.connection.proofs.send.alert_refusal.Goals as goal

pub returns-then-lent-gt1400 : goal.returns-then-lent-gt1400
unfolding alert_refused
returns-then-lent-gt1400 c = search picks depth 2

pub returns-in_err-may : goal.returns-in_err-may
unfolding alert_refused
returns-in_err-may c =
    let given = err_from_is_err_and c.from_residual.result c.from_residual.ensures.1 in
    rw c.in_err-may.was (if_ge _ 1400 c.args.lent (omega arith) (given.1 ∙ ap Err given.2))

pub returns : goal.returns
unfolding alert_refused
returns c = rw c.in_ok-may.was (search picks depth 2)
