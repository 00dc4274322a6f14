-- `send::data_refusal`: the tests in their order.
use mathlib.Core.Path.{refl, sym, ◌∙◌, ap}
use Rattle.std.specs.Prelude.{Err}
use Rattle.connection.specs.Send.{data_refused}
use native.Mathlib.Omega.{arith}
use Rattle.digest.proofs.Picks.{if_eq, if_ne, if_lt, if_ge}
use Rattle.std.proofs.lemmas.Result.{err_from_is_err_and}
use Rattle.connection.proofs.send.data_refusal.Goals as goal

pub returns-then-size-eq0 : goal.returns-then-size-eq0
unfolding data_refused
returns-then-size-eq0 c = if_eq _ c.args.size 0 (omega arith) refl

pub returns-then-size-gt1300 : goal.returns-then-size-gt1300
unfolding data_refused
returns-then-size-gt1300 c = let size = c.args.size in
    if_ne _ size 0 (λ z. omega arith) (if_lt _ 1300 size (omega arith) refl)

pub returns-in_err-may_data : goal.returns-in_err-may_data
unfolding data_refused
returns-in_err-may_data c = let size = c.args.size in
    let given = err_from_is_err_and c.from_residual.result c.from_residual.ensures.1 in
    rw (sym c.may_data.ensures ∙ c.in_err-may_data.was)
    (if_ne _ size 0 (λ z. omega arith) (if_ge _ 1300 size (omega arith) (given.1 ∙ ap Err given.2)))

pub returns : goal.returns
unfolding data_refused
returns c = let size = c.args.size in
    rw (sym c.may_data.ensures ∙ c.in_ok-may_data.was)
    (if_ne _ size 0 (λ z. omega arith) (if_ge _ 1300 size (omega arith) c.numbered.ensures))
