-- `message::keys::keys_end` meets its contract: each return is a case of `keys_end`. Assumes nothing.
use native.Mathlib.Omega.{arith}
use Rattle.message.proofs.Fields.{told_none, told_if, end_none, end_some, long_there}
use Rattle.message.proofs.Entries.{keys_cut, keys_by}
use Rattle.message.proofs.keys.keys_end.Goals as goal

pub returns-in_err-end-clause-value : goal.returns-in_err-end-clause-value
returns-in_err-end-clause-value c =
    rw c.from_residual.ensures (told_none _ (keys_cut c.args.m.now c.args.at (end_none _ c.in_err-end.ensures.value)))

pub overflow_add-at : goal.overflow_add-at
overflow_add-at c = omega (arith, (long_there c.args.m.now c.args.at (end_some _ _ c.in_ok-end.ensures.value).1).1)

pub returns-clause-value : goal.returns-clause-value
returns-clause-value c =
    let e = end_some _ _ c.in_ok-end.ensures.value in
    rw c.then_some.ensures
    (told_if _ _ _ (omega (arith, e)) (keys_by c.args.m.now c.args.at _ _ _ e.0 c.part.ensures c.key_list.ensures))
