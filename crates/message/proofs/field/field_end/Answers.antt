-- `message::field::field_end` meets its contract: each return is a case of `field_end`. Assumes nothing.
use native.Mathlib.Omega.{arith}
use Rattle.message.proofs.Fields.{told_none, told_some, field_fits, field_cut}
use Rattle.message.proofs.field.field_end.Goals as goal
use Rattle.message.proofs.field.field_end.Goals.{then-m-at-via-then-m-at, then-m-at-via-else-m-at+then-m-at-2}

pub returns-then-m-at-clause-value : goal.returns-then-m-at-clause-value
returns-then-m-at-clause-value c = told_none _ (field_cut c.args.m.now c.args.at c.args.size
    (elim c.then-m-at.branch [ then-m-at-via-then-m-at w ↦ omega arith | then-m-at-via-else-m-at+then-m-at-2 w ↦ omega arith ]))

pub returns-clause-value : goal.returns-clause-value
returns-clause-value c = told_some _ _ (omega arith) (field_fits c.args.m.now c.args.at c.args.size (omega arith))
