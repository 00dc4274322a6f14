-- `message::field::long_end` meets its contract: each return is a case of `long_end`. Assumes nothing.
use native.Mathlib.Omega.{arith}
use Rattle.std.proofs.Common.{ap, ◌∙◌, ◌+◌}
use Rattle.message.specs.Field.{field_end}
use Rattle.message.proofs.Fields.{told_none, told_same, long_fits, long_cut}
use Rattle.message.proofs.field.long_end.Goals as goal
use Rattle.message.proofs.field.long_end.Goals.{then-m-at-via-then-m-at, then-m-at-via-else-m-at+then-m-at-2}

pub returns-then-m-at-clause-value : goal.returns-then-m-at-clause-value
returns-then-m-at-clause-value c = told_none _ (long_cut c.args.m.now c.args.at
    (elim c.then-m-at.branch [ then-m-at-via-then-m-at w ↦ omega arith | then-m-at-via-else-m-at+then-m-at-2 w ↦ omega arith ]))

pub returns-clause-value : goal.returns-clause-value
returns-clause-value c = told_same _ _ _ c.field_end.ensures.value
    (ap (field_end c.args.m.now (c.args.at + 2)) (c.from.ensures ∙ c.two_at.ensures) ∙ long_fits c.args.m.now c.args.at (omega arith))
