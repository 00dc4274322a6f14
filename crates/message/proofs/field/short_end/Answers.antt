-- `message::field::short_end` meets its contract: each return is a case of `short_end`. Assumes nothing.
use native.Mathlib.Omega.{arith}
use Rattle.std.proofs.Common.{sym, ◌∙◌}
use Rattle.message.proofs.Fields.{told_none, told_same, got, not_got, short_cut, short_low, short_high, short_fits}
use Rattle.message.proofs.field.short_end.Goals as goal
use Rattle.message.proofs.field.short_end.Goals.{then-size-floor-via-then-size-floor, then-size-floor-via-else-size-floor+then-ceiling-size}

pub returns-in_err-get-clause-value : goal.returns-in_err-get-clause-value
returns-in_err-get-clause-value c = let a = c.args in
    rw c.from_residual.ensures (told_none _ (sym (short_cut a.floor a.ceiling a.m.now a.at (not_got _ _ c.in_err-get.ensures.lookup.0))))

pub returns-then-size-floor-clause-value : goal.returns-then-size-floor-clause-value
returns-then-size-floor-clause-value c = let a = c.args in
    let g = got a.m.now a.at _ c.in_ok-get.ensures.lookup.0 c.in_ok-get.ensures.lookup.1 in
    told_none _
    (elim c.then-size-floor.branch [
      | then-size-floor-via-then-size-floor w ↦ short_low a.floor a.ceiling a.m.now a.at g.0 _ (c.from-size.ensures ∙ g.1) (omega arith)
      | then-size-floor-via-else-size-floor+then-ceiling-size w ↦ short_high a.floor a.ceiling a.m.now a.at g.0 _ (c.from-size.ensures ∙ g.1) (omega arith)
    ])

pub returns-clause-value : goal.returns-clause-value
returns-clause-value c = let a = c.args in
    let g = got a.m.now a.at _ c.in_ok-get.ensures.lookup.0 c.in_ok-get.ensures.lookup.1 in
    told_same _ _ _ c.field_end.ensures.value
    (short_fits a.floor a.ceiling a.m.now a.at g.0 _ (c.from-size.ensures ∙ g.1) c.if-size-floor.false c.if-ceiling-size.false)
