-- `message::set::curve_field_end` meets its contract: each arm is a case of `curve_field_end`. Assumes nothing.
use native.Mathlib.Omega.{arith}
use Rattle.std.proofs.Common.{sym, ◌∙◌}
use Rattle.message.proofs.Fields.{told_none, told_same, first_got, first_not_got}
use Rattle.message.proofs.SetEnds.{field_is_prime, field_is_two, field_other, field_cut}
use Rattle.message.proofs.set.curve_field_end.Goals as goal

pub returns-in_err-kind-clause-value : goal.returns-in_err-kind-clause-value
returns-in_err-kind-clause-value c =
    rw c.from_residual.ensures (told_none _ (sym (field_cut c.args.s.now (first_not_got _ c.in_err-kind.ensures.value))))

pub returns-in-1-clause-value : goal.returns-in-1-clause-value
returns-in-1-clause-value c =
    let g = first_got c.args.s.now _ c.in_ok-kind.ensures.value in
    told_same _ _ _ c.short_end.ensures.value (sym (field_is_prime c.args.s.now g.0 (sym g.1 ∙ c.in-1.is)))

pub returns-in-2-clause-value : goal.returns-in-2-clause-value
returns-in-2-clause-value c =
    let g = first_got c.args.s.now _ c.in_ok-kind.ensures.value in
    told_same _ _ _ c.basis_end.ensures.value (sym (field_is_two c.args.s.now g.0 (sym g.1 ∙ c.in-2.is)))

pub returns-in_default-clause-value : goal.returns-in_default-clause-value
returns-in_default-clause-value c =
    let g = first_got c.args.s.now _ c.in_ok-kind.ensures.value in
    told_none _ (sym (field_other c.args.s.now g.0 (λ z. omega (arith, g.1)) (λ z. omega (arith, g.1))))
