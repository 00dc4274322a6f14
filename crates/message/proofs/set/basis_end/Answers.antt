-- `message::set::basis_end` meets its contract: each arm is a case of `basis_end`. Assumes nothing.
use native.Mathlib.Omega.{arith}
use Rattle.std.proofs.Common.{sym, ◌∙◌}
use Rattle.message.proofs.Fields.{told_none, told_some, told_same, got, not_got}
use Rattle.message.proofs.SetEnds.{basis_onb, basis_trinomial, basis_pentanomial, basis_polynomial, basis_other, basis_cut}
use Rattle.message.proofs.set.basis_end.Goals as goal

pub returns-in_err-kind-clause-value : goal.returns-in_err-kind-clause-value
returns-in_err-kind-clause-value c =
    rw c.from_residual.ensures (told_none _ (sym (basis_cut c.args.s.now (not_got _ _ c.in_err-kind.ensures.lookup.0))))

pub returns-in-1-clause-value : goal.returns-in-1-clause-value
returns-in-1-clause-value c =
    let g = got c.args.s.now 3 _ c.in_ok-kind.ensures.lookup.0 c.in_ok-kind.ensures.lookup.1 in
    told_some _ _ (omega arith) (sym (basis_onb c.args.s.now g.0 (sym g.1 ∙ c.in-1.is)))

pub returns-in-2-clause-value : goal.returns-in-2-clause-value
returns-in-2-clause-value c =
    let g = got c.args.s.now 3 _ c.in_ok-kind.ensures.lookup.0 c.in_ok-kind.ensures.lookup.1 in
    told_same _ _ _ c.field_end.ensures.value (sym (basis_trinomial c.args.s.now g.0 (sym g.1 ∙ c.in-2.is)))

pub returns-in-3-clause-value : goal.returns-in-3-clause-value
returns-in-3-clause-value c =
    let g = got c.args.s.now 3 _ c.in_ok-kind.ensures.lookup.0 c.in_ok-kind.ensures.lookup.1 in
    told_same _ _ _ c.field_end-in-3.ensures.value (sym (basis_pentanomial c.args.s.now g.0 (sym g.1 ∙ c.in-3.is)))

pub returns-in-4-clause-value : goal.returns-in-4-clause-value
returns-in-4-clause-value c =
    let g = got c.args.s.now 3 _ c.in_ok-kind.ensures.lookup.0 c.in_ok-kind.ensures.lookup.1 in
    told_same _ _ _ c.short_end.ensures.value (sym (basis_polynomial c.args.s.now g.0 (sym g.1 ∙ c.in-4.is)))

pub returns-in_default-clause-value : goal.returns-in_default-clause-value
returns-in_default-clause-value c =
    let g = got c.args.s.now 3 _ c.in_ok-kind.ensures.lookup.0 c.in_ok-kind.ensures.lookup.1 in
    told_none _ (sym (basis_other c.args.s.now g.0 (λ z. omega (arith, g.1)) (λ z. omega (arith, g.1)) (λ z. omega (arith, g.1)) (λ z. omega (arith, g.1))))
