-- `walked`: the loop keeps `Walking`, and each way out of it answers for the whole header.
use mathlib.Core.Path.{sym, ◌∙◌}
use native.Mathlib.Omega.{arith}
use lib.ListN.{length}
use borrow.Author.Tests.{eqb-true, eqb-false}
use Rattle.std.proofs.lemmas.Result.{err_from_is_err_and}
use Rattle.gather.proofs.Walking.{begun, fault_lone, fault_past, fault_element, go_on, done}
use Rattle.gather.proofs.header.walked.Goals as goal

pub loop-rest-init : goal.loop-rest-init
loop-rest-init c = begun _

pub returns-in_default-split_at_checked : goal.returns-in_default-split_at_checked
returns-in_default-split_at_checked c = sym (fault_past _ _ _ c.loop-rest.invariant _ c.from.ensures (omega arith) c.in_default-split_at_checked.ensures.cases)

pub returns-in_err-noted : goal.returns-in_err-noted
returns-in_err-noted c =
    let p = err_from_is_err_and c.from_residual.result c.from_residual.ensures.1 in
    let made = sym c.element.ensures ∙ c.in_err-noted.was in
    rw (p.1, p.2) (sym (fault_element _ _ _ c.loop-rest.invariant (omega arith) _ _ _ c.from.ensures c.in-Some.ensures.cases _ made))

pub loop-rest-preserved : goal.loop-rest-preserved
loop-rest-preserved c =
    let made = sym c.element.ensures ∙ c.in_ok-noted.was in
    go_on _ _ _ c.loop-rest.invariant (omega arith) _ _ _ c.from.ensures c.in-Some.ensures.cases _ made

pub returns-then-is_empty : goal.returns-then-is_empty
returns-then-is_empty c = sym (done _ _ _ c.loop-rest.invariant (eqb-true (length c.loop-rest.rest.now) 0 (sym c.if-is_empty.ensures)))

pub returns-else-is_empty : goal.returns-else-is_empty
returns-else-is_empty c = sym (fault_lone _ _ _ c.loop-rest.invariant (eqb-false (length c.loop-rest.rest.now) 0 (sym c.if-is_empty.ensures)) (omega arith))
