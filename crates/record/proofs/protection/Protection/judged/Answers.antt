-- `judged`: the code under the key of the record's own number, then the window.
use mathlib.Core.Path.{sym, ap, ◌∙◌}
use Prim.Native.Nat.{◌-◌}
use native.Mathlib.Omega.{arith}
use lib.ListN.{length}
use borrow.Author.Tests.{not-true, not-false}
use Rattle.digest.proofs.Picks.{picks}
use Rattle.std.proofs.lemmas.Result.{err_from_is_err_and}
use Rattle.std.specs.Prelude.{Ok}
use Rattle.record.specs.Protection.{opening_by}
use Rattle.record.proofs.Protecting.{forged_as, opened_as_lem, not_new_as, code_fits}
use Rattle.record.proofs.protection.Protection.judged.Goals as goal

pub returns-then-not-genuine : goal.returns-then-not-genuine
returns-then-not-genuine c = let a = c.args in
    let right = c.genuine.ensures.meaning _ c.key-key.ensures in
    forged_as a.self a.sense a.number a.byte a.fragment.now _ right (search (picks, not-true))

pub returns-in_err-marked : goal.returns-in_err-marked
returns-in_err-marked c = let a = c.args in
    let right = c.genuine.ensures.meaning _ c.key-key.ensures in
    let p = err_from_is_err_and c.from_residual.result c.from_residual.ensures.1 in
    ap (opening_by a.self) p.1
    ∙ not_new_as a.self a.sense a.number a.byte a.fragment.now _ right (search (picks, not-false)) _ _ p.2 (sym c.in_err-marked.was ∙ c.accept.ensures.exact)

pub overflow_sub-size : goal.overflow_sub-size
overflow_sub-size c = let a = c.args in
    let right = c.genuine.ensures.meaning _ c.key-key.ensures in
    omega (arith, c.size.ensures.exact, code_fits a.self a.sense a.number a.byte a.fragment.now _ right (search (picks, not-false)))

pub returns : goal.returns
returns c = let a = c.args in
    let right = c.genuine.ensures.meaning _ c.key-key.ensures in
    ap (λ n. opening_by a.self (Ok (length a.fragment.now - n, c.in_ok-marked.marked))) c.size.ensures.exact
    ∙ opened_as_lem a.self a.sense a.number a.byte a.fragment.now _ right (search (picks, not-false)) _ (sym c.in_ok-marked.was ∙ c.accept.ensures.exact)
