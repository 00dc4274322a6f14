-- `run_in`: the loop keeps `Ran`; each report moves it one on.
use mathlib.Core.Path.{sym, ◌∙◌}
use lib.ListN.{drop, length-drop}
use native.Mathlib.Omega.{arith}
use Rattle.dayfile.proofs.Fronts.{FrontIs, front_is}
use Rattle.dayfile.proofs.Running.{go_on, ended}
use Rattle.dayfile.proofs.run.run_in.Goals as goal

pub overflow_add-run-in-Some : goal.overflow_add-run-in-Some
overflow_add-run-in-Some c =
    let w : FrontIs (drop c.loop-found.run.end c.args.file.now) c.in-Some.found = front_is _ _ (sym c.report_at.ensures.exact ∙ c.in-Some.is) in
    omega (arith, w.small)

pub overflow_add-run-in-Some-2 : goal.overflow_add-run-in-Some-2
overflow_add-run-in-Some-2 c =
    let w : FrontIs (drop c.loop-found.run.end c.args.file.now) c.in-Some.found = front_is _ _ (sym c.report_at.ensures.exact ∙ c.in-Some.is) in
    omega (arith, w.inside, length-drop c.loop-found.run.end c.args.file.now)

pub loop-found-smaller : goal.loop-found-smaller
loop-found-smaller c =
    let w : FrontIs (drop c.loop-found.run.end c.args.file.now) c.in-Some.found = front_is _ _ (sym c.report_at.ensures.exact ∙ c.in-Some.is) in
    omega (arith, w.inside, length-drop c.loop-found.run.end c.args.file.now)

pub loop-found-preserved : goal.loop-found-preserved
loop-found-preserved c = go_on _ _ c.loop-found.invariant _ (sym c.report_at.ensures.exact ∙ c.in-Some.is) (λ f e. c.report_at.ensures.stands f (c.in-Some.is ∙ e))

pub returns-clause-exact : goal.returns-clause-exact
returns-clause-exact c = (ended _ _ c.loop-found.invariant (sym c.report_at.ensures.exact ∙ c.in_default.is)).0

pub returns-clause-stands : goal.returns-clause-stands
returns-clause-stands c = (ended _ _ c.loop-found.invariant (sym c.report_at.ensures.exact ∙ c.in_default.is)).1
