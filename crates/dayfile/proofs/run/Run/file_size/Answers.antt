-- `Run::file_size`: the two limits, in their order.
use mathlib.Core.Path.{◌∙◌}
use native.Mathlib.Omega.{arith}
use Rattle.dayfile.proofs.Trailing.{many_without, long_without, size_there}
use Rattle.dayfile.proofs.run.Run.file_size.Goals as goal

pub returns-then-self-gt-MOST_REPORTS : goal.returns-then-self-gt-MOST_REPORTS
returns-then-self-gt-MOST_REPORTS c = λ l e. many_without c.args.self l e c.if-self-gt-MOST_REPORTS.true

pub returns-in_err-size : goal.returns-in_err-size
returns-in_err-size c =
    λ l e. c.from_residual.ensures ∙ long_without c.args.self l e c.if-self-gt-MOST_REPORTS.false (omega (arith, c.in_err-size.ensures))

pub returns : goal.returns
returns c = λ l e. c.then_some.ensures ∙ size_there c.args.self l e c.if-self-gt-MOST_REPORTS.false c.in_ok-size.size c.in_ok-size.ensures.1
