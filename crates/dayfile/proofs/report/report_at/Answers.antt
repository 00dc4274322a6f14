-- `report_at`: no report begins behind the end.
use mathlib.Core.Path.{sym, ◌∙◌}
use mathlib.Core.Logic.{⊎_elim}
use lib.ListN.{length-drop}
use native.Mathlib.Omega.{arith}
use Rattle.dayfile.proofs.Fronts.{short_nothing}
use Rattle.dayfile.proofs.report.report_at.Goals as goal

pub returns-in_err-get-clause-exact : goal.returns-in_err-get-clause-exact
returns-in_err-get-clause-exact c =
    c.from_residual.ensures
    ∙ sym (short_nothing _
    (⊎_elim (λ h. omega (arith, length-drop c.args.at c.args.file.now)) (λ h. omega (arith, length-drop c.args.at c.args.file.now)) c.in_err-get.ensures.lookup.0))
