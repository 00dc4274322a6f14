-- `dayfile_report`: a size that is found is at most 1,400.
use mathlib.Core.Path.{sym, ◌∙◌}
use Rattle.dayfile.proofs.Fronts.{front_is}
use Rattle.dayfile.proofs.dayfile_report.Goals as goal

pub told-requires : goal.told-requires
told-requires c = (front_is _ _ (sym c.report_at.ensures.exact ∙ c.in-Some.is)).small
