-- `dayfile_mend`: what is said of the mended file fits its bits.
use mathlib.Core.Path.{sym, ◌∙◌}
use Rattle.dayfile.proofs.Mendings.{told_bounds}
use Rattle.dayfile.proofs.dayfile_mend.Goals as goal

pub mended-requires : goal.mended-requires
mended-requires c = told_bounds _ _ _ (sym c.mend_file.ensures.exact ∙ c.in-Ok.is)
