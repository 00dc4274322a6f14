-- `open`: a record that is opened leaves the window with its mark.
use mathlib.Core.Path.{sym, ap, ◌∙◌}
use Rattle.record.specs.Protection.{opening, opening_by}
use Rattle.std.specs.Prelude.{Ok}
use Rattle.record.proofs.protection.Protection.open.Goals as goal

pub returns-in-Ok : goal.returns-in-Ok
returns-in-Ok c =
    ap (opening (Ok c.in-Ok.size)) c.with_window.ensures ∙ ap (opening_by c.args.self) (sym c.in-Ok.is) ∙ c.judged.ensures
