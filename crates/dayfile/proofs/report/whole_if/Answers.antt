-- `whole_if`: the tests of the definition, in its order.
use mathlib.Core.Path.{sym, ◌∙◌}
use mathlib.Core.Logic.{⊎_elim}
use Rattle.dayfile.proofs.Fronts.{ill_sized, too_short, whole_found}
use Rattle.dayfile.proofs.report.whole_if.Goals as goal

pub returns-then-not-is_sized : goal.returns-then-not-is_sized
returns-then-not-is_sized c =
    let a = c.args in
    ⊎_elim (λ e. ill_sized a.number a.size a.left (sym c.is_sized.ensures ∙ e)) (λ w. too_short a.number a.size a.left (sym c.is_sized.ensures ∙ w.0) w.1)
    c.then-not-is_sized.either

pub returns : goal.returns
returns c = whole_found _ c.args.left (sym c.is_sized.ensures ∙ c.if-not-is_sized.false) c.if-left-size.false
