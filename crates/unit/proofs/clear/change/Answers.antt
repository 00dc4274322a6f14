-- `clear::change`: one byte 1, or malformed.
use mathlib.Core.Path.{sym, ◌∙◌, ap}
use Rattle.unit.specs.Step.{step}
use Rattle.unit.specs.Clear.{changed_by}
use Rattle.unit.specs.declared.answer.Answer.TheVariants as W
use Rattle.unit.specs.declared.step.Move.TheVariants as M
use Rattle.unit.proofs.clear.change.Goals as goal

pub returns-then-not-is_change : goal.returns-then-not-is_change
unfolding changed_by
returns-then-not-is_change c = rw (sym c.is_change.ensures, c.if-not-is_change.true) c.refuse.ensures

pub returns : goal.returns
unfolding changed_by
returns c = rw (sym c.is_change.ensures, c.if-not-is_change.false) (c.lead.ensures ∙ ap (λ w. step W.Spec w M.Change) c.emptied.ensures)
