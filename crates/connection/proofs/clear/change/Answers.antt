-- `clear::change`: one byte 1, or malformed.
use mathlib.Core.Path.{sym, ap, ◌∙◌}
use Rattle.digest.proofs.Picks.{pick_yes, pick_no}
use Rattle.connection.specs.Clear.{changed_by}
use Rattle.connection.specs.Step.{step, stepped_by}
use Rattle.connection.specs.declared.answer.Answer.TheVariants.{Spec}
use Rattle.connection.specs.declared.answer.Judged.{Judged}
use Rattle.connection.specs.declared.step.Move.TheVariants as M
use Rattle.connection.proofs.clear.change.Goals as goal

pub returns-then-not-is_change : goal.returns-then-not-is_change
unfolding changed_by
returns-then-not-is_change c = pick_no Judged _ _ _ _ (sym c.is_change.ensures ∙ c.if-not-is_change.true) (ap (stepped_by c.args.h) c.refuse.ensures)

pub returns : goal.returns
unfolding changed_by
returns c = pick_yes Judged _ _ _ _ (sym c.is_change.ensures ∙ c.if-not-is_change.false) (ap (stepped_by c.args.h) (c.lead.ensures ∙ ap (λ w. step Spec w M.Change) c.emptied.ensures))
