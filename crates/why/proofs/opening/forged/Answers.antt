-- `opening::forged`: both keys, or those of the one that was asked.
use mathlib.Core.Path.{sym, ◌∙◌}
use Rattle.why.specs.Opening.{forged_by}
use Rattle.digest.proofs.Picks.{pick_yes, pick_no}
use Rattle.why.proofs.opening.forged.Goals as goal

pub returns-then-both_tried : goal.returns-then-both_tried
unfolding forged_by
returns-then-both_tried c = pick_yes _ _ _ _ _ (sym c.both_tried.ensures ∙ c.if-both_tried.true) c.twice.ensures

pub returns : goal.returns
unfolding forged_by
returns c = pick_no _ _ _ _ _ (sym c.both_tried.ensures ∙ c.if-both_tried.false) c.once.ensures
