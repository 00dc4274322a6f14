-- `opening::both_tried`: by whom is asked, and by the content.
use mathlib.Core.Path.{refl, sym, ◌∙◌}
use Rattle.digest.proofs.Picks.{if_eq, if_ne}
use Rattle.record.specs.Header.{number_of}
use Rattle.why.proofs.opening.both_tried.Goals as goal

pub returns-then-number_of-eq3 : goal.returns-then-number_of-eq3
returns-then-number_of-eq3 c = let content = c.args.content in
    rw c.in-Open.is (if_eq _ (number_of content) 3 (sym c.number_of.ensures ∙ c.if-number_of-eq3.true) c.is_spec.ensures)

pub returns-else-number_of-eq3 : goal.returns-else-number_of-eq3
returns-else-number_of-eq3 c = let content = c.args.content in
    rw c.in-Open.is (if_ne _ (number_of content) 3 (λ z. c.if-number_of-eq3.false (c.number_of.ensures ∙ z)) refl)
