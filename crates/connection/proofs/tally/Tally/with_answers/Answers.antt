-- `Tally::with_answers`: after i turns the first i answers are counted.
use mathlib.Core.Path.{◌≡◌, refl, ◌∙◌, ap, sym}
use native.Mathlib.Numerals.{add-one}
use lib.ListN.{get_or}
use Rattle.connection.specs.Tally.{counted_first, counted_answer}
use Rattle.connection.specs.Receive.{slot}
use Rattle.connection.specs.declared.answer.Answer.TheVariants.{Nothing}
use native.Mathlib.Omega.{arith}
use Rattle.connection.proofs.tally.Tally.with_answers.Goals as goal

pub loop-slot-init : goal.loop-slot-init
unfolding counted_first
loop-slot-init c = refl

pub loop-slot-preserved : goal.loop-slot-preserved
unfolding counted_first
loop-slot-preserved c = let at = c.loop-slot in
    c.with_answer-t.ensures ∙ ap (λ x. counted_answer x (get_or c.args.answers at.slot-index (slot Nothing)).answer) at.invariant ∙ sym (ap (counted_first c.args.self c.args.answers) (add-one at.slot-index))

pub returns : goal.returns
returns c = let last : c.loop-slot.slot-index ≡ 8 = omega (arith, c.loop-slot-test.false) in rw last at c.loop-slot.invariant
