-- `tally::counted`: after i turns the first i answers are counted.
use mathlib.Core.Path.{◌≡◌, refl, ◌∙◌, ap, ap₂, sym}
use native.Mathlib.Numerals.{add-one}
use Rattle.connection.specs.Tally.{counted_answer}
use Rattle.unit.specs.Tally.{counted_first}
use native.Mathlib.Omega.{arith}
use Rattle.unit.proofs.tally.counted.Goals as goal

pub loop-slot-init : goal.loop-slot-init
unfolding counted_first
loop-slot-init c = refl

pub loop-slot-preserved : goal.loop-slot-preserved
unfolding counted_first
loop-slot-preserved c = let at = c.loop-slot in
    c.with_answer-t.ensures ∙ ap₂ counted_answer at.invariant c.as_ashore.ensures ∙ sym (ap (counted_first c.args.tally c.args.received.answers) (add-one at.slot-index))

pub returns : goal.returns
returns c = let last : c.loop-slot.slot-index ≡ 8 = omega (arith, c.loop-slot-test.false) in rw last at c.loop-slot.invariant
