-- `tally::counted`: after i turns the first i answers are counted.
use mathlib.Core.Path.{◌≡◌}
use Rattle.unit.specs.Tally.{counted_first}
use Rattle.unit.proofs.tally.counted.Given as goal

abbrev pub invariant-loop-slot : goal.invariant-loop-slot
invariant-loop-slot l = l.t ≡ counted_first l.initial.t l.fn.received.answers l.slot-index
