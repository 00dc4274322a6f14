-- `Tally::with_answers`: after i turns the first i answers are counted.
use mathlib.Core.Path.{◌≡◌}
use Rattle.connection.specs.Tally.{counted_first}
use Rattle.connection.proofs.tally.Tally.with_answers.Given as goal

abbrev pub invariant-loop-slot : goal.invariant-loop-slot
invariant-loop-slot l = l.t ≡ counted_first l.initial.t l.fn.answers l.slot-index
