-- `message::acceptance::first_fit` meets its contract. The invariant: the first pair that fits is that of what is left.
-- The measure is what is left. Assumes nothing.
use Rattle.std.proofs.Common.{◌≡◌, length}
use Rattle.message.specs.Acceptance.{first_fit}
use Rattle.message.proofs.acceptance.first_fit.Given as goal

abbrev pub invariant-loop-rest : goal.invariant-loop-rest
invariant-loop-rest l = first_fit l.suites ≡ first_fit l.rest

abbrev pub decreases-loop-rest : goal.decreases-loop-rest
decreases-loop-rest l = length l.rest
