-- `numbers_stand`: the loop keeps `Matching`; a number that differs, or is missing, tells that the bytes do.
use lib.ListN.{length}
use Rattle.dayfile.proofs.Trailing.{Matching}
use Rattle.dayfile.proofs.trailer.numbers_stand.Given as goal

abbrev pub invariant-loop-next : goal.invariant-loop-next
invariant-loop-next l = Matching l.numbers l.body l.count l.rest l.left

abbrev pub decreases-loop-next : goal.decreases-loop-next
decreases-loop-next l = length l.left
