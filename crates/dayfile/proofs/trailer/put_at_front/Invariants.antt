-- `put_at_front`: the loop keeps `Putting`, and each report moves it one distance on.
use lib.ListN.{length}
use Rattle.dayfile.proofs.Trailing.{Putting}
use Rattle.dayfile.proofs.trailer.put_at_front.Given as goal

abbrev pub invariant-loop-next : goal.invariant-loop-next
invariant-loop-next l = Putting l.fn.out l.body l.count l.out l.left l.place

abbrev pub decreases-loop-next : goal.decreases-loop-next
decreases-loop-next l = length l.left
