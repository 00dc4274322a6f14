-- `shift`: the loop keeps `Shifted`.
use Prim.Native.Nat.{◌-◌}
use Rattle.gather.proofs.Laying.{Shifted}
use Rattle.gather.proofs.spot.shift.Given as goal

abbrev pub invariant-loop-i : goal.invariant-loop-i
invariant-loop-i l = Shifted l.initial.d l.from l.end l.n l.d l.i

abbrev pub decreases-loop-i : goal.decreases-loop-i
decreases-loop-i l = l.i - l.from
