-- `receive::each`: before record i the records in front of it are answered, each in the state that those before it left.
use Prim.Native.Nat.{◌≤◌}
use lib.ListN.{length}
use Rattle.connection.proofs.Running.{Goes}
use Rattle.connection.proofs.receive.each.Given as goal

abbrev pub invariant-loop-i : goal.invariant-loop-i
invariant-loop-i l = (length l.d ≤ 1400) × Goes l.d l.count l.initial.answers l.initial.left l.initial.i l.initial.at l.answers l.left l.i l.at
