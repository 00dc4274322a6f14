-- `point::before`: after i turns, the connection that the first i records leave.
use mathlib.Core.Path.{◌≡◌}
use lib.ListN.{length, take}
use Rattle.record.proofs.Covering.{Walkable}
use Rattle.connection.specs.Receive.{end_of}
use Rattle.connection.proofs.point.before.Given as goal

abbrev pub invariant-loop-i : goal.invariant-loop-i
invariant-loop-i l = (length l.ours ≡ 16) × Walkable l.d l.index l.records × (l.left ≡ end_of l.initial.left l.ours l.d (take l.i l.records))
