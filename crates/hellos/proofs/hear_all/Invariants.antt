-- `hear_all` ends: each message leaves less behind it.
use Rattle.std.proofs.Common.{length}
use Rattle.hellos.proofs.hear_all.Given as goal

abbrev pub decreases-loop-end : goal.decreases-loop-end
decreases-loop-end g l = length l.rest
