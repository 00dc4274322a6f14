-- `gather_all` ends: each item leaves less behind it.
use Rattle.std.proofs.Common.{length}
use Rattle.parts.proofs.gather_all.Given as goal

abbrev pub decreases-loop-item : goal.decreases-loop-item
decreases-loop-item g l = length l.rest
