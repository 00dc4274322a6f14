-- `walked`: the loop keeps `Walking`, and each way out of it answers for the whole header.
use lib.ListN.{length}
use Rattle.gather.proofs.Walking.{Walking}
use Rattle.gather.proofs.header.walked.Given as goal

abbrev pub invariant-loop-rest : goal.invariant-loop-rest
invariant-loop-rest l = Walking l.h l.noted l.rest

abbrev pub decreases-loop-rest : goal.decreases-loop-rest
decreases-loop-rest l = length l.rest
