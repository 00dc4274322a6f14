-- `walked`: the loop keeps `Walked`, and each way out of it gives the framing of the whole datagram.
use Rattle.record.proofs.Walking.{Walked}
use Rattle.record.proofs.datagram.walked.Given as goal

abbrev pub invariant-loop-count : goal.invariant-loop-count
invariant-loop-count l = Walked l.d l.records l.count l.at
