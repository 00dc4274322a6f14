-- `save::put_gatherer`: the slots before the k-th are laid behind the mark.
use Rattle.lentshort.proofs.Laying.{SlotsLaid}
use Rattle.lentshort.proofs.save.put_gatherer.Given as goal

abbrev pub invariant-loop-k : goal.invariant-loop-k
invariant-loop-k l = SlotsLaid l.fn.d l.fn.g.slots l.d l.k
