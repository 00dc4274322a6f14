-- `are_sized`: the loop keeps `Sizing`, the definition opened one size at a time.
use Rattle.dayfile.proofs.Lending.{Sizing}
use Rattle.dayfile.proofs.write.are_sized.Given as goal

abbrev pub invariant-loop-size : goal.invariant-loop-size
invariant-loop-size l = Sizing l.sizes l.total l.left l.size-index
