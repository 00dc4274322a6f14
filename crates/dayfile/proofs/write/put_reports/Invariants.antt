-- `put_reports`: the loop keeps `Laid`; one report more is laid behind the others.
use lib.ListN.{length}
use Rattle.dayfile.proofs.Lending.{Laid}
use Rattle.dayfile.proofs.write.put_reports.Given as goal

abbrev pub invariant-loop-number : goal.invariant-loop-number
invariant-loop-number l = Laid l.numbers l.sizes l.bytes l.fn.out l.out l.left l.at (length l.yielded)
