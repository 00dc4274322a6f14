-- `receive::each`: after i turns the first i records are answered, each in the state that those before it left.
use Rattle.record.proofs.Covering.{Walkable}
use Rattle.unit.proofs.Running.{Ran}
use Rattle.unit.proofs.receive.each.Given as goal

abbrev pub invariant-loop-i : goal.invariant-loop-i
invariant-loop-i l = Walkable l.d l.count l.records × Ran l.initial.left l.d l.records l.answers l.left l.opens l.i
