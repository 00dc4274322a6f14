-- `report::put_answers`: after i turns the first i answers are laid.
use Prim.Native.Nat.{◌*◌}
use Rattle.lentunit.specs.Report.{report_first}
use Rattle.lent.proofs.Laying.{Laid}
use Rattle.lentunit.proofs.report.put_answers.Given as goal

abbrev pub invariant-loop-i : goal.invariant-loop-i
invariant-loop-i l = Laid l.initial.d 0 (report_first l.fn.answers l.i) l.d (24 * l.i)
