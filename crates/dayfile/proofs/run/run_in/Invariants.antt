-- `run_in`: the loop keeps `Ran`; each report moves it one on.
use Prim.Native.Nat.{◌-◌}
use lib.ListN.{length}
use Rattle.dayfile.proofs.Running.{Ran}
use Rattle.dayfile.proofs.run.run_in.Given as goal

abbrev pub invariant-loop-found : goal.invariant-loop-found
invariant-loop-found l = Ran l.file l.run

abbrev pub decreases-loop-found : goal.decreases-loop-found
decreases-loop-found l = length l.file - l.run.end
