-- `report::lay_entry`: the two tests are the definition's one.
use mathlib.Core.Path.{refl}
use Prim.Native.Nat.{◌+◌}
use native.Mathlib.Omega.{arith}
use lib.ListN.{length}
use Rattle.digest.proofs.Picks.{if_lt, if_ge}
use Rattle.lent.specs.Report.{entry_laid}
use Rattle.lent.proofs.report.lay_entry.Goals as goal

pub returns-else-d-ge24 : goal.returns-else-d-ge24
unfolding entry_laid
returns-else-d-ge24 c = record { exact = let a = c.args in if_lt _ (length a.d.now) (a.at + 24) (omega arith) refl }

pub returns-then-at-d : goal.returns-then-at-d
unfolding entry_laid
returns-then-at-d c = record { exact = let a = c.args in if_ge _ (length a.d.now) (a.at + 24) (omega arith) c.put_entry.ensures }
