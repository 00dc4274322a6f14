-- `judge::agrees`: by the rule.
use mathlib.Core.Path.{refl}
use Rattle.unit.proofs.judge.agrees.Goals as goal

pub returns-in-Agree : goal.returns-in-Agree
returns-in-Agree c = rw c.in-Agree.is refl
