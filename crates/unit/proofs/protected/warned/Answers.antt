-- `protected::warned`: 57, or another.
use mathlib.Core.Path.{refl, sym}
use Rattle.digest.proofs.Picks.{if_eq, if_ne}
use native.Mathlib.Omega.{arith}
use Rattle.unit.specs.Protected.{warned}
use Rattle.unit.proofs.protected.warned.Goals as goal

pub returns-then-description_number-eq57 : goal.returns-then-description_number-eq57
unfolding warned
returns-then-description_number-eq57 c = rw (sym c.description_number.ensures) (if_eq _ c.description_number.result 57 (omega arith) refl)

pub returns : goal.returns
unfolding warned
returns c = rw (sym c.description_number.ensures) (if_ne _ c.description_number.result 57 (λ z. omega arith) refl)
