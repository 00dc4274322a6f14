-- `calls::planted`: each array is the bytes lent.
use mathlib.Core.Path.{◌∙◌, ap₂}
use native.Mathlib.Omega.{arith}
use Rattle.connection.proofs.Filling.{filled_whole}
use Rattle.unit.specs.Unit.{new_unit}
use Rattle.unit.specs.declared.state.State.TheVariants as S
use Rattle.unit.proofs.calls.planted.Goals as goal

pub returns : goal.returns
returns c = let a = c.args in
    c.made.ensures ∙ ap₂ (λ x y. new_unit x y a.width S.Idle)
    (filled_whole 8 a.id.now c.put.new.d (omega arith) c.put.ensures.exact)
    (filled_whole 20 a.secret.now c.put-2.new.d (omega arith) c.put-2.ensures.exact)
