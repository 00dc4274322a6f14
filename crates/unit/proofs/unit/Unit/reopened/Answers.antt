-- `Unit::reopened`: field by field.
use mathlib.Core.Path.{◌∙◌, ap}
use Rattle.record.specs.Protection as P
use Rattle.unit.specs.Unit.{nothing_offered, no_flight}
use Rattle.unit.specs.declared.state.State.TheVariants.{Idle}
use Rattle.unit.proofs.unit.Unit.reopened.Goals as goal

pub returns : goal.returns
returns c = let u = c.args.self in
    let left = c.with_window.ensures ∙ ap (P.with_window u.protection) c.emptied.ensures in
    λ i. record { state = Idle; id = u.id; offer = nothing_offered; expected = u.expected; flight = no_flight; sent = c.fresh.ensures i; protection = left i }
