-- `Unit::barred`: field by field.
use lib.ListN.{replicate}
use Rattle.connection.specs.Handshake.{nothing_expected}
use Rattle.unit.specs.Unit.{nothing_offered}
use Rattle.unit.specs.declared.state.State.TheVariants.{Barred}
use Rattle.unit.proofs.unit.Unit.barred.Goals as goal

pub returns : goal.returns
returns c = let u = c.args.self in
    λ i. record { state = Barred; id = replicate 8 0; offer = nothing_offered; expected = nothing_expected; flight = u.flight; sent = u.sent; protection = c.unkeyed.ensures i }
