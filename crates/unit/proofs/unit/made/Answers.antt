-- `unit::made`: field by field.
use Rattle.connection.specs.Handshake.{nothing_expected}
use Rattle.unit.specs.Unit.{nothing_offered, no_flight}
use Rattle.unit.proofs.unit.made.Goals as goal

pub returns : goal.returns
returns c = λ i. record { state = c.args.state; id = c.args.id; offer = nothing_offered; expected = nothing_expected; flight = no_flight; sent = c.fresh.ensures i; protection = c.new_protection.ensures i }
