-- `Handshake::barred`: field by field.
use lib.ListN.{replicate}
use Rattle.connection.specs.Handshake.{nothing_expected}
use Rattle.connection.specs.declared.state.State.TheVariants.{Barred}
use Rattle.connection.proofs.handshake.Handshake.barred.Goals as goal

pub returns : goal.returns
returns c = λ i. record { state = Barred; id = replicate 8 0; expected = nothing_expected; kept = c.nothing_kept.ensures i; protection = c.unkeyed.ensures i }
