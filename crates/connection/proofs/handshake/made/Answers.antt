-- `handshake::made`: field by field.
use Rattle.connection.specs.Handshake.{nothing_expected}
use Rattle.connection.proofs.handshake.made.Goals as goal

pub returns : goal.returns
returns c = let a = c.args in
    λ i. record { state = a.state; id = a.session.id; expected = nothing_expected; kept = c.nothing_kept.ensures i; protection = c.new_protection.ensures i }
