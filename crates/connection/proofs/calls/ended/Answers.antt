-- `calls::ended`: field by field.
use Rattle.connection.proofs.calls.ended.Goals as goal

pub returns : goal.returns
returns c = λ i. record { handshake = c.with_state-k.ensures i; started = c.none_started-k.ensures i; sent = c.args.c.sent }
