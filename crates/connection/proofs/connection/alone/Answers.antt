-- `connection::alone`: field by field.
use Rattle.connection.proofs.connection.alone.Goals as goal

pub returns : goal.returns
returns c = λ i. record { handshake = c.args.handshake; started = c.none_started.ensures i; sent = c.fresh.ensures i }
