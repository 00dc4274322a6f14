-- `unit::new_protection`: field by field.
use Rattle.digest.specs.declared.mac.Mac.TheVariants.{Sha80}
use Rattle.connection.specs.Handshake.{unagreed_keys}
use Rattle.unit.proofs.unit.new_protection.Goals as goal

pub returns : goal.returns
returns c = λ i. record { keys = unagreed_keys c.args.secret Sha80 0; window = c.fresh.ensures.exact i; protected = 0; clear = 0 }
