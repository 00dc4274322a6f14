-- `load::connection_in`: two handshakes, and the records sent.
use Rattle.lent.proofs.load.connection_in.Goals as goal

pub returns : goal.returns
returns c = λ i. record { handshake = c.handshake_in.ensures i; started = c.handshake_in-2.ensures i; sent = c.sent_in.ensures i }
