-- `message`: what the gatherer makes of it, and then the datagram that it shows.
use Rattle.short.proofs.Taking.{message_on}
use Rattle.short.proofs.take.message.Goals as goal

pub returns : goal.returns
returns c = record { exact = message_on _ _ _ _ _ _ _ _ c.gathered-answer.ensures c.taken-received.ensures.value c.taken-received.ensures.out_after }
