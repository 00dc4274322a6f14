-- `gateway_receive`: what `lent::receive` ensures, as it stands. Written out so that a wrong program is refused by a value.
use Rattle.gateway.proofs.gateway_receive.Goals as goal

pub returns : goal.returns
returns c = c.receive.ensures
