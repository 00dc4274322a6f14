-- `clear::request_in`: by the state.
use Rattle.unit.proofs.clear.request_in.Goals as goal

pub returns-in-Closed : goal.returns-in-Closed
returns-in-Closed c = rw c.in-Closed.is

pub returns-in-Barred : goal.returns-in-Barred
returns-in-Barred c = rw c.in-Barred.is
