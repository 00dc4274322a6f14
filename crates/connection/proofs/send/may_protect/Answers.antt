-- `send::may_protect`: by the state.
use Rattle.connection.proofs.send.may_protect.Goals as goal

pub returns-in-Idle : goal.returns-in-Idle
returns-in-Idle c = rw c.in-Idle.is

pub returns-in-Closed : goal.returns-in-Closed
returns-in-Closed c = rw c.in-Closed.is

pub returns-in-Barred : goal.returns-in-Barred
returns-in-Barred c = rw c.in-Barred.is
