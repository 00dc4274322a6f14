-- `send::may_clear`: by the state.
use Rattle.unit.proofs.send.may_clear.Goals as goal

pub returns-in-Idle : goal.returns-in-Idle
returns-in-Idle c = rw c.in-Idle.is

pub returns-in-Opening : goal.returns-in-Opening
returns-in-Opening c = rw c.in-Opening.is

pub returns-in-Open : goal.returns-in-Open
returns-in-Open c = rw c.in-Open.is

pub returns-in-Closed : goal.returns-in-Closed
returns-in-Closed c = rw c.in-Closed.is

pub returns-in-Barred : goal.returns-in-Barred
returns-in-Barred c = rw c.in-Barred.is
