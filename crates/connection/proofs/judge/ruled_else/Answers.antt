-- `judge::ruled_else`: by the rule.
use mathlib.Core.Path.{ap}
use Rattle.connection.specs.Later.{ruled_else}
use Rattle.connection.specs.Step.{stepped_by}
use Rattle.connection.proofs.judge.ruled_else.Goals as goal

pub returns-in-Ended : goal.returns-in-Ended
unfolding ruled_else
returns-in-Ended c = rw c.in-Ended.is (ap (stepped_by c.args.h) c.refuse.ensures)

pub returns-in-NotAllowed : goal.returns-in-NotAllowed
unfolding ruled_else
returns-in-NotAllowed c = rw c.in-NotAllowed.is (ap (stepped_by c.args.h) c.refuse-in-NotAllowed.ensures)

pub returns-in-Resend : goal.returns-in-Resend
unfolding ruled_else
returns-in-Resend c = rw c.in-Resend.is (ap (stepped_by c.args.h) c.refuse-in-Resend.ensures)

pub returns-in-Greet : goal.returns-in-Greet
unfolding ruled_else
returns-in-Greet c = rw c.in-Greet.is (ap (stepped_by c.args.h) c.refuse-in-Greet.ensures)

pub returns-in-GreetAgain : goal.returns-in-GreetAgain
unfolding ruled_else
returns-in-GreetAgain c = rw c.in-GreetAgain.is (ap (stepped_by c.args.h) c.refuse-in-GreetAgain.ensures)

pub returns-in-Change : goal.returns-in-Change
unfolding ruled_else
returns-in-Change c = rw c.in-Change.is c.change.ensures

pub returns-in-Hear : goal.returns-in-Hear
unfolding ruled_else
returns-in-Hear c = rw c.in-Hear.is c.hear_alert.ensures

pub returns-in-OpenRecord : goal.returns-in-OpenRecord
unfolding ruled_else
returns-in-OpenRecord c = rw c.in-OpenRecord.is c.open_record.ensures
