-- `judge::ruled`: by the rule; a ClientHello by its place.
use mathlib.Core.Path.{◌∙◌}
use Rattle.digest.proofs.Picks.{picks}
use Rattle.connection.specs.Judge.{ruled_by}
use Rattle.connection.proofs.judge.ruled.Goals as goal

pub returns-then-r-ne0 : goal.returns-then-r-ne0
unfolding ruled_by
returns-then-r-ne0 c = rw c.in-Resend.is (search picks depth 2)

pub returns-then-r-ne0-2 : goal.returns-then-r-ne0-2
unfolding ruled_by
returns-then-r-ne0-2 c = rw c.in-Greet.is (search picks depth 2)

pub returns-then-r-ne0-3 : goal.returns-then-r-ne0-3
unfolding ruled_by
returns-then-r-ne0-3 c = rw c.in-GreetAgain.is (search picks depth 2)

pub returns-in-Ended : goal.returns-in-Ended
unfolding ruled_by
returns-in-Ended c = rw c.in-Ended.is c.refuse.ensures

pub returns-in-NotAllowed : goal.returns-in-NotAllowed
unfolding ruled_by
returns-in-NotAllowed c = rw c.in-NotAllowed.is c.refuse-in-NotAllowed.ensures

pub returns-else-r-ne0 : goal.returns-else-r-ne0
unfolding ruled_by
returns-else-r-ne0 c = rw c.in-Resend.is (search picks depth 2)

pub returns-else-r-ne0-2 : goal.returns-else-r-ne0-2
unfolding ruled_by
returns-else-r-ne0-2 c = rw c.in-Greet.is (search picks depth 2)

pub returns-else-r-ne0-3 : goal.returns-else-r-ne0-3
unfolding ruled_by
returns-else-r-ne0-3 c = rw c.in-GreetAgain.is (search picks depth 2)

pub returns-in-Change : goal.returns-in-Change
unfolding ruled_by
returns-in-Change c = rw c.in-Change.is (c.judge_by.ensures ∙ c.change.ensures)

pub returns-in-Hear : goal.returns-in-Hear
unfolding ruled_by
returns-in-Hear c = rw c.in-Hear.is (c.judge_by-in-Hear.ensures ∙ c.hear_alert.ensures)

pub returns-in-OpenRecord : goal.returns-in-OpenRecord
unfolding ruled_by
returns-in-OpenRecord c = rw c.in-OpenRecord.is (c.judge_by-in-OpenRecord.ensures ∙ c.open_record.ensures)
