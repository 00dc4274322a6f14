-- `send::numbered`: the tests are the definition's.
use Rattle.connection.specs.Send.{numbered_by}
use Rattle.digest.proofs.Picks.{picks}
use Rattle.connection.proofs.send.numbered.Goals as goal

pub returns-then-number-gt65535 : goal.returns-then-number-gt65535
unfolding numbered_by
returns-then-number-gt65535 c = search picks depth 2

pub returns-then-room-size : goal.returns-then-room-size
unfolding numbered_by
returns-then-room-size c = search picks depth 2

pub returns : goal.returns
unfolding numbered_by
returns c = search picks depth 2
