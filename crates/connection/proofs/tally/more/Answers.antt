-- `tally::more`: the test is the definition's.
use Rattle.connection.specs.Tally.{bumped}
use Rattle.digest.proofs.Picks.{picks}
use Rattle.connection.proofs.tally.more.Goals as goal

pub returns-then-n-eq4294967295 : goal.returns-then-n-eq4294967295
unfolding bumped
returns-then-n-eq4294967295 c = search picks depth 2

pub returns : goal.returns
unfolding bumped
returns c = search picks depth 2
