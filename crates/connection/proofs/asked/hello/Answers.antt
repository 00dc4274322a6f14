-- `asked::hello`: the kept hello, or another.
use Rattle.digest.proofs.Picks.{picks}
use Rattle.connection.proofs.asked.hello.Goals as goal

pub returns-then-same_hello : goal.returns-then-same_hello
returns-then-same_hello c = search picks depth 2

pub returns : goal.returns
returns c = search picks depth 2
