-- `reply::kept_hello`: the hello, and zeros.
use Rattle.connection.proofs.Filling.{filled}
use native.Mathlib.Omega.{arith}
use Rattle.connection.proofs.reply.kept_hello.Goals as goal

pub returns : goal.returns
returns c = filled 256 c.args.m.now c.put.new.d (omega arith) c.put.ensures.exact
