-- `reply::server_hello`: the room is exactly the message's.
use Rattle.connection.proofs.Filling.{hello_whole}
use native.Mathlib.Omega.{arith}
use Rattle.connection.proofs.reply.server_hello.Goals as goal

pub returns : goal.returns
returns c = hello_whole c.args.random c.args.id c.args.plan c.write.new.out (omega arith) (omega arith) c.write.ensures.out_after
