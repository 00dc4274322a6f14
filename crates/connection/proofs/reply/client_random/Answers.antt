-- `reply::client_random`: sixteen bytes of the hello.
use lib.ListN.{take, drop, length-drop}
use lib.Seq.{length-take-le}
use Rattle.connection.proofs.Filling.{filled_whole}
use native.Mathlib.Omega.{arith}
use Rattle.connection.proofs.reply.client_random.Goals as goal

pub returns : goal.returns
returns c = let m = c.args.m.now in
    filled_whole 16 (take 16 (drop 4 m)) c.put.new.d (length-take-le 16 (drop 4 m) (omega (arith, length-drop 4 m))) c.put.ensures.exact
