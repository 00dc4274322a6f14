-- `agree::server_random`: the sixteen bytes behind the version.
use native.Mathlib.Omega.{arith}
use lib.ListN.{take, drop}
use lib.Seq.{length-take-le}
use lib.ListN.{length-drop}
use Rattle.connection.proofs.Filling.{filled_whole}
use Rattle.unit.proofs.agree.server_random.Goals as goal

pub returns : goal.returns
returns c = let m = c.args.m.now in
    filled_whole 16 (take 16 (drop 4 m)) c.put.new.d (length-take-le 16 (drop 4 m) (omega (arith, length-drop 4 m))) c.put.ensures.exact
