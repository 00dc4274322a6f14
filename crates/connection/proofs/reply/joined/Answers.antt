-- `reply::joined`: three pieces that fill the room.
use Rattle.connection.proofs.Filling.{three_laid}
use native.Mathlib.Omega.{arith}
use Rattle.connection.proofs.reply.joined.Goals as goal

pub returns : goal.returns
returns c = let a = c.args in
    let p = c.requires in
    three_laid a.first a.second a.third c.put.new.d c.put-2.new.d c.put-3.new.d
    (omega (arith, p)) (omega (arith, p)) (omega (arith, p)) c.put.ensures.exact c.put-2.ensures.exact c.put-3.ensures.exact
