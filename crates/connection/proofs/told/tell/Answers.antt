-- `told::tell`: the judgement of the handshake that is asked, and its place.
use Rattle.connection.proofs.Asking.{told_as}
use Rattle.connection.proofs.told.tell.Goals as goal

pub judge-j-requires : goal.judge-j-requires
judge-j-requires c = c.requires.1

pub returns : goal.returns
returns c = told_as c.args.c c.args.random c.args.d.now c.args.r _ _ _ _ _ _ _ c.requires.0 c.asked.ensures c.judge-j.ensures c.place_of-place.ensures c.sent_after.ensures c.placed.ensures c.is_beside.ensures
