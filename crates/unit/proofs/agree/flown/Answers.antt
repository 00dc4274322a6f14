-- `agree::flown`: each record in a room of its own, then joined.
use Rattle.unit.proofs.Flights.{flown_by}
use Rattle.unit.proofs.agree.flown.Goals as goal

pub returns : goal.returns
returns c = let a = c.args in
    flown_by a.protection a.ours c.requires.0 c.requires.1 _ _ _ c.change-one.ensures c.write_clear.ensures.bytes c.write.ensures.bytes _ _ c.put.ensures.exact c.put-2.ensures.exact
