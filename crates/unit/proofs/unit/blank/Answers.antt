-- `unit::blank`: made of no session.
use Rattle.unit.proofs.unit.blank.Goals as goal

pub returns : goal.returns
returns c = c.made.ensures
