-- `load::lent_to_gather`: the size, then the gatherer.
-- src/load.rt:47:9
use mathlib.Core.Path.{refl}
use Rattle.digest.proofs.Picks.{if_eq, if_ne}
use Rattle.lentshort.specs.Said.{said_size}
use Rattle.lentshort.specs.Gathered.{lent_to_gather}
use Rattle.lentshort.proofs.load.lent_to_gather.Goals as goal

pub returns-then-saying-ne-SAID : goal.returns-then-saying-ne-SAID
unfolding lent_to_gather
returns-then-saying-ne-SAID c = if_ne _ _ said_size c.if-saying-ne-SAID.true refl

-- src/load.rt:43:1
pub returns : goal.returns
unfolding lent_to_gather
returns c = if_eq _ _ said_size c.if-saying-ne-SAID.false c.is_gatherer.ensures
