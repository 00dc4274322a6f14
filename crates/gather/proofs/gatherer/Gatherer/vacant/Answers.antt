-- `vacant`: std's search is the definition's.
use Rattle.std.proofs.Common.{rules, tests}
use Rattle.std.proofs.lemmas.Iterator.{YieldsList-from_slice}
use Rattle.std.proofs.lemmas.Iterator.Search.{position_from_yields_List}
use Rattle.gather.specs.Gatherer.{vacant_at}
use Rattle.gather.proofs.gatherer.Gatherer.vacant.Goals as goal

pub returns-clause-value : goal.returns-clause-value
unfolding vacant_at
returns-clause-value c =
    position_from_yields_List _ _ _ _ c.position.ensures.ran (YieldsList-from_slice c.args.self.now.slots c.iter.ensures.rest) (λ x b q k. search (rules, tests))
