-- `assemble`: three pieces, one behind the other.
use borrow.Author.Rules.{rules}
use Rattle.gather.proofs.Keeping.{assembled}
use Rattle.gather.proofs.spot.Spot.assemble.Goals as goal

pub returns : goal.returns
returns c =
    let both = assembled _ _ _ _ _ (search rules) (search rules) (search rules) (search rules) _ _ _ _ _ _ (search rules) c.kept-lower.ensures c.kept-upper.ensures c.put.ensures.exact c.put-2.ensures.exact c.put-3.ensures.exact in
    record { value = both.0; assembly_after = both.1 }
