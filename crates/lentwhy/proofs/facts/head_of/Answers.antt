-- `facts::head_of`: eight numbers.
use mathlib.Core.Path.{refl}
use Rattle.lentwhy.proofs.Spelling.{same_eight}
use Rattle.lentwhy.proofs.facts.head_of.Goals as goal

pub returns : goal.returns
returns c = same_eight c.number.ensures.exact c.state_number.ensures.exact c.state_number-2.ensures.exact
    c.number_of.ensures c.flag.ensures c.flag-2.ensures c.word.ensures refl
