-- `block::choice`: the function of the first twenty rounds.
use Rattle.digest.proofs.Rounds.{f_first}
use Rattle.digest.proofs.block.choice.Goals as goal

pub returns : goal.returns
returns c = λ t h. f_first t _ _ _ h
