-- `block::majority`: the function of the third twenty rounds.
use Rattle.digest.proofs.Rounds.{f_third}
use Rattle.digest.proofs.block.majority.Goals as goal

pub returns : goal.returns
returns c = λ t l h. f_third t _ _ _ l h
