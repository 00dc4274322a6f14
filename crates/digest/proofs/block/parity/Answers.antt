-- `block::parity`: the function of the second twenty rounds and of the fourth.
use Rattle.digest.proofs.Rounds.{f_parity}
use Rattle.digest.proofs.block.parity.Goals as goal

pub returns : goal.returns
returns c = λ t h. f_parity t _ _ _ h
