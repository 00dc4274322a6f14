-- `block::next`: the four words that it reads, and the shift.
use Rattle.digest.specs.Midway.{turned_over}
use Rattle.digest.specs.Sha1.{shifted}
use Rattle.digest.proofs.block.next.Goals as goal

pub returns : goal.returns
unfolding turned_over shifted
returns c = c.rotate_left.ensures
