-- `block::turned` is a round, once its function value and its constant are those of round t.
use Rattle.std.proofs.Common.{refl}
use Rattle.digest.specs.Sha1.{round, shifted}
use Rattle.digest.proofs.block.turned.Goals as goal

pub returns : goal.returns
unfolding round shifted
returns c = λ t ef ek. rw (c.rotate_left.ensures, c.rotate_left-2.ensures, ef, ek) refl
