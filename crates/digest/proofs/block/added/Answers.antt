-- `block::added`: each word is the sum that the wrapping addition ensures.
use Rattle.std.proofs.Common.{refl}
use Rattle.digest.specs.Sha1.{joined}
use Rattle.digest.proofs.block.added.Goals as goal

pub returns : goal.returns
unfolding joined
returns c = refl
