-- `Key::begin` is a hasher at the inner state, behind one block.
use Rattle.std.proofs.Common.{refl}
use Rattle.digest.proofs.key.Key.begin.Goals as goal

pub returns : goal.returns
returns c = record { exact = refl }
