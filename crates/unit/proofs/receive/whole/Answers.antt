-- `receive::whole` is the definition, written out.
use mathlib.Core.Path.{refl}
use Rattle.unit.specs.Receive.{whole_of, slots_of}
use Rattle.unit.proofs.receive.whole.Goals as goal

pub returns : goal.returns
unfolding whole_of slots_of
returns c = refl
