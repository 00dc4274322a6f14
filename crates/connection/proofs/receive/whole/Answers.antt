-- `receive::whole` is the definition, written out.
use mathlib.Core.Path.{refl}
use Rattle.connection.specs.Receive.{whole_of, slots_of}
use Rattle.connection.proofs.receive.whole.Goals as goal

pub returns : goal.returns
unfolding whole_of slots_of
returns c = refl
