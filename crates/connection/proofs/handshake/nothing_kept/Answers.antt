-- `handshake::nothing_kept` is the definition, written out.
use mathlib.Core.Path.{refl}
use Rattle.connection.specs.Handshake.{nothing_kept}
use Rattle.connection.proofs.handshake.nothing_kept.Goals as goal

pub returns : goal.returns
unfolding nothing_kept
returns c = refl
