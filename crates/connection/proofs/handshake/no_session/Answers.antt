-- `handshake::no_session` is the definition, written out.
use mathlib.Core.Path.{refl}
use Rattle.connection.specs.Handshake.{no_session}
use Rattle.connection.proofs.handshake.no_session.Goals as goal

pub returns : goal.returns
unfolding no_session
returns c = refl
