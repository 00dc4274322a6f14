-- `protected::handshake`: a HelloRequest, or a Finished.
use mathlib.Core.Path.{sym}
use Rattle.unit.specs.Protected.{handshake_by}
use Rattle.unit.proofs.protected.handshake.Goals as goal

pub returns-then-is_request : goal.returns-then-is_request
unfolding handshake_by
returns-then-is_request c = rw (sym c.is_request.ensures, c.if-is_request.true) c.request.ensures

pub returns : goal.returns
unfolding handshake_by
returns c = rw (sym c.is_request.ensures, c.if-is_request.false) c.verified.ensures
