-- `state::kind_of`: by the content and the flag; a clear handshake record by its first byte.
use native.Mathlib.Omega.{arith}
use Rattle.digest.proofs.Picks.{if_eq, if_ne}
use mathlib.Core.Path.{refl}
use Rattle.connection.proofs.state.kind_of.Goals as goal

pub returns-then-first-eq1 : goal.returns-then-first-eq1
returns-then-first-eq1 c = rw (c.in-Handshake-content.is, c.if-protected.false) (if_eq _ c.args.first 1 (omega arith) refl)

pub returns-else-first-eq1 : goal.returns-else-first-eq1
returns-else-first-eq1 c = rw (c.in-Handshake-content.is, c.if-protected.false) (if_ne _ c.args.first 1 (λ z. omega arith) refl)
