-- `state::kind_of`: by content, and by the first byte of a clear handshake record.
use mathlib.Core.Path.{refl}
use Rattle.digest.proofs.Picks.{if_eq, if_ne}
use native.Mathlib.Omega.{arith}
use Rattle.unit.proofs.state.kind_of.Goals as goal

pub returns-then-first-eq2 : goal.returns-then-first-eq2
returns-then-first-eq2 c = rw (c.in-Handshake-content.is, c.if-protected.false) (if_eq _ c.args.first 2 (omega arith) refl)

pub returns-then-first-eq0 : goal.returns-then-first-eq0
returns-then-first-eq0 c = rw (c.in-Handshake-content.is, c.if-protected.false) (if_ne _ c.args.first 2 (λ z. omega arith) (if_eq _ c.args.first 0 (omega arith) refl))

pub returns-else-first-eq0 : goal.returns-else-first-eq0
returns-else-first-eq0 c = rw (c.in-Handshake-content.is, c.if-protected.false) (if_ne _ c.args.first 2 (λ z. omega arith) (if_ne _ c.args.first 0 (λ z. omega arith) refl))
