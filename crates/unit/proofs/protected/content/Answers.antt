-- `protected::content`: by the kind.
use Rattle.digest.proofs.Picks.{if_eq, if_ne}
use native.Mathlib.Omega.{arith}
use lib.ListN.{length}
use Rattle.unit.specs.Protected.{content_by}
use Rattle.unit.proofs.protected.content.Goals as goal

pub returns-then-content-eq0 : goal.returns-then-content-eq0
unfolding content_by
returns-then-content-eq0 c = rw c.in-ProtectedData.is (if_eq _ (length c.args.content.now) 0 (omega arith) c.refuse.ensures)

pub returns-else-content-eq0 : goal.returns-else-content-eq0
unfolding content_by
returns-else-content-eq0 c = rw c.in-ProtectedData.is (if_ne _ (length c.args.content.now) 0 (λ z. omega arith) c.lead.ensures)

pub returns-in-ProtectedAlert : goal.returns-in-ProtectedAlert
unfolding content_by
returns-in-ProtectedAlert c = rw c.in-ProtectedAlert.is c.alerted.ensures

pub returns-in-ProtectedHandshake : goal.returns-in-ProtectedHandshake
unfolding content_by
returns-in-ProtectedHandshake c = rw c.in-ProtectedHandshake.is c.handshake.ensures

pub returns-in-ProtectedChange : goal.returns-in-ProtectedChange
unfolding content_by
returns-in-ProtectedChange c = rw c.in-ProtectedChange.is c.refuse-in-ProtectedChange.ensures

pub returns-in-ClearHello : goal.returns-in-ClearHello
unfolding content_by
returns-in-ClearHello c = rw c.in-ClearHello.is c.refuse-in-ClearHello.ensures

pub returns-in-ClearRequest : goal.returns-in-ClearRequest
unfolding content_by
returns-in-ClearRequest c = rw c.in-ClearRequest.is c.refuse-in-ClearRequest.ensures

pub returns-in-ClearChange : goal.returns-in-ClearChange
unfolding content_by
returns-in-ClearChange c = rw c.in-ClearChange.is c.refuse-in-ClearChange.ensures

pub returns-in-ClearAlert : goal.returns-in-ClearAlert
unfolding content_by
returns-in-ClearAlert c = rw c.in-ClearAlert.is c.refuse-in-ClearAlert.ensures

pub returns-in-OtherClear : goal.returns-in-OtherClear
unfolding content_by
returns-in-OtherClear c = rw c.in-OtherClear.is c.refuse-in-OtherClear.ensures
