-- `asked::in_open`: by what the record is.
use mathlib.Core.Path.{refl}
use Rattle.digest.proofs.Picks.{picks}
use Rattle.connection.proofs.asked.in_open.Goals as goal

pub returns-then-r-eq0 : goal.returns-then-r-eq0
returns-then-r-eq0 c = rw c.in-ClearHello.is (search picks depth 2)

pub returns-else-r-eq0 : goal.returns-else-r-eq0
returns-else-r-eq0 c = rw c.in-ClearHello.is (search picks depth 2)

pub returns-in-ClearChange : goal.returns-in-ClearChange
returns-in-ClearChange c = rw c.in-ClearChange.is c.beside-in-ClearChange.ensures

pub returns-in-ClearAlert : goal.returns-in-ClearAlert
returns-in-ClearAlert c = rw c.in-ClearAlert.is c.beside-in-ClearAlert.ensures

pub returns-in-OtherClear : goal.returns-in-OtherClear
returns-in-OtherClear c = rw c.in-OtherClear.is c.beside-in-OtherClear.ensures

pub returns-in-ProtectedChange : goal.returns-in-ProtectedChange
returns-in-ProtectedChange c = rw c.in-ProtectedChange.is refl

pub returns-in-ProtectedAlert : goal.returns-in-ProtectedAlert
returns-in-ProtectedAlert c = rw c.in-ProtectedAlert.is refl

pub returns-in-ProtectedHandshake : goal.returns-in-ProtectedHandshake
returns-in-ProtectedHandshake c = rw c.in-ProtectedHandshake.is c.finished.ensures

pub returns-in-ProtectedData : goal.returns-in-ProtectedData
returns-in-ProtectedData c = rw c.in-ProtectedData.is refl
