-- `hello::place_in`: by the reading.
use mathlib.Core.Path.{refl}
use Rattle.why.proofs.hello.place_in.Goals as goal

pub returns-in-Ok : goal.returns-in-Ok
returns-in-Ok c = rw c.in-Ok.is c.field_for.ensures

pub returns-in-Err : goal.returns-in-Err
returns-in-Err c = rw c.in-Err.is refl
