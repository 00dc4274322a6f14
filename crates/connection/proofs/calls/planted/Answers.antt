-- `calls::planted`: each array is the bytes lent.
use Rattle.connection.proofs.Filling.{filled_whole}
use native.Mathlib.Omega.{arith}
use Rattle.connection.proofs.calls.planted.Goals as goal

pub returns : goal.returns
returns c = λ i. record { id = filled_whole 8 c.args.id.now c.put.new.d (omega arith) c.put.ensures.exact i; secret = filled_whole 20 c.args.secret.now c.put-2.new.d (omega arith) c.put-2.ensures.exact i }
