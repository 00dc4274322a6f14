-- `Hasher::new` is the fresh hasher.
use Rattle.digest.specs.Hasher.{fresh_hasher}
use Rattle.digest.proofs.pieces.Hasher.new.Goals as goal

pub returns : goal.returns
returns c = record { exact = λ i. record { state = c.initial.ensures i; rest = fresh_hasher.rest; count = 0 } }
