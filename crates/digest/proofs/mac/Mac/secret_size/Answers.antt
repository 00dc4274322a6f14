-- `secret_size`: the constant is the value of the definition.
use Rattle.std.proofs.Common.{refl}
use Rattle.digest.proofs.mac.Mac.secret_size.Goals as goal

pub returns : goal.returns
returns c = record { exact = refl }
