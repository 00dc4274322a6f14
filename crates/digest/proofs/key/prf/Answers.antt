-- `key::prf`: the expansion under the key of the secret.
use Rattle.digest.proofs.key.prf.Goals as goal

pub returns : goal.returns
returns c = record { exact = c.expand.ensures.meaning _ c.new.ensures.exact }
