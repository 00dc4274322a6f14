-- `key::hashed`: twenty bytes behind a block are 84 in all.
use Rattle.std.proofs.Common.{◌∙◌, arith, rules}
use Rattle.digest.proofs.Codes.{behind_block}
use Rattle.digest.proofs.key.hashed.Goals as goal

pub ending-requires : goal.ending-requires
ending-requires c = omega arith

pub returns : goal.returns
returns c = c.ending.ensures ∙ behind_block _ _ (search rules)
