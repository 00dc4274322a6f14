-- `key::padded`: one block, from the start.
use Rattle.std.proofs.Common.{◌∙◌, ap₂, rules}
use Rattle.digest.specs.Sha1.{compress}
use Rattle.digest.proofs.Absorb.{absorb_block}
use Rattle.digest.proofs.key.padded.Goals as goal

pub returns : goal.returns
returns c = c.absorbed.ensures
    ∙ absorb_block c.masked-pad.result c.initial.result (search rules)
    ∙ ap₂ compress c.masked-pad.ensures c.initial.ensures
