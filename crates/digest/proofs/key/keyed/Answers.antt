-- `key::keyed`: both pads of the key's block.
use Rattle.digest.proofs.Codes.{key_by}
use Rattle.digest.proofs.key.keyed.Goals as goal

pub returns : goal.returns
returns c = λ m e.
    let block = c.key_block-block in
    key_by m block.result _ _ (block.ensures.0 m e) c.padded.ensures c.padded-2.ensures
