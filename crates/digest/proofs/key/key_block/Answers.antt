-- `key::key_block`: zeros stand behind the bytes.
use Rattle.std.proofs.Common.{rules}
use Rattle.digest.proofs.Codes.{block_by, length_laid_zeros}
use Rattle.digest.proofs.key.key_block.Goals as goal

pub returns : goal.returns
returns c = let k = c.args.k.now in
    (λ m e. block_by m k c.lay.new.d e (search rules) c.lay.ensures, length_laid_zeros k c.lay.new.d (search rules) c.lay.ensures)
