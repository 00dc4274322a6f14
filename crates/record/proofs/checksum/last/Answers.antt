-- `last`: by how many bytes are left.
use mathlib.Core.Path.{refl, ◌∙◌}
use Rattle.record.proofs.Blocks.{last_block}
use Rattle.record.proofs.checksum.last.Goals as goal

pub returns : goal.returns
returns c = c.from_be_bytes.ensures ∙ last_block c.args.s.now _ _ c.requires c.copy_from_slice.ensures.after refl
