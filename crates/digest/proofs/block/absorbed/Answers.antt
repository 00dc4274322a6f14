-- `block::absorbed`: after i turns the state has absorbed i blocks.
use Rattle.std.proofs.Common.{◌≡◌, refl, arith}
use Rattle.digest.specs.Sha1.{absorb, blocks_of}
use Rattle.digest.proofs.Absorb.{absorb_next, chunk_long}
use Rattle.digest.proofs.block.absorbed.Goals as goal

pub loop-block-init : goal.loop-block-init
unfolding absorb
loop-block-init c = refl

pub compressed-g-requires : goal.compressed-g-requires
compressed-g-requires c = let cut = c.as_chunks.ensures in
    chunk_long (blocks_of c.args.s.now) c.loop-block.block-index c.args.s.now _ cut.front refl c.loop-block-test.true cut.front_len

pub loop-block-preserved : goal.loop-block-preserved
loop-block-preserved c = let at = c.loop-block in
    absorb_next c.args.s.now at.block-index (blocks_of c.args.s.now) c.args.h at.g c.compressed-g.result _
    c.as_chunks.ensures.front (omega arith) c.compressed-g.ensures at.invariant

pub returns : goal.returns
returns c = let last : c.loop-block.block-index ≡ blocks_of c.args.s.now = omega arith in rw last at c.loop-block.invariant
