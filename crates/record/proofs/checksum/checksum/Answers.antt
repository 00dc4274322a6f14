-- `checksum`: the loop keeps `Summed`, and the last block ends it.
use mathlib.Core.Path.{◌≡◌, ap, ◌∙◌}
use mathlib.Core.List.{List}
use Prim.Native.Nat.{ℕ, ◌*◌, ◌/◌}
use native.Mathlib.Omega.{arith}
use lib.ListN.{length, drop, length-drop}
use lib.Bits.{bit_xor}
use Rattle.digest.specs.Bytes.{word_at}
use Rattle.record.specs.Checksum.{padded}
use Rattle.record.proofs.Blocks.{begun, block_on, done}
use Rattle.record.proofs.checksum.checksum.Goals as goal

pub loop-block-init : goal.loop-block-init
loop-block-init c = begun _

pub loop-block-preserved : goal.loop-block-preserved
loop-block-preserved c =
    block_on c.args.s.now c.as_chunks.result.0.now _ _ _ c.as_chunks.ensures.front (omega (arith, c.as_chunks.ensures.front_len)) c.from_be_bytes-sum.ensures (λ j. omega (arith, c.type_inv.s j)) c.loop-block.invariant

pub returns : goal.returns
returns c = let s : List ℕ = c.args.s.now in
    let k : ℕ = c.loop-block.block-index in
    let all : length s / 4 * 4 ≡ k * 4 = omega (arith, c.as_chunks.ensures.front_len) in
    let back : c.as_chunks.result.1.now ≡ drop (k * 4) s = c.as_chunks.ensures.back ∙ ap (λ (i : ℕ). drop i s) all in
    ap (bit_xor c.loop-block.sum) (c.last.ensures ∙ ap (λ (x : List ℕ). word_at (padded x) 0) back)
    ∙ done s _ (k * 4) c.loop-block.invariant (omega (arith, length-drop (k * 4) s)) (λ j. omega (arith, c.type_inv.s j))
