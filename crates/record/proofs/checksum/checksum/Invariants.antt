-- `checksum`: the loop keeps `Summed`, and the last block ends it.
use Prim.Native.Nat.{◌*◌}
use Rattle.record.proofs.Blocks.{Summed}
use Rattle.record.proofs.checksum.checksum.Given as goal

abbrev pub invariant-loop-block : goal.invariant-loop-block
invariant-loop-block l = Summed l.s l.sum (l.block-index * 4)
