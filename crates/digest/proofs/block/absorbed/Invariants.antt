-- `block::absorbed`: after i turns the state has absorbed i blocks.
use Rattle.std.proofs.Common.{◌≡◌}
use Rattle.digest.specs.Sha1.{absorb}
use Rattle.digest.proofs.block.absorbed.Given as goal

abbrev pub invariant-loop-block : goal.invariant-loop-block
invariant-loop-block l = l.g ≡ absorb l.s l.block-index l.initial.g
