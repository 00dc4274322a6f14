-- `block::first`: each turn is a word of the block and its round, with the function and the constant of the first twenty.
use Rattle.std.proofs.Common.{◌≡◌, length}
use Rattle.digest.specs.Sha1.{words}
use Rattle.digest.specs.Midway.{Reached}
use Rattle.digest.specs.declared.block.State.{State}
use Rattle.digest.proofs.block.first.Given as goal

abbrev pub invariant-loop-t : goal.invariant-loop-t
invariant-loop-t l = (length l.w ≡ 16)
    × ((h : State) → Reached (words l.block 16) h l.from (record { state = l.initial.g; words = l.initial.w }) → Reached (words l.block 16) h l.t (record { state = l.g; words = l.w }))
