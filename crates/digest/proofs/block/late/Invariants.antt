-- `block::late`: each turn is a word turned over and its round, with the function and the constant of its twenty.
use Rattle.std.proofs.Common.{◌≡◌, ℕ, List, length}
use Rattle.digest.specs.Midway.{Reached}
use Rattle.digest.specs.declared.block.State.{State}
use Rattle.digest.proofs.block.late.Given as goal

abbrev pub invariant-loop-t : goal.invariant-loop-t
invariant-loop-t g l = (length l.w ≡ 16)
    × ((m : List ℕ) (h : State) → length m ≡ 16 → Reached m h l.from (record { state = l.initial.g; words = l.initial.w }) → Reached m h l.t (record { state = l.g; words = l.w }))
