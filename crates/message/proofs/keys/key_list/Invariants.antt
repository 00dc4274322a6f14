-- `message::keys::key_list` meets its contract. The invariant: the list is sound exactly if the walk from the place
-- reached succeeds. The measure is what is left. Assumes nothing.
use mathlib.Core.Path.{◌≡◌}
use Prim.Native.Nat.{◌≤◌, ◌-◌}
use lib.ListN.{length}
use Rattle.message.specs.Keys.{entries_from, key_list}
use Rattle.message.proofs.keys.key_list.Given as goal

abbrev pub invariant-loop-at : goal.invariant-loop-at
invariant-loop-at l = (l.at ≤ length l.s) × (key_list l.s ≡ entries_from (length l.s) l.s l.at)

abbrev pub decreases-loop-at : goal.decreases-loop-at
decreases-loop-at l = length l.s - l.at
