-- `datagrams::changed`: the first record takes no more than the room, and the second no more than what it leaves.
use Prim.Native.Nat.{◌+◌, ◌≤◌}
use native.Mathlib.Omega.{arith}
use lib.ListN.{length}
use borrow.Author.Rules.{rules}
use Rattle.handshakes.proofs.Room.{fits, both_fit}
use Rattle.handshakes.proofs.datagrams.changed.Goals as goal

pub slice_bounds-write_protected-count : goal.slice_bounds-write_protected-count
slice_bounds-write_protected-count c = fits _ _ _ _ c.write_clear-first.ensures.count (omega arith)

pub slice_bounds-write_protected-start : goal.slice_bounds-write_protected-start
slice_bounds-write_protected-start c = fits _ _ _ _ c.write_clear-first.ensures.count (omega arith)

pub overflow_add-result : goal.overflow_add-result
overflow_add-result c =
    let both : c.write_clear-first.result + c.write_protected-rest.result ≤ length c.args.out.now =
    both_fit _ _ _ _ _ _ _ c.write_clear-first.ensures.count c.write_protected-rest.ensures.count (omega arith) (omega arith)
    in
    search rules

pub returns : goal.returns
returns c = both_fit _ _ _ _ _ _ _ c.write_clear-first.ensures.count c.write_protected-rest.ensures.count (omega arith) (omega arith)
