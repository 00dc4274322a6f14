-- `datagrams::replied`: the first record takes no more than the room, and the rest no more than what it leaves.
use Prim.Native.Nat.{◌≤◌}
use native.Mathlib.Omega.{arith}
use lib.ListN.{length}
use Rattle.handshakes.proofs.Room.{fits}
use Rattle.handshakes.proofs.datagrams.replied.Goals as goal

pub slice_bounds-changed-count : goal.slice_bounds-changed-count
slice_bounds-changed-count c = fits _ _ _ _ c.write_clear-first.ensures.count (omega arith)

pub slice_bounds-changed-start : goal.slice_bounds-changed-start
slice_bounds-changed-start c = fits _ _ _ _ c.write_clear-first.ensures.count (omega arith)

pub returns : goal.returns
returns c =
    let first : c.write_clear-first.result ≤ length c.args.out.now = fits _ _ _ _ c.write_clear-first.ensures.count (omega arith) in
    omega (arith, first)
