-- `answer::handed`: the tests are the definition's.
use native.Mathlib.Omega.{arith}
use mathlib.Core.Path.{◌≡◌, refl, ap}
use lib.ListN.{length, take, drop}
use Prim.Native.Nat.{◌+◌, ◌-◌}
use borrow.Author.Tests.{le-leb, lt-leb}
use Rattle.digest.proofs.Picks.{pick_yes, pick_no}
use Rattle.connection.proofs.answer.handed.Goals as goal

pub returns-then-datagram-start : goal.returns-then-datagram-start
returns-then-datagram-start c = let d = c.args.datagram.now in
    let at = c.in-Data.start in
    rw c.in-Data.is (pick_no _ _ _ _ _ (lt-leb at (length d) (omega arith)) refl)

pub returns-then-datagram-start-2 : goal.returns-then-datagram-start-2
returns-then-datagram-start-2 c = let d = c.args.datagram.now in
    let at = c.in-Data.start in
    let size = c.in-Data.size in
    rw c.in-Data.is
    (pick_yes _ _ _ _ _ (le-leb at (length d) (omega arith)) (pick_no _ _ _ _ _ (lt-leb size (length d - at) (omega arith)) refl))

pub returns-else-datagram-start-2 : goal.returns-else-datagram-start-2
returns-else-datagram-start-2 c = let d = c.args.datagram.now in
    let at = c.in-Data.start in
    let size = c.in-Data.size in
    let back : at + size - at ≡ size = omega arith in
    rw c.in-Data.is
    (pick_yes _ _ _ _ _ (le-leb at (length d) (omega arith))
    (pick_yes _ _ _ _ _ (le-leb size (length d - at) (omega arith)) (ap (λ n. take n (drop at d)) back)))
