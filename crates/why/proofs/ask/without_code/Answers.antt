-- `ask::without_code`: a fragment shorter than its code has no content.
use mathlib.Core.Path.{◌≡◌, sym, ap}
use native.Mathlib.Omega.{arith}
use Prim.Native.Nat.{◌-◌}
use lib.ListN.{length, take}
use lib.Seq.{length-take-le}
use Rattle.why.proofs.ask.without_code.Goals as goal

pub returns-then-fragment-code : goal.returns-then-fragment-code
returns-then-fragment-code c = let args = c.args in
    let f = args.fragment.now in
    let none : 0 ≡ length f - args.code = omega arith in
    ap (λ n. take n f) none

pub slice_bounds-result-length : goal.slice_bounds-result-length
slice_bounds-result-length c = let args = c.args in
    let f = args.fragment.now in
    sym (length-take-le (length f - args.code) f (omega arith))
