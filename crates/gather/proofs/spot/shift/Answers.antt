-- `shift`: the loop keeps `Shifted`, a block at a time.
use mathlib.Core.Path.{◌≡◌, sym, ◌∙◌, ap}
use Prim.Native.Nat.{◌+◌, ◌-◌}
use native.Mathlib.Omega.{arith}
use lib.ListN.{take, drop}
use Rattle.std.proofs.lemmas.List.{take_rest}
use Rattle.digest.specs.Bytes.{laid_over}
use Rattle.gather.proofs.Laying.{nothing_moved, some_moved, laid_same}
use Rattle.gather.proofs.spot.shift.Goals as goal

pub returns-then-n-eq0 : goal.returns-then-n-eq0
returns-then-n-eq0 c =
    let d = c.args.d.now in
    let from = c.args.from in
    let up : from + c.args.n ≡ from = omega (arith, c.if-n-eq0.true) in
    sym (ap (λ k. laid_over d k (take (c.args.end - from) (drop from d))) up ∙ laid_same d from (c.args.end - from) (omega arith))

pub loop-i-init : goal.loop-i-init
loop-i-init c = nothing_moved _ _ _ _ (omega arith) (omega arith)

pub loop-i-preserved : goal.loop-i-preserved
loop-i-preserved c =
    some_moved _ _ _ _ _ _ c.loop-i.invariant c.min-m.result (omega arith) (omega arith) _ _ _ _ c.split_at_mut-low.ensures.value
    c.split_at_mut-low.ensures.front_len (take_rest c.split_at_mut-low.result.0.now (c.loop-i.i - c.min-m.result)) c.put.ensures.exact
