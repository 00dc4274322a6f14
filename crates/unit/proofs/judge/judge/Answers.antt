-- `judge::judge`: the rule of the table for what the record is.
use mathlib.Core.Path.{◌≡◌, ap}
use native.Mathlib.Omega.{arith}
use Prim.Native.Nat.{◌+◌, ◌-◌}
use lib.ListN.{take, drop}
use Rattle.unit.proofs.Parts.{ruled_as}
use Rattle.unit.proofs.judge.judge.Goals as goal

pub returns : goal.returns
returns c = let args = c.args in
    let at = args.r.start + args.r.head in
    let back : at + args.r.size - at ≡ args.r.size = omega arith in
    ruled_as args.u args.d.now args.r _ c.kind_of-is.result c.rule_of.result c.ruled.result
    (ap (λ n. take n (drop at args.d.now)) back) c.kind_of-is.ensures c.rule_of.ensures c.ruled.ensures
