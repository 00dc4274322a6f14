-- `judge::judge`: the rule of the table for what the record is.
use Prim.Native.Nat.{◌+◌, ◌-◌}
use mathlib.Core.Path.{◌≡◌, ap}
use lib.ListN.{take, drop}
use Rattle.connection.specs.Judge.{judged_record}
use Rattle.connection.proofs.Filling.{ruled_as}
use native.Mathlib.Omega.{arith}
use Rattle.connection.proofs.judge.judge.Goals as goal

pub returns : goal.returns
unfolding judged_record
returns c = let args = c.args in
    let at = args.r.start + args.r.head in
    let back : at + args.r.size - at ≡ args.r.size = omega arith in
    ruled_as args.h args.sent args.random args.d.now args.r _ c.kind_of-is.result c.rule_of.result c.ruled.result
    (ap (λ n. take n (drop at args.d.now)) back) c.kind_of-is.ensures c.rule_of.ensures c.ruled.ensures
