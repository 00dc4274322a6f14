-- `judge::step_by`: the rule of the table for what the record is.
use Prim.Native.Nat.{◌+◌, ◌-◌}
use mathlib.Core.Path.{◌≡◌, ap}
use lib.ListN.{take, drop}
use Rattle.connection.specs.Later.{judged_else}
use Rattle.connection.proofs.Stepping.{else_as}
use native.Mathlib.Omega.{arith}
use Rattle.connection.proofs.judge.step_by.Goals as goal

pub returns : goal.returns
unfolding judged_else
returns c = let args = c.args in
    let at = args.r.start + args.r.head in
    let back : at + args.r.size - at ≡ args.r.size = omega arith in
    else_as args.h args.sent args.d.now args.r _ c.kind_of-is.result c.rule_of.result c.ruled_else.result
    (ap (λ n. take n (drop at args.d.now)) back) c.kind_of-is.ensures c.rule_of.ensures c.ruled_else.ensures
