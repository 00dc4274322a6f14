-- `point::before`: after i turns, the connection that the first i records leave.
use mathlib.Core.Path.{◌≡◌, ◌∙◌, ap}
use lib.ListN.{take}
use Rattle.record.proofs.Covering.{walkable}
use Rattle.connection.specs.Receive.{end_of}
use Rattle.connection.proofs.Pointing.{fewer, left_none, left_more}
use native.Mathlib.Omega.{arith}
use Rattle.connection.proofs.point.before.Goals as goal

pub loop-i-init : goal.loop-i-init
loop-i-init c = let args = c.args in
    let pre = c.requires in (
      pre.0,
      fewer args.d.now args.walk.count args.index args.walk.records pre.1.1 (walkable _ args.walk pre.1.0),
      left_none args.c args.ours args.d.now args.walk.records,
    )

pub offset_bounds-records-i : goal.offset_bounds-records-i
offset_bounds-records-i c = omega (arith, c.loop-i-test.true, c.loop-i.invariant.1.few)

pub bounds-records-i : goal.bounds-records-i
bounds-records-i c = omega (arith, c.loop-i-test.true, c.loop-i.invariant.1.few)

pub whom_of-requires : goal.whom_of-requires
whom_of-requires c = let l = c.loop-i.invariant.1.each _ c.loop-i-test.true in
    (l.stand.some, omega (arith, l.inside, l.stand.used))

pub tell-next-requires : goal.tell-next-requires
tell-next-requires c = let l = c.loop-i.invariant.1.each _ c.loop-i-test.true in
    (c.whom_of.ensures, (c.loop-i.invariant.0, (l.stand.some, omega (arith, l.inside, l.stand.used))))

pub loop-i-smaller : goal.loop-i-smaller
loop-i-smaller c = omega (arith, c.loop-i-test.true)

pub loop-i-preserved : goal.loop-i-preserved
loop-i-preserved c = let args = c.args in
    let at = c.loop-i in
    let test = c.loop-i-test.true in (
      at.invariant.0,
      at.invariant.1,
      left_more args.c args.ours args.d.now args.walk.records at.i at.left c.tell-next.result (omega (arith, test, at.invariant.1.few, at.invariant.1.eight)) at.invariant.2 c.tell-next.ensures,
    )

pub returns : goal.returns
returns c = let args = c.args in
    let at = c.loop-i in
    let all : at.i ≡ args.index = omega (arith, at.auto.i-end, c.loop-i-test.false) in
    at.invariant.2 ∙ ap (λ n. end_of args.c args.ours args.d.now (take n args.walk.records)) all
