-- `receive::each`: after i turns the first i records are answered, each in the state that those before it left.
use mathlib.Core.Path.{◌≡◌, refl, ◌∙◌, ap}
use Rattle.digest.specs.Bytes.{laid_over}
use Rattle.record.proofs.Covering.{walkable}
use Rattle.unit.specs.Receive.{slots_of}
use Rattle.unit.proofs.Running.{ran_none, ran_more, ran_at, run_by, flight_is}
use native.Mathlib.Omega.{arith}
use Rattle.unit.proofs.receive.each.Goals as goal

pub loop-i-init : goal.loop-i-init
unfolding slots_of
loop-i-init c = (walkable _ c.args.walk c.requires.0, ran_none _ _ _ _ refl)

pub offset_bounds-records-i : goal.offset_bounds-records-i
offset_bounds-records-i c = omega (arith, c.loop-i-test.true, c.loop-i.invariant.0.few)

pub bounds-records-i : goal.bounds-records-i
bounds-records-i c = omega (arith, c.loop-i-test.true, c.loop-i.invariant.0.few)

pub judge-next-requires : goal.judge-next-requires
judge-next-requires c = let l = c.loop-i.invariant.0.each _ c.loop-i-test.true in (l.stand.some, omega (arith, l.inside, l.stand.used))

pub offset_bounds-answers-i : goal.offset_bounds-answers-i
offset_bounds-answers-i c = omega (arith, c.loop-i-test.true, c.loop-i.invariant.0.few)

pub bounds-answers-i : goal.bounds-answers-i
bounds-answers-i c = omega (arith, c.loop-i-test.true, c.loop-i.invariant.0.few)

pub loop-i-smaller : goal.loop-i-smaller
loop-i-smaller c = omega (arith, c.loop-i-test.true)

pub loop-i-preserved : goal.loop-i-preserved
loop-i-preserved c = let at = c.loop-i in
    let test = c.loop-i-test.true in (
      at.invariant.0,
      ran_more _ _ _ at.answers at.left at.opens at.i (omega (arith, test, at.invariant.0.few)) at.invariant.0.eight c.judge-next.result _ c.judge-next.ensures c.opens_by-opens.ensures at.invariant.1,
    )

pub put_flight-written-requires : goal.put_flight-written-requires
put_flight-written-requires c = omega (arith, c.requires.1)

pub returns : goal.returns
returns c = let at = c.loop-i in
    let a = c.args in
    let last : at.i ≡ a.walk.count = omega (arith, c.loop-i-test.false, at.auto.i-end) in
    let ran = ran_at _ _ _ _ _ _ _ _ last at.invariant.1 in record { value = run_by a.u a.d.now a.walk.records a.walk.count at.answers at.left at.opens _ (omega (arith, at.invariant.0.few, at.invariant.0.eight)) ran c.put_flight-written.ensures.value; out_after = c.put_flight-written.ensures.out_after ∙ ap (laid_over a.out.now 0) (flight_is a.u a.d.now a.walk.records a.walk.count at.answers at.left at.opens ran) }
