-- `put_at_front`: the loop keeps `Putting`, and each report moves it one distance on.
use mathlib.Core.Path.{◌≡◌, ◌∙◌, ap}
use Prim.Native.Nat.{◌+◌, ◌-◌}
use native.Mathlib.Omega.{arith}
use lib.ListN.{length, take, drop, length-drop}
use Rattle.std.proofs.lemmas.List.{take_rest}
use Rattle.digest.specs.Bytes.{laid_within}
use Rattle.dayfile.proofs.Trailing.{Putting, Step, step, few_in, put_begun, put_next, put_done}
use Rattle.dayfile.proofs.trailer.put_at_front.Goals as goal

pub loop-next-init : goal.loop-next-init
loop-next-init c = put_begun _ _ _ _ c.requires.reports c.requires.counted c.requires.body_len_bound c.requires.count_in_bounds c.put.ensures.exact

pub slice_bounds-left-count : goal.slice_bounds-left-count
slice_bounds-left-count c = (step _ _ c.loop-next.invariant.stands c.in-Some.ensures.0 c.in-Some.ensures.1).inside

pub slice_bounds-left-start : goal.slice_bounds-left-start
slice_bounds-left-start c = omega (arith, (step _ _ c.loop-next.invariant.stands c.in-Some.ensures.0 c.in-Some.ensures.1).inside)

pub loop-next-smaller : goal.loop-next-smaller
loop-next-smaller c =
    let left = c.loop-next.left.now in
    let n = c.in-Some.next in
    let x : Step left n = step _ _ c.loop-next.invariant.stands c.in-Some.ensures.0 c.in-Some.ensures.1 in
    let next : take (length left - n) (drop n left) ≡ drop n left = take_rest left n in
    omega (arith, ap length next, length-drop n left, x.inside, x.some)

pub loop-next-preserved : goal.loop-next-preserved
loop-next-preserved c =
    let left = c.loop-next.left.now in
    let n = c.in-Some.next in
    let next : take (length left - n) (drop n left) ≡ drop n left = take_rest left n in
    let go : Putting c.args.out.now c.args.body.now c.args.count c.put-in-Some.new.d (drop n left) (c.loop-next.place + 2)
    = put_next _ _ _ _ _ _ c.loop-next.invariant _ (step _ _ c.loop-next.invariant.stands c.in-Some.ensures.0 c.in-Some.ensures.1) _
    (c.put-in-Some.ensures.exact ∙ ap (laid_within c.loop-next.out c.loop-next.place) c.to_be_bytes.ensures) in
    rw next go

pub overflow_cast-count : goal.overflow_cast-count
overflow_cast-count c = omega (arith, c.requires.counted, few_in (Rattle.dayfile.specs.Runs.run_of c.args.body.now), ap length c.requires.reports, c.requires.body_len_bound)

pub returns : goal.returns
returns c =
    c.put-2.ensures.exact ∙ ap (laid_within c.loop-next.out c.loop-next.place) c.to_be_bytes-2.ensures
    ∙ put_done _ _ _ _ _ _ c.loop-next.invariant c.in_default.ensures
