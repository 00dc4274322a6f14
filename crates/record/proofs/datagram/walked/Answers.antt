-- `walked`: the loop keeps `Walked`, and each way out of it gives the framing of the whole datagram.
use mathlib.Core.Path.{◌≡◌, sym, ap, ◌∙◌}
use mathlib.Core.List.{List}
use Prim.Native.Nat.{ℕ}
use lib.ListN.{length-drop}
use native.Mathlib.Omega.{arith}
use borrow.Author.Tests.{eqb-true, eqb-false}
use Rattle.record.specs.Datagram.{answered}
use Rattle.record.proofs.Standing.{takes}
use Rattle.record.proofs.Walking.{ninth, fault, go_on, done, found, no_bytes, too_long, sized, read_here}
use Rattle.record.proofs.datagram.walked.Goals as goal
use Rattle.record.proofs.datagram.walked.Goals.{then-is_empty-via-then-is_empty, then-is_empty-via-else-is_empty+then-d-gt-LONGEST}
use Rattle.std.specs.Prelude.{Ok}

pub returns-then-is_empty : goal.returns-then-is_empty
returns-then-is_empty c = elim c.then-is_empty.branch [
  | then-is_empty-via-then-is_empty w ↦ ap answered (sym (no_bytes c.args.d.now (eqb-true _ 0 (sym w.if-is_empty.ensures))))
  | then-is_empty-via-else-is_empty+then-d-gt-LONGEST w ↦ ap answered (sym (too_long c.args.d.now w.if-d-gt-LONGEST.true))
]

pub returns-then-at-d : goal.returns-then-at-d
returns-then-at-d c = let d : List ℕ = c.args.d.now in
    let w = c.loop-count.invariant in
    ap Ok (sym (found d _ _ _ w)) ∙ ap answered (sym (sized d (eqb-false _ 0 (sym c.if-is_empty.ensures)) c.if-d-gt-LONGEST.false ∙ done d _ _ _ w (omega arith)))

pub returns-in-Err : goal.returns-in-Err
returns-in-Err c = let d : List ℕ = c.args.d.now in
    let at : ℕ = c.loop-count.at in
    let w = c.loop-count.invariant in
    ap answered (sym (sized d (eqb-false _ 0 (sym c.if-is_empty.ensures)) c.if-d-gt-LONGEST.false ∙ fault d _ _ at w (omega (arith, w.inside)) (λ e. omega arith) _ (read_here d at _ _ c.read.ensures c.in-Err.is)))

pub overflow_add-at : goal.overflow_add-at
overflow_add-at c = omega (arith, takes _ _ (read_here c.args.d.now c.loop-count.at _ _ c.read.ensures c.in-Ok.is), length-drop c.loop-count.at c.args.d.now, c.loop-count.invariant.inside, c.well_formed)

pub loop-count-preserved : goal.loop-count-preserved
loop-count-preserved c =
    go_on c.args.d.now _ _ _ c.loop-count.invariant (omega (arith, c.loop-count.invariant.inside)) (λ e. omega arith) _ (read_here c.args.d.now c.loop-count.at _ _ c.read.ensures c.in-Ok.is)

pub returns-then-at-d-2 : goal.returns-then-at-d-2
returns-then-at-d-2 c = let d : List ℕ = c.args.d.now in
    ap answered (sym (sized d (eqb-false _ 0 (sym c.if-is_empty.ensures)) c.if-d-gt-LONGEST.false ∙ ninth d _ _ _ c.loop-count.invariant c.if-at-d-2.true (omega arith)))

pub returns : goal.returns
returns c = let d : List ℕ = c.args.d.now in
    let w = c.loop-count.invariant in
    let all : c.loop-count.count ≡ 8 = omega arith in
    rw (sym all)
    (ap Ok (sym (found d _ _ _ w)) ∙ ap answered (sym (sized d (eqb-false _ 0 (sym c.if-is_empty.ensures)) c.if-d-gt-LONGEST.false ∙ done d _ _ _ w (omega arith))))
