-- `numbers_stand`: the loop keeps `Matching`; a number that differs, or is missing, tells that the bytes do.
use mathlib.Core.Path.{◌≡◌, refl, sym, ◌∙◌, ap}
use Prim.Native.Nat.{◌-◌}
use native.Mathlib.Omega.{arith}
use lib.Dec.{eqb}
use lib.ListN.{length, take, drop, length-drop}
use Rattle.std.proofs.lemmas.List.{take_rest}
use Rattle.dayfile.proofs.Trailing.{Matching, Step, step, pair_first, match_missing, match_differs, match_next, match_not_one, match_done}
use Rattle.dayfile.proofs.trailer.numbers_stand.Goals as goal

pub loop-next-init : goal.loop-next-init
loop-next-init c =
    record {
      below = λ k. omega (arith, c.type_inv.numbers k);
      small = c.requires.body_len_bound;
      stands = c.requires.reports;
      same = refl;
    }

pub returns-in_default-split_first_chunk : goal.returns-in_default-split_first_chunk
returns-in_default-split_first_chunk c = match_missing _ _ _ _ _ c.loop-next.invariant _ (step _ _ c.loop-next.invariant.stands c.in-Some.ensures.0 c.in-Some.ensures.1) c.in_default-split_first_chunk.ensures.cases

pub returns-then-from-left : goal.returns-then-from-left
returns-then-from-left c =
    let cases = c.in-Some-split_first_chunk.ensures.cases in
    match_differs _ _ _ _ _ c.loop-next.invariant _ (step _ _ c.loop-next.invariant.stands c.in-Some.ensures.0 c.in-Some.ensures.1) (omega (arith, cases.2))
    (λ e. omega (arith, c.from.ensures, c.from_be_bytes.ensures, pair_first c.loop-next.rest.now _ cases.0))

pub slice_bounds-left-count : goal.slice_bounds-left-count
slice_bounds-left-count c = (step _ _ c.loop-next.invariant.stands c.in-Some.ensures.0 c.in-Some.ensures.1).inside

pub slice_bounds-left-start : goal.slice_bounds-left-start
slice_bounds-left-start c = omega (arith, (step _ _ c.loop-next.invariant.stands c.in-Some.ensures.0 c.in-Some.ensures.1).inside)

pub loop-next-smaller : goal.loop-next-smaller
loop-next-smaller c =
    let left = c.loop-next.left.now in
    let n = c.in-Some.next in
    let x : Step left n = step _ _ c.loop-next.invariant.stands c.in-Some.ensures.0 c.in-Some.ensures.1 in
    let next : take (length left - n) (drop n left) ≡ drop n left = take_rest left n in
    omega (arith, ap length next, length-drop n left, x.inside, x.some)

pub loop-next-preserved : goal.loop-next-preserved
loop-next-preserved c =
    let cases = c.in-Some-split_first_chunk.ensures.cases in
    let left = c.loop-next.left.now in
    let n = c.in-Some.next in
    let next : take (length left - n) (drop n left) ≡ drop n left = take_rest left n in
    let go : Matching c.args.numbers.now c.args.body.now c.args.count (drop 2 c.loop-next.rest.now) (drop n left)
    = match_next _ _ _ _ _ c.loop-next.invariant _ (step _ _ c.loop-next.invariant.stands c.in-Some.ensures.0 c.in-Some.ensures.1) (omega (arith, cases.2))
    (sym (c.from.ensures ∙ c.from_be_bytes.ensures ∙ pair_first _ _ cases.0) ∙ c.if-from-left.false) in
    rw (cases.1, next) go

pub returns-in_default-rest : goal.returns-in_default-rest
returns-in_default-rest c = match_not_one _ _ _ _ _ c.loop-next.invariant c.in_default.ensures (λ e. omega (arith, c.in_default-rest.len_below))

pub returns-in_default-rest-2 : goal.returns-in_default-rest-2
returns-in_default-rest-2 c = match_not_one _ _ _ _ _ c.loop-next.invariant c.in_default.ensures (λ e. omega (arith, c.in_default-rest.len_at_least))

pub returns : goal.returns
returns c =
    ap (λ n. eqb n c.args.count) (c.from-2.ensures ∙ c.from_be_bytes-2.ensures)
    ∙ match_done _ _ _ _ _ c.loop-next.invariant c.in_default.ensures c.requires.count_bound (omega (arith, c.in-len2.len_at_least, c.in-len2.len_below))
