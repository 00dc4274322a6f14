-- `point::among`: 16 past the last record; else the record in the connection that those before it left.
use native.Mathlib.Omega.{arith}
use Rattle.record.proofs.Covering.{walkable}
use Rattle.connection.proofs.Pointing.{none_among, one_among, nowhere_inside, lies_inside}
use Rattle.connection.proofs.point.among.Goals as goal

pub returns-then-count-index : goal.returns-then-count-index
returns-then-count-index c = let args = c.args in
    let w = walkable _ args.walk c.requires.1 in record { value = none_among args.c args.ours args.d.now args.walk.records args.walk.count args.index c.nowhere.result (omega (arith, w.few, w.eight)) (omega (arith, c.if-count-index.true)) c.nowhere.ensures; size_in_bounds = nowhere_inside args.c _ _ args.d.now c.nowhere.ensures }

pub offset_bounds-records-index : goal.offset_bounds-records-index
offset_bounds-records-index c = let w = walkable _ c.args.walk c.requires.1 in omega (arith, w.few, c.if-count-index.false)

pub bounds-records-index : goal.bounds-records-index
bounds-records-index c = let w = walkable _ c.args.walk c.requires.1 in omega (arith, w.few, c.if-count-index.false)

pub whom_of-whom-requires : goal.whom_of-whom-requires
whom_of-whom-requires c = let args = c.args in
    let w = walkable _ args.walk c.requires.1 in
    let l = w.each args.index (omega (arith, c.if-count-index.false)) in
    (l.stand.some, lies_inside _ _ l)

pub tell-told-requires : goal.tell-told-requires
tell-told-requires c = let args = c.args in
    let w = walkable _ args.walk c.requires.1 in
    let l = w.each args.index (omega (arith, c.if-count-index.false)) in
    (c.whom_of-whom.ensures, (c.requires.0, (l.stand.some, lies_inside _ _ l)))

pub returns : goal.returns
returns c = let args = c.args in
    let w = walkable _ args.walk c.requires.1 in
    let l = w.each args.index (omega (arith, c.if-count-index.false)) in record { value = one_among args.c args.ours args.d.now args.walk.records args.walk.count args.index c.before-left.result c.whom_of-whom.result c.tell-told.result (omega (arith, w.few, w.eight)) (omega (arith, c.if-count-index.false)) c.before-left.ensures c.whom_of-whom.ensures c.tell-told.ensures; size_in_bounds = lies_inside _ _ l }
