-- `lines`: the walk's answer can be gone through (`Walkable`), and each record of it lies in the datagram.
use Rattle.std.proofs.Common.{◌≡◌, ◌+◌, ◌^◌, ◌<◌, ℕ, List, Ok, length, take, get_or, arith}
use Rattle.std.proofs.lemmas.List.{get_or-take, length-take}
use Rattle.record.specs.Datagram.{walk_of, blank}
use Rattle.record.specs.declared.datagram.Walk.{Walk}
use Rattle.record.proofs.Covering.{walkable}
use Rattle.lister.proofs.lines.Goals as goal

-- a record that was found begins and has its header within the datagram
heads : (d : List ℕ) (w : Walk) → walk_of d ≡ Ok w → (i : ℕ) → i < length (take w.count w.records) → length d < 2 ^ 64
    → (get_or (take w.count w.records) i blank).start + (get_or (take w.count w.records) i blank).head < 2 ^ 64
heads d w e i h small =
    let within : i < w.count = omega (arith, length-take w.count w.records) in
    let found = (walkable d w e).each i within in
    let same = get_or-take w.count w.records i blank within in
    rw same (omega (arith, found.inside, found.stand.used))

pub slice_bounds-records-end : goal.slice_bounds-records-end
slice_bounds-records-end g c =
    let w = walkable _ c.args.walk c.requires in
    omega (arith, w.few, w.eight, length-take c.args.walk.count c.args.walk.records)

pub slice_bounds-all-end : goal.slice_bounds-all-end
slice_bounds-all-end g c = let w = walkable _ c.args.walk c.requires in omega (arith, w.few, w.eight)

pub line-requires : goal.line-requires
line-requires g c = heads c.args.d.now c.args.walk c.requires c.loop-i.i (omega arith) (omega arith)
