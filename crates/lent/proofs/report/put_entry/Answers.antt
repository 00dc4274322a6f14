-- `report::put_entry`: four fields.
use mathlib.Core.Path.{refl}
use native.Mathlib.Omega.{arith}
use Prim.Native.Nat.{◌+◌}
use mathlib.Core.List.{[], ◌∷◌}
use Rattle.digest.specs.Bytes.{bytes4, bytes8}
use Rattle.lent.proofs.Laying.{laid_none, laid_more, length_eight}
use Rattle.lent.specs.Report.{entry_bytes}
use Rattle.lent.proofs.report.put_entry.Goals as goal

pub returns : goal.returns
unfolding entry_bytes
returns c = let d = c.args.d.now in
    let at = c.args.at in
    let e = c.args.e in
    let head = e.kind ∷ e.refusal ∷ e.description ∷ 0 ∷ [] in
    let one = laid_more (at) 4 (head) (head) c.put.new.d (laid_none d at (omega (arith, c.requires))) (omega arith) (refl) (refl) (omega (arith, c.requires)) c.put.ensures.exact in
    let two = laid_more (at + 4) 4 c.four-number.result (bytes4 e.number) c.put-2.new.d one (refl) c.four-number.ensures.exact (refl) (omega (arith, c.requires)) c.put-2.ensures.exact in
    let three = laid_more (at + 8) 8 c.eight-start.result (bytes8 e.start) c.put-3.new.d two (refl) c.eight-start.ensures.exact (length_eight e.start) (omega (arith, c.requires)) c.put-3.ensures.exact in
    let four = laid_more (at + 16) 8 c.eight-size.result (bytes8 e.size) c.put-4.new.d three (refl) c.eight-size.ensures.exact (length_eight e.size) (omega (arith, c.requires)) c.put-4.ensures.exact in
    four.bytes
