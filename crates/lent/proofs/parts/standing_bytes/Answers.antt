-- `parts::standing_bytes`: five fields fill the part.
use mathlib.Core.Path.{refl}
use mathlib.Core.List.{List, [], ◌∷◌}
use Prim.Native.Nat.{ℕ, ◌<◌}
use native.Mathlib.Omega.{arith}
use lib.ListN.{replicate}
use Rattle.digest.specs.Bytes.{bytes2, bytes4, bytes8}
use Rattle.lent.proofs.Laying.{laid_none, laid_more, laid_whole, length_eight}
use borrow.Author.Rules.{rules}
use Rattle.lent.proofs.parts.standing_bytes.Goals as goal

pub returns : goal.returns
returns c = let d : List ℕ = replicate 19 0 in
    let p = c.args.protection in
    let w = p.window in
    let one = laid_more 0 1 (w.width ∷ []) (w.width ∷ []) c.put.new.d (laid_none d 0 (omega arith)) refl refl refl (omega arith) c.put.ensures.exact in
    let two = laid_more 1 2 c.two.result (bytes2 w.highest) c.put-2.new.d one refl c.two.ensures.exact refl (omega arith) c.put-2.ensures.exact in
    let three = laid_more 3 8 c.eight.result (bytes8 w.marks) c.put-3.new.d two refl c.eight.ensures.exact (length_eight w.marks) (omega arith) c.put-3.ensures.exact in
    let four = laid_more 11 4 c.four.result (bytes4 p.protected) c.put-4.new.d three refl c.four.ensures.exact refl (omega arith) c.put-4.ensures.exact in
    let five = laid_more 15 4 c.four-2.result (bytes4 p.clear) c.put-5.new.d four refl c.four-2.ensures.exact refl (omega arith) c.put-5.ensures.exact in
    let highest : w.highest < 65536 = search (rules, c.well_formed.0) in
    let marks : w.marks < 18446744073709551616 = search (rules, c.well_formed.0) in
    let protected : p.protected < 4294967296 = search (rules, c.well_formed.0) in
    let clear : p.clear < 4294967296 = search (rules, c.well_formed.0) in
    record { exact = laid_whole five refl; part_len = five.count; ranged = ((highest, marks), (protected, clear)) }
