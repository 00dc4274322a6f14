-- `save::put_head`: the mark, and a count.
use mathlib.Core.Path.{refl}
use Prim.Native.Nat.{◌<◌}
use native.Mathlib.Omega.{arith}
use Rattle.lent.proofs.Laying.{laid_none, laid_more}
use Rattle.digest.specs.Bytes.{bytes4}
use Rattle.lent.specs.Saved.{mark}
use borrow.Author.Rules.{rules}
use Rattle.lent.proofs.save.put_head.Goals as goal

pub returns : goal.returns
returns c = let d = c.args.d.now in
    let count = c.args.count in
    let one = laid_more 0 4 c.four-mark.result (bytes4 mark) c.put.new.d (laid_none d 0 (omega arith)) refl c.four-mark.ensures.exact refl (omega (arith, c.requires)) c.put.ensures.exact in
    let two = laid_more 4 4 c.four-records.result (bytes4 count) c.put-2.new.d one refl c.four-records.ensures.exact refl (omega (arith, c.requires)) c.put-2.ensures.exact in
    let n-count : count < 4294967296 = search (rules, c.ranges.count) in
    record { d_after = two.bytes; count_len = two.count; count_bound = n-count }
