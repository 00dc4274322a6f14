-- `save::lay_sent`: by the size; the count, then the checksums.
use mathlib.Core.Path.{refl}
use Prim.Native.Nat.{◌<◌}
use native.Mathlib.Omega.{arith}
use lib.ListN.{length}
use Rattle.digest.specs.Bytes.{bytes4}
use Rattle.digest.proofs.Picks.{if_lt, if_ge}
use Rattle.lent.specs.Saved.{sent_laid, sum_fields}
use Rattle.lent.proofs.Laying.{laid_none, laid_more, laid_part}
use borrow.Author.Rules.{rules}
use Rattle.lent.proofs.save.lay_sent.Goals as goal

pub returns-then-d-lt40 : goal.returns-then-d-lt40
unfolding sent_laid
returns-then-d-lt40 c = let sent = c.args.sent in
    let count : sent.count < 4294967296 = search (rules, c.well_formed.1.0) in
    record { exact = if_lt _ (length c.args.d.now) 40 (omega arith) refl; ranged = record { count = count; sums = c.words-sums.ensures.ranged.0; sum = c.words-sums.ensures.ranged.1 } }

pub returns : goal.returns
unfolding sent_laid
returns c = let d = c.args.d.now in
    let sent = c.args.sent in
    let count : sent.count < 4294967296 = search (rules, c.well_formed.1.0) in
    let one = laid_more 4 4 c.four-records.result (bytes4 sent.count) c.put.new.d (laid_none d 4 (omega arith)) refl c.four-records.ensures.exact refl (omega arith) c.put.ensures.exact in
    let two = laid_part 8 32 (sum_fields sent.checksums) c.words-sums.result c.put-2.new.d one refl c.words-sums.ensures.exact c.words-sums.ensures.part_len (omega arith) c.put-2.ensures.exact in
    record { exact = if_ge _ (length d) 40 (omega arith) two.bytes; ranged = record { count = count; sums = c.words-sums.ensures.ranged.0; sum = c.words-sums.ensures.ranged.1 } }
