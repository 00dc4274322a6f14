-- `counts::put_tally`: four fields fill the bytes.
use mathlib.Core.Path.{refl}
use native.Mathlib.Omega.{arith}
use Rattle.digest.specs.Bytes.{bytes4}
use Rattle.lent.proofs.Laying.{laid_none, laid_more, laid_whole}
use Rattle.lent.specs.Counts.{tally_bytes}
use Rattle.lent.proofs.counts.put_tally.Goals as goal

pub returns : goal.returns
unfolding tally_bytes
returns c = let d = c.args.d.now in
    let t = c.args.tally in
    let one = laid_more 0 4 c.four-handed.result (bytes4 t.handed) c.put.new.d (laid_none d 0 (omega arith)) refl c.four-handed.ensures.exact refl (omega (arith, c.requires)) c.put.ensures.exact in
    let two = laid_more 4 4 c.four-forged.result (bytes4 t.forged) c.put-2.new.d one refl c.four-forged.ensures.exact refl (omega (arith, c.requires)) c.put-2.ensures.exact in
    let three = laid_more 8 4 c.four-old.result (bytes4 t.old) c.put-3.new.d two refl c.four-old.ensures.exact refl (omega (arith, c.requires)) c.put-3.ensures.exact in
    let four = laid_more 12 4 c.four-repeated.result (bytes4 t.repeated) c.put-4.new.d three refl c.four-repeated.ensures.exact refl (omega (arith, c.requires)) c.put-4.ensures.exact in
    laid_whole four c.requires
