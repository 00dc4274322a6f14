-- `load::is_gatherer`: the size, then the mark.
-- src/load.rt:21:9
use mathlib.Core.Path.{sym}
use native.Mathlib.Omega.{arith}
use lib.Seq.{length-take-le}
use Rattle.lentshort.proofs.Laying.{not_size, marked_is}
use Rattle.lentshort.proofs.load.is_gatherer.Goals as goal

pub returns-then-b-ne-SIZE : goal.returns-then-b-ne-SIZE
returns-then-b-ne-SIZE c = not_size _ c.if-b-ne-SIZE.true

-- src/load.rt:23:23
pub slice_bounds-same_code-end : goal.slice_bounds-same_code-end
slice_bounds-same_code-end c = sym (length-take-le 4 c.args.b.now (omega (arith, c.if-b-ne-SIZE.false)))

-- src/load.rt:17:1
pub returns : goal.returns
returns c = marked_is _ _ _ c.if-b-ne-SIZE.false c.mark.ensures c.same_code.ensures.exact
