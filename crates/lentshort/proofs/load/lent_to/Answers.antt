-- `load::lent_to`: what a gathering needs, then what a receive needs.
-- src/load.rt:36:8
use mathlib.Core.Path.{refl}
use Rattle.lent.proofs.Calling.{test_yes, test_no}
use Rattle.lentshort.specs.Message.{lent_to}
use Rattle.lentshort.proofs.load.lent_to.Goals as goal

-- src/load.rt:37:9
pub returns-then-lent_to_gather : goal.returns-then-lent_to_gather
unfolding lent_to
returns-then-lent_to_gather c = test_yes _ c.lent_to_gather.ensures c.if-lent_to_gather.true c.lent_for.ensures.exact

-- src/load.rt:27:1
pub returns : goal.returns
unfolding lent_to
returns c = test_no _ c.lent_to_gather.ensures c.if-lent_to_gather.false refl
