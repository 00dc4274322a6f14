-- `counts::lay_tally`: by the size.
use mathlib.Core.Path.{refl}
use native.Mathlib.Omega.{arith}
use lib.ListN.{length}
use Rattle.digest.proofs.Picks.{if_eq, if_ne}
use Rattle.lent.specs.Counts.{tally_laid}
use Rattle.lent.proofs.counts.lay_tally.Goals as goal

pub returns-then-d-ne16 : goal.returns-then-d-ne16
unfolding tally_laid
returns-then-d-ne16 c = record { exact = if_ne _ (length c.args.d.now) 16 (omega arith) refl }

pub returns : goal.returns
unfolding tally_laid
returns c = record { exact = if_eq _ (length c.args.d.now) 16 (omega arith) c.put_tally.ensures }
