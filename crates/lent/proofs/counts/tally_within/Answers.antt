-- `counts::tally_within`: by the size.
use native.Mathlib.Omega.{arith}
use lib.ListN.{length}
use Rattle.digest.proofs.Picks.{if_eq, if_ne}
use Rattle.lent.specs.Counts.{tally_within}
use Rattle.lent.proofs.counts.tally_within.Goals as goal

pub returns-then-b-ne16 : goal.returns-then-b-ne16
unfolding tally_within
returns-then-b-ne16 c = record { exact = if_ne _ (length c.args.b.now) 16 (omega arith) c.fresh.ensures }

pub returns : goal.returns
unfolding tally_within
returns c = record { exact = if_eq _ (length c.args.b.now) 16 (omega arith) c.tally_in.ensures }
