-- `load::sent_within`: by the size.
use native.Mathlib.Omega.{arith}
use lib.ListN.{length}
use Rattle.digest.proofs.Picks.{if_lt, if_ge}
use Rattle.lent.specs.Saved.{sent_within}
use Rattle.lent.proofs.load.sent_within.Goals as goal

pub returns-then-b-lt40 : goal.returns-then-b-lt40
unfolding sent_within
returns-then-b-lt40 c = record { exact = if_lt _ (length c.args.b.now) 40 (omega arith) c.fresh.ensures }

pub returns : goal.returns
unfolding sent_within
returns c = record { exact = if_ge _ (length c.args.b.now) 40 (omega arith) c.sent_in.ensures }
