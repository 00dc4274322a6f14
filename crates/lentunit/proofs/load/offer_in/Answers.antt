-- `load::offer_in`: two bytes.
use lib.ListN.{get_or}
use Rattle.lentunit.specs.Saved.{offer_in}
use Rattle.lentunit.proofs.load.offer_in.Goals as goal

pub returns : goal.returns
unfolding offer_in
returns c = λ i. record { kinds = c.kinds_numbered.ensures i; refresh = get_or c.args.b.now 116 0 }
