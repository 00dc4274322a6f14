-- `Mac::listed`: the arms are the definition's, each by its number.
use Rattle.std.proofs.Common.{refl, arith}
use Rattle.digest.specs.Mac.{listed_as}
use Rattle.digest.proofs.Picks.{if_ne}
use Rattle.digest.proofs.mac.Mac.listed.Goals as goal

pub returns-in-2 : goal.returns-in-2
unfolding listed_as
returns-in-2 c = record { exact = rw c.in-2.is refl }

pub returns-in-3 : goal.returns-in-3
unfolding listed_as
returns-in-3 c = record { exact = rw c.in-3.is refl }

pub returns-in_default : goal.returns-in_default
unfolding listed_as
returns-in_default c = record { exact = if_ne _ c.args.n 2 (λ e. omega arith) (if_ne _ c.args.n 3 (λ e. omega arith) refl) }
