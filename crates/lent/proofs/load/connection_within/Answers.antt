-- `load::connection_within`: by the size.
use mathlib.Core.Path.{◌∙◌, ap}
use native.Mathlib.Omega.{arith}
use lib.ListN.{length}
use Rattle.digest.proofs.Picks.{if_eq, if_ne}
use Rattle.connection.specs.Connection.{alone}
use Rattle.lent.specs.Saved.{connection_within}
use Rattle.lent.proofs.load.connection_within.Goals as goal

pub returns-then-b-ne-SIZE : goal.returns-then-b-ne-SIZE
unfolding connection_within
returns-then-b-ne-SIZE c = record { exact = if_ne _ (length c.args.b.now) 940 (omega arith) (c.alone.ensures ∙ ap alone c.blank.ensures) }

pub returns : goal.returns
unfolding connection_within
returns c = record { exact = if_eq _ (length c.args.b.now) 940 (omega arith) c.connection_in.ensures }
