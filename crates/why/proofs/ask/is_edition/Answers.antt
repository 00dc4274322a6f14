-- `ask::is_edition`: 1 or 2.
use mathlib.Core.Path.{refl}
use Rattle.digest.proofs.Picks.{if_eq, if_ne}
use Rattle.why.proofs.ask.is_edition.Goals as goal

pub returns-then-edition-eq1 : goal.returns-then-edition-eq1
returns-then-edition-eq1 c = if_eq _ c.args.edition 1 c.if-edition-eq1.true refl

pub returns : goal.returns
returns c = if_ne _ c.args.edition 1 c.if-edition-eq1.false refl
