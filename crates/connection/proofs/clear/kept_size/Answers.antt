-- `greet::kept_size`: at most what the array holds.
use mathlib.Core.Path.{◌≡◌}
use lib.ListN.{length, length-take}
use borrow.Author.Rules.{rules}
use native.Mathlib.Omega.{arith}
use Rattle.connection.proofs.clear.kept_size.Goals as goal

pub returns-then-size-gt84 : goal.returns-then-size-gt84
returns-then-size-gt84 c = let l : length c.args.kept.reply ≡ 84 = search rules in omega (arith, length-take c.args.kept.size c.args.kept.reply)

pub returns : goal.returns
returns c = let l : length c.args.kept.reply ≡ 84 = search rules in omega (arith, length-take c.args.kept.size c.args.kept.reply)
