-- `bytes::eight`: four bytes of each half.
use mathlib.Core.Path.{◌∙◌}
use Rattle.lent.proofs.Numbers.{eight_bytes}
use Rattle.lent.proofs.bytes.eight.Goals as goal

pub returns : goal.returns
returns c = record { exact = c.to_be_bytes.ensures ∙ eight_bytes c.args.x }
