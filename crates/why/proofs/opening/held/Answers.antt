-- `opening::held`: within 32 to 64.
use mathlib.Core.Path.{refl}
use native.Mathlib.Omega.{arith}
use Rattle.digest.proofs.Picks.{if_lt, if_ge}
use Rattle.record.specs.Window.{held_width}
use Rattle.why.proofs.opening.held.Goals as goal

pub returns-then-width-lt32 : goal.returns-then-width-lt32
unfolding held_width
returns-then-width-lt32 c = if_lt _ c.args.width 32 (omega arith) refl

pub returns-then-width-gt64 : goal.returns-then-width-gt64
unfolding held_width
returns-then-width-gt64 c = if_ge _ c.args.width 32 (omega arith) (if_lt _ 64 c.args.width (omega arith) refl)

pub returns : goal.returns
unfolding held_width
returns c = if_ge _ c.args.width 32 (omega arith) (if_ge _ 64 c.args.width (omega arith) refl)
