-- `speed_codes`: each code that is made is the code of the message.
use mathlib.Core.Path.{◌∙◌, ap}
use borrow.Author.Rules.{rules}
use Rattle.digest.specs.Bytes.{laid_within}
use Rattle.speed.proofs.speed_codes.Goals as goal

pub loop-init : goal.loop-init
loop-init c = (c.code-c.ensures _ c.new-k.ensures.exact, search rules)

pub loop-preserved : goal.loop-preserved
loop-preserved c = (c.code-c-in-loop.ensures _ c.new-k.ensures.exact, search rules)

pub returns : goal.returns
returns c = c.put.ensures.exact ∙ ap (laid_within _ 0) c.loop.invariant.0
