-- `speed_hmac`: the code under the key that was set up, laid.
use mathlib.Core.Path.{◌∙◌, ap}
use Rattle.digest.specs.Bytes.{laid_within}
use Rattle.speed.proofs.speed_hmac.Goals as goal

pub returns : goal.returns
returns c = let set-up = c.new.ensures.exact in
    c.put.ensures.exact ∙ ap (laid_within _ 0) (c.code-c.ensures _ set-up)
