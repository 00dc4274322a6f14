-- `speed_sha1`: the digest, laid.
use mathlib.Core.Path.{◌∙◌, ap}
use Rattle.digest.specs.Bytes.{laid_within}
use Rattle.speed.proofs.speed_sha1.Goals as goal

pub returns : goal.returns
returns c = c.put.ensures.exact ∙ ap (laid_within _ 0) c.sha1-d.ensures.exact
