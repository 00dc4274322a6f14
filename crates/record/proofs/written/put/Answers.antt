-- `put`: what fits is laid.
use mathlib.Core.Path.{refl, sym, ◌∙◌}
use native.Mathlib.Omega.{arith}
use Rattle.digest.proofs.Lay.{laid_all}
use Rattle.record.proofs.written.put.Goals as goal

pub returns : goal.returns
returns c = c.put.ensures.exact ∙ sym (laid_all _ _ _ _ (omega arith) refl)
