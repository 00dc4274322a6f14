-- `bytes::bytes_within`: the two tests are the definition's one.
use mathlib.Core.Path.{refl, ◌∙◌, ap}
use Prim.Native.Nat.{◌+◌}
use native.Mathlib.Omega.{arith}
use lib.ListN.{length, take, drop}
use Rattle.digest.proofs.Picks.{if_lt, if_ge}
use Rattle.lent.specs.Fields.{bytes_within}
use Rattle.lent.proofs.bytes.bytes_within.Goals as goal

pub returns-else-b : goal.returns-else-b
unfolding bytes_within
returns-else-b g c = record { exact = let a = c.args in if_lt _ (length a.b.now) (a.at + g.row.N) (omega arith) refl }

pub returns-then-at-b : goal.returns-then-at-b
unfolding bytes_within
returns-then-at-b g c = record { exact = let a = c.args in if_ge _ (length a.b.now) (a.at + g.row.N) (omega arith) (c.copy_from_slice.ensures.after ∙ ap (λ n. take n (drop a.at a.b.now)) (omega arith)) }
