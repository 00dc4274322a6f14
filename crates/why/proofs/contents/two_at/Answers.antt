-- `contents::two_at`: the places follow each other.
use mathlib.Core.Path.{◌∙◌, ap, ap₂}
use Prim.Native.Nat.{◌+◌, ◌*◌}
use lib.ListN.{get_or}
use Rattle.why.proofs.contents.two_at.Goals as goal

pub returns : goal.returns
returns c = ap₂ (λ x y. x * 256 + y) c.byte_at.ensures (c.byte_at-2.ensures ∙ ap (λ n. get_or c.args.m.now n 0) c.requires)
