-- `framing::stated`: two bytes of the header, or the rest.
use mathlib.Core.Path.{ap₂}
use Prim.Native.Nat.{◌+◌, ◌*◌}
use Rattle.why.proofs.framing.stated.Goals as goal

pub returns-then-kind : goal.returns-then-kind
returns-then-kind c = rw c.if-kind.true (ap₂ (λ x y. x * 256 + y) c.byte_at-high.ensures c.byte_at-low.ensures)

pub returns : goal.returns
returns c = rw c.if-kind.false c.less.ensures
