-- `message::put::put_short` meets its contract: the length and the contents are put one after the other. Assumes nothing.
use native.Mathlib.Omega.{arith}
use mathlib.Core.List.{[], ◌∷◌}
use lib.ListN.{length}
use Rattle.message.proofs.Buffers.{put_on}
use Rattle.message.proofs.put.put_short.Goals as goal

pub returns-then-s-gt255 : goal.returns-then-s-gt255
returns-then-s-gt255 c = λ h d p f g k. absurd (omega arith)

pub returns : goal.returns
returns c = λ h.
    put_on (length c.args.s.now ∷ []) c.args.s.now _ _ _ _ _ _
    c.put-next.ensures c.put.ensures
