-- `ask::word_at`: four bytes.
use Prim.Native.Nat.{◌+◌, ◌*◌}
use Rattle.digest.specs.Bytes.{word_at}
use Rattle.why.proofs.ask.word_at.Goals as goal

pub returns : goal.returns
unfolding word_at
returns c = λ i. ((c.byte_at-a.ensures i * 256 + c.byte_at-b.ensures i) * 256 + c.byte_at-c.ensures i) * 256 + c.byte_at-d.ensures i
