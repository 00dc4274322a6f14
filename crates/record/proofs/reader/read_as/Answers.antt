-- `read_as`: the tests of the definition, in its order.
use native.Mathlib.Omega.{arith}
use Rattle.record.proofs.Reading.{empty, past_end, whole}
use Rattle.record.proofs.reader.read_as.Goals as goal
use Rattle.record.proofs.reader.read_as.Goals.{then-size-eq0-via-then-size-eq0, then-size-eq0-via-else-size-eq0+then-part-head-2}

pub returns-then-size-eq0 : goal.returns-then-size-eq0
returns-then-size-eq0 c = let a = c.args in
    elim c.then-size-eq0.branch [
      | then-size-eq0-via-then-size-eq0 w ↦ empty a.part.now a.byte a.kind _ _ c.if-not-sound.ensures c.head_of-head.ensures.value c.size_of-size.ensures c.if-part-head.false w.if-size-eq0.true
      | then-size-eq0-via-else-size-eq0+then-part-head-2 w ↦ past_end a.part.now a.byte a.kind _ _ c.if-not-sound.ensures c.head_of-head.ensures.value c.size_of-size.ensures c.if-part-head.false w.if-part-head-2.true
    ]

pub returns : goal.returns
returns c = let a = c.args in
    whole a.part.now a.byte a.kind _ _ c.if-not-sound.ensures c.head_of-head.ensures.value c.size_of-size.ensures c.if-part-head.false
    _ _ (λ z. omega arith) (omega arith) c.from.ensures c.from_be_bytes.ensures
