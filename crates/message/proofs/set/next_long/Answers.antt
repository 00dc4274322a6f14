-- `message::set::next_long` meets its contract: each return is a case of `next_long`. Assumes nothing.
use native.Mathlib.Omega.{arith}
use Rattle.std.proofs.Common.{sym, ◌∙◌}
use Rattle.message.proofs.Fields.{told_none, told_same}
use Rattle.message.proofs.SetEnds.{long_empty, long_some}
use Rattle.message.proofs.set.next_long.Goals as goal

pub returns-then-two_at-eq0-clause-value : goal.returns-then-two_at-eq0-clause-value
returns-then-two_at-eq0-clause-value c = let a = c.args in
    told_none _ (long_empty a.s.now a.at (λ z. omega arith) (sym c.two_at.ensures ∙ c.if-two_at-eq0.true))

pub returns-clause-value : goal.returns-clause-value
returns-clause-value c = let a = c.args in
    told_same _ _ _ c.long_end.ensures.value
    (sym (long_some a.s.now a.at (λ z. omega arith) (λ z. c.if-two_at-eq0.false (c.two_at.ensures ∙ z))))
