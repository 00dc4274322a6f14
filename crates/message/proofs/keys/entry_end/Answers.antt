-- `message::keys::entry_end` meets its contract: each return is a case of `entry_end`. Assumes nothing.
use Rattle.std.proofs.Common.{sym, ◌∙◌}
use Rattle.message.proofs.Fields.{told_none, told_same, end_none, end_some, got, not_got}
use Rattle.message.proofs.Entries.{entry_cut, entry_none, entry_some}
use Rattle.message.proofs.keys.entry_end.Goals as goal

pub returns-in_err-suite-clause-value : goal.returns-in_err-suite-clause-value
returns-in_err-suite-clause-value c = let a = c.args in
    rw c.from_residual.ensures (told_none _ (entry_cut a.s.now a.at (not_got _ _ c.in_err-suite.ensures.lookup.0)))

pub returns-in_err-identifier-clause-value : goal.returns-in_err-identifier-clause-value
returns-in_err-identifier-clause-value c = let a = c.args in
    let g = got a.s.now a.at _ c.in_ok-suite.ensures.lookup.0 c.in_ok-suite.ensures.lookup.1 in
    rw c.from_residual-in_err-identifier.ensures
    (told_none _ (entry_none a.s.now a.at g.0 _ 0 g.1 (end_none _ c.in_err-identifier.ensures.value)))

pub returns-clause-value : goal.returns-clause-value
returns-clause-value c = let a = c.args in
    let g = got a.s.now a.at _ c.in_ok-suite.ensures.lookup.0 c.in_ok-suite.ensures.lookup.1 in
    let e = end_some _ _ c.in_ok-identifier.ensures.value in
    told_same _ _ _ c.identifier_end.ensures.value (entry_some a.s.now a.at g.0 _ _ g.1 e.0 (λ z. e.1 (sym e.0 ∙ z)))
