-- `message::keys::specifier_end` meets its contract: each return is a case of `specifier_end`. Assumes nothing.
use native.Mathlib.Omega.{arith}
use Rattle.std.proofs.Common.{sym, ◌∙◌, refl, length, get_or}
use Rattle.digest.proofs.Picks.{if_lt, if_ge, if_ne}
use Rattle.message.specs.Keys.{specifier_end}
use Rattle.message.proofs.Fields.{told_none, told_some, told_if, end_none, end_some, got, not_got}
use Rattle.message.proofs.SetEnds.{specifier_cut, specifier_by}
use Rattle.message.proofs.keys.specifier_end.Goals as goal

pub returns-in_err-index-clause-value : goal.returns-in_err-index-clause-value
unfolding specifier_end
returns-in_err-index-clause-value c =
    let a = c.args in
    rw c.from_residual.ensures (told_none _ (if_ge _ a.at (length a.s.now) (not_got _ _ c.in_err-index.ensures.lookup.0) refl))

pub returns-then-index-clause-value : goal.returns-then-index-clause-value
unfolding specifier_end
returns-then-index-clause-value c =
    let a = c.args in
    let g = got a.s.now a.at _ c.in_ok-index.ensures.lookup.0 c.in_ok-index.ensures.lookup.1 in
    told_some _ _ (omega arith) (if_lt _ a.at (length a.s.now) g.0 (if_ne _ (get_or a.s.now a.at 0) 255 (λ z. c.if-index.true (g.1 ∙ z)) refl))

pub returns-in_err-end-clause-value : goal.returns-in_err-end-clause-value
returns-in_err-end-clause-value c = let a = c.args in
    let g = got a.s.now a.at _ c.in_ok-index.ensures.lookup.0 c.in_ok-index.ensures.lookup.1 in
    rw c.from_residual-in_err-end.ensures
    (told_none _ (specifier_cut a.s.now a.at a.suite g.0 (sym g.1 ∙ c.if-index.false) (end_none _ c.in_err-end.ensures.value)))

pub returns-clause-value : goal.returns-clause-value
returns-clause-value c = let a = c.args in
    let g = got a.s.now a.at _ c.in_ok-index.ensures.lookup.0 c.in_ok-index.ensures.lookup.1 in
    let e = end_some _ _ c.in_ok-end.ensures.value in
    rw c.then_some.ensures
    (told_if _ _ _ (omega (arith, e))
    (specifier_by a.s.now a.at a.suite g.0 (sym g.1 ∙ c.if-index.false) _ _ _ _ e.0 c.part.ensures c.sound.ensures refl))
