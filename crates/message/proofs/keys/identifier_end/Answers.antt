-- `message::keys::identifier_end` meets its contract: each arm is a case of `identifier_end`. Assumes nothing.
use native.Mathlib.Omega.{arith}
use Rattle.std.proofs.Common.{sym, ◌∙◌, refl, length, get_or}
use Rattle.digest.proofs.Picks.{if_ne, if_lt, if_ge}
use Rattle.message.specs.Keys.{identifier_end}
use Rattle.message.proofs.Fields.{told_none, told_some, told_same, got, not_got}
use Rattle.message.proofs.keys.identifier_end.Goals as goal

pub returns-in_err-kind-clause-value : goal.returns-in_err-kind-clause-value
unfolding identifier_end
returns-in_err-kind-clause-value c = let a = c.args in
    rw c.from_residual.ensures
    (told_none _ (if_ge _ a.at (length a.s.now) (not_got _ _ c.in_err-kind.ensures.lookup.0) refl))

pub returns-in-0-clause-value : goal.returns-in-0-clause-value
unfolding identifier_end
returns-in-0-clause-value c = let a = c.args in
    let g = got a.s.now a.at _ c.in_ok-kind.ensures.lookup.0 c.in_ok-kind.ensures.lookup.1 in
    told_some _ _ (omega arith) (rw (sym g.1 ∙ c.in-0.is) (if_lt _ a.at (length a.s.now) g.0 refl))

pub returns-in-1-clause-value : goal.returns-in-1-clause-value
unfolding identifier_end
returns-in-1-clause-value c = let a = c.args in
    let g = got a.s.now a.at _ c.in_ok-kind.ensures.lookup.0 c.in_ok-kind.ensures.lookup.1 in
    told_same _ _ _ c.short_end.ensures.value (rw (sym g.1 ∙ c.in-1.is) (if_lt _ a.at (length a.s.now) g.0 refl))

pub returns-in-2-clause-value : goal.returns-in-2-clause-value
unfolding identifier_end
returns-in-2-clause-value c = let a = c.args in
    let g = got a.s.now a.at _ c.in_ok-kind.ensures.lookup.0 c.in_ok-kind.ensures.lookup.1 in
    told_same _ _ _ c.short_end-in-2.ensures.value (rw (sym g.1 ∙ c.in-2.is) (if_lt _ a.at (length a.s.now) g.0 refl))

pub returns-in-254-clause-value : goal.returns-in-254-clause-value
unfolding identifier_end
returns-in-254-clause-value c = let a = c.args in
    let g = got a.s.now a.at _ c.in_ok-kind.ensures.lookup.0 c.in_ok-kind.ensures.lookup.1 in
    told_same _ _ _ c.field_end.ensures.value (rw (sym g.1 ∙ c.in-254.is) (if_lt _ a.at (length a.s.now) g.0 refl))

pub returns-in-255-clause-value : goal.returns-in-255-clause-value
unfolding identifier_end
returns-in-255-clause-value c = let a = c.args in
    let g = got a.s.now a.at _ c.in_ok-kind.ensures.lookup.0 c.in_ok-kind.ensures.lookup.1 in
    told_same _ _ _ c.short_end-in-255.ensures.value (rw (sym g.1 ∙ c.in-255.is) (if_lt _ a.at (length a.s.now) g.0 refl))

pub returns-in_default-clause-value : goal.returns-in_default-clause-value
unfolding identifier_end
returns-in_default-clause-value c = let a = c.args in
    let g = got a.s.now a.at _ c.in_ok-kind.ensures.lookup.0 c.in_ok-kind.ensures.lookup.1 in
    let kind = get_or a.s.now a.at 0 in
    told_none _
    (if_lt _ a.at (length a.s.now) g.0
    (if_ne _ kind 0 (λ z. omega (arith, g.1))
    (if_ne _ kind 1 (λ z. omega (arith, g.1))
    (if_ne _ kind 2 (λ z. omega (arith, g.1))
    (if_ne _ kind 254 (λ z. omega (arith, g.1)) (if_ne _ kind 255 (λ z. omega (arith, g.1)) refl))))))
