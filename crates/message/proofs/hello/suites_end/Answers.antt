-- `message::hello::suites_end` meets its contract: each return is a case of `suites_end`. Assumes nothing.
use Rattle.std.proofs.Common.{refl}
use Rattle.message.proofs.Fields.{told_none, told_same, got, not_got}
use Rattle.message.proofs.Hellos.{suites_cut, suites_odd, suites_even}
use Rattle.message.proofs.hello.suites_end.Goals as goal

pub returns-in_err-size-clause-value : goal.returns-in_err-size-clause-value
returns-in_err-size-clause-value c = let a = c.args in
    rw c.from_residual.ensures (told_none _ (suites_cut a.m.now a.at (not_got _ _ c.in_err-size.ensures.lookup.0)))

pub returns-then-size-ne0-clause-value : goal.returns-then-size-ne0-clause-value
returns-then-size-ne0-clause-value c = let a = c.args in
    let g = got a.m.now a.at _ c.in_ok-size.ensures.lookup.0 c.in_ok-size.ensures.lookup.1 in
    told_none _ (suites_odd a.m.now a.at (rw g.1 at c.if-size-ne0.true))

pub returns-clause-value : goal.returns-clause-value
returns-clause-value c = let a = c.args in
    let g = got a.m.now a.at _ c.in_ok-size.ensures.lookup.0 c.in_ok-size.ensures.lookup.1 in
    told_same _ _ _ c.short_end.ensures.value (suites_even a.m.now a.at _ (rw g.1 at c.if-size-ne0.false) refl)
