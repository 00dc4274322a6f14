-- `leave::leave_sent`: refused, nothing is written; done, the unit.
use mathlib.Core.Path.{refl, ◌∙◌, ap}
use Rattle.lent.specs.Calls.{result_of}
use Rattle.lentunit.proofs.leave.leave_sent.Goals as goal

-- the clauses of the contract, each under its name
named : {A B C : Type 0} → A × (B × C) → record { value : A; state_after : B; state_after_2 : C }
named x = record { value = x.0; state_after = x.1.0; state_after_2 = x.1.1 }

pub returns-in-Err : goal.returns-in-Err
returns-in-Err c = named (rw c.in-Err.is (c.result_of.ensures.exact ∙ ap (λ x. result_of x c.args.sent.written 0) c.number.ensures, (refl, refl)))

pub returns-in-Ok : goal.returns-in-Ok
returns-in-Ok c = named (rw c.in-Ok.is (c.result_of-in-Ok.ensures.exact, (c.put_unit.ensures.d_after, c.put_unit.ensures.d_after_2)))
