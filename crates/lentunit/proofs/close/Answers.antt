-- `close`: the bytes, then the call.
use mathlib.Core.Path.{refl, sym, ◌∙◌, ap}
use Rattle.unit.specs.Calls.{closed_of}
use Rattle.lentunit.specs.Calls.{close_result, close_state, close_loads}
use Rattle.lent.proofs.Calling.{test_no}
use Rattle.lentunit.proofs.Calling.{saved_size, called}
use Rattle.lentunit.proofs.close.Goals as goal

-- the clauses of the contract, each under its name
named : {A B C : Type 0} → A × (B × C) → record { exact : A; bytes : B; loads : C }
named x = record { exact = x.0; bytes = x.1.0; loads = x.1.1 }

pub unit_in-requires : goal.unit_in-requires
unit_in-requires c = saved_size c.args.state.now (sym c.is_saved.ensures ∙ c.if-is_saved.true)

pub leave_called-requires : goal.leave_called-requires
leave_called-requires c = saved_size c.args.state.now (sym c.is_saved.ensures ∙ c.if-is_saved.true)

pub returns-then-is_saved : goal.returns-then-is_saved
unfolding close_result close_state close_loads
returns-then-is_saved c = named (called closed_of c.args.state.now c.is_saved.result c.close.result c.leave_called.result c.leave_called.new.state c.is_saved.ensures c.if-is_saved.true
    (c.close.ensures ∙ ap closed_of c.unit_in.ensures) c.leave_called.ensures.value c.leave_called.ensures.state_after c.leave_called.ensures.state_after_2)

pub returns : goal.returns
unfolding close_result close_state close_loads
returns c = record { exact = test_no _ c.is_saved.ensures c.if-is_saved.false c.not_taken.ensures; bytes = test_no _ c.is_saved.ensures c.if-is_saved.false refl; loads = test_no _ c.is_saved.ensures c.if-is_saved.false refl }
