-- `state`: the bytes, then the number of the state.
use mathlib.Core.Path.{sym, ◌∙◌}
use native.Mathlib.Omega.{arith}
use Rattle.lent.specs.Calls.{state_result}
use Rattle.lent.proofs.Calling.{saved_size, test_yes, test_no}
use Rattle.lent.proofs.state.Goals as goal

pub bounds-state-40 : goal.bounds-state-40
bounds-state-40 c = omega (arith, saved_size c.args.state.now (sym c.is_saved.ensures.exact ∙ c.if-is_saved.true))

pub overflow_cast-number : goal.overflow_cast-number
overflow_cast-number c = omega (arith, c.shared_slice_known-then-is_saved-1.given 40)

pub returns-then-is_saved : goal.returns-then-is_saved
unfolding state_result
returns-then-is_saved c = record { exact = test_yes _ c.is_saved.ensures.exact c.if-is_saved.true c.result_of.ensures.exact }

pub returns : goal.returns
unfolding state_result
returns c = record { exact = test_no _ c.is_saved.ensures.exact c.if-is_saved.false c.not_taken.ensures }
