-- `arrived`: the bytes, then the arrival report of the window.
use mathlib.Core.Path.{sym, ◌∙◌, ap}
use Prim.Native.Nat.{ℕ}
use Rattle.record.specs.Window.{arrival_of}
use Rattle.record.specs.declared.window.Window.{Window}
use Rattle.lentunit.specs.Calls.{arrived_result}
use Rattle.lent.specs.Calls.{result_of}
use Rattle.lent.proofs.Calling.{test_yes, test_no}
use Rattle.lentunit.proofs.Calling.{saved_size}
use Rattle.lentunit.specs.Saved.{unit_in, protection_in}
use Rattle.lentunit.proofs.arrived.Goals as goal

pub window_in-window-requires : goal.window_in-window-requires
window_in-window-requires c = saved_size c.args.state.now (sym c.is_saved.ensures ∙ c.if-is_saved.true)

pub returns-then-is_saved : goal.returns-then-is_saved
unfolding arrived_result unit_in protection_in
returns-then-is_saved c = record {
  exact = test_yes _ c.is_saved.ensures c.if-is_saved.true
      (c.result_of.ensures.exact ∙ ap (λ (n : ℕ). result_of 0 0 n) (c.arrival.ensures.exact ∙ ap (λ (w : Window). arrival_of w) c.window_in-window.ensures));
}

pub returns : goal.returns
unfolding arrived_result unit_in protection_in
returns c = record { exact = test_no _ c.is_saved.ensures c.if-is_saved.false c.not_taken.ensures }
