-- `width`: the bytes, then the width of the window.
use mathlib.Core.Path.{sym, ◌∙◌, ap}
use Prim.Native.Nat.{ℕ}
use Rattle.record.specs.declared.window.Window.{Window}
use Rattle.lent.specs.Calls.{result_of, width_result}
use Rattle.lent.proofs.Calling.{saved_size, test_yes, test_no}
use Rattle.lent.proofs.width.Goals as goal

pub open_window-window-requires : goal.open_window-window-requires
open_window-window-requires c = saved_size c.args.state.now (sym c.is_saved.ensures.exact ∙ c.if-is_saved.true)

pub returns-then-is_saved : goal.returns-then-is_saved
unfolding width_result
returns-then-is_saved c = record {
  exact = test_yes _ c.is_saved.ensures.exact c.if-is_saved.true
      (c.result_of.ensures.exact ∙ ap (λ (n : ℕ). result_of 0 0 n) (ap (λ (w : Window). w.width) c.open_window-window.ensures));
}

pub returns : goal.returns
unfolding width_result
returns c = record { exact = test_no _ c.is_saved.ensures.exact c.if-is_saved.false c.not_taken.ensures }
