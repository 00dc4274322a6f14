-- `arrival`: the marks of the width, and by what the window of a history means.
use mathlib.Core.Path.{◌∙◌, ap}
use Rattle.record.specs.Window.{arrival_of}
use Rattle.record.specs.declared.window.Window.{Window}
use Prim.Native.Nat.{ℕ, ◌%◌, ◌^◌}
use lib.Count.{ones}
use Rattle.record.proofs.Histories.{arrival_means}
use Rattle.record.proofs.window.Window.arrival.Goals as goal

pub returns : goal.returns
unfolding arrival_of
returns c = let a = c.args in
    let exact = ap (λ (x : ℕ). ones x) (c.cut.ensures ∙ ap (λ (v : ℕ). a.self.marks % 2 ^ v) c.of.ensures) in
    record { exact = exact; meaning = λ width h k e. exact ∙ ap (λ (w : Window). arrival_of w) e ∙ arrival_means width k h }
