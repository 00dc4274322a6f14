-- `accept`: at the width that the window keeps, by the exact equation, and by what the window of a history means.
use mathlib.Core.Path.{◌∙◌, ap}
use Rattle.record.specs.Window.{accept_of, accept_within}
use Rattle.record.specs.declared.window.Window.{Window}
use Prim.Native.Nat.{ℕ}
use Rattle.record.proofs.Histories.{meaning}
use Rattle.record.proofs.window.Window.accept.Goals as goal

pub returns : goal.returns
returns c = let a = c.args in
    let exact = c.accept_within.ensures ∙ ap (λ (v : ℕ). accept_within v a.self a.number) c.of.ensures in
    record { exact = exact; meaning = λ width h k e. exact ∙ ap (λ (w : Window). accept_of w a.number) e ∙ meaning width k h a.number }
