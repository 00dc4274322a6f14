-- `Unit::left_by`: by where the step leads.
use mathlib.Core.Path.{◌∙◌, ap, ap₂}
use Rattle.unit.specs.Unit.{left_by, with_state, opened, barred}
use Rattle.unit.specs.declared.unit.Unit.{Unit}
use Rattle.unit.specs.declared.state.State.TheVariants as S
use Rattle.unit.proofs.unit.Unit.left_by.Goals as goal

pub returns-in-Stay : goal.returns-in-Stay
unfolding left_by
returns-in-Stay c = rw c.in-Stay.is c.with_window-u.ensures

pub returns-in-Change : goal.returns-in-Change
unfolding left_by
returns-in-Change c = rw c.in-Change.is (c.with_state.ensures ∙ ap (λ (x : Unit). with_state x S.Spec) c.with_window-u.ensures)

pub returns-in-Finish : goal.returns-in-Finish
unfolding left_by
returns-in-Finish c = rw c.in-Finish.is (c.opened.ensures ∙ ap opened c.with_window-u.ensures)

pub returns-in-Settle : goal.returns-in-Settle
unfolding left_by
returns-in-Settle c = rw c.in-Settle.is (c.with_state-in-Settle.ensures ∙ ap₂ with_state c.with_window-u.ensures c.settled.ensures)

pub returns-in-Close : goal.returns-in-Close
unfolding left_by
returns-in-Close c = rw c.in-Close.is (c.with_state-in-Close.ensures ∙ ap (λ (x : Unit). with_state x S.Closed) c.with_window-u.ensures)

pub returns-in-Bar : goal.returns-in-Bar
unfolding left_by
returns-in-Bar c = rw c.in-Bar.is (c.barred.ensures ∙ ap barred c.with_window-u.ensures)
