-- `step::led`: the window, then by where the step leads.
use mathlib.Core.Path.{sym, ◌∙◌, ap}
use Rattle.connection.specs.Handshake.{with_state, with_protection, barred}
use Rattle.connection.specs.Step.{led_by}
use Rattle.connection.specs.declared.state.State.TheVariants as S
use Rattle.connection.proofs.step.led.Goals as goal

pub returns-in-Stay : goal.returns-in-Stay
returns-in-Stay c = let a = c.args in
    let windowed = c.with_protection-k.ensures ∙ ap (with_protection a.h) c.with_window.ensures in
    windowed ∙ sym (ap (led_by a.h a.window) c.in-Stay.is)

pub returns-in-Change : goal.returns-in-Change
returns-in-Change c = let a = c.args in
    let windowed = c.with_protection-k.ensures ∙ ap (with_protection a.h) c.with_window.ensures in
    c.with_state.ensures ∙ ap (λ x. with_state x S.Spec) windowed ∙ sym (ap (led_by a.h a.window) c.in-Change.is)

pub returns-in-Open : goal.returns-in-Open
returns-in-Open c = let a = c.args in
    let windowed = c.with_protection-k.ensures ∙ ap (with_protection a.h) c.with_window.ensures in
    c.with_state-in-Open.ensures ∙ ap (λ x. with_state x S.Open) windowed ∙ sym (ap (led_by a.h a.window) c.in-Open.is)

pub returns-in-Close : goal.returns-in-Close
returns-in-Close c = let a = c.args in
    let windowed = c.with_protection-k.ensures ∙ ap (with_protection a.h) c.with_window.ensures in
    c.with_state-in-Close.ensures ∙ ap (λ x. with_state x S.Closed) windowed ∙ sym (ap (led_by a.h a.window) c.in-Close.is)

pub returns-in-Bar : goal.returns-in-Bar
returns-in-Bar c = let a = c.args in
    let windowed = c.with_protection-k.ensures ∙ ap (with_protection a.h) c.with_window.ensures in
    c.barred.ensures ∙ ap (barred) windowed ∙ sym (ap (led_by a.h a.window) c.in-Bar.is)
