-- `protected::opened`: by the state.
use mathlib.Core.Path.{sym, ◌∙◌, ap}
use Rattle.connection.specs.Handshake.{with_window}
use Rattle.connection.specs.Protected.{finished_in}
use Rattle.connection.specs.Step.{stepped_by}
use Rattle.connection.proofs.protected.opened.Goals as goal

pub returns-in-Open : goal.returns-in-Open
returns-in-Open c = let a = c.args in ap (stepped_by a.h) c.lead.ensures ∙ sym (ap (finished_in (with_window a.h a.window)) c.in-Open.is)

pub returns-in-Idle : goal.returns-in-Idle
returns-in-Idle c = let a = c.args in ap (stepped_by a.h) c.refuse.ensures ∙ sym (ap (finished_in (with_window a.h a.window)) c.in-Idle.is)

pub returns-in-Replied : goal.returns-in-Replied
returns-in-Replied c = let a = c.args in ap (stepped_by a.h) c.refuse-in-Replied.ensures ∙ sym (ap (finished_in (with_window a.h a.window)) c.in-Replied.is)

pub returns-in-Spec : goal.returns-in-Spec
returns-in-Spec c = let a = c.args in ap (stepped_by a.h) c.lead-in-Spec.ensures ∙ sym (ap (finished_in (with_window a.h a.window)) c.in-Spec.is)

pub returns-in-Closed : goal.returns-in-Closed
returns-in-Closed c = let a = c.args in ap (stepped_by a.h) c.refuse-in-Closed.ensures ∙ sym (ap (finished_in (with_window a.h a.window)) c.in-Closed.is)

pub returns-in-Barred : goal.returns-in-Barred
returns-in-Barred c = let a = c.args in ap (stepped_by a.h) c.refuse-in-Barred.ensures ∙ sym (ap (finished_in (with_window a.h a.window)) c.in-Barred.is)
