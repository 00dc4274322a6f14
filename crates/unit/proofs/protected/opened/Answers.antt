-- `protected::opened`: by the state.
use mathlib.Core.Path.{◌∙◌, ap}
use native.Mathlib.Omega.{arith}
use Prim.Native.Nat.{◌+◌}
use Rattle.record.proofs.ProtectedBytes.{size_most}
use Rattle.unit.specs.Step.{step}
use Rattle.unit.specs.declared.answer.Answer.TheVariants as W
use Rattle.unit.specs.declared.step.Move.TheVariants as M
use Rattle.unit.proofs.protected.opened.Goals as goal

pub overflow_add-size : goal.overflow_add-size
overflow_add-size c = omega (arith, c.size.ensures.exact, size_most c.args.mac)

pub returns-in-Idle : goal.returns-in-Idle
returns-in-Idle c = rw c.in-Idle.is c.refuse.ensures

pub returns-in-Sent : goal.returns-in-Sent
returns-in-Sent c = rw c.in-Sent.is c.refuse-in-Sent.ensures

pub returns-in-Replied : goal.returns-in-Replied
returns-in-Replied c = rw c.in-Replied.is c.refuse-in-Replied.ensures

pub returns-in-Spec : goal.returns-in-Spec
returns-in-Spec c = rw c.in-Spec.is (c.lead.ensures ∙ ap (λ n. step (W.Open (24 + n)) c.args.window M.Finish) c.size.ensures.exact)

pub returns-in-Opening : goal.returns-in-Opening
returns-in-Opening c = rw c.in-Opening.is c.lead-in-Opening.ensures

pub returns-in-Open : goal.returns-in-Open
returns-in-Open c = rw c.in-Open.is c.lead-in-Open.ensures

pub returns-in-Closed : goal.returns-in-Closed
returns-in-Closed c = rw c.in-Closed.is c.refuse-in-Closed.ensures

pub returns-in-Barred : goal.returns-in-Barred
returns-in-Barred c = rw c.in-Barred.is c.refuse-in-Barred.ensures
