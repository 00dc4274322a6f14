-- `hello::again`: by the state.
use lib.ListN.{length}
use Rattle.unit.specs.Hello.{again_in, again_output_in}
use mathlib.Core.Path.{sym, ◌∙◌, ap}
use Rattle.unit.proofs.hello.again.Goals as goal

pub returns-in-Idle : goal.returns-in-Idle
returns-in-Idle c = record { exact = c.refused.ensures ∙ sym (ap (λ s. again_in c.args.u s (length c.args.out.now)) c.in-Idle.is); bytes = sym (ap (λ s. again_output_in c.args.u s c.args.out.now) c.in-Idle.is) }

pub returns-in-Sent : goal.returns-in-Sent
returns-in-Sent c = record { exact = c.again_hello.ensures.value ∙ sym (ap (λ s. again_in c.args.u s (length c.args.out.now)) c.in-Sent.is); bytes = c.again_hello.ensures.out_after ∙ sym (ap (λ s. again_output_in c.args.u s c.args.out.now) c.in-Sent.is) }

pub returns-in-Replied : goal.returns-in-Replied
returns-in-Replied c = record { exact = c.again_hello-in-Replied.ensures.value ∙ sym (ap (λ s. again_in c.args.u s (length c.args.out.now)) c.in-Replied.is); bytes = c.again_hello-in-Replied.ensures.out_after ∙ sym (ap (λ s. again_output_in c.args.u s c.args.out.now) c.in-Replied.is) }

pub returns-in-Spec : goal.returns-in-Spec
returns-in-Spec c = record { exact = c.again_hello-in-Spec.ensures.value ∙ sym (ap (λ s. again_in c.args.u s (length c.args.out.now)) c.in-Spec.is); bytes = c.again_hello-in-Spec.ensures.out_after ∙ sym (ap (λ s. again_output_in c.args.u s c.args.out.now) c.in-Spec.is) }

pub returns-in-Opening : goal.returns-in-Opening
returns-in-Opening c = record { exact = c.again_flight.ensures.value ∙ sym (ap (λ s. again_in c.args.u s (length c.args.out.now)) c.in-Opening.is); bytes = c.again_flight.ensures.out_after ∙ sym (ap (λ s. again_output_in c.args.u s c.args.out.now) c.in-Opening.is) }

pub returns-in-Open : goal.returns-in-Open
returns-in-Open c = record { exact = c.refused-in-Open.ensures ∙ sym (ap (λ s. again_in c.args.u s (length c.args.out.now)) c.in-Open.is); bytes = sym (ap (λ s. again_output_in c.args.u s c.args.out.now) c.in-Open.is) }

pub returns-in-Closed : goal.returns-in-Closed
returns-in-Closed c = record { exact = c.refused-in-Closed.ensures ∙ sym (ap (λ s. again_in c.args.u s (length c.args.out.now)) c.in-Closed.is); bytes = sym (ap (λ s. again_output_in c.args.u s c.args.out.now) c.in-Closed.is) }

pub returns-in-Barred : goal.returns-in-Barred
returns-in-Barred c = record { exact = c.refused-in-Barred.ensures ∙ sym (ap (λ s. again_in c.args.u s (length c.args.out.now)) c.in-Barred.is); bytes = sym (ap (λ s. again_output_in c.args.u s c.args.out.now) c.in-Barred.is) }
