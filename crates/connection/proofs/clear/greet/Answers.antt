-- `greet::greet`: by what the hello is.
use Rattle.std.specs.Prelude.{Err}
use mathlib.Core.Path.{sym, ◌∙◌, ap}
use Rattle.message.proofs.Hearing.{accepted_size}
use Rattle.connection.specs.Reply.{answered_with}
use Rattle.connection.specs.Clear.{greeted_by}
use Rattle.connection.specs.declared.answer.Answer.TheVariants.{Reply}
use Rattle.connection.proofs.clear.greet.Goals as goal

pub answered-left-requires : goal.answered-left-requires
answered-left-requires c = (c.requires, accepted_size c.args.m.now c.args.h.id c.in-Ok.plan (sym c.hear.ensures ∙ c.in-Ok.is))

pub returns-in-Err-Malformed : goal.returns-in-Err-Malformed
unfolding greeted_by
returns-in-Err-Malformed c = rw (sym c.hear.ensures ∙ (c.in-Err-Malformed.is ∙ ap Err c.in-Err-Malformed.field-0-is)) c.refuse.ensures

pub returns-in-Err-Unacceptable : goal.returns-in-Err-Unacceptable
unfolding greeted_by
returns-in-Err-Unacceptable c = rw (sym c.hear.ensures ∙ (c.in-Err-Unacceptable.is ∙ ap Err c.in-Err-Unacceptable.field-0-is)) c.refuse-in-Err-Unacceptable.ensures

pub returns-in-Ok : goal.returns-in-Ok
unfolding greeted_by answered_with
returns-in-Ok c = rw (sym c.hear.ensures ∙ c.in-Ok.is) (λ i. record { answer = Reply (c.answered-left.ensures i).kept.size; handshake = c.answered-left.ensures i })
