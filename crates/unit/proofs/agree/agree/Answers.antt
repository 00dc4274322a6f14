-- `agree::agree`: by what the message is.
use Rattle.std.specs.Prelude.{Err}
use mathlib.Core.Path.{sym, ◌∙◌, ap}
use Rattle.unit.specs.Agree.{agreed_by, judged}
use Rattle.unit.specs.declared.answer.Answer.TheVariants as W
use Rattle.unit.proofs.Parts.{agreed_long}
use Rattle.unit.proofs.agree.agree.Goals as goal

pub agreed-requires : goal.agreed-requires
agreed-requires c = agreed_long _ _ _ _ (sym c.agree.ensures ∙ c.in-Ok.is)

pub returns-in-Err-Malformed : goal.returns-in-Err-Malformed
unfolding agreed_by
returns-in-Err-Malformed c = rw (sym c.agree.ensures, (c.in-Err-Malformed.is ∙ ap Err c.in-Err-Malformed.field-0-is)) c.judge_as.ensures

pub returns-in-Err-Unacceptable : goal.returns-in-Err-Unacceptable
unfolding agreed_by
returns-in-Err-Unacceptable c = rw (sym c.agree.ensures, (c.in-Err-Unacceptable.is ∙ ap Err c.in-Err-Unacceptable.field-0-is)) c.judge_as-in-Err-Unacceptable.ensures

pub returns-in-Ok : goal.returns-in-Ok
unfolding agreed_by
returns-in-Ok c = rw (sym c.agree.ensures, c.in-Ok.is) (c.judge_as-in-Ok.ensures ∙ ap (judged W.Hello) c.agreed.ensures)
