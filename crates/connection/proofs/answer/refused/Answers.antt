-- `answer::refused`: of a refusal its number, else 0.
use mathlib.Core.Path.{◌∙◌, sym, ap}
use Rattle.connection.specs.Answer.{answer_number}
use Rattle.connection.proofs.answer.refused.Goals as goal

pub returns-in-Refused : goal.returns-in-Refused
returns-in-Refused c = c.number.ensures ∙ sym (ap answer_number c.in-Refused.is)
