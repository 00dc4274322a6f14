-- `report::entry_of`: answer by answer.
use mathlib.Core.Path.{◌∙◌, ap}
use Rattle.lent.specs.Report.{entry}
use Rattle.lent.proofs.report.entry_of.Goals as goal

pub returns-in-Nothing : goal.returns-in-Nothing
returns-in-Nothing c = rw c.in-Nothing.is c.new.ensures.exact

pub returns-in-Reply : goal.returns-in-Reply
returns-in-Reply c = rw c.in-Reply.is c.new-in-Reply.ensures.exact

pub returns-in-Resent : goal.returns-in-Resent
returns-in-Resent c = rw c.in-Resent.is c.new-in-Resent.ensures.exact

pub returns-in-Spec : goal.returns-in-Spec
returns-in-Spec c = rw c.in-Spec.is c.new-in-Spec.ensures.exact

pub returns-in-Open : goal.returns-in-Open
returns-in-Open c = rw c.in-Open.is c.new-in-Open.ensures.exact

pub returns-in-Again : goal.returns-in-Again
returns-in-Again c = rw c.in-Again.is c.new-in-Again.ensures.exact

pub returns-in-Data : goal.returns-in-Data
returns-in-Data c = rw c.in-Data.is c.new-in-Data.ensures.exact

pub returns-in-Warning : goal.returns-in-Warning
returns-in-Warning c = rw c.in-Warning.is (c.new-in-Warning.ensures.exact ∙ ap (λ x. entry 7 0 x 0 0 0) c.description_number.ensures)

pub returns-in-Critical : goal.returns-in-Critical
returns-in-Critical c = rw c.in-Critical.is (c.new-in-Critical.ensures.exact ∙ ap (λ x. entry 8 0 x 0 0 0) c.description_number-in-Critical.ensures)

pub returns-in-Fatal : goal.returns-in-Fatal
returns-in-Fatal c = rw c.in-Fatal.is (c.new-in-Fatal.ensures.exact ∙ ap (λ x. entry 9 0 x 0 0 0) c.description_number-in-Fatal.ensures)

pub returns-in-Barred : goal.returns-in-Barred
returns-in-Barred c = rw c.in-Barred.is (c.new-in-Barred.ensures.exact ∙ ap (λ x. entry 10 0 x 0 0 0) c.description_number-in-Barred.ensures)

pub returns-in-Refused : goal.returns-in-Refused
returns-in-Refused c = rw c.in-Refused.is (c.new-in-Refused.ensures.exact ∙ ap (λ x. entry 11 x 0 0 0 0) c.number.ensures)
