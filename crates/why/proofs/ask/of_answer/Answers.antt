-- `ask::of_answer`: answer by answer.
use mathlib.Core.Path.{refl}
use Rattle.why.proofs.ask.of_answer.Goals as goal

pub returns-in-Nothing : goal.returns-in-Nothing
returns-in-Nothing c = rw c.in-Nothing.is refl

pub returns-in-Reply : goal.returns-in-Reply
returns-in-Reply c = rw c.in-Reply.is refl

pub returns-in-Resent : goal.returns-in-Resent
returns-in-Resent c = rw c.in-Resent.is refl

pub returns-in-Spec : goal.returns-in-Spec
returns-in-Spec c = rw c.in-Spec.is refl

pub returns-in-Open : goal.returns-in-Open
returns-in-Open c = rw c.in-Open.is refl

pub returns-in-Again : goal.returns-in-Again
returns-in-Again c = rw c.in-Again.is refl

pub returns-in-Data : goal.returns-in-Data
returns-in-Data c = rw c.in-Data.is refl

pub returns-in-Warning : goal.returns-in-Warning
returns-in-Warning c = rw c.in-Warning.is refl

pub returns-in-Critical : goal.returns-in-Critical
returns-in-Critical c = rw c.in-Critical.is refl

pub returns-in-Fatal : goal.returns-in-Fatal
returns-in-Fatal c = rw c.in-Fatal.is refl

pub returns-in-Barred : goal.returns-in-Barred
returns-in-Barred c = rw c.in-Barred.is refl

pub returns-in-Refused : goal.returns-in-Refused
returns-in-Refused c = rw c.in-Refused.is c.reason_at.ensures
