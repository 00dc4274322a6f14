-- `answer::as_ashore`: case by case.
use Rattle.unit.proofs.answer.as_ashore.Goals as goal

pub returns-in-Data : goal.returns-in-Data
returns-in-Data c = rw c.in-Data.is

pub returns-in-Warning : goal.returns-in-Warning
returns-in-Warning c = rw c.in-Warning.is

pub returns-in-Critical : goal.returns-in-Critical
returns-in-Critical c = rw c.in-Critical.is

pub returns-in-Fatal : goal.returns-in-Fatal
returns-in-Fatal c = rw c.in-Fatal.is

pub returns-in-Barred : goal.returns-in-Barred
returns-in-Barred c = rw c.in-Barred.is

pub returns-in-Refused : goal.returns-in-Refused
returns-in-Refused c = rw c.in-Refused.is
