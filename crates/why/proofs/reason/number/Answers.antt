-- `reason::number`: reason by reason.
use mathlib.Core.Path.{refl}
use Rattle.why.proofs.reason.number.Goals as goal

pub returns-in-NotRefused : goal.returns-in-NotRefused
returns-in-NotRefused c = record { exact = rw c.in-NotRefused.is refl }

pub returns-in-Argument : goal.returns-in-Argument
returns-in-Argument c = record { exact = rw c.in-Argument.is refl }

pub returns-in-Size : goal.returns-in-Size
returns-in-Size c = record { exact = rw c.in-Size.is refl }

pub returns-in-Header : goal.returns-in-Header
returns-in-Header c = record { exact = rw c.in-Header.is refl }

pub returns-in-TypeByte : goal.returns-in-TypeByte
returns-in-TypeByte c = record { exact = rw c.in-TypeByte.is refl }

pub returns-in-Fragment : goal.returns-in-Fragment
returns-in-Fragment c = record { exact = rw c.in-Fragment.is refl }

pub returns-in-Ninth : goal.returns-in-Ninth
returns-in-Ninth c = record { exact = rw c.in-Ninth.is refl }

pub returns-in-Ended : goal.returns-in-Ended
returns-in-Ended c = record { exact = rw c.in-Ended.is refl }

pub returns-in-NotAllowed : goal.returns-in-NotAllowed
returns-in-NotAllowed c = record { exact = rw c.in-NotAllowed.is refl }

pub returns-in-Forged : goal.returns-in-Forged
returns-in-Forged c = record { exact = rw c.in-Forged.is refl }

pub returns-in-ForgedTwice : goal.returns-in-ForgedTwice
returns-in-ForgedTwice c = record { exact = rw c.in-ForgedTwice.is refl }

pub returns-in-TooOld : goal.returns-in-TooOld
returns-in-TooOld c = record { exact = rw c.in-TooOld.is refl }

pub returns-in-Repeated : goal.returns-in-Repeated
returns-in-Repeated c = record { exact = rw c.in-Repeated.is refl }

pub returns-in-BadHello : goal.returns-in-BadHello
returns-in-BadHello c = record { exact = rw c.in-BadHello.is refl }

pub returns-in-BadClear : goal.returns-in-BadClear
returns-in-BadClear c = record { exact = rw c.in-BadClear.is refl }

pub returns-in-BadProtected : goal.returns-in-BadProtected
returns-in-BadProtected c = record { exact = rw c.in-BadProtected.is refl }

pub returns-in-Unacceptable : goal.returns-in-Unacceptable
returns-in-Unacceptable c = record { exact = rw c.in-Unacceptable.is refl }

pub returns-in-Checksum : goal.returns-in-Checksum
returns-in-Checksum c = record { exact = rw c.in-Checksum.is refl }

pub returns-in-WrongFinished : goal.returns-in-WrongFinished
returns-in-WrongFinished c = record { exact = rw c.in-WrongFinished.is refl }
