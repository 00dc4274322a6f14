-- `facts::numbers_of`: reason by reason.
use mathlib.Core.Path.{refl, ◌∙◌}
use Rattle.lentwhy.proofs.Spelling.{same_eight}
use Rattle.lentwhy.proofs.facts.numbers_of.Goals as goal

pub returns-in-NotRefused : goal.returns-in-NotRefused
returns-in-NotRefused c = rw c.in-NotRefused.is c.eight_of.ensures

pub returns-in-Argument : goal.returns-in-Argument
returns-in-Argument c = rw c.in-Argument.is c.eight_of-in-Argument.ensures

pub returns-in-Size : goal.returns-in-Size
returns-in-Size c = rw c.in-Size.is (c.eight_of-in-Size.ensures ∙ same_eight refl refl c.word.ensures refl refl refl refl refl)

pub returns-in-Header : goal.returns-in-Header
returns-in-Header c = rw c.in-Header.is (c.eight_of-in-Header.ensures ∙ same_eight refl refl c.word-in-Header.ensures c.word-in-Header-2.ensures c.word-in-Header-3.ensures refl refl refl)

pub returns-in-TypeByte : goal.returns-in-TypeByte
returns-in-TypeByte c = rw c.in-TypeByte.is (c.eight_of-in-TypeByte.ensures ∙ same_eight refl refl c.word-in-TypeByte.ensures refl refl refl refl refl)

pub returns-in-Fragment : goal.returns-in-Fragment
returns-in-Fragment c = rw c.in-Fragment.is (c.eight_of-in-Fragment.ensures ∙ same_eight refl refl c.word-in-Fragment.ensures c.word-in-Fragment-2.ensures c.word-in-Fragment-3.ensures refl refl refl)

pub returns-in-Ninth : goal.returns-in-Ninth
returns-in-Ninth c = rw c.in-Ninth.is (c.eight_of-in-Ninth.ensures ∙ same_eight refl refl c.word-in-Ninth.ensures refl refl refl refl refl)

pub returns-in-Ended : goal.returns-in-Ended
returns-in-Ended c = rw c.in-Ended.is c.eight_of-in-Ended.ensures

pub returns-in-NotAllowed : goal.returns-in-NotAllowed
returns-in-NotAllowed c = rw c.in-NotAllowed.is c.eight_of-in-NotAllowed.ensures

pub returns-in-Forged : goal.returns-in-Forged
returns-in-Forged c = rw c.in-Forged.is (c.eight_of-in-Forged.ensures ∙ same_eight refl refl refl c.word-in-Forged.ensures refl c.word-in-Forged-2.ensures refl refl)

pub returns-in-ForgedTwice : goal.returns-in-ForgedTwice
returns-in-ForgedTwice c = rw c.in-ForgedTwice.is (c.eight_of-in-ForgedTwice.ensures ∙ same_eight refl refl refl c.word-in-ForgedTwice.ensures refl c.word-in-ForgedTwice-2.ensures refl c.word-in-ForgedTwice-3.ensures)

pub returns-in-TooOld : goal.returns-in-TooOld
returns-in-TooOld c = rw c.in-TooOld.is (c.eight_of-in-TooOld.ensures ∙ same_eight c.under_number.ensures refl refl refl refl refl refl refl)

pub returns-in-Repeated : goal.returns-in-Repeated
returns-in-Repeated c = rw c.in-Repeated.is (c.eight_of-in-Repeated.ensures ∙ same_eight c.under_number-in-Repeated.ensures refl refl refl refl refl refl refl)

pub returns-in-BadHello : goal.returns-in-BadHello
returns-in-BadHello c = rw c.in-BadHello.is (c.eight_of-in-BadHello.ensures ∙ same_eight refl c.field_number.ensures refl refl refl refl refl refl)

pub returns-in-BadClear : goal.returns-in-BadClear
returns-in-BadClear c = rw c.in-BadClear.is (c.eight_of-in-BadClear.ensures ∙ same_eight refl refl refl c.word-in-BadClear.ensures refl refl refl refl)

pub returns-in-BadProtected : goal.returns-in-BadProtected
returns-in-BadProtected c = rw c.in-BadProtected.is (c.eight_of-in-BadProtected.ensures ∙ same_eight c.under_number-in-BadProtected.ensures refl refl c.word-in-BadProtected.ensures refl refl refl refl)

pub returns-in-Unacceptable : goal.returns-in-Unacceptable
returns-in-Unacceptable c = rw c.in-Unacceptable.is (c.eight_of-in-Unacceptable.ensures ∙ same_eight refl c.condition_number.ensures c.word-in-Unacceptable.ensures c.word-in-Unacceptable-2.ensures refl refl refl refl)

pub returns-in-Checksum : goal.returns-in-Checksum
returns-in-Checksum c = rw c.in-Checksum.is c.eight_of-in-Checksum.ensures

pub returns-in-WrongFinished : goal.returns-in-WrongFinished
returns-in-WrongFinished c = rw c.in-WrongFinished.is (c.eight_of-in-WrongFinished.ensures ∙ same_eight c.under_number-in-WrongFinished.ensures refl refl c.word-in-WrongFinished.ensures refl refl refl refl)
