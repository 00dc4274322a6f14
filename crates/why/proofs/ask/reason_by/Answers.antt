-- `ask::reason_by`: refusal by refusal.
use mathlib.Core.Path.{refl, ◌∙◌, ap}
use Prim.Native.Nat.{◌+◌}
use Rattle.digest.specs.Bytes.{word_at}
use Rattle.why.specs.Hello.{unmet_of}
use Rattle.why.specs.Opening.{too_old_by, repeated_by}
use Rattle.why.specs.Why.{reason_by}
use Rattle.why.specs.declared.reason.Reason.TheVariants.{Checksum, WrongFinished}
use Rattle.why.proofs.Facts.{fragment_is}
use Rattle.why.proofs.ask.reason_by.Goals as goal

pub returns-in-Framing : goal.returns-in-Framing
unfolding reason_by
returns-in-Framing c = rw c.in-Framing.is c.fault_reason.ensures

pub returns-in-Room : goal.returns-in-Room
unfolding reason_by
returns-in-Room c = rw c.in-Room.is refl

pub returns-in-Ended : goal.returns-in-Ended
unfolding reason_by
returns-in-Ended c = rw c.in-Ended.is refl

pub returns-in-NotAllowed : goal.returns-in-NotAllowed
unfolding reason_by
returns-in-NotAllowed c = rw c.in-NotAllowed.is refl

pub returns-in-Forged : goal.returns-in-Forged
unfolding reason_by
returns-in-Forged c = rw c.in-Forged.is c.forged.ensures

pub returns-in-TooOld : goal.returns-in-TooOld
unfolding reason_by
returns-in-TooOld c = let args = c.args in
    rw c.in-TooOld.is (c.too_old.ensures ∙ ap (λ u. too_old_by u args.r.number args.asked.protection.window) c.under_of.ensures)

pub returns-in-Repeated : goal.returns-in-Repeated
unfolding reason_by
returns-in-Repeated c = let args = c.args in
    rw c.in-Repeated.is (c.repeated.ensures ∙ ap (λ u. repeated_by u args.r.number args.asked.protection.window) c.under_of-in-Repeated.ensures)

pub returns-in-Malformed : goal.returns-in-Malformed
unfolding reason_by
returns-in-Malformed c = rw c.in-Malformed.is c.malformed.ensures

pub returns-in-Unacceptable : goal.returns-in-Unacceptable
unfolding reason_by
returns-in-Unacceptable c = let args = c.args in
    rw c.in-Unacceptable.is (c.unmet.ensures ∙ ap (λ m. unmet_of (args.r.start + args.r.head) m args.asked.id) (fragment_is args.d.now args.r))

pub returns-in-Checksum : goal.returns-in-Checksum
unfolding reason_by
returns-in-Checksum c = let args = c.args in
    rw c.in-Checksum.is (ap Checksum (c.word_at.ensures ∙ ap (λ m. word_at m 2) (fragment_is args.d.now args.r)))

pub returns-in-Spent : goal.returns-in-Spent
unfolding reason_by
returns-in-Spent c = rw c.in-Spent.is refl

pub returns-in-Argument : goal.returns-in-Argument
unfolding reason_by
returns-in-Argument c = rw c.in-Argument.is refl

pub returns-in-WrongFinished : goal.returns-in-WrongFinished
unfolding reason_by
returns-in-WrongFinished c = let r = c.args.r in
    rw c.in-WrongFinished.is (ap (λ u. WrongFinished u r.number (r.start + r.head + 3)) c.under_of-in-WrongFinished.ensures)
