-- The unit's tally (01): "handed out, forged, too old, repeated; each stops at 2^32 - 1".
use Rattle.std.specs.Prelude.{List, ℕ, zero, suc, ◌+◌, get_or, eqb}
use Rattle.digest.specs.Pick.{pick}
use Rattle.connection.specs.Receive.{slot}
use Rattle.connection.specs.declared.answer.Answer.{Answer}
use Rattle.connection.specs.declared.answer.Answer.TheVariants.{Nothing, Reply, Resent, Spec, Open, Again, Data, Warning, Critical, Fatal, Barred, Refused}
use Rattle.connection.specs.declared.answer.Slot.{Slot}
use Rattle.connection.specs.declared.refusal.Refusal.{Refusal}
use Rattle.connection.specs.declared.refusal.Refusal.TheVariants.{Framing, Room, Ended, NotAllowed, Forged, TooOld, Repeated, Malformed, Unacceptable, Checksum, Spent, Argument, WrongFinished}
use Rattle.connection.specs.declared.tally.Tally.{Tally}

abbrev pub fresh_tally : Tally
fresh_tally = record { handed = 0; forged = 0; old = 0; repeated = 0 }

-- one more, up to the stop
unfoldable pub bumped : ℕ → ℕ
bumped n = pick (eqb n 4294967295) n (n + 1)

abbrev pub counted_refusal : Tally → Refusal → Tally
counted_refusal t (Framing fault) = t
counted_refusal t Room = t
counted_refusal t Ended = t
counted_refusal t NotAllowed = t
counted_refusal t Forged = record { handed = t.handed; forged = bumped t.forged; old = t.old; repeated = t.repeated }
counted_refusal t TooOld = record { handed = t.handed; forged = t.forged; old = bumped t.old; repeated = t.repeated }
counted_refusal t Repeated = record { handed = t.handed; forged = t.forged; old = t.old; repeated = bumped t.repeated }
counted_refusal t Malformed = t
counted_refusal t Unacceptable = t
counted_refusal t Checksum = t
counted_refusal t Spent = t
counted_refusal t Argument = t
counted_refusal t WrongFinished = t

abbrev pub counted_answer : Tally → Answer → Tally
counted_answer t Nothing = t
counted_answer t (Reply size) = t
counted_answer t (Resent size) = t
counted_answer t Spec = t
counted_answer t Open = t
counted_answer t Again = t
counted_answer t (Data number start size) = record { handed = bumped t.handed; forged = t.forged; old = t.old; repeated = t.repeated }
counted_answer t (Warning description) = t
counted_answer t (Critical description) = t
counted_answer t (Fatal description) = t
counted_answer t (Barred description) = t
counted_answer t (Refused refusal) = counted_refusal t refusal

-- the first n of the answers of a receive, one after the other
unfoldable pub counted_first : Tally → List Slot → ℕ → Tally
counted_first t answers zero = t
counted_first t answers (suc n) = counted_answer (counted_first t answers n) (get_or answers n (slot Nothing)).answer

-- all eight places
abbrev pub counted_of : Tally → List Slot → Tally
counted_of t answers = counted_first t answers 8
