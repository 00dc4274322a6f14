-- 01, the unit's tally: "Each count equals the number of such answers since the tally was fresh, up to that stop; a
-- datagram refused as a whole changes none." One tally may be lent to calls on several connections.
use Rattle.std.specs.Prelude.{◌≡◌, Bool, true, false, List, [], ◌∷◌, ℕ, ◌+◌, min}
use Rattle.digest.specs.Pick.{pick}
use Rattle.connection.specs.Tally.{fresh_tally}
use Rattle.connection.specs.declared.answer.Answer.{Answer}
use Rattle.connection.specs.declared.answer.Answer.TheVariants.{Nothing, Reply, Resent, Spec, Open, Again, Data, Warning, Critical, Fatal, Barred, Refused}
use Rattle.connection.specs.declared.answer.Slot.{Slot}
use Rattle.connection.specs.declared.connection.Connection.{Connection}
use Rattle.connection.specs.declared.refusal.Refusal.{Refusal}
use Rattle.connection.specs.declared.refusal.Refusal.TheVariants as X
use Rattle.connection.specs.declared.tally.Tally.{Tally}
use Rattle.demands.specs.Runs.{Call, Returned, Gateway}
use Rattle.demands.specs.Past.{is_data}
use Rattle.demands.specs.LeftOut.{answers_in}

-- the refusal that an answer is, if it is this one: 9, 10 or 11
abbrev pub is_forged : Refusal → Bool
is_forged (X.Framing fault) = false
is_forged X.Room = false
is_forged X.Ended = false
is_forged X.NotAllowed = false
is_forged X.Forged = true
is_forged X.TooOld = false
is_forged X.Repeated = false
is_forged X.Malformed = false
is_forged X.Unacceptable = false
is_forged X.Checksum = false
is_forged X.Spent = false
is_forged X.Argument = false
is_forged X.WrongFinished = false

abbrev pub is_old : Refusal → Bool
is_old (X.Framing fault) = false
is_old X.Room = false
is_old X.Ended = false
is_old X.NotAllowed = false
is_old X.Forged = false
is_old X.TooOld = true
is_old X.Repeated = false
is_old X.Malformed = false
is_old X.Unacceptable = false
is_old X.Checksum = false
is_old X.Spent = false
is_old X.Argument = false
is_old X.WrongFinished = false

abbrev pub is_repeated : Refusal → Bool
is_repeated (X.Framing fault) = false
is_repeated X.Room = false
is_repeated X.Ended = false
is_repeated X.NotAllowed = false
is_repeated X.Forged = false
is_repeated X.TooOld = false
is_repeated X.Repeated = true
is_repeated X.Malformed = false
is_repeated X.Unacceptable = false
is_repeated X.Checksum = false
is_repeated X.Spent = false
is_repeated X.Argument = false
is_repeated X.WrongFinished = false

abbrev pub refused_as : (Refusal → Bool) → Answer → Bool
refused_as is Nothing = false
refused_as is (Reply size) = false
refused_as is (Resent size) = false
refused_as is Spec = false
refused_as is Open = false
refused_as is Again = false
refused_as is (Data number start size) = false
refused_as is (Warning description) = false
refused_as is (Critical description) = false
refused_as is (Fatal description) = false
refused_as is (Barred description) = false
refused_as is (Refused refusal) = is refusal

-- how many answers are so
unfoldable pub count_in : (Answer → Bool) → List Slot → ℕ
count_in is [] = 0
count_in is (slot ∷ slots) = pick (is slot.answer) 1 0 + count_in is slots

-- calls on connections, in any order, and the number of such answers in them
pub record OnConnection : Type 0 where
  pub connection : Connection
  pub call : Call

unfoldable pub count_over : Gateway → (Answer → Bool) → List OnConnection → ℕ
count_over g is [] = 0
count_over g is (o ∷ os) = count_in is (answers_in (g o.connection o.call).result) + count_over g is os

-- a way to bring a tally up to date after a call
abbrev pub Counting : Type 0
Counting = Tally → Returned → Tally

unfoldable pub tally_after : Gateway → Counting → Tally → List OnConnection → Tally
tally_after g counting t [] = t
tally_after g counting t (o ∷ os) = tally_after g counting (counting t (g o.connection o.call).result) os

abbrev pub up_to_stop : ℕ → ℕ
up_to_stop n = min n 4294967295

unfoldable pub CountsRight : Gateway → Counting → Type 0
CountsRight g counting =
    (os : List OnConnection) → tally_after g counting fresh_tally os
    ≡ record {
      handed = up_to_stop (count_over g is_data os);
      forged = up_to_stop (count_over g (refused_as is_forged) os);
      old = up_to_stop (count_over g (refused_as is_old) os);
      repeated = up_to_stop (count_over g (refused_as is_repeated) os);
    }
