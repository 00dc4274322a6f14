-- The refusal numbers (01, "Refusal numbers"). "18 is not given any more" (02, "A unit that rebooted").
use Rattle.std.specs.Prelude.{ℕ}
use Rattle.record.specs.Reader.{fault_number}
use Rattle.record.specs.declared.protection.Unopened.{Unopened}
use Rattle.record.specs.declared.protection.Unopened.TheVariants as U
use Rattle.record.specs.declared.protection.Unwritten.{Unwritten}
use Rattle.record.specs.declared.protection.Unwritten.TheVariants as W
use Rattle.connection.specs.declared.refusal.Refusal.{Refusal}
use Rattle.connection.specs.declared.refusal.Refusal.TheVariants.{Framing, Room, Ended, NotAllowed, Forged, TooOld, Repeated, Malformed, Unacceptable, Checksum, Spent, Argument, WrongFinished}

abbrev pub refusal_number : Refusal → ℕ
refusal_number (Framing fault) = fault_number fault
refusal_number Room = 6
refusal_number Ended = 7
refusal_number NotAllowed = 8
refusal_number Forged = 9
refusal_number TooOld = 10
refusal_number Repeated = 11
refusal_number Malformed = 12
refusal_number Unacceptable = 13
refusal_number Checksum = 14
refusal_number Spent = 15
refusal_number Argument = 16
refusal_number WrongFinished = 17

-- a protected record that is not opened
abbrev pub unopened_as : Unopened → Refusal
unopened_as U.Forged = Forged
unopened_as U.TooOld = TooOld
unopened_as U.Repeated = Repeated

-- a protected record that is not written
abbrev pub unwritten_as : Unwritten → Refusal
unwritten_as W.Spent = Spent
unwritten_as W.NoRoom = Room
