-- The number of each reason (01, "Refusal numbers").
use Rattle.std.specs.Prelude.{ℕ}
use Rattle.why.specs.declared.reason.Reason.{Reason}
use Rattle.why.specs.declared.reason.Reason.TheVariants.{NotRefused, Argument, Size, Header, TypeByte, Fragment, Ninth, Ended, NotAllowed, Forged, ForgedTwice, TooOld, Repeated, BadHello, BadClear, BadProtected, Unacceptable, Checksum, WrongFinished}

-- 0 where there is no refusal
abbrev pub reason_number : Reason → ℕ
reason_number NotRefused = 0
reason_number Argument = 16
reason_number (Size size) = 1
reason_number (Header at left needs) = 2
reason_number (TypeByte at byte) = 3
reason_number (Fragment at stated left) = 4
reason_number (Ninth at) = 5
reason_number Ended = 7
reason_number NotAllowed = 8
reason_number (Forged number fragment key code) = 9
reason_number (ForgedTwice number fragment started-key started-code open-key open_code) = 9
reason_number (TooOld under number highest limit) = 10
reason_number (Repeated under number highest mark) = 11
reason_number (BadHello field) = 12
reason_number (BadClear size first second) = 12
reason_number (BadProtected under number size first second) = 12
reason_number (Unacceptable condition from size) = 13
reason_number (Checksum checksum) = 14
reason_number (WrongFinished under number from) = 17
