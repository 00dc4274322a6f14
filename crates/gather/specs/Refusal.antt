-- The refusal numbers of short messages (02, P2; 16 and 6 are 01's).
use Rattle.std.specs.Prelude.{ℕ}
use Rattle.gather.specs.declared.refusal.Refusal.{Refusal}
use Rattle.gather.specs.declared.refusal.Refusal.TheVariants.{Argument, Room, Header, Differs, Full, Long}

abbrev pub refusal_number : Refusal → ℕ
refusal_number Argument = 16
refusal_number Room = 6
refusal_number Header = 19
refusal_number Differs = 20
refusal_number Full = 21
refusal_number Long = 22
