-- The one conditional of all specifications. Its laws are in proofs/Picks.antt.
use Rattle.std.specs.Prelude.{Bool, true, false}

-- the first value where the test holds, else the second
abbrev pub pick : {A : Type 0} → Bool → A → A → A
pick true yes-value no_value = yes-value
pick false yes-value no_value = no_value
