-- Change cipher spec (002 10.1).
use Rattle.std.specs.Prelude.{List, [], ◌∷◌, Bool, false, ℕ, length, get_or, eqb}
use Rattle.digest.specs.Pick.{pick}

-- "the message consists of a single byte of value 1"
abbrev pub change_bytes : List ℕ
change_bytes = 1 ∷ []

unfoldable pub is_change : List ℕ → Bool
is_change s = pick (eqb (length s) 1) (eqb (get_or s 0 0) 1) false
