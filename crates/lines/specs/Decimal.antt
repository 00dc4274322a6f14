-- Numbers: decimal, without sign or leading zero, of at most nine digits.
use Rattle.std.specs.Prelude.{Bool, true, false, List, [], ◌∷◌, ℕ, ◌+◌, ◌*◌, ◌-◌, length, get_or, ltb, leb, eqb}
use Rattle.digest.specs.Pick.{pick}
use Rattle.std.specs.List.{list_all}

-- 0 to 9
abbrev pub is_digit : ℕ → Bool
is_digit b = pick (ltb b 48) false (pick (ltb b 58) true false)

-- what a digit stands for
abbrev pub digit_of : ℕ → ℕ
digit_of b = pick (ltb b 48) 0 (pick (ltb b 58) (b - 48) 0)

-- the number that digits spell behind those of n; digits behind the ninth are not read
unfoldable pub number_from : ℕ → List ℕ → ℕ
number_from n [] = n
number_from n (b ∷ s) = pick (ltb 99999999 n) n (number_from (n * 10 + digit_of b) s)

-- the number that a word spells
abbrev pub number_of : List ℕ → ℕ
number_of w = number_from 0 w

-- a word is a number of at most `most`
abbrev pub is_number : List ℕ → ℕ → Bool
is_number w most =
    pick (eqb (length w) 0) false
    (pick (ltb 9 (length w)) false
    (pick (eqb (get_or w 0 0) 48) (eqb (length w) 1)
    (pick (list_all is_digit w) (leb (number_of w) most) false)))
