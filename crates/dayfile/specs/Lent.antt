-- A list of reports as it is lent: a slice with their numbers, one with their sizes, and one with the bytes of all of them,
-- one report's behind the other's.
use Rattle.std.specs.Prelude.{Bool, false, List, [], ◌∷◌, ℕ, ◌+◌, ◌-◌, length, take, drop, eqb, ltb}
use Rattle.digest.specs.Pick.{pick}
use Rattle.dayfile.specs.File.{Report, is_sized}

unfoldable pub sum_of : List ℕ → ℕ
sum_of [] = 0
sum_of (n ∷ s) = n + sum_of s

-- the three slices are a list: as many numbers as sizes, and the sizes add up to the bytes
unfoldable pub is_list : List ℕ → List ℕ → List ℕ → Bool
is_list numbers sizes bytes = pick (eqb (length numbers) (length sizes)) (eqb (sum_of sizes) (length bytes)) false

-- the list that they are
unfoldable pub list_of : List ℕ → List ℕ → List ℕ → List Report
list_of [] sizes bytes = []
list_of (n ∷ numbers) [] bytes = []
list_of (n ∷ numbers) (s ∷ sizes) bytes =
    record { number = n; bytes = take s bytes } ∷ list_of numbers sizes (drop s bytes)

-- the same as the sizes tell it: each is 1 to 1,400, and they use up what is left of the bytes
unfoldable pub are_sized : List ℕ → ℕ → Bool
are_sized [] left = eqb left 0
are_sized (s ∷ sizes) left = pick (is_sized s) (pick (ltb left s) false (are_sized sizes (left - s))) false
