-- One reference that is being gathered, as the gatherer keeps it: numbers, with the bytes in the store.
use Rattle.std.specs.Prelude.{Bool, false, List, [], ◌∷◌, ℕ, ◌+◌, ◌-◌, take, set, replicate, eqb, ltb}
use Rattle.digest.specs.Pick.{pick}
use Rattle.gather.specs.declared.slot.Slot.{Slot}

abbrev pub free : Slot
free = record { reference = 0; total = 0; sizes = replicate 11 0 }

abbrev pub begun : ℕ → ℕ → Slot
begun r t = record { reference = r; total = t; sizes = replicate 11 0 }

abbrev pub holds : Slot → ℕ → Bool
holds s r = pick (eqb s.total 0) false (eqb s.reference r)

-- 1 for a size that says that the place is held
abbrev pub held_in : ℕ → ℕ
held_in size = pick (eqb size 0) 0 1

-- a number for each size, all together
unfoldable pub together : (ℕ → ℕ) → List ℕ → ℕ
together f [] = 0
together f (x ∷ s) = f x + together f s

-- how many places are held
abbrev pub count_of : List ℕ → ℕ
count_of sizes = together held_in sizes

-- how many bytes the places have: a size is one more than the bytes of its place
abbrev pub sum_of : List ℕ → ℕ
sum_of sizes = together (λ x. x - 1) sizes

-- how many bytes the first n places have, up to the 1,400 that there are
unfoldable pub below : Slot → ℕ → ℕ
below s n = pick (ltb 1400 (sum_of (take n s.sizes))) 1400 (sum_of (take n s.sizes))

abbrev pub sized : Slot → ℕ → ℕ → Slot
sized s i n = record { reference = s.reference; total = s.total; sizes = set s.sizes i (n + 1) }
