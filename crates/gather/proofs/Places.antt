-- The places of a slot, as its sizes and the bytes of its room say them: how many there are, what stands in each, all of
-- them joined, and a part put between the others.
use mathlib.Core.Path.{◌≡◌, refl, sym, ap, ◌∙◌}
use mathlib.Core.List.{List, [], ◌∷◌, ◌++◌, append_assoc}
use Prim.Native.Nat.{ℕ, zero, suc, ◌+◌, ◌-◌, ◌≤◌, ◌<◌}
use native.Mathlib.Omega.{arith}
use lib.ListN.{length, get_or, take, drop, set, length-append, length-drop, take-append-drop}
use lib.Seq.{take-add, drop-drop, take-append-le, drop-append-le, take_at, drop_at}
use borrow.Author.Tests.{ne_eqb}
use Rattle.gather.specs.Slot.{together, count_of, sum_of}
use Rattle.gather.specs.Map.{Part, missing, there, have, joined, places_of}

-- as many places as sizes
pub as_many : (sizes b : List ℕ) → length (places_of sizes b) ≡ length sizes
unfolding places_of
as_many [] b = refl
as_many (zero ∷ s) b = ap suc (as_many s b)
as_many (suc n ∷ s) b = ap suc (as_many s (drop n b))

-- those that have come are those with a size
pub have_places : (sizes b : List ℕ) → have (places_of sizes b) ≡ count_of sizes
unfolding places_of have together
have_places [] b = refl
have_places (zero ∷ s) b = ap (λ (m : ℕ). 0 + m) (have_places s b)
have_places (suc n ∷ s) b = rw (ne_eqb (suc n) 0 (λ e. omega arith)) (ap (λ (m : ℕ). 1 + m) (have_places s (drop n b)))

-- whatever the sizes say, the parts together are no more than the bytes that there are
pub joined_few : (sizes b : List ℕ) → length (joined (places_of sizes b)) ≤ length b
unfolding places_of joined
joined_few [] b = omega arith
joined_few (zero ∷ s) b = joined_few s b
joined_few (suc n ∷ s) b =
    let rest = joined_few s (drop n b) in
    let whole : length (take n b) + length (drop n b) ≡ length b = sym (length-append (take n b) (drop n b)) ∙ ap length (take-append-drop n b) in
    omega (arith, length-append (take n b) (joined (places_of s (drop n b))))

-- the parts by place stand one behind the other
pub joined_places : (sizes b : List ℕ) → joined (places_of sizes b) ≡ take (sum_of sizes) b
unfolding places_of joined together
joined_places [] b = refl
joined_places (zero ∷ s) b = joined_places s b ∙ ap (λ (m : ℕ). take m b) (let e : sum_of s ≡ (0 - 1) + sum_of s = omega arith in e)
joined_places (suc n ∷ s) b =
    let e : n + sum_of s ≡ (suc n - 1) + sum_of s = omega arith in
    ap (λ (q : List ℕ). take n b ++ q) (joined_places s (drop n b)) ∙ sym (take-add n (sum_of s) b) ∙ ap (λ (m : ℕ). take m b) e

-- a place without a size is missing
pub place_missing : (sizes b : List ℕ) (i : ℕ) → get_or sizes i 0 ≡ 0 → get_or (places_of sizes b) i missing ≡ missing
unfolding places_of
place_missing [] b i e = refl
place_missing (zero ∷ s) b zero e = refl
place_missing (suc n ∷ s) b zero e = absurd (let z : suc n ≡ 0 = e in omega arith)
place_missing (zero ∷ s) b (suc i) e = place_missing s b i e
place_missing (suc n ∷ s) b (suc i) e = place_missing s (drop n b) i e

-- one with a size has that many bytes, behind those of the lower places
pub place_there : (sizes b : List ℕ) (i n : ℕ) → get_or sizes i 0 ≡ suc n
    → get_or (places_of sizes b) i missing ≡ there (take n (drop (sum_of (take i sizes)) b))
unfolding places_of together
place_there [] b i n e = absurd (let z : 0 ≡ suc n = e in omega arith)
place_there (zero ∷ s) b zero n e = absurd (let z : 0 ≡ suc n = e in omega arith)
place_there (suc m ∷ s) b zero n e = let z : m ≡ n = omega arith in ap (λ (x : ℕ). there (take x b)) z
place_there (zero ∷ s) b (suc i) n e =
    let z : sum_of (take i s) ≡ (0 - 1) + sum_of (take i s) = omega arith in
    place_there s b i n e ∙ ap (λ (x : ℕ). there (take n (drop x b))) z
place_there (suc m ∷ s) b (suc i) n e =
    let z : m + sum_of (take i s) ≡ (suc m - 1) + sum_of (take i s) = omega arith in
    place_there s (drop m b) i n e
    ∙ ap (λ (q : List ℕ). there (take n q)) (drop-drop (sum_of (take i s)) m b ∙ ap (λ (x : ℕ). drop x b) z)

-- bytes behind all the parts say nothing
pub places_front : (sizes p t : List ℕ) → sum_of sizes ≤ length p → places_of sizes (p ++ t) ≡ places_of sizes p
unfolding places_of together
places_front [] p t h = refl
places_front (zero ∷ s) p t h = ap (λ (q : List Part). missing ∷ q) (places_front s p t (omega arith))
places_front (suc n ∷ s) p t h =
    let l : n ≤ length p = omega arith in
    let first : take n (p ++ t) ≡ take n p = take-append-le n p t l in
    let rest : places_of s (drop n (p ++ t)) ≡ places_of s (drop n p) =
    ap (places_of s) (drop-append-le n p t l) ∙ places_front s (drop n p) t (omega (arith, length-drop n p)) in
    λ j. there (first j) ∷ rest j

-- a part put in a place that is missing, its bytes behind those of the lower places and before those of the higher ones
pub placed_between : (sizes x part y : List ℕ) (i : ℕ) → i < length sizes → get_or sizes i 0 ≡ 0 → length x ≡ sum_of (take i sizes)
    → places_of (set sizes i (length part + 1)) (x ++ part ++ y) ≡ set (places_of sizes (x ++ y)) i (there part)
unfolding places_of together
placed_between [] x part y i h e l = absurd (let z : suc i ≤ 0 = h in omega arith)
placed_between (zero ∷ s) [] part y zero h e l =
    rw (native.Mathlib.Numerals.add-one (length part))
    (let first : take (length part) (part ++ y) ≡ part = take_at part y (length part) refl in
    let rest : places_of s (drop (length part) (part ++ y)) ≡ places_of s y = ap (places_of s) (drop_at part y (length part) refl) in
    λ j. there (first j) ∷ rest j)
placed_between (zero ∷ s) (a ∷ x) part y zero h e l = absurd (let z : suc (length x) ≡ 0 = l in omega arith)
placed_between (suc n ∷ s) x part y zero h e l = absurd (let z : suc n ≡ 0 = e in omega arith)
placed_between (zero ∷ s) x part y (suc i) h e l =
    ap (λ (q : List Part). missing ∷ q) (placed_between s x part y i (omega arith) e (omega arith))
placed_between (suc n ∷ s) x part y (suc i) h e l =
    let m : n ≤ length x = omega arith in
    let first : take n (x ++ part ++ y) ≡ take n (x ++ y) =
    ap (take n) (append_assoc x part y) ∙ take-append-le n x (part ++ y) m ∙ sym (take-append-le n x y m) in
    let ahead : drop n (x ++ part ++ y) ≡ drop n x ++ part ++ y =
    ap (drop n) (append_assoc x part y) ∙ drop-append-le n x (part ++ y) m ∙ sym (append_assoc (drop n x) part y) in
    let behind : drop n x ++ y ≡ drop n (x ++ y) = sym (drop-append-le n x y m) in
    let rest : places_of (set s i (length part + 1)) (drop n (x ++ part ++ y)) ≡ set (places_of s (drop n (x ++ y))) i (there part) =
    ap (places_of (set s i (length part + 1))) ahead
    ∙ placed_between s (drop n x) part y i (omega arith) e (omega (arith, length-drop n x))
    ∙ ap (λ (q : List ℕ). set (places_of s q) i (there part)) behind in
    λ j. there (first j) ∷ rest j
