-- A slot whose sizes fit its room: what a part put in a missing place does. "A completed datagram is the parts by place",
-- and one that waits has the part in its place, the others as they were.
use mathlib.Core.Path.{◌≡◌, refl, sym, ap, ◌∙◌}
use mathlib.Core.List.{List, [], ◌∷◌, ◌++◌, append_assoc}
use Prim.Native.Nat.{ℕ, zero, suc, ◌+◌, ◌-◌, ◌*◌, ◌≤◌, ◌<◌}
use native.Mathlib.Omega.{arith}
use native.Mathlib.Nat.{add-zero}
use lib.ListN.{length, get_or, take, drop, set, length-append, take-append-drop}
use lib.Seq.{take-add, take-take, drop-drop, take_at, drop_at, length-take-le, take-append-le, drop-append-le, take_all}
use Rattle.digest.specs.Bytes.{laid_over}
use Rattle.digest.proofs.Lay.{laid_front}
use Rattle.gather.specs.Slot.{together, sum_of, below, sized}
use Rattle.gather.specs.Gatherer.{lower, upper}
use Rattle.gather.specs.Map.{there, joined, places_of, room_of}
use Rattle.gather.specs.declared.slot.Slot.{Slot}
use Rattle.gather.proofs.Sums.{together_mono, all_there}
use Rattle.gather.proofs.Laying.{length_cut}
use Rattle.gather.proofs.Places.{joined_places, placed_between, places_front}

-- one size more
pub sum_set : (sizes : List ℕ) (i n : ℕ) → i < length sizes → get_or sizes i 0 ≡ 0 → sum_of (set sizes i (n + 1)) ≡ sum_of sizes + n
unfolding together
sum_set [] i n h e = absurd (let z : suc i ≤ 0 = h in omega arith)
sum_set (x ∷ s) zero n h e = omega arith
sum_set (x ∷ s) (suc i) n h e = omega (arith, sum_set s i n (omega arith) e)

-- a cut of a front
pub cut_of_front : (n a m : ℕ) (d : List ℕ) → a + n ≤ m → take n (drop a (take m d)) ≡ take n (drop a d)
cut_of_front n zero m d h = take-take n m d (omega arith)
cut_of_front n (suc a) zero d h = absurd (let z : suc a + n ≤ 0 = h in omega arith)
cut_of_front n (suc a) (suc m) [] h = refl
cut_of_front n (suc a) (suc m) (x ∷ d) h = cut_of_front n a m d (omega arith)

module _ (s : Slot) (k i : ℕ) (store part : List ℕ) (few : k < 4) (eleven : length s.sizes ≡ 11) (place : i < 11)
    (long : 5600 ≤ length store) (sums : sum_of s.sizes ≤ 1400) (gone : get_or s.sizes i 0 ≡ 0)
    (room : length part ≤ 1400 - sum_of s.sizes) where
  at_most : sum_of (take i s.sizes) ≤ sum_of s.sizes
  at_most =
      let all : sum_of (take 11 s.sizes) ≡ sum_of s.sizes = ap sum_of (take_all 11 s.sizes (omega arith)) in
      omega (arith, together_mono (λ x. x - 1) s.sizes i 11 (omega arith))

  here : below s i ≡ sum_of (take i s.sizes)
  here = sym (all_there s i (sum_of (take i s.sizes)) refl (omega (arith, at_most)))

  whole : below s 11 ≡ sum_of s.sizes
  whole =
      let all : sum_of s.sizes ≡ sum_of (take 11 s.sizes) = ap sum_of (sym (take_all 11 s.sizes (omega arith))) in
      sym (all_there s 11 (sum_of s.sizes) all sums)

  abbrev at : ℕ
  at = sum_of (take i s.sizes)

  abbrev end : ℕ
  end = sum_of s.sizes

  abbrev front : List ℕ
  front = take at (room_of store k) ++ part ++ take (end - at) (drop at (room_of store k))

  size_room : length (room_of store k) ≡ 1400
  size_room = length_cut 1400 (k * 1400) store (omega arith)

  size_front : length front ≡ end + length part
  size_front =
      let l : length (take at (room_of store k)) ≡ at = length-take-le at (room_of store k) (omega (arith, size_room, at_most)) in
      let u : length (take (end - at) (drop at (room_of store k))) ≡ end - at =
      length_cut (end - at) at (room_of store k) (omega (arith, size_room, at_most)) in
      omega (
        arith,
        at_most,
        length-append (take at (room_of store k) ++ part) (take (end - at) (drop at (room_of store k))),
        length-append (take at (room_of store k)) part,
      )

  -- the places with the part in its own, read from the bytes as they then stand
  set_places : places_of (set s.sizes i (length part + 1)) front ≡ set (places_of s.sizes (room_of store k)) i (there part)
  set_places =
      let x = take at (room_of store k) in
      let y = drop at (room_of store k) in
      let rest = drop (end - at) y in
      let l : length x ≡ at = length-take-le at (room_of store k) (omega (arith, size_room, at_most)) in
      let cut : front ++ rest ≡ x ++ part ++ y =
      append_assoc (x ++ part) (take (end - at) y) rest ∙ ap (λ (q : List ℕ). x ++ part ++ q) (take-append-drop (end - at) y) in
      let size : sum_of (set s.sizes i (length part + 1)) ≡ end + length part = sum_set s.sizes i (length part) (omega arith) gone in
      sym (places_front (set s.sizes i (length part + 1)) front rest (omega (arith, size, size_front)))
      ∙ ap (places_of (set s.sizes i (length part + 1))) cut
      ∙ placed_between s.sizes x part y i (omega arith) gone l
      ∙ ap (λ (q : List ℕ). set (places_of s.sizes q) i (there part)) (take-append-drop at (room_of store k))

  -- the bytes of the lower places, the part, and those of the higher ones
  bytes : lower store k s i ++ part ++ upper store k s i ≡ front
  bytes =
      let low : lower store k s i ≡ take at (room_of store k) =
      (λ j. take (here j - 0) (drop (add-zero (k * 1400) j) store))
      ∙ ap (λ (m : ℕ). take m (drop (k * 1400) store)) (let z : at - 0 ≡ at = omega arith in z)
      ∙ sym (take-take at 1400 (drop (k * 1400) store) (omega (arith, at_most))) in
      let up : upper store k s i ≡ take (end - at) (drop at (room_of store k)) =
      (λ j. take (whole j - here j) (drop (k * 1400 + here j) store))
      ∙ ap (take (end - at)) (sym (drop-drop at (k * 1400) store))
      ∙ sym (cut_of_front (end - at) at 1400 (drop (k * 1400) store) (omega (arith, at_most))) in
      λ j. low j ++ part ++ up j

  -- "a completed datagram is the parts by place"
  pub finished_joined : (assembly : List ℕ) → 1400 ≤ length assembly
      → take (below s 11 + length part) (laid_over assembly 0 (lower store k s i ++ part ++ upper store k s i))
      ≡ joined (set (places_of s.sizes (room_of store k)) i (there part))
  finished_joined assembly h =
      let size : sum_of (set s.sizes i (length part + 1)) ≡ end + length part = sum_set s.sizes i (length part) (omega arith) gone in
      ap (λ (q : List ℕ). take (below s 11 + length part) (laid_over assembly 0 q)) bytes
      ∙ laid_front assembly 0 (below s 11 + length part) front (omega arith) (omega (arith, whole, size_front))
      ∙ sym (take_all (sum_of (set s.sizes i (length part + 1))) front (omega (arith, size, size_front)))
      ∙ sym (joined_places (set s.sizes i (length part + 1)) front)
      ∙ ap joined set_places

  -- one that waits has the part in its place, and the others as they were
  pub waiting_places : (store₁ : List ℕ) → store₁ ≡ laid_over store (k * 1400 + below s i) (part ++ upper store k s i)
      → places_of (sized s i (length part)).sizes (room_of store₁ k) ≡ set (places_of s.sizes (room_of store k)) i (there part)
  unfolding laid_over
  waiting_places store₁ e =
      let base = k * 1400 in
      let x = take (base + below s i) store in
      let tail = drop (base + below s i + length (part ++ upper store k s i)) store in
      let l : length x ≡ base + below s i = length-take-le (base + below s i) store (omega (arith, here, at_most)) in
      let z : below s i - 0 ≡ below s i = omega arith in
      let first : drop base x ≡ lower store k s i =
      ap (λ (m : ℕ). drop m x) (sym (add-zero base))
      ∙ ap (λ (q : List ℕ). drop (base + 0) q) (take-add base (below s i) store)
      ∙ ap (λ (m : ℕ). drop m (take base store ++ take (below s i) (drop base store))) (add-zero base)
      ∙ drop_at (take base store) (take (below s i) (drop base store)) base (length-take-le base store (omega arith))
      ∙ sym (λ j. take (z j) (drop (add-zero base j) store)) in
      let behind : drop base store₁ ≡ front ++ tail =
      ap (drop base) (e ∙ append_assoc x (part ++ upper store k s i) tail)
      ∙ drop-append-le base x ((part ++ upper store k s i) ++ tail) (omega (arith, l))
      ∙ ap (λ (q : List ℕ). q ++ ((part ++ upper store k s i) ++ tail)) first
      ∙ sym (append_assoc (lower store k s i) (part ++ upper store k s i) tail)
      ∙ ap (λ (q : List ℕ). q ++ tail) (sym (append_assoc (lower store k s i) part (upper store k s i)) ∙ bytes) in
      let size : sum_of (set s.sizes i (length part + 1)) ≡ end + length part = sum_set s.sizes i (length part) (omega arith) gone in
      let sizes₁ = set s.sizes i (length part + 1) in
      let cut : take 1400 (front ++ tail) ≡ front ++ take (1400 - length front) tail =
      ap (λ (m : ℕ). take m (front ++ tail)) (let w : 1400 ≡ length front + (1400 - length front) = omega (arith, size_front) in w)
      ∙ lib.Seq.take-append-add front tail (1400 - length front) in
      ap (λ (q : List ℕ). places_of sizes₁ (take 1400 q)) behind
      ∙ ap (places_of sizes₁) cut
      ∙ places_front sizes₁ front (take (1400 - length front) tail) (omega (arith, size, size_front))
      ∙ set_places
