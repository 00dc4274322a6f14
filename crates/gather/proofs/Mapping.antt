-- The four slots as a map: which slot holds a reference, what the map then says of it, and what one changed slot changes.
use mathlib.Core.Path.{◌≡◌, refl, sym, ap, ◌∙◌}
use mathlib.Core.Bool.{Bool, true, false}
use mathlib.Core.List.{List, [], ◌∷◌, ◌++◌, append_assoc}
use mathlib.Core.Logic.{by_cases}
use Prim.Native.Nat.{ℕ, zero, suc, ◌+◌, ◌-◌, ◌*◌, ◌≤◌, ◌<◌}
use native.Mathlib.Omega.{arith}
use native.Mathlib.Decide.{dec_le, ℕ_discrete}
use lib.ListN.{length, get_or, take, drop, set, length-append, length-drop}
use lib.Seq.{drop-drop, drop-append-le, take-append-le, drop-append-add, length-take-le}
use lib.Dec.{eqb}
use borrow.Author.Tests.{eq-eqb, ne_eqb, lt-ltb, eqb-true}
use Rattle.std.specs.Prelude.{Some, None}
use Rattle.std.specs.List.{position}
use Rattle.std.proofs.lemmas.List.Quantifiers.{position-Some}
use Rattle.std.proofs.lemmas.Grind.{common_steps}
use Rattle.digest.specs.Pick.{pick}
use Rattle.digest.specs.Bytes.{laid_over}
use Rattle.gather.specs.Slot.{free, holds}
use Rattle.gather.specs.Gatherer.{slot_at, with_slot, held_at, vacant_at}
use Rattle.gather.specs.Map.{Entry, absent, held, with, places_of, room_of, look_up, map_of}
use Rattle.gather.specs.declared.slot.Slot.{Slot}
use Rattle.gather.specs.declared.gatherer.Gatherer.{Gatherer}
use Rattle.gather.proofs.Finishing.{cut_of_front}

-- ---- the first of a list that passes a test

-- where none is found, none passes
none_passes : {X : Type 0} (p : X → Bool) (xs : List X) (d : X) → position p xs ≡ None → (i : ℕ) → i < length xs → p (get_or xs i d) ≡ false
none_passes p [] d e i h = absurd (omega arith)
none_passes p (x ∷ xs) d e i h = go (p x) refl (none_passes p xs d) i h
  where
    go : (b : Bool) → p x ≡ b → (position p xs ≡ None → (j : ℕ) → j < length xs → p (get_or xs j d) ≡ false)
        → (j : ℕ) → j < length (x ∷ xs) → p (get_or (x ∷ xs) j d) ≡ false
    go true q rest j l = absurd (let z : ⊥ = cc (rw (q, lt-ltb 0 (suc (length xs)) (omega arith)) at e) in z)
    go false q rest zero l = q
    go false q rest (suc j) l = rest (grind (arith, common_steps)) j (omega arith)

-- ---- which slot holds a reference

pub found : (g : Gatherer) (r k : ℕ) → held_at g r ≡ Some k → (k < length g.slots) × (holds (slot_at g k) r ≡ true)
unfolding held_at
found g r k e = let at = position-Some (λ s. holds s r) g.slots k free e in (at.0, at.1)

earlier : (g : Gatherer) (r k : ℕ) → held_at g r ≡ Some k → (i : ℕ) → i < k → holds (slot_at g i) r ≡ false
unfolding held_at
earlier g r k e = (position-Some (λ s. holds s r) g.slots k free e).2

pub none_holds : (g : Gatherer) (r : ℕ) → held_at g r ≡ None → (i : ℕ) → i < length g.slots → holds (slot_at g i) r ≡ false
unfolding held_at
none_holds g r e = none_passes (λ s. holds s r) g.slots free e

-- ---- what the map says of a reference

look_held : (j : ℕ) (slots : List Slot) (store : List ℕ) (k r : ℕ) → k < length slots → holds (get_or slots k free) r ≡ true
    → ((i : ℕ) → i < k → holds (get_or slots i free) r ≡ false)
    → look_up j slots store r ≡ held (get_or slots k free).total (places_of (get_or slots k free).sizes (room_of store (j + k)))
unfolding look_up
look_held j [] store k r h e before = absurd (omega arith)
look_held j (s ∷ slots) store zero r h e before =
    let here : j ≡ j + 0 = omega arith in rw e (λ i. held s.total (places_of s.sizes (room_of store (here i))))
look_held j (s ∷ slots) store (suc k) r h e before =
    let here : suc j + k ≡ j + suc k = omega arith in
    let s₁ = get_or slots k free in
    rw (before 0 (omega arith))
    (look_held (suc j) slots store k r (omega arith) e (λ i l. before (suc i) (omega arith))
    ∙ ap (λ (m : ℕ). held s₁.total (places_of s₁.sizes (room_of store m))) here)

pub map_held : (g : Gatherer) (store : List ℕ) (r k : ℕ) → held_at g r ≡ Some k
    → map_of g store r ≡ held (slot_at g k).total (places_of (slot_at g k).sizes (room_of store k))
map_held g store r k e =
    let at = found g r k e in
    look_held 0 g.slots store k r at.0 at.1 (earlier g r k e)
    ∙ ap (λ (m : ℕ). held (slot_at g k).total (places_of (slot_at g k).sizes (room_of store m))) (native.Mathlib.Nat.zero-add k)

pub none_later : (j : ℕ) (slots : List Slot) (store : List ℕ) (r : ℕ) → ((i : ℕ) → i < length slots → holds (get_or slots i free) r ≡ false)
    → look_up j slots store r ≡ absent
unfolding look_up
none_later j [] store r h = refl
none_later j (s ∷ slots) store r h = rw (h 0 (omega arith)) (none_later (suc j) slots store r (λ i l. h (suc i) (omega arith)))

pub map_absent : (g : Gatherer) (store : List ℕ) (r : ℕ) → held_at g r ≡ None → map_of g store r ≡ absent
map_absent g store r e = none_later 0 g.slots store r (none_holds g r e)

-- ---- which slot is free

pub vacant : (g : Gatherer) (k : ℕ) → vacant_at g ≡ Some k → (k < length g.slots) × ((slot_at g k).total ≡ 0)
unfolding vacant_at
vacant g k e = let at = position-Some (λ (s : Slot). eqb s.total 0) g.slots k free e in (at.0, eqb-true (slot_at g k).total 0 at.1)

pub all_full : (g : Gatherer) → vacant_at g ≡ None → (i : ℕ) → i < length g.slots → eqb (slot_at g i).total 0 ≡ false
unfolding vacant_at
all_full g e = none_passes (λ (s : Slot). eqb s.total 0) g.slots free e

-- ---- one slot changed

-- other slots' rooms as they were
abbrev Rooms : ℕ → List ℕ → List ℕ → Type 0
Rooms k store store₁ = (m : ℕ) → (m ≡ k → ⊥) → room_of store₁ m ≡ room_of store m

same_slots : (j : ℕ) (slots : List Slot) (store store₁ : List ℕ) (k x : ℕ) → k < j → Rooms k store store₁
    → look_up j slots store₁ x ≡ look_up j slots store x
unfolding look_up
same_slots j [] store store₁ k x h rooms = refl
same_slots j (s ∷ slots) store store₁ k x h rooms =
    let room = rooms j (λ e. omega arith) in
    let rest = same_slots (suc j) slots store store₁ k x (omega arith) rooms in
    λ i. pick (holds s x) (held s.total (places_of s.sizes (room i))) (rest i)

other_reference : (j : ℕ) (slots : List Slot) (store store₁ : List ℕ) (n k x : ℕ) (s₁ : Slot) → n < length slots → k ≡ j + n
    → Rooms k store store₁ → holds s₁ x ≡ false → holds (get_or slots n free) x ≡ false
    → look_up j (set slots n s₁) store₁ x ≡ look_up j slots store x
unfolding look_up
other_reference j [] store store₁ n k x s₁ h e rooms h₁ h₀ = absurd (let z : suc n ≤ 0 = h in omega arith)
other_reference j (s ∷ slots) store store₁ zero k x s₁ h e rooms h₁ h₀ =
    rw (h₁, h₀) (same_slots (suc j) slots store store₁ k x (omega arith) rooms)
other_reference j (s ∷ slots) store store₁ (suc n) k x s₁ h e rooms h₁ h₀ =
    let room = rooms j (λ q. omega arith) in
    let rest = other_reference (suc j) slots store store₁ n k x s₁ (omega arith) (omega arith) rooms h₁ h₀ in
    λ i. pick (holds s x) (held s.total (places_of s.sizes (room i))) (rest i)

this_reference : (j : ℕ) (slots : List Slot) (store : List ℕ) (n r : ℕ) (s₁ : Slot) → n < length slots
    → ((i : ℕ) → i < length slots → (i ≡ n → ⊥) → holds (get_or slots i free) r ≡ false)
    → look_up j (set slots n s₁) store r ≡ pick (holds s₁ r) (held s₁.total (places_of s₁.sizes (room_of store (j + n)))) absent
unfolding look_up
this_reference j [] store n r s₁ h others = absurd (let z : suc n ≤ 0 = h in omega arith)
this_reference j (s ∷ slots) store zero r s₁ h others =
    let rest = none_later (suc j) slots store r (λ i l. others (suc i) (omega arith) (λ e. omega arith)) in
    let here : j ≡ j + 0 = omega arith in
    λ i. pick (holds s₁ r) (held s₁.total (places_of s₁.sizes (room_of store (here i)))) (rest i)
this_reference j (s ∷ slots) store (suc n) r s₁ h others =
    let here : suc j + n ≡ j + suc n = omega arith in
    rw (others 0 (omega arith) (λ e. omega arith))
    (this_reference (suc j) slots store n r s₁ (omega arith) (λ i l e. others (suc i) (omega arith) (λ q. e (omega arith)))
    ∙ ap (λ (m : ℕ). pick (holds s₁ r) (held s₁.total (places_of s₁.sizes (room_of store m))) absent) here)

-- the map after slot k, which held r or nothing, is s₁, which holds r or nothing
pub updated : (g : Gatherer) (store store₁ : List ℕ) (k r : ℕ) (s₁ : Slot) (e : Entry) → k < length g.slots → Rooms k store store₁
    → ((x : ℕ) → (x ≡ r → ⊥) → holds s₁ x ≡ false) → ((x : ℕ) → (x ≡ r → ⊥) → holds (slot_at g k) x ≡ false)
    → ((i : ℕ) → i < length g.slots → (i ≡ k → ⊥) → holds (slot_at g i) r ≡ false)
    → pick (holds s₁ r) (held s₁.total (places_of s₁.sizes (room_of store₁ k))) absent ≡ e
    → (x : ℕ) → map_of (with_slot g k s₁) store₁ x ≡ with (map_of g store) r e x
updated g store store₁ k r s₁ e few rooms new old others eq x =
    by_cases (ℕ_discrete x r)
    (λ same.
    ap (λ (y : ℕ). look_up 0 (set g.slots k s₁) store₁ y) same
    ∙ this_reference 0 g.slots store₁ k r s₁ few others
    ∙ ap (λ (m : ℕ). pick (holds s₁ r) (held s₁.total (places_of s₁.sizes (room_of store₁ m))) absent) (native.Mathlib.Nat.zero-add k)
    ∙ eq
    ∙ sym (ap (λ (b : Bool). pick b e (map_of g store x)) (eq-eqb x r same)))
    (λ n.
    other_reference 0 g.slots store store₁ k k x s₁ few (sym (native.Mathlib.Nat.zero-add k)) rooms (new x n) (old x n)
    ∙ sym (ap (λ (b : Bool). pick b e (map_of g store x)) (ne_eqb x r n)))

-- ---- bytes laid into one room leave the others

cut_before : (d : List ℕ) (at : ℕ) (xs : List ℕ) (j n : ℕ) → j + n ≤ at → at ≤ length d → take n (drop j (laid_over d at xs)) ≡ take n (drop j d)
unfolding laid_over
cut_before d at xs j n h b =
    let rest = drop (at + length xs) d in
    let l : length (take at d) ≡ at = length-take-le at d b in
    ap (λ (q : List ℕ). take n (drop j q)) (append_assoc (take at d) xs rest)
    ∙ ap (take n) (drop-append-le j (take at d) (xs ++ rest) (omega arith))
    ∙ take-append-le n (drop j (take at d)) (xs ++ rest) (omega (arith, length-drop j (take at d)))
    ∙ cut_of_front n j at d h

cut_behind : (d : List ℕ) (at : ℕ) (xs : List ℕ) (j : ℕ) → at + length xs ≤ j → at ≤ length d → drop j (laid_over d at xs) ≡ drop j d
unfolding laid_over
cut_behind d at xs j h b =
    let n = at + length xs in
    let l : length (take at d ++ xs) ≡ n = length-append (take at d) xs ∙ ap (λ (m : ℕ). m + length xs) (length-take-le at d b) in
    let split : j ≡ length (take at d ++ xs) + (j - n) = omega (arith, l) in
    let back : n + (j - n) ≡ j = omega arith in
    ap (λ (m : ℕ). drop m (take at d ++ xs ++ drop n d)) split
    ∙ drop-append-add (take at d ++ xs) (drop n d) (j - n)
    ∙ drop-drop (j - n) n d
    ∙ ap (λ (m : ℕ). drop m d) back

pub other_rooms : (store : List ℕ) (k a : ℕ) (xs : List ℕ) → k < 4 → a + length xs ≤ 1400 → 5600 ≤ length store
    → Rooms k store (laid_over store (k * 1400 + a) xs)
other_rooms store k a xs few h long m n =
    by_cases (dec_le m k)
    (λ l. cut_before store (k * 1400 + a) xs (m * 1400) 1400 (let z : m < k = omega arith in omega arith) (omega arith))
    (λ l. ap (take 1400) (cut_behind store (k * 1400 + a) xs (m * 1400) (let z : k < m = omega arith in omega arith) (omega arith)))
