-- How many references the map holds: four where no slot is free, and fewer where one is.
use mathlib.Core.Path.{◌≡◌, refl, sym, ap, ◌∙◌}
use mathlib.Core.Bool.{Bool, true, false}
use mathlib.Core.List.{List, [], ◌∷◌}
use mathlib.Core.Logic.{by_cases}
use Prim.Native.Nat.{ℕ, zero, suc, ◌+◌, ◌≤◌, ◌<◌}
use native.Mathlib.Omega.{arith}
use native.Mathlib.Decide.{dec_le, ℕ_discrete}
use lib.ListN.{length, get_or}
use lib.Dec.{eqb}
use borrow.Author.Tests.{eq-eqb, eqb-true}
use Rattle.digest.specs.Pick.{pick}
use Rattle.gather.specs.Slot.{free, holds}
use Rattle.std.specs.Prelude.{Some, None}
use Rattle.gather.specs.Gatherer.{slot_at, vacant_at}
use Rattle.gather.specs.Map.{Entry, held, Map, is_held, held_below, held_in, places_of, room_of, look_up, map_of, Sound}
use Rattle.gather.specs.declared.slot.Slot.{Slot}
use Rattle.gather.specs.declared.gatherer.Gatherer.{Gatherer}
use Rattle.gather.proofs.Always.{hot, hot_no, hot_yes, hot_once, holds_no, one_slot, none_held, few}
use Rattle.gather.proofs.Headings.{not_first}
use Rattle.gather.proofs.Mapping.{none_later, vacant, all_full}

pub holds_own : (s : Slot) → eqb s.total 0 ≡ false → holds s s.reference ≡ true
holds_own s h = rw (h, eq-eqb s.reference s.reference refl)

-- what a slot that holds a reference says
pub owned : (s : Slot) (r : ℕ) → holds s r ≡ true → (eqb s.total 0 ≡ false) × (s.reference ≡ r)
owned s r e =
    let both = not_first Bool (eqb s.total 0) false (eqb s.reference r) true e (λ q. let z : ◌≡◌ {A = ℕ} 0 1 = cc in omega arith) in
    (both.0, eqb-true s.reference r both.1)

-- a slot in use whose reference is held nowhere else is one more
one_used : (s : Slot) (h : Entry) (m : Map) (n : ℕ) → eqb s.total 0 ≡ false → is_held h ≡ 1 → is_held (m s.reference) ≡ 0
    → held_below n (λ r. pick (holds s r) h (m r)) ≡ held_below n m + hot s.reference n
unfolding held_below
one_used s h m zero u eh em = sym (hot_no s.reference 0 (omega arith)) ∙ (let z : hot s.reference 0 ≡ 0 + hot s.reference 0 = omega arith in z)
one_used s h m (suc n) u eh em =
    let rest = one_used s h m n u eh em in
    by_cases (ℕ_discrete s.reference n)
    (λ e.
    let yes-held : is_held (pick (holds s n) h (m n)) ≡ 1 =
    ap (λ (x : ℕ). is_held (pick (holds s x) h (m x))) (sym e)
    ∙ ap (λ (b : Bool). is_held (pick b h (m s.reference))) (holds_own s u) ∙ eh in
    let not-held : is_held (m n) ≡ 0 = ap (λ (x : ℕ). is_held (m x)) (sym e) ∙ em in
    omega (arith, hot_no s.reference n (omega arith), hot_yes s.reference (suc n) (omega arith)))
    (λ e.
    let same : is_held (pick (holds s n) h (m n)) ≡ is_held (m n) = ap (λ (b : Bool). is_held (pick b h (m n))) (holds_no s n e) in
    by_cases (dec_le n s.reference)
    (λ l. omega (arith, hot_no s.reference n l, hot_no s.reference (suc n) (omega arith)))
    (λ l. omega (arith, hot_yes s.reference n (omega arith), hot_yes s.reference (suc n) (omega arith))))

-- a free one is none
one_free : (s : Slot) (h : Entry) (m : Map) (n : ℕ) → s.total ≡ 0 → held_below n (λ r. pick (holds s r) h (m r)) ≡ held_below n m
unfolding held_below
one_free s h m zero e = refl
one_free s h m (suc n) e =
    let none : holds s n ≡ false = rw (eq-eqb s.total 0 e) in
    let same : is_held (pick (holds s n) h (m n)) ≡ is_held (m n) = ap (λ (b : Bool). is_held (pick b h (m n))) none in
    omega (arith, one_free s h m n e)

count_used : (j : ℕ) (slots : List Slot) (store : List ℕ) → ((i : ℕ) → i < length slots → eqb (get_or slots i free).total 0 ≡ false)
    → ((i : ℕ) → i < length slots → (get_or slots i free).reference < 256)
    → ((i k : ℕ) → i < k → k < length slots → holds (get_or slots k free) (get_or slots i free).reference ≡ false)
    → held_below 256 (look_up j slots store) ≡ length slots
unfolding look_up
count_used j [] store used byte apart = none_held 256
count_used j (s ∷ slots) store used byte apart =
    let rest = count_used (suc j) slots store (λ i l. used (suc i) (omega arith)) (λ i l. byte (suc i) (omega arith)) (λ i k l h. apart (suc i) (suc k) (omega arith) (omega arith)) in
    let none : is_held (look_up (suc j) slots store s.reference) ≡ 0 =
    ap is_held (none_later (suc j) slots store s.reference (λ i l. apart 0 (suc i) (omega arith) (omega arith))) in
    omega (
      arith,
      one_used s (held s.total (places_of s.sizes (room_of store j))) (look_up (suc j) slots store) 256 (used 0 (omega arith)) refl none,
      hot_yes s.reference 256 (byte 0 (omega arith)),
    )

count_free : (j : ℕ) (slots : List Slot) (store : List ℕ) (v : ℕ) → v < length slots → (get_or slots v free).total ≡ 0
    → held_below 256 (look_up j slots store) < length slots
unfolding look_up
count_free j [] store v h e = absurd (let z : suc v ≤ 0 = h in omega arith)
count_free j (s ∷ slots) store zero h e =
    omega (arith, one_free s (held s.total (places_of s.sizes (room_of store j))) (look_up (suc j) slots store) 256 e, few (suc j) slots store 256)
count_free j (s ∷ slots) store (suc v) h e =
    omega (
      arith,
      one_slot s (held s.total (places_of s.sizes (room_of store j))) (look_up (suc j) slots store) 256,
      count_free (suc j) slots store v (omega arith) e,
      hot_once s.reference 256,
    )

-- two slots of a sound gatherer do not hold one reference
pub apart : (g : Gatherer) → Sound g → (i k r : ℕ) → i < 4 → k < 4 → (i ≡ k → ⊥) → holds (slot_at g i) r ≡ true → holds (slot_at g k) r ≡ false
apart g sound i k r hi hk n e = go (holds (slot_at g k) r) refl
  where
    go : (b : Bool) → holds (slot_at g k) r ≡ b → holds (slot_at g k) r ≡ false
    go true q = absurd (n (sound.once i k r hi hk e q))
    go false q = q

pub four_held : (g : Gatherer) (store : List ℕ) → Sound g → vacant_at g ≡ None → held_in (map_of g store) ≡ 4
four_held g store sound e =
    count_used 0 g.slots store (all_full g e) (λ i l. (sound.fits i (omega (arith, g.four))).byte)
    (λ i k l m.
    apart g sound i k (slot_at g i).reference (omega (arith, g.four)) (omega (arith, g.four)) (λ q. omega arith)
    (holds_own (slot_at g i) (all_full g e i (omega arith))))
    ∙ g.four

pub fewer_held : (g : Gatherer) (store : List ℕ) (k : ℕ) → Sound g → vacant_at g ≡ Some k → held_in (map_of g store) < 4
fewer_held g store k sound e =
    let v = vacant g k e in omega (arith, count_free 0 g.slots store k v.0 v.1, g.four)
