-- Saving and loading a gatherer are one another's inverse.
use mathlib.Core.Path.{◌≡◌, refl, sym, ◌∙◌, ap, ap₂, subst}
use mathlib.Core.Bool.{Bool, true, false}
use mathlib.Core.List.{List, ◌++◌, map}
use Prim.Native.Nat.{ℕ, zero, suc, ◌+◌, ◌*◌, ◌<◌}
use native.Mathlib.Omega.{arith}
use lib.ListN.{length, take, drop, get_or, length-append, take-append-drop}
use lib.Seq.{drop_at, take-add}
use lib.Dec.{eqb}
use borrow.Author.Tests.{eqb-true, eq-eqb}
use Rattle.digest.specs.Pick.{pick}
use Rattle.digest.specs.Mac.{same_bytes}
use Rattle.digest.proofs.Same.{same_equal}
use Rattle.gather.specs.declared.gatherer.Gatherer.{Gatherer}
use Rattle.lent.specs.Fields.{joined, bytes_in}
use Rattle.lent.specs.Saved.{Bytes}
use Rattle.lent.proofs.Calling.{both_true}
use Rattle.gather.specs.Slot.{free}
use Rattle.gather.proofs.Steps.{same_slots}
use Rattle.lentshort.specs.Saved.{gatherer_size, store_at, mark, row_in, slot_bytes, head_fields, saved_gatherer, is_gatherer, slot_in, gatherer_in, store_in, Is, No, loaded_gatherer, SlotRanged, Ranged}
use Rattle.lentshort.proofs.Rows.{row_size, row_back, row_there}
use Rattle.lentshort.proofs.Spelling.{slot_back, slot_size, slot_there, slot_ranged}

-- ---- loading what was saved

-- the slots are a row of 24 bytes each
pub each_slot : (g : Gatherer) → Ranged g → (i : ℕ) → i < length g.slots → SlotRanged (get_or g.slots i free)
each_slot g r i h = r.slot i (omega (arith, g.four))

slots_size : (g : Gatherer) → Ranged g → length (joined (map slot_bytes g.slots)) ≡ 96
slots_size g r = row_size free slot_in slot_bytes SlotRanged 24 slot_size g.slots (each_slot g r) ∙ ap (λ n. 24 * n) g.four

pub head_size : (g : Gatherer) → Ranged g → length (joined (head_fields g)) ≡ store_at
unfolding joined
head_size g r = omega (arith, length-append mark (joined (map slot_bytes g.slots)), slots_size g r)

pub gatherer_back : (g : Gatherer) (store : List ℕ) → Ranged g → gatherer_in (saved_gatherer g store) ≡ g
unfolding saved_gatherer joined
gatherer_back g store r =
    let b = saved_gatherer g store in
    same_slots (gatherer_in b) g
    (ap (λ n. row_in slot_in 24 n b 4) (sym g.four)
    ∙ row_back free slot_in slot_bytes SlotRanged 24 slot_size slot_back g.slots b 4 store (each_slot g r) refl)

pub store_back : (g : Gatherer) (store : List ℕ) → Ranged g → store_in (saved_gatherer g store) ≡ store
unfolding saved_gatherer
store_back g store r = drop_at (joined (head_fields g)) store store_at (head_size g r)

pub saved_length : (g : Gatherer) (store : List ℕ) → Ranged g → length store ≡ 5600 → length (saved_gatherer g store) ≡ gatherer_size
unfolding saved_gatherer
saved_length g store r l = length-append (joined (head_fields g)) store ∙ ap₂ (λ x y. x + y) (head_size g r) l

marked : (g : Gatherer) (store : List ℕ) → same_bytes (take 4 (saved_gatherer g store)) mark ≡ true
unfolding saved_gatherer joined same_bytes
marked g store = refl

-- Saving never gives bytes that are refused.
pub saved_is : (g : Gatherer) (store : List ℕ) → Ranged g → length store ≡ 5600 → is_gatherer (saved_gatherer g store) ≡ true
unfolding is_gatherer
saved_is g store r l = rw (eq-eqb (length (saved_gatherer g store)) gatherer_size (saved_length g store r l)) (marked g store)

-- Load of save gives the gatherer and its store back.
pub saved_loads : (g : Gatherer) (store : List ℕ) → Ranged g → length store ≡ 5600 → loaded_gatherer (saved_gatherer g store) ≡ Is g store
unfolding loaded_gatherer
saved_loads g store r l = rw (saved_is g store r l) (ap₂ Is (gatherer_back g store r) (store_back g store r))

-- ---- saving what was loaded

tested : (b : List ℕ) → is_gatherer b ≡ true → (length b ≡ gatherer_size) × (take 4 b ≡ mark)
unfolding is_gatherer
tested b h =
    let both = both_true (eqb (length b) gatherer_size) (same_bytes (take 4 b) mark) h in
    (eqb-true (length b) gatherer_size both.0, same_equal (take 4 b) mark both.1)

pub gatherer_size_lem : (b : List ℕ) → is_gatherer b ≡ true → length b ≡ gatherer_size
gatherer_size_lem b h = (tested b h).0

pub gatherer_there : (b : List ℕ) → Bytes b → is_gatherer b ≡ true → saved_gatherer (gatherer_in b) (store_in b) ≡ b
unfolding saved_gatherer joined
gatherer_there b all h =
    let t = tested b h in
    let room : length b ≡ gatherer_size = t.0 in
    let slots : joined (map slot_bytes (row_in slot_in 24 4 b 4)) ≡ bytes_in b 4 96
    = row_there free slot_in slot_bytes SlotRanged 24 slot_there 4 b 4 all (omega arith) in
    (λ i. sym t.1 i ++ slots i ++ drop store_at b)
    ∙ ap (λ x. x ++ drop store_at b) (sym (take-add 4 96 b))
    ∙ take-append-drop store_at b

is_loaded : (b : List ℕ) (g : Gatherer) (store : List ℕ) → loaded_gatherer b ≡ Is g store
    → (is_gatherer b ≡ true) × ((gatherer_in b ≡ g) × (store_in b ≡ store))
unfolding loaded_gatherer
is_loaded b g store e = told (is_gatherer b) (gatherer_in b) g (store_in b) store e
  where
    told : (t : Bool) (x g : Gatherer) (y store : List ℕ) → pick t (Is x y) No ≡ Is g store → (t ≡ true) × ((x ≡ g) × (y ≡ store))
    told true x g y store e = (refl, (cc, cc))
    told false x g y store e = (cc, (cc, cc))

-- Bytes that load are exactly those that saving writes: one gatherer with its store, one string of bytes.
pub loads_saved : (b : List ℕ) (g : Gatherer) (store : List ℕ) → Bytes b → loaded_gatherer b ≡ Is g store → saved_gatherer g store ≡ b
loads_saved b g store all e =
    let is = is_loaded b g store e in
    (λ i. saved_gatherer (sym is.1.0 i) (sym is.1.1 i)) ∙ gatherer_there b all is.0

ranged_in : (n : ℕ) (b : List ℕ) (at : ℕ) → Bytes b → (k : ℕ) → k < n → SlotRanged (get_or (row_in slot_in 24 n b at) k free)
unfolding row_in
ranged_in zero b at all k h = absurd (omega arith)
ranged_in (suc n) b at all zero h = slot_ranged b at all
ranged_in (suc n) b at all (suc k) h = ranged_in n b (at + 24) all k (omega arith)

-- What loads is in range.
pub loads_ranged : (b : List ℕ) (g : Gatherer) (store : List ℕ) → Bytes b → loaded_gatherer b ≡ Is g store → Ranged g
loads_ranged b g store all e =
    let is = is_loaded b g store e in subst Ranged is.1.0 (record { slot = ranged_in 4 b 4 all })
