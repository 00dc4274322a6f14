-- A gatherer in 5,700 lent bytes. Every gatherer with its store has its bytes, and one string of bytes only; which strings are a
-- saved gatherer is `is_gatherer`. Numbers have the most significant byte first.
--
--     place  bytes
--         0      4  the mark: "WTS", and 1, the number of this layout
--         4     24  the first slot
--        28     24  the second
--        52     24  the third
--        76     24  the fourth
--       100  5,600  the store: the bytes of the parts, 1,400 for each slot
--
-- and of a slot
--
--         0      1  the reference
--         1      1  the total; 0: the slot is free
--         2     22  the sizes of the eleven places, two bytes each: 0 where the part has not come, else its bytes and one more
use mathlib.Core.Path.{refl, ap}
use Rattle.std.specs.Prelude.{Bool, false, List, [], ◌∷◌, ◌++◌, ◌≡◌, ℕ, zero, suc, ◌+◌, ◌<◌, length, get_or, map, take, drop, eqb}
use Rattle.digest.specs.Pick.{pick}
use Rattle.digest.specs.Bytes.{bytes2}
use Rattle.digest.specs.Mac.{same_bytes}
use Rattle.gather.specs.Slot.{free}
use Rattle.gather.specs.declared.slot.Slot.{Slot}
use Rattle.gather.specs.declared.gatherer.Gatherer.{Gatherer}
use Rattle.lent.specs.Fields.{joined, two_in}

-- how many bytes hold a gatherer, and where its store begins
abbrev pub gatherer_size : ℕ
gatherer_size = 5700

abbrev pub store_at : ℕ
store_at = 100

-- "WTS", 1
abbrev pub mark : List ℕ
mark = 0x57 ∷ 0x54 ∷ 0x53 ∷ 1 ∷ []

-- n things read from a place on, each so many bytes behind the other
unfoldable pub row_in : {A : Type 0} → (List ℕ → ℕ → A) → ℕ → ℕ → List ℕ → ℕ → List A
row_in read step zero b at = []
row_in read step (suc n) b at = read b at ∷ row_in read step n b (at + step)

-- as many as were asked for
pub many_in : {A : Type 0} (read : List ℕ → ℕ → A) (step n : ℕ) (b : List ℕ) (at : ℕ) → length (row_in read step n b at) ≡ n
unfolding row_in
many_in read step zero b at = refl
many_in read step (suc n) b at = ap suc (many_in read step n b (at + step))

-- numbers in two bytes each, one behind the other
abbrev pub spelled : List ℕ → List ℕ
spelled ns = joined (map bytes2 ns)

unfoldable pub slot_bytes : Slot → List ℕ
slot_bytes s = s.reference ∷ s.total ∷ spelled s.sizes

-- the bytes before the store
abbrev pub head_fields : Gatherer → List (List ℕ)
head_fields g = mark ∷ map slot_bytes g.slots

-- the bytes of a gatherer and its store
unfoldable pub saved_gatherer : Gatherer → List ℕ → List ℕ
saved_gatherer g store = joined (head_fields g) ++ store

-- which bytes are a saved gatherer: the size and the mark
unfoldable pub is_gatherer : List ℕ → Bool
is_gatherer b = pick (eqb (length b) gatherer_size) (same_bytes (take 4 b) mark) false

-- The gatherer of bytes and its store, read from the same places.
unfoldable pub slot_in : List ℕ → ℕ → Slot
slot_in b at = record { reference = get_or b at 0; total = get_or b (at + 1) 0; sizes = row_in two_in 2 11 b (at + 2) }

abbrev pub gatherer_in : List ℕ → Gatherer
gatherer_in b = record { slots = row_in slot_in 24 4 b 4; four = many_in slot_in 24 4 b 4 }

abbrev pub store_in : List ℕ → List ℕ
store_in b = drop store_at b

-- what bytes load as: a gatherer with its store, or none
pub data Loaded : Type 0 where
  Is : Gatherer → List ℕ → Loaded
  No : Loaded

unfoldable pub loaded_gatherer : List ℕ → Loaded
loaded_gatherer b = pick (is_gatherer b) (Is (gatherer_in b) (store_in b)) No

-- A gatherer is what its types say: bytes, and eleven sizes of sixteen bits.
pub record SlotRanged (s : Slot) : Type 0 where
  pub reference : s.reference < 256
  pub total : s.total < 256
  pub eleven : length s.sizes ≡ 11
  pub size : (i : ℕ) → get_or s.sizes i 0 < 65536

pub record Ranged (g : Gatherer) : Type 0 where
  pub slot : (k : ℕ) → k < 4 → SlotRanged (get_or g.slots k free)
