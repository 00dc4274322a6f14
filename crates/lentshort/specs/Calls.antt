-- The calls on a lent gatherer alone. "16: argument out of range" is stretched to bytes that are no saved gatherer. A refused call
-- leaves every lent byte as it was.
use Rattle.std.specs.Prelude.{List, ℕ, ◌+◌, ◌*◌, length, eqb, ltb}
use Rattle.digest.specs.Pick.{pick}
use Rattle.gather.specs.Slot.{count_of}
use Rattle.gather.specs.Gatherer.{fresh_of, drop_of}
use Rattle.gather.specs.declared.slot.Slot.{Slot}
use Rattle.lent.specs.Calls.{result_of, not_taken}
use Rattle.lentshort.specs.Saved.{gatherer_size, saved_gatherer, is_gatherer, gatherer_in, slot_in, store_in, Loaded, Is, loaded_gatherer}

-- an empty gatherer: in 5,700 bytes, whatever they hold
unfoldable pub empty_result : ℕ → ℕ
empty_result room = pick (eqb room gatherer_size) (result_of 0 0 0) not_taken

unfoldable pub empty_bytes : List ℕ → List ℕ
empty_bytes b = pick (eqb (length b) gatherer_size) (saved_gatherer fresh_of (store_in b)) b

unfoldable pub empty_loads : List ℕ → Loaded
empty_loads b = pick (eqb (length b) gatherer_size) (Is fresh_of (store_in b)) (loaded_gatherer b)

-- "The caller may drop a reference"; a reference is one byte
unfoldable pub drop_result : List ℕ → ℕ → ℕ
drop_result b reference = pick (ltb 255 reference) not_taken (pick (is_gatherer b) (result_of 0 0 0) not_taken)

unfoldable pub drop_bytes : List ℕ → ℕ → List ℕ
drop_bytes b reference =
    pick (ltb 255 reference) b (pick (is_gatherer b) (saved_gatherer (drop_of (gatherer_in b) reference) (store_in b)) b)

unfoldable pub drop_loads : List ℕ → ℕ → Loaded
drop_loads b reference =
    pick (ltb 255 reference) (loaded_gatherer b)
    (pick (is_gatherer b) (Is (drop_of (gatherer_in b) reference) (store_in b)) (loaded_gatherer b))

-- what a slot holds: how many places have come as the bytes written, its total and its reference as the count; a free one has
-- total 0
abbrev pub holding : Slot → ℕ
holding s = result_of 0 (count_of s.sizes) (s.total * 256 + s.reference)

unfoldable pub held_result : List ℕ → ℕ → ℕ
held_result b slot = pick (ltb 3 slot) not_taken (pick (is_gatherer b) (holding (slot_in b (4 + 24 * slot))) not_taken)
