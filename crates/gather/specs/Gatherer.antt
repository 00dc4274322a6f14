-- The gatherer's calls, exactly: numbers by value, and the bytes of the store and of the assembly buffer.
-- What they mean for a map from references to totals and places is in Map.antt.
use mathlib.Core.Path.{refl, ◌∙◌}
use lib.ListN.{length-set}
use Rattle.std.specs.Prelude.{List, ◌++◌, ℕ, ◌+◌, ◌-◌, ◌*◌, length, get_or, drop, set, replicate, eqb, ltb, leb, position, Option, Some, None, Result, Ok, Err}
use Rattle.digest.specs.Pick.{pick}
use Rattle.digest.specs.Bytes.{laid_over}
use Rattle.gather.specs.Header.{heading_of}
use Rattle.gather.specs.Slot.{free, begun, holds, count_of, below, sized}
use Rattle.gather.specs.declared.slot.Slot.{Slot}
use Rattle.gather.specs.declared.header.Ports.{Ports}
use Rattle.gather.specs.declared.header.Place.{Place}
use Rattle.gather.specs.declared.header.Heading.{Heading}
use Rattle.gather.specs.declared.header.Heading.TheVariants.{Alone, Part}
use Rattle.gather.specs.declared.refusal.Refusal.{Refusal}
use Rattle.gather.specs.declared.refusal.Refusal.TheVariants as R
use Rattle.gather.specs.declared.gatherer.Gatherer.{Gatherer}
use Rattle.gather.specs.declared.gatherer.Answer.{Answer}
use Rattle.gather.specs.declared.gatherer.Answer.TheVariants.{Waiting, Received, Gathered}
pub use Rattle.gather.specs.Answer.{kept, lower, within, upper, datagram_of}
unfoldable pub use Rattle.gather.specs.Answer.{again_of}

-- ---- the four slots

abbrev pub fresh_of : Gatherer
fresh_of = record { slots = replicate 4 free; four = refl }

abbrev pub slot_at : Gatherer → ℕ → Slot
slot_at g k = get_or g.slots k free

abbrev pub with_slot : Gatherer → ℕ → Slot → Gatherer
with_slot g k s = record { slots = set g.slots k s; four = length-set g.slots k s ∙ g.four }

-- the first slot that holds a reference
unfoldable pub held_at : Gatherer → ℕ → Option ℕ
held_at g r = position (λ s. holds s r) g.slots

-- the first slot that is free
unfoldable pub vacant_at : Gatherer → Option ℕ
vacant_at g = position (λ s. eqb s.total 0) g.slots

-- ---- a step

-- what a step leaves: the gatherer, its answer or refusal, the store, and the assembly buffer
pub record Left : Type 0 where
  pub gatherer : Gatherer
  pub answer : Result Answer Refusal
  pub store : List ℕ
  pub assembly : List ℕ

abbrev pub leaves : Gatherer → Result Answer Refusal → List ℕ → List ℕ → Left
leaves g answer store assembly = record { gatherer = g; answer = answer; store = store; assembly = assembly }

-- the part put in its place i of slot s, which is slot k: 20, 22, finished, or waiting
unfoldable pub add_of : Gatherer → ℕ → Slot → ℕ → List ℕ → List ℕ → Ports → List ℕ → Left
add_of g k s i store part ports assembly =
    pick (eqb (get_or s.sizes i 0) 0)
    (pick (ltb (1400 - below s 11) (length part))
    (leaves (with_slot g k free) (Err R.Long) store assembly)
    (pick (leb s.total (count_of s.sizes + 1))
    (leaves (with_slot g k free) (Ok (Gathered ports (below s 11 + length part))) store
    (laid_over assembly 0 (lower store k s i ++ part ++ upper store k s i)))
    (leaves (with_slot g k (sized s i (length part))) (Ok (Waiting ports s.reference (count_of s.sizes + 1) s.total))
    (laid_over store (k * 1400 + below s i) (part ++ upper store k s i))
    assembly)))
    (leaves g (again_of k s i store part ports) store assembly)

-- a part: 20 for another total, 21, or added to its slot, or to a new one
abbrev pub join_by : Gatherer → List ℕ → List ℕ → Ports → Place → List ℕ → Option ℕ → Option ℕ → Left
join_by g store part ports p assembly (Some k) room =
    pick (eqb (slot_at g k).total p.total)
    (add_of g k (slot_at g k) (p.place - 1) store part ports assembly)
    (leaves g (Err R.Differs) store assembly)
join_by g store part ports p assembly None (Some k) =
    add_of g k (begun p.reference p.total) (p.place - 1) store part ports assembly
join_by g store part ports p assembly None None = leaves g (Err R.Full) store assembly

abbrev pub join_of : Gatherer → List ℕ → List ℕ → Ports → Place → List ℕ → Left
join_of g store part ports p assembly = join_by g store part ports p assembly (held_at g p.reference) (vacant_at g)

abbrev pub step_by : Gatherer → List ℕ → List ℕ → List ℕ → Result Heading Refusal → Left
step_by g store message assembly (Err refusal) = leaves g (Err refusal) store assembly
step_by g store message assembly (Ok (Alone ports start)) = leaves g (Ok (Received ports start)) store assembly
step_by g store message assembly (Ok (Part ports start p)) = join_of g store (drop start message) ports p assembly

-- the order 16, 6, 19, and then 20, 21, 22
unfoldable pub step_of : Gatherer → List ℕ → List ℕ → List ℕ → Left
step_of g store message assembly =
    pick (ltb (length store) 5600) (leaves g (Err R.Argument) store assembly)
    (pick (ltb (length assembly) 1400) (leaves g (Err R.Room) store assembly)
    (step_by g store message assembly (heading_of message)))

-- "dropping one not held changes nothing"
abbrev pub drop_by : Gatherer → Option ℕ → Gatherer
drop_by g None = g
drop_by g (Some k) = with_slot g k free

abbrev pub drop_of : Gatherer → ℕ → Gatherer
drop_of g r = drop_by g (held_at g r)
