-- Two outcomes that meet the contract of one public call are the same: a theorem for each call, over the very predicate
-- of its `ensures` (`Determined`, in `digest`, says what is stated). `step` is one equation for its answer, the gatherer
-- and both lent buffers. `datagram` gives back a part of a lent slice: the same bytes.
use mathlib.Core.Path.{◌≡◌, refl, sym, ◌∙◌, ap}
use Rattle.digest.specs.Determined.{OneOutcome, OneOutcomeBy}
use Rattle.gather.specs.Gatherer.{Left}
use Rattle.gather.proofs.refusal.refusal_number as refusal-refusal-number
use Rattle.gather.specs.contracts.refusal.refusal_number as refusal-refusal-number-contract
use Rattle.gather.proofs.refusal.U8FromRefusal.from as refusal-u8-from-refusal
use Rattle.gather.specs.contracts.refusal.U8FromRefusal.from as refusal-u8-from-refusal-contract
use Rattle.gather.proofs.header.read as header_read
use Rattle.gather.specs.contracts.header.read as header_read-contract
use Rattle.gather.proofs.gatherer.Gatherer.fresh as gatherer-gatherer-fresh
use Rattle.gather.specs.contracts.gatherer.Gatherer.fresh as gatherer-gatherer-fresh-contract
use Rattle.gather.proofs.gatherer.Gatherer.drop as gatherer-gatherer-drop
use Rattle.gather.specs.contracts.gatherer.Gatherer.drop as gatherer-gatherer-drop-contract
use Rattle.gather.proofs.gatherer.Gatherer.step as gatherer-gatherer-step
use Rattle.gather.specs.contracts.gatherer.Gatherer.step as gatherer-gatherer-step-contract
use Rattle.gather.proofs.gatherer.datagram as gatherer-datagram
use Rattle.gather.specs.contracts.gatherer.datagram as gatherer-datagram-contract
use Rattle.gather.proofs.slot.Slot.held_places as slot-slot-held_places
use Rattle.gather.specs.contracts.slot.Slot.held_places as slot-slot-held_places-contract

pub refusal_refusal_number_one : OneOutcome refusal-refusal-number-contract.ended refusal-refusal-number.Reads.Learnt
refusal_refusal_number_one κs a x y s u e f = (e ∙ sym f, refl)

pub refusal_u8_from_refusal_one : OneOutcome refusal-u8-from-refusal-contract.ended refusal-u8-from-refusal.Reads.Learnt
refusal_u8_from_refusal_one κs a x y s u e f = (e ∙ sym f, refl)

pub header_read_one : OneOutcome header_read-contract.ended header_read.Reads.Learnt
header_read_one κs a x y s u e f = (e ∙ sym f, refl)

pub gatherer_gatherer_fresh_one : OneOutcome gatherer-gatherer-fresh-contract.ended gatherer-gatherer-fresh.Reads.Learnt
gatherer_gatherer_fresh_one κs a x y s u e f = (e ∙ sym f, refl)

pub gatherer_gatherer_drop_one : OneOutcome gatherer-gatherer-drop-contract.ended gatherer-gatherer-drop.Reads.Learnt
gatherer_gatherer_drop_one κs a x y s u e f = (refl, λ i. ((e ∙ sym f) i, (tt, tt)))

pub gatherer_gatherer_step_one : OneOutcome gatherer-gatherer-step-contract.ended gatherer-gatherer-step.Reads.Learnt
gatherer_gatherer_step_one κs a x y s u e f =
    let same = e ∙ sym f in (
      ap (λ (l : Left). l.answer) same,
      ap (λ (l : Left). (l.gatherer, (l.store, (tt, (l.assembly, tt))))) same,
    )

pub gatherer_datagram_one : OneOutcomeBy gatherer-datagram-contract.ended (λ κs x y. x.now ≡ y.now) gatherer-datagram.Reads.Learnt
gatherer_datagram_one κs a x y s u e f = (e ∙ sym f, refl)

pub slot_slot_held_places_one : OneOutcome slot-slot-held_places-contract.ended slot-slot-held_places.Reads.Learnt
slot_slot_held_places_one κs a x y s u e f = (e.0 ∙ sym f.0, refl)
