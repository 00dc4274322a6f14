-- Two outcomes that meet the contract of one call are the same: a theorem for each call, over the very predicate of its `ensures`
-- (`Determined`, in `digest`, says what is stated). `message` is one equation for its answer and for the seven lent buffers.
use mathlib.Core.Path.{refl, sym, ◌∙◌, ap}
use Rattle.digest.specs.Determined.{OneOutcome}
use Rattle.lentshort.specs.Gathered.{Keeps}
use Rattle.lentshort.specs.Message.{Leaves}
use Rattle.lentshort.proofs.empty as empty
use Rattle.lentshort.specs.contracts.empty as empty-contract
use Rattle.lentshort.proofs.drop_reference as drop-reference
use Rattle.lentshort.specs.contracts.drop_reference as drop-reference-contract
use Rattle.lentshort.proofs.held as held
use Rattle.lentshort.specs.contracts.held as held-contract
use Rattle.lentshort.proofs.gather_message as gather-message
use Rattle.lentshort.specs.contracts.gather_message as gather-message-contract
use Rattle.lentshort.proofs.message as message
use Rattle.lentshort.specs.contracts.message as message-contract

pub empty_one : OneOutcome empty-contract.ended empty.Reads.Learnt
empty_one κs a x y s u e f = (e.0 ∙ sym f.0, λ i. ((e.1.0 ∙ sym f.1.0) i, tt))

pub drop_reference_one : OneOutcome drop-reference-contract.ended drop-reference.Reads.Learnt
drop_reference_one κs a x y s u e f = (e.0 ∙ sym f.0, λ i. ((e.1.0 ∙ sym f.1.0) i, (tt, tt)))

pub held_one : OneOutcome held-contract.ended held.Reads.Learnt
held_one κs a x y s u e f = (e ∙ sym f, refl)

pub gather_message_one : OneOutcome gather-message-contract.ended gather-message.Reads.Learnt
gather_message_one κs a x y s u e f =
    let same = e.0 ∙ sym f.0 in (
      ap (λ (k : Keeps). k.result) same,
      ap (λ (k : Keeps). (k.gatherer, (tt, (k.assembly, (k.said, tt))))) same,
    )

pub message_one : OneOutcome message-contract.ended message.Reads.Learnt
message_one κs a x y s u e f =
    let same = e.0 ∙ sym f.0 in (
      ap (λ (l : Leaves). l.heard.result) same,
      ap
          (λ (l : Leaves).
          (l.heard.state, (l.heard.tally, (l.gatherer, (tt, (l.assembly, (tt, (l.said, (l.heard.out, (l.heard.answers, tt))))))))))
          same,
    )
