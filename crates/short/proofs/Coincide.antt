-- Two outcomes that meet the contract of one public call are the same: a theorem for each call, over the very predicate
-- of its `ensures` (`Determined`, in `digest`, says what is stated). `message` is one equation for what comes back, the
-- gatherer and the three lent buffers.
use mathlib.Core.Path.{refl, sym, ◌∙◌, ap}
use Rattle.digest.specs.Determined.{OneOutcome}
use Rattle.short.specs.Message.{Leaves}
use Rattle.short.proofs.take.message as take-message
use Rattle.short.specs.contracts.take.message as take-message-contract
use Rattle.short.proofs.take.shows as take-shows
use Rattle.short.specs.contracts.take.shows as take-shows-contract

pub take_message_one : OneOutcome take-message-contract.ended take-message.Reads.Learnt
take_message_one κs a x y s u e f =
    let same = e ∙ sym f in (
      ap (λ (l : Leaves). l.back) same,
      ap (λ (l : Leaves). (tt, (l.gatherer, (l.store, (tt, (l.assembly, (tt, (l.out, tt)))))))) same,
    )

pub take_shows_one : OneOutcome take-shows-contract.ended take-shows.Reads.Learnt
take_shows_one κs a x y s u e f = (e ∙ sym f, refl)
