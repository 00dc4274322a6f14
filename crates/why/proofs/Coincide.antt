-- Two outcomes that meet the contract of one public call are the same: a theorem for each call, over the very predicate
-- of its `ensures` (`Determined`, in `digest`, says what is stated).
use mathlib.Core.Path.{refl, sym, ◌∙◌}
use Rattle.digest.specs.Determined.{OneOutcome}
use Rattle.why.proofs.ask.why as ask-why
use Rattle.why.specs.contracts.ask.why as ask-why-contract
use Rattle.why.proofs.reason.number as reason-number
use Rattle.why.specs.contracts.reason.number as reason-number-contract

pub ask_why_one : OneOutcome ask-why-contract.ended ask-why.Reads.Learnt
ask_why_one κs a x y s u e f = (e ∙ sym f, refl)

pub reason_number_one : OneOutcome reason-number-contract.ended reason-number.Reads.Learnt
reason_number_one κs a x y s u e f = (e ∙ sym f, refl)
