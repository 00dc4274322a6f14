-- Two outcomes that meet the contract of the call are the same, over the very predicate of its `ensures` (`Determined`, in `digest`,
-- says what is stated).
use mathlib.Core.Path.{sym, ◌∙◌}
use Rattle.digest.specs.Determined.{OneOutcome}
use Rattle.lentwhy.proofs.why as why
use Rattle.lentwhy.specs.contracts.why as why-contract

pub why_one : OneOutcome why-contract.ended why.Reads.Learnt
why_one κs a x y s u e f = (
  e.0 ∙ sym f.0,
  λ i. (tt, (tt, (tt, (tt, (tt, ((e.1 ∙ sym f.1) i, tt)))))),
)
