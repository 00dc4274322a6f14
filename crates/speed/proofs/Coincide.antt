-- Two outcomes that meet the contract of one call are the same (`Determined`, in `digest`, says what is stated). Each contract is an
-- equation for the lent output, which w stands for in its place among the parameters; nothing else comes back.
use mathlib.Core.Path.{refl, sym, ◌∙◌, ap}
use Rattle.digest.specs.Determined.{OneOutcome}
use Rattle.speed.proofs.speed_sha1 as speed-sha1
use Rattle.speed.specs.contracts.speed_sha1 as speed-sha1-contract
use Rattle.speed.proofs.speed_hmac as speed-hmac
use Rattle.speed.specs.contracts.speed_hmac as speed-hmac-contract
use Rattle.speed.proofs.speed_codes as speed-codes
use Rattle.speed.specs.contracts.speed_codes as speed-codes-contract
use Rattle.speed.proofs.speed_prf as speed-prf
use Rattle.speed.specs.contracts.speed_prf as speed-prf-contract

pub speed_sha1_one : OneOutcome speed-sha1-contract.ended speed-sha1.Reads.Learnt
speed_sha1_one κs a x y s u e f = (refl, ap (λ w. (tt, (w, tt))) (e ∙ sym f))

pub speed_hmac_one : OneOutcome speed-hmac-contract.ended speed-hmac.Reads.Learnt
speed_hmac_one κs a x y s u e f = (refl, ap (λ w. (tt, (tt, (w, tt)))) (e ∙ sym f))

pub speed_codes_one : OneOutcome speed-codes-contract.ended speed-codes.Reads.Learnt
speed_codes_one κs a x y s u e f = (refl, ap (λ w. (tt, (tt, (tt, (w, tt))))) (e ∙ sym f))

pub speed_prf_one : OneOutcome speed-prf-contract.ended speed-prf.Reads.Learnt
speed_prf_one κs a x y s u e f = (refl, ap (λ w. (tt, (tt, (tt, (tt, (tt, (w, tt))))))) (e ∙ sym f))
