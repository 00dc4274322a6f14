-- Two outcomes that meet the contract of one call are the same: a theorem for each call, over the very predicate of its `ensures`
-- (`Determined`, in `digest`, says what is stated). `exact` is an equation for the result; each other clause but `loads`, which is
-- not needed, is one for a lent buffer, in its place among the parameters.
use mathlib.Core.Path.{refl, sym, ◌∙◌}
use Rattle.digest.specs.Determined.{OneOutcome}
use Rattle.lentunit.proofs.fresh as fresh
use Rattle.lentunit.specs.contracts.fresh as fresh-contract
use Rattle.lentunit.proofs.hello as hello
use Rattle.lentunit.specs.contracts.hello as hello-contract
use Rattle.lentunit.proofs.again as again
use Rattle.lentunit.specs.contracts.again as again-contract
use Rattle.lentunit.proofs.receive as receive
use Rattle.lentunit.specs.contracts.receive as receive-contract
use Rattle.lentunit.proofs.send_data as send_data
use Rattle.lentunit.specs.contracts.send_data as send_data-contract
use Rattle.lentunit.proofs.send_alert as send_alert
use Rattle.lentunit.specs.contracts.send_alert as send_alert-contract
use Rattle.lentunit.proofs.close as close
use Rattle.lentunit.specs.contracts.close as close-contract
use Rattle.lentunit.proofs.start as start
use Rattle.lentunit.specs.contracts.start as start-contract
use Rattle.lentunit.proofs.state as state
use Rattle.lentunit.specs.contracts.state as state-contract
use Rattle.lentunit.proofs.arrived as arrived
use Rattle.lentunit.specs.contracts.arrived as arrived-contract
use Rattle.lentunit.proofs.width as width
use Rattle.lentunit.specs.contracts.width as width-contract

pub fresh_one_lem : OneOutcome fresh-contract.ended fresh.Reads.Learnt
fresh_one_lem κs a x y s u e f = (
  e.0 ∙ sym f.0,
  λ i. (tt, (tt, (tt, ((e.1.0 ∙ sym f.1.0) i, tt)))),
)

pub hello_one : OneOutcome hello-contract.ended hello.Reads.Learnt
hello_one κs a x y s u e f = (
  e.0 ∙ sym f.0,
  λ i. ((e.1.0 ∙ sym f.1.0) i, (tt, (tt, (tt, ((e.1.1.0 ∙ sym f.1.1.0) i, tt))))),
)

pub again_one : OneOutcome again-contract.ended again.Reads.Learnt
again_one κs a x y s u e f = (
  e.0 ∙ sym f.0,
  λ i. (tt, ((e.1 ∙ sym f.1) i, tt)),
)

pub receive_one : OneOutcome receive-contract.ended receive.Reads.Learnt
receive_one κs a x y s u e f = (
  e.0 ∙ sym f.0,
  λ i. ((e.1.0 ∙ sym f.1.0) i, ((e.1.1.0 ∙ sym f.1.1.0) i, (tt, ((e.1.1.1.0 ∙ sym f.1.1.1.0) i, ((e.1.1.1.1.0 ∙ sym f.1.1.1.1.0) i, tt))))),
)

pub send_data_one : OneOutcome send_data-contract.ended send_data.Reads.Learnt
send_data_one κs a x y s u e f = (
  e.0 ∙ sym f.0,
  λ i. ((e.1.0 ∙ sym f.1.0) i, (tt, ((e.1.1.0 ∙ sym f.1.1.0) i, tt))),
)

pub send_alert_one : OneOutcome send_alert-contract.ended send_alert.Reads.Learnt
send_alert_one κs a x y s u e f = (
  e.0 ∙ sym f.0,
  λ i. ((e.1.0 ∙ sym f.1.0) i, (tt, (tt, (tt, (tt, ((e.1.1.0 ∙ sym f.1.1.0) i, tt)))))),
)

pub close_one : OneOutcome close-contract.ended close.Reads.Learnt
close_one κs a x y s u e f = (
  e.0 ∙ sym f.0,
  λ i. ((e.1.0 ∙ sym f.1.0) i, tt),
)

pub start_one : OneOutcome start-contract.ended start.Reads.Learnt
start_one κs a x y s u e f = (
  e.0 ∙ sym f.0,
  λ i. ((e.1.0 ∙ sym f.1.0) i, tt),
)

pub state_one : OneOutcome state-contract.ended state.Reads.Learnt
state_one κs a x y s u e f = (e ∙ sym f, refl)

pub arrived_one : OneOutcome arrived-contract.ended arrived.Reads.Learnt
arrived_one κs a x y s u e f = (e ∙ sym f, refl)

pub width_one : OneOutcome width-contract.ended width.Reads.Learnt
width_one κs a x y s u e f = (e ∙ sym f, refl)
