-- Two outcomes that meet the contract of one exported call are the same. Each contract is that of the call in `lentunit` that it
-- makes, so each theorem is, too.
use Rattle.digest.specs.Determined.{OneOutcome}
use Rattle.lentunit.proofs.Coincide.{fresh_one_lem, hello_one, again_one, receive_one, send_data_one, send_alert_one, close_one, start_one, state_one, arrived_one, width_one}
use Rattle.shipboard.proofs.unit_fresh as unit-fresh
use Rattle.shipboard.specs.contracts.unit_fresh as unit-fresh-contract
use Rattle.shipboard.proofs.unit_hello as unit-hello
use Rattle.shipboard.specs.contracts.unit_hello as unit-hello-contract
use Rattle.shipboard.proofs.unit_again as unit-again
use Rattle.shipboard.specs.contracts.unit_again as unit-again-contract
use Rattle.shipboard.proofs.unit_receive as unit-receive
use Rattle.shipboard.specs.contracts.unit_receive as unit-receive-contract
use Rattle.shipboard.proofs.unit_send_data as unit-send-data
use Rattle.shipboard.specs.contracts.unit_send_data as unit-send-data-contract
use Rattle.shipboard.proofs.unit_send_alert as unit-send-alert
use Rattle.shipboard.specs.contracts.unit_send_alert as unit-send-alert-contract
use Rattle.shipboard.proofs.unit_close as unit-close
use Rattle.shipboard.specs.contracts.unit_close as unit-close-contract
use Rattle.shipboard.proofs.unit_start as unit-start
use Rattle.shipboard.specs.contracts.unit_start as unit-start-contract
use Rattle.shipboard.proofs.unit_state as unit-state
use Rattle.shipboard.specs.contracts.unit_state as unit-state-contract
use Rattle.shipboard.proofs.unit_arrived as unit-arrived
use Rattle.shipboard.specs.contracts.unit_arrived as unit-arrived-contract
use Rattle.shipboard.proofs.unit_width as unit_width
use Rattle.shipboard.specs.contracts.unit_width as unit_width-contract

pub unit_fresh_one : OneOutcome unit-fresh-contract.ended unit-fresh.Reads.Learnt
unit_fresh_one = fresh_one_lem

pub unit_hello_one : OneOutcome unit-hello-contract.ended unit-hello.Reads.Learnt
unit_hello_one = hello_one

pub unit_again_one : OneOutcome unit-again-contract.ended unit-again.Reads.Learnt
unit_again_one = again_one

pub unit_receive_one : OneOutcome unit-receive-contract.ended unit-receive.Reads.Learnt
unit_receive_one = receive_one

pub unit_send_data_one : OneOutcome unit-send-data-contract.ended unit-send-data.Reads.Learnt
unit_send_data_one = send_data_one

pub unit_send_alert_one : OneOutcome unit-send-alert-contract.ended unit-send-alert.Reads.Learnt
unit_send_alert_one = send_alert_one

pub unit_close_one : OneOutcome unit-close-contract.ended unit-close.Reads.Learnt
unit_close_one = close_one

pub unit_start_one : OneOutcome unit-start-contract.ended unit-start.Reads.Learnt
unit_start_one = start_one

pub unit_state_one : OneOutcome unit-state-contract.ended unit-state.Reads.Learnt
unit_state_one = state_one

pub unit_arrived_one : OneOutcome unit-arrived-contract.ended unit-arrived.Reads.Learnt
unit_arrived_one = arrived_one

pub unit_width_one : OneOutcome unit_width-contract.ended unit_width.Reads.Learnt
unit_width_one = width_one
