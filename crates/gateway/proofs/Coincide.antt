-- Two outcomes that meet the contract of one exported call are the same. Each contract is that of the call in `lent` or `lentshort`
-- that it makes, so each theorem is, too.
use Rattle.digest.specs.Determined.{OneOutcome}
use Rattle.lent.proofs.Coincide.{fresh_one_lem, receive_one, send_data_one, send_alert_one, close_one, start_one, state_one, arrived_one, width_one, mac_one}
use Rattle.lentshort.proofs.Coincide.{empty_one, drop_reference_one, held_one, gather_message_one, message_one}
use Rattle.gateway.proofs.gateway_fresh as gateway-fresh
use Rattle.gateway.specs.contracts.gateway_fresh as gateway-fresh-contract
use Rattle.gateway.proofs.gateway_receive as gateway-receive
use Rattle.gateway.specs.contracts.gateway_receive as gateway-receive-contract
use Rattle.gateway.proofs.gateway_send_data as gateway-send-data
use Rattle.gateway.specs.contracts.gateway_send_data as gateway-send-data-contract
use Rattle.gateway.proofs.gateway_send_alert as gateway-send-alert
use Rattle.gateway.specs.contracts.gateway_send_alert as gateway-send-alert-contract
use Rattle.gateway.proofs.gateway_close as gateway-close
use Rattle.gateway.specs.contracts.gateway_close as gateway-close-contract
use Rattle.gateway.proofs.gateway_start as gateway-start
use Rattle.gateway.specs.contracts.gateway_start as gateway-start-contract
use Rattle.gateway.proofs.gateway_state as gateway-state
use Rattle.gateway.specs.contracts.gateway_state as gateway-state-contract
use Rattle.gateway.proofs.gateway_arrived as gateway-arrived
use Rattle.gateway.specs.contracts.gateway_arrived as gateway-arrived-contract
use Rattle.gateway.proofs.gateway_width as gateway-width
use Rattle.gateway.specs.contracts.gateway_width as gateway-width-contract
use Rattle.gateway.proofs.gateway_mac as gateway-mac
use Rattle.gateway.specs.contracts.gateway_mac as gateway-mac-contract
use Rattle.gateway.proofs.gateway_gatherer as gateway-gatherer
use Rattle.gateway.specs.contracts.gateway_gatherer as gateway-gatherer-contract
use Rattle.gateway.proofs.gateway_drop as gateway-drop
use Rattle.gateway.specs.contracts.gateway_drop as gateway-drop-contract
use Rattle.gateway.proofs.gateway_held as gateway-held
use Rattle.gateway.specs.contracts.gateway_held as gateway-held-contract
use Rattle.gateway.proofs.gateway_gather as gateway-gather
use Rattle.gateway.specs.contracts.gateway_gather as gateway-gather-contract
use Rattle.gateway.proofs.gateway_message as gateway-message
use Rattle.gateway.specs.contracts.gateway_message as gateway-message-contract

pub gateway_fresh_one : OneOutcome gateway-fresh-contract.ended gateway-fresh.Reads.Learnt
gateway_fresh_one = fresh_one_lem

pub gateway_receive_one : OneOutcome gateway-receive-contract.ended gateway-receive.Reads.Learnt
gateway_receive_one = receive_one

pub gateway_send_data_one : OneOutcome gateway-send-data-contract.ended gateway-send-data.Reads.Learnt
gateway_send_data_one = send_data_one

pub gateway_send_alert_one : OneOutcome gateway-send-alert-contract.ended gateway-send-alert.Reads.Learnt
gateway_send_alert_one = send_alert_one

pub gateway_close_one : OneOutcome gateway-close-contract.ended gateway-close.Reads.Learnt
gateway_close_one = close_one

pub gateway_start_one : OneOutcome gateway-start-contract.ended gateway-start.Reads.Learnt
gateway_start_one = start_one

pub gateway_state_one : OneOutcome gateway-state-contract.ended gateway-state.Reads.Learnt
gateway_state_one = state_one

pub gateway_arrived_one : OneOutcome gateway-arrived-contract.ended gateway-arrived.Reads.Learnt
gateway_arrived_one = arrived_one

pub gateway_width_one : OneOutcome gateway-width-contract.ended gateway-width.Reads.Learnt
gateway_width_one = width_one

pub gateway_mac_one : OneOutcome gateway-mac-contract.ended gateway-mac.Reads.Learnt
gateway_mac_one = mac_one

pub gateway_gatherer_one : OneOutcome gateway-gatherer-contract.ended gateway-gatherer.Reads.Learnt
gateway_gatherer_one = empty_one

pub gateway_drop_one : OneOutcome gateway-drop-contract.ended gateway-drop.Reads.Learnt
gateway_drop_one = drop_reference_one

pub gateway_held_one : OneOutcome gateway-held-contract.ended gateway-held.Reads.Learnt
gateway_held_one = held_one

pub gateway_gather_one : OneOutcome gateway-gather-contract.ended gateway-gather.Reads.Learnt
gateway_gather_one = gather_message_one

pub gateway_message_one : OneOutcome gateway-message-contract.ended gateway-message.Reads.Learnt
gateway_message_one = message_one
