-- Two outcomes that meet the contract of one public call are the same: a theorem for each call, over the very predicate of its
-- `ensures` (`Determined`, in `digest`, says what is stated). A clause `exact`, or the only one, is an equation for the result, and
-- `bytes` one for the lent output, which w stands for, in its place among the parameters.
use mathlib.Core.Path.{refl, sym, ◌∙◌, ap}
use Rattle.digest.specs.Determined.{OneOutcome}
use Rattle.unit.proofs.calls.fresh as calls-fresh
use Rattle.unit.specs.contracts.calls.fresh as calls-fresh-contract
use Rattle.unit.proofs.calls.close as calls-close
use Rattle.unit.specs.contracts.calls.close as calls-close-contract
use Rattle.unit.proofs.calls.start as calls-start
use Rattle.unit.specs.contracts.calls.start as calls-start-contract
use Rattle.unit.proofs.hello.hello as hello-hello
use Rattle.unit.specs.contracts.hello.hello as hello-hello-contract
use Rattle.unit.proofs.hello.again as hello-again
use Rattle.unit.specs.contracts.hello.again as hello-again-contract
use Rattle.unit.proofs.receive.receive as receive-receive
use Rattle.unit.specs.contracts.receive.receive as receive-receive-contract
use Rattle.unit.proofs.send.send_data as send-send-data
use Rattle.unit.specs.contracts.send.send_data as send-send-data-contract
use Rattle.unit.proofs.send.send_alert as send-send-alert
use Rattle.unit.specs.contracts.send.send_alert as send-send-alert-contract
use Rattle.unit.proofs.tally.counted as tally-counted
use Rattle.unit.specs.contracts.tally.counted as tally-counted-contract
use Rattle.unit.proofs.answer.as_ashore as answer-as-ashore
use Rattle.unit.specs.contracts.answer.as_ashore as answer-as-ashore-contract
use Rattle.unit.proofs.state.kind_of as state-kind-of
use Rattle.unit.specs.contracts.state.kind_of as state-kind-of-contract
use Rattle.unit.proofs.state.rule_of as state-rule-of
use Rattle.unit.specs.contracts.state.rule_of as state-rule-of-contract
use Rattle.unit.proofs.unit.Unit.with_state as unit-unit-with-state
use Rattle.unit.specs.contracts.unit.Unit.with_state as unit-unit-with-state-contract
use Rattle.unit.proofs.unit.Unit.with_window as unit-unit-with-window
use Rattle.unit.specs.contracts.unit.Unit.with_window as unit-unit-with-window-contract
use Rattle.unit.proofs.unit.Unit.with_sent as unit-unit-with-sent
use Rattle.unit.specs.contracts.unit.Unit.with_sent as unit-unit-with-sent-contract
use Rattle.unit.proofs.unit.Unit.greeted as unit-unit-greeted
use Rattle.unit.specs.contracts.unit.Unit.greeted as unit-unit-greeted-contract
use Rattle.unit.proofs.unit.Unit.opened as unit-unit-opened
use Rattle.unit.specs.contracts.unit.Unit.opened as unit-unit-opened-contract
use Rattle.unit.proofs.unit.Unit.reopened as unit-unit-reopened
use Rattle.unit.specs.contracts.unit.Unit.reopened as unit-unit-reopened-contract
use Rattle.unit.proofs.unit.Unit.barred as unit-unit-barred
use Rattle.unit.specs.contracts.unit.Unit.barred as unit-unit-barred-contract
use Rattle.unit.proofs.unit.blank as unit-blank
use Rattle.unit.specs.contracts.unit.blank as unit-blank-contract
use Rattle.unit.proofs.unit.made as unit-made
use Rattle.unit.specs.contracts.unit.made as unit-made-contract

pub calls_fresh_one : OneOutcome calls-fresh-contract.ended calls-fresh.Reads.Learnt
calls_fresh_one κs a x y s u e f = (e ∙ sym f, refl)

pub calls_close_one : OneOutcome calls-close-contract.ended calls-close.Reads.Learnt
calls_close_one κs a x y s u e f = (e ∙ sym f, refl)

pub calls_start_one : OneOutcome calls-start-contract.ended calls-start.Reads.Learnt
calls_start_one κs a x y s u e f = (e ∙ sym f, refl)

pub hello_hello_one : OneOutcome hello-hello-contract.ended hello-hello.Reads.Learnt
hello_hello_one κs a x y s u e f = (e.0 ∙ sym f.0, ap (λ w. (tt, (tt, (tt, (tt, (w, tt)))))) (e.1 ∙ sym f.1))

pub hello_again_one : OneOutcome hello-again-contract.ended hello-again.Reads.Learnt
hello_again_one κs a x y s u e f = (e.0 ∙ sym f.0, ap (λ w. (tt, (w, tt))) (e.1 ∙ sym f.1))

pub receive_receive_one : OneOutcome receive-receive-contract.ended receive-receive.Reads.Learnt
receive_receive_one κs a x y s u e f = (e.0 ∙ sym f.0, ap (λ w. (tt, (tt, (w, tt)))) (e.1 ∙ sym f.1))

pub send_send_data_one : OneOutcome send-send-data-contract.ended send-send-data.Reads.Learnt
send_send_data_one κs a x y s u e f = (e.0 ∙ sym f.0, ap (λ w. (tt, (tt, (w, tt)))) (e.1 ∙ sym f.1))

pub send_send_alert_one : OneOutcome send-send-alert-contract.ended send-send-alert.Reads.Learnt
send_send_alert_one κs a x y s u e f = (e.0 ∙ sym f.0, ap (λ w. (tt, (tt, (tt, (tt, (tt, (w, tt))))))) (e.1 ∙ sym f.1))

pub tally_counted_one : OneOutcome tally-counted-contract.ended tally-counted.Reads.Learnt
tally_counted_one κs a x y s u e f = (e ∙ sym f, refl)

pub answer_as_ashore_one : OneOutcome answer-as-ashore-contract.ended answer-as-ashore.Reads.Learnt
answer_as_ashore_one κs a x y s u e f = (e ∙ sym f, refl)

pub state_kind_of_one : OneOutcome state-kind-of-contract.ended state-kind-of.Reads.Learnt
state_kind_of_one κs a x y s u e f = (e ∙ sym f, refl)

pub state_rule_of_one : OneOutcome state-rule-of-contract.ended state-rule-of.Reads.Learnt
state_rule_of_one κs a x y s u e f = (e ∙ sym f, refl)

pub unit_unit_with_state_one : OneOutcome unit-unit-with-state-contract.ended unit-unit-with-state.Reads.Learnt
unit_unit_with_state_one κs a x y s u e f = (e ∙ sym f, refl)

pub unit_unit_with_window_one : OneOutcome unit-unit-with-window-contract.ended unit-unit-with-window.Reads.Learnt
unit_unit_with_window_one κs a x y s u e f = (e ∙ sym f, refl)

pub unit_unit_with_sent_one : OneOutcome unit-unit-with-sent-contract.ended unit-unit-with-sent.Reads.Learnt
unit_unit_with_sent_one κs a x y s u e f = (e ∙ sym f, refl)

pub unit_unit_greeted_one : OneOutcome unit-unit-greeted-contract.ended unit-unit-greeted.Reads.Learnt
unit_unit_greeted_one κs a x y s u e f = (e ∙ sym f, refl)

pub unit_unit_opened_one : OneOutcome unit-unit-opened-contract.ended unit-unit-opened.Reads.Learnt
unit_unit_opened_one κs a x y s u e f = (e ∙ sym f, refl)

pub unit_unit_reopened_one : OneOutcome unit-unit-reopened-contract.ended unit-unit-reopened.Reads.Learnt
unit_unit_reopened_one κs a x y s u e f = (e ∙ sym f, refl)

pub unit_unit_barred_one : OneOutcome unit-unit-barred-contract.ended unit-unit-barred.Reads.Learnt
unit_unit_barred_one κs a x y s u e f = (e ∙ sym f, refl)

pub unit_blank_one : OneOutcome unit-blank-contract.ended unit-blank.Reads.Learnt
unit_blank_one κs a x y s u e f = (e ∙ sym f, refl)

pub unit_made_one : OneOutcome unit-made-contract.ended unit-made.Reads.Learnt
unit_made_one κs a x y s u e f = (e ∙ sym f, refl)
