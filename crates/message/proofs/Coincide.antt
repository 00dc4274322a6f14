-- Two outcomes that meet the contract of one public call are the same: a theorem for each call, over the very predicate
-- of its `ensures` (`Determined`, in `digest`, says what is stated). The first clause of each is an equation for the
-- result, and the second of a writer one for the lent buffer, which w stands for, in its place among the parameters.
-- The bound of `long_end` is not needed. `part` gives back a part of a lent slice: the same bytes.
use mathlib.Core.Path.{◌≡◌, refl, sym, ◌∙◌, ap}
use Rattle.digest.specs.Determined.{OneOutcome, OneOutcomeBy}
use Rattle.message.proofs.field.long_end as field-long-end
use Rattle.message.specs.contracts.field.long_end as field-long-end-contract
use Rattle.message.proofs.field.part as field-part
use Rattle.message.specs.contracts.field.part as field-part-contract
use Rattle.message.proofs.keys.key_list as keys-key-list
use Rattle.message.specs.contracts.keys.key_list as keys-key-list-contract
use Rattle.message.proofs.handshake.fills_with as handshake-fills-with
use Rattle.message.specs.contracts.handshake.fills_with as handshake-fills-with-contract
use Rattle.message.proofs.hello.read as hello_read
use Rattle.message.specs.contracts.hello.read as hello_read-contract
use Rattle.message.proofs.writer.write as writer-write
use Rattle.message.specs.contracts.writer.write as writer-write-contract
use Rattle.message.proofs.acceptance.hear as acceptance-hear
use Rattle.message.specs.contracts.acceptance.hear as acceptance-hear-contract
use Rattle.message.proofs.acceptance.accept as acceptance-accept
use Rattle.message.specs.contracts.acceptance.accept as acceptance-accept-contract
use Rattle.message.proofs.acceptance.UnheardFromCondition.from as acceptance-unheard-from-condition
use Rattle.message.specs.contracts.acceptance.UnheardFromCondition.from as acceptance-unheard-from-condition-contract
use Rattle.message.proofs.acceptance.UnheardFromField.from as acceptance-unheard-from-field
use Rattle.message.specs.contracts.acceptance.UnheardFromField.from as acceptance-unheard-from-field-contract
use Rattle.message.proofs.server.write as server-write
use Rattle.message.specs.contracts.server.write as server-write-contract
use Rattle.message.proofs.set.read as set_read
use Rattle.message.specs.contracts.set.read as set_read-contract
use Rattle.message.proofs.set_writer.write as set-writer-write
use Rattle.message.specs.contracts.set_writer.write as set-writer-write-contract
use Rattle.message.proofs.alert.read as alert-read
use Rattle.message.specs.contracts.alert.read as alert-read-contract
use Rattle.message.proofs.alert.write as alert-write
use Rattle.message.specs.contracts.alert.write as alert-write-contract
use Rattle.message.proofs.alert.grade as alert-grade
use Rattle.message.specs.contracts.alert.grade as alert-grade-contract
use Rattle.message.proofs.alert.level_number as alert-level-number
use Rattle.message.specs.contracts.alert.level_number as alert-level-number-contract
use Rattle.message.proofs.alert.sort as alert-sort
use Rattle.message.specs.contracts.alert.sort as alert-sort-contract
use Rattle.message.proofs.alert.description_number as alert-description-number
use Rattle.message.specs.contracts.alert.description_number as alert-description-number-contract
use Rattle.message.proofs.change.is_change as change-is-change
use Rattle.message.specs.contracts.change.is_change as change-is-change-contract
use Rattle.message.proofs.change.change as change-change
use Rattle.message.specs.contracts.change.change as change-change-contract
use Rattle.message.proofs.finished.server_verify as finished-server-verify
use Rattle.message.specs.contracts.finished.server_verify as finished-server-verify-contract
use Rattle.message.proofs.finished.client_verify as finished-client-verify
use Rattle.message.specs.contracts.finished.client_verify as finished-client-verify-contract
use Rattle.message.proofs.finished.message as finished-message
use Rattle.message.specs.contracts.finished.message as finished-message-contract
use Rattle.message.proofs.finished.judge as finished-judge
use Rattle.message.specs.contracts.finished.judge as finished-judge-contract
use Rattle.message.proofs.request.is_request as request-is-request
use Rattle.message.specs.contracts.request.is_request as request-is-request-contract
use Rattle.message.proofs.offer.kinds_of as offer-kinds-of
use Rattle.message.specs.contracts.offer.kinds_of as offer-kinds-of-contract
use Rattle.message.proofs.offer.is_offered as offer-is-offered
use Rattle.message.specs.contracts.offer.is_offered as offer-is-offered-contract
use Rattle.message.proofs.offer.write as offer-write
use Rattle.message.specs.contracts.offer.write as offer-write-contract
use Rattle.message.proofs.server_hello.read as server-hello-read
use Rattle.message.specs.contracts.server_hello.read as server-hello-read-contract
use Rattle.message.proofs.agreement.agree as agreement-agree
use Rattle.message.specs.contracts.agreement.agree as agreement-agree-contract
use Rattle.message.proofs.agreement.judged as agreement-judged
use Rattle.message.specs.contracts.agreement.judged as agreement-judged-contract

pub field_long_end_one : OneOutcome field-long-end-contract.ended field-long-end.Reads.Learnt
field_long_end_one κs a x y s u e f = (e.0 ∙ sym f.0, refl)

pub field_part_one : OneOutcomeBy field-part-contract.ended (λ κs x y. x.now ≡ y.now) field-part.Reads.Learnt
field_part_one κs a x y s u e f = (e ∙ sym f, refl)

pub keys_key_list_one : OneOutcome keys-key-list-contract.ended keys-key-list.Reads.Learnt
keys_key_list_one κs a x y s u e f = (e ∙ sym f, refl)

pub handshake_fills_with_one : OneOutcome handshake-fills-with-contract.ended handshake-fills-with.Reads.Learnt
handshake_fills_with_one κs a x y s u e f = (e ∙ sym f, refl)

pub hello_read_one : OneOutcome hello_read-contract.ended hello_read.Reads.Learnt
hello_read_one κs a x y s u e f = (e ∙ sym f, refl)

pub writer_write_one : OneOutcome writer-write-contract.ended writer-write.Reads.Learnt
writer_write_one κs a x y s u e f =
    (e.0 ∙ sym f.0, ap (λ w. (tt, (tt, (tt, (tt, (tt, (tt, (tt, (tt, (tt, (w, tt))))))))))) (e.1 ∙ sym f.1))

pub acceptance_hear_one : OneOutcome acceptance-hear-contract.ended acceptance-hear.Reads.Learnt
acceptance_hear_one κs a x y s u e f = (e ∙ sym f, refl)

pub acceptance_accept_one : OneOutcome acceptance-accept-contract.ended acceptance-accept.Reads.Learnt
acceptance_accept_one κs a x y s u e f = (e ∙ sym f, refl)

pub acceptance_unheard_from_condition_one : OneOutcome acceptance-unheard-from-condition-contract.ended acceptance-unheard-from-condition.Reads.Learnt
acceptance_unheard_from_condition_one κs a x y s u e f = (e ∙ sym f, refl)

pub acceptance_unheard_from_field_one : OneOutcome acceptance-unheard-from-field-contract.ended acceptance-unheard-from-field.Reads.Learnt
acceptance_unheard_from_field_one κs a x y s u e f = (e ∙ sym f, refl)

pub server_write_one : OneOutcome server-write-contract.ended server-write.Reads.Learnt
server_write_one κs a x y s u e f = (e.0 ∙ sym f.0, ap (λ w. (tt, (tt, (tt, (w, tt))))) (e.1 ∙ sym f.1))

pub set_read_one : OneOutcome set_read-contract.ended set_read.Reads.Learnt
set_read_one κs a x y s u e f = (e ∙ sym f, refl)

pub set_writer_write_one : OneOutcome set-writer-write-contract.ended set-writer-write.Reads.Learnt
set_writer_write_one κs a x y s u e f = (e.0 ∙ sym f.0, ap (λ w. (tt, (tt, (w, tt)))) (e.1 ∙ sym f.1))

pub alert_read_one : OneOutcome alert-read-contract.ended alert-read.Reads.Learnt
alert_read_one κs a x y s u e f = (e ∙ sym f, refl)

pub alert_write_one : OneOutcome alert-write-contract.ended alert-write.Reads.Learnt
alert_write_one κs a x y s u e f = (e ∙ sym f, refl)

pub alert_grade_one : OneOutcome alert-grade-contract.ended alert-grade.Reads.Learnt
alert_grade_one κs a x y s u e f = (e ∙ sym f, refl)

pub alert_level_number_one : OneOutcome alert-level-number-contract.ended alert-level-number.Reads.Learnt
alert_level_number_one κs a x y s u e f = (e ∙ sym f, refl)

pub alert_sort_one : OneOutcome alert-sort-contract.ended alert-sort.Reads.Learnt
alert_sort_one κs a x y s u e f = (e ∙ sym f, refl)

pub alert_description_number_one : OneOutcome alert-description-number-contract.ended alert-description-number.Reads.Learnt
alert_description_number_one κs a x y s u e f = (e ∙ sym f, refl)

pub change_is_change_one : OneOutcome change-is-change-contract.ended change-is-change.Reads.Learnt
change_is_change_one κs a x y s u e f = (e ∙ sym f, refl)

pub change_change_one : OneOutcome change-change-contract.ended change-change.Reads.Learnt
change_change_one κs a x y s u e f = (e ∙ sym f, refl)

pub finished_server_verify_one : OneOutcome finished-server-verify-contract.ended finished-server-verify.Reads.Learnt
finished_server_verify_one κs a x y s u e f = (e ∙ sym f, refl)

pub finished_client_verify_one : OneOutcome finished-client-verify-contract.ended finished-client-verify.Reads.Learnt
finished_client_verify_one κs a x y s u e f = (e ∙ sym f, refl)

pub finished_message_one : OneOutcome finished-message-contract.ended finished-message.Reads.Learnt
finished_message_one κs a x y s u e f = (e ∙ sym f, refl)

pub finished_judge_one : OneOutcome finished-judge-contract.ended finished-judge.Reads.Learnt
finished_judge_one κs a x y s u e f = (e ∙ sym f, refl)

pub request_is_request_one : OneOutcome request-is-request-contract.ended request-is-request.Reads.Learnt
request_is_request_one κs a x y s u e f = (e ∙ sym f, refl)

pub offer_kinds_of_one : OneOutcome offer-kinds-of-contract.ended offer-kinds-of.Reads.Learnt
offer_kinds_of_one κs a x y s u e f = (e ∙ sym f, refl)

pub offer_is_offered_one : OneOutcome offer-is-offered-contract.ended offer-is-offered.Reads.Learnt
offer_is_offered_one κs a x y s u e f = (e ∙ sym f, refl)

pub offer_write_one : OneOutcome offer-write-contract.ended offer-write.Reads.Learnt
offer_write_one κs a x y s u e f = (e.0 ∙ sym f.0, ap (λ w. (tt, (tt, (tt, (w, tt))))) (e.1 ∙ sym f.1))

pub server_hello_read_one : OneOutcome server-hello-read-contract.ended server-hello-read.Reads.Learnt
server_hello_read_one κs a x y s u e f = (e ∙ sym f, refl)

pub agreement_agree_one : OneOutcome agreement-agree-contract.ended agreement-agree.Reads.Learnt
agreement_agree_one κs a x y s u e f = (e ∙ sym f, refl)

pub agreement_judged_one : OneOutcome agreement-judged-contract.ended agreement-judged.Reads.Learnt
agreement_judged_one κs a x y s u e f = (e ∙ sym f, refl)
