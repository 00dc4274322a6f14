-- Two outcomes that meet the contract of one public call are the same: a theorem for each call, over the very predicate of its
-- `ensures` (`Determined`, in `digest`, says what is stated). A clause `exact`, or the only one, is an equation for the result, and
-- `bytes` one for the lent output, which w stands for, in its place among the parameters. `handed` gives back a part of the lent
-- datagram: the same bytes. Of `receive_counted` the three clauses are read one by one, as `promised`.
use mathlib.Core.Path.{◌≡◌, refl, sym, ◌∙◌, ap}
use contract.Lifetimes.{Lfts}
use denote.Triple.Entry.{Args, Res}
use denote.Triple.Clauses.{AtExit}
use base.Logic.{emp}
use borrow.Fn.Read.{Read, all_models, r_fact, r_last, no_know}
use borrow.Fn.World.{World, Pr}
use borrow.Fn.Claims.{AllOf}
use Rattle.digest.specs.Determined.{OneOutcome, OneOutcomeBy, Promise}
use Rattle.connection.proofs.calls.fresh as calls-fresh
use Rattle.connection.specs.contracts.calls.fresh as calls-fresh-contract
use Rattle.connection.proofs.calls.close as calls-close
use Rattle.connection.specs.contracts.calls.close as calls-close-contract
use Rattle.connection.proofs.calls.start as calls-start
use Rattle.connection.specs.contracts.calls.start as calls-start-contract
use Rattle.connection.proofs.calls.refused as calls-refused
use Rattle.connection.specs.contracts.calls.refused as calls-refused-contract
use Rattle.connection.proofs.receive.receive as receive-receive
use Rattle.connection.specs.contracts.receive.receive as receive-receive-contract
use Rattle.connection.specs.contracts.receive.receive_counted as receive-receive-counted
use Rattle.connection.proofs.receive.counted as receive-counted
use Rattle.connection.specs.contracts.receive.counted as receive-counted-contract
use Rattle.connection.proofs.receive.refused as receive_refused
use Rattle.connection.specs.contracts.receive.refused as receive_refused-contract
use Rattle.connection.proofs.receive.refused_at as receive-refused-at
use Rattle.connection.specs.contracts.receive.refused_at as receive-refused-at-contract
use Rattle.connection.proofs.send.send_data as send-send-data
use Rattle.connection.specs.contracts.send.send_data as send-send-data-contract
use Rattle.connection.proofs.send.send_alert as send-send-alert
use Rattle.connection.specs.contracts.send.send_alert as send-send-alert-contract
use Rattle.connection.proofs.answer.handed as answer-handed
use Rattle.connection.specs.contracts.answer.handed as answer-handed-contract
use Rattle.connection.proofs.answer.reply_size as answer-reply-size
use Rattle.connection.specs.contracts.answer.reply_size as answer-reply-size-contract
use Rattle.connection.proofs.answer.refused as answer-refused
use Rattle.connection.specs.contracts.answer.refused as answer-refused-contract
use Rattle.connection.proofs.answer.level as answer-level
use Rattle.connection.specs.contracts.answer.level as answer-level-contract
use Rattle.connection.proofs.refusal.number as refusal_number_lem
use Rattle.connection.specs.contracts.refusal.number as refusal_number_lem-contract
use Rattle.connection.proofs.refusal.RefusalFromUnopened.from as refusal-from-unopened
use Rattle.connection.specs.contracts.refusal.RefusalFromUnopened.from as refusal-from-unopened-contract
use Rattle.connection.proofs.refusal.RefusalFromUnwritten.from as refusal-from-unwritten
use Rattle.connection.specs.contracts.refusal.RefusalFromUnwritten.from as refusal-from-unwritten-contract
use Rattle.connection.proofs.state.kind_of as state-kind-of
use Rattle.connection.specs.contracts.state.kind_of as state-kind-of-contract
use Rattle.connection.proofs.state.rule_of as state-rule-of
use Rattle.connection.specs.contracts.state.rule_of as state-rule-of-contract
use Rattle.connection.proofs.tally.Tally.fresh as tally-tally-fresh
use Rattle.connection.specs.contracts.tally.Tally.fresh as tally-tally-fresh-contract
use Rattle.connection.proofs.tally.Tally.with_answer as tally-tally-with-answer
use Rattle.connection.specs.contracts.tally.Tally.with_answer as tally-tally-with-answer-contract
use Rattle.connection.proofs.tally.Tally.with_answers as tally-tally-with-answers
use Rattle.connection.specs.contracts.tally.Tally.with_answers as tally-tally-with-answers-contract
use Rattle.connection.proofs.handshake.Handshake.with_state as handshake-handshake-with-state
use Rattle.connection.specs.contracts.handshake.Handshake.with_state as handshake-handshake-with-state-contract
use Rattle.connection.proofs.handshake.Handshake.with_protection as handshake-handshake-with-protection
use Rattle.connection.specs.contracts.handshake.Handshake.with_protection as handshake-handshake-with-protection-contract
use Rattle.connection.proofs.handshake.Handshake.reopened as handshake-handshake-reopened
use Rattle.connection.specs.contracts.handshake.Handshake.reopened as handshake-handshake-reopened-contract
use Rattle.connection.proofs.sent.SentRecords.fresh as sent-sentrecords-fresh
use Rattle.connection.specs.contracts.sent.SentRecords.fresh as sent-sentrecords-fresh-contract
use Rattle.connection.proofs.sent.SentRecords.with_record as sent-sentrecords-with-record
use Rattle.connection.specs.contracts.sent.SentRecords.with_record as sent-sentrecords-with-record-contract
use Rattle.connection.proofs.sent.SentRecords.with_reply as sent-sentrecords-with-reply
use Rattle.connection.specs.contracts.sent.SentRecords.with_reply as sent-sentrecords-with-reply-contract
use Rattle.connection.proofs.sent.SentRecords.matches as sent-sentrecords-matches
use Rattle.connection.specs.contracts.sent.SentRecords.matches as sent-sentrecords-matches-contract
use Rattle.connection.proofs.handshake.Handshake.barred as handshake-handshake-barred
use Rattle.connection.specs.contracts.handshake.Handshake.barred as handshake-handshake-barred-contract
use Rattle.connection.proofs.handshake.blank as handshake-blank
use Rattle.connection.specs.contracts.handshake.blank as handshake-blank-contract
use Rattle.connection.proofs.handshake.made as handshake-made
use Rattle.connection.specs.contracts.handshake.made as handshake-made-contract
use Rattle.connection.proofs.asked.under_way as asked-under-way
use Rattle.connection.specs.contracts.asked.under_way as asked-under-way-contract
use Rattle.connection.proofs.connection.alone as connection-alone
use Rattle.connection.specs.contracts.connection.alone as connection-alone-contract
use Rattle.connection.proofs.handshake.newcomer as handshake-newcomer
use Rattle.connection.specs.contracts.handshake.newcomer as handshake-newcomer-contract
use Rattle.connection.proofs.handshake.none_started as handshake-none-started
use Rattle.connection.specs.contracts.handshake.none_started as handshake-none-started-contract
use Rattle.connection.proofs.point.point_at as point-point-at
use Rattle.connection.specs.contracts.point.point_at as point-point-at-contract
use Rattle.connection.proofs.point.asked_at as point-asked-at
use Rattle.connection.specs.contracts.point.asked_at as point-asked-at-contract

pub calls_fresh_one : OneOutcome calls-fresh-contract.ended calls-fresh.Reads.Learnt
calls_fresh_one κs a x y s u e f = (e ∙ sym f, refl)

pub calls_close_one : OneOutcome calls-close-contract.ended calls-close.Reads.Learnt
calls_close_one κs a x y s u e f = (e ∙ sym f, refl)

pub calls_start_one : OneOutcome calls-start-contract.ended calls-start.Reads.Learnt
calls_start_one κs a x y s u e f = (e ∙ sym f, refl)

pub receive_receive_one : OneOutcome receive-receive-contract.ended receive-receive.Reads.Learnt
receive_receive_one κs a x y s u e f = (e.0 ∙ sym f.0, ap (λ w. (tt, (tt, (tt, (w, tt))))) (e.1 ∙ sym f.1))

-- the three clauses of `receive_counted`, read one by one
module _ (κs : Lfts 4) (a : Args receive-receive-counted.signature κs) (x : Res receive-receive-counted.signature κs)
    (s : AtExit receive-receive-counted.ended κs) where
  abbrev ensured : (w : World) → Pr w
  ensured w =
      (receive-receive-counted.clauses w.𝓛 w.𝓜.mem w.𝓡.run κs a).ensures tt x s

  abbrev clauses_read : Read (λ w. emp w.𝓤) no_know ensured
  clauses_read = all_models ensured (λ w. r_fact _ _ (r_fact _ _ (r_last _))) (λ w. refl) (λ w. refl) (λ w. refl)

abbrev promised : Promise receive-receive-counted.ended
promised κs a x s = AllOf (clauses_read κs a x s).tells

pub receive_receive_counted_one : OneOutcome receive-receive-counted.ended promised
receive_receive_counted_one κs a x y s u e f = (
  e.0 ∙ sym f.0,
  λ i. (tt, (tt, (tt, ((e.1.0 ∙ sym f.1.0) i, ((e.1.1 ∙ sym f.1.1) i, tt))))),
)

pub receive_counted_one : OneOutcome receive-counted-contract.ended receive-counted.Reads.Learnt
receive_counted_one κs a x y s u e f = (e ∙ sym f, refl)

pub send_send_data_one : OneOutcome send-send-data-contract.ended send-send-data.Reads.Learnt
send_send_data_one κs a x y s u e f = (e.0 ∙ sym f.0, ap (λ w. (tt, (tt, (w, tt)))) (e.1 ∙ sym f.1))

pub send_send_alert_one : OneOutcome send-send-alert-contract.ended send-send-alert.Reads.Learnt
send_send_alert_one κs a x y s u e f = (e.0 ∙ sym f.0, ap (λ w. (tt, (tt, (tt, (tt, (tt, (w, tt))))))) (e.1 ∙ sym f.1))

pub answer_handed_one : OneOutcomeBy answer-handed-contract.ended (λ κs x y. x.now ≡ y.now) answer-handed.Reads.Learnt
answer_handed_one κs a x y s u e f = (e ∙ sym f, refl)

pub answer_reply_size_one : OneOutcome answer-reply-size-contract.ended answer-reply-size.Reads.Learnt
answer_reply_size_one κs a x y s u e f = (e ∙ sym f, refl)

pub refusal_number_one : OneOutcome refusal_number_lem-contract.ended refusal_number_lem.Reads.Learnt
refusal_number_one κs a x y s u e f = (e ∙ sym f, refl)

pub refusal_refusal_from_unopened_one : OneOutcome refusal-from-unopened-contract.ended refusal-from-unopened.Reads.Learnt
refusal_refusal_from_unopened_one κs a x y s u e f = (e ∙ sym f, refl)

pub refusal_refusal_from_unwritten_one : OneOutcome refusal-from-unwritten-contract.ended refusal-from-unwritten.Reads.Learnt
refusal_refusal_from_unwritten_one κs a x y s u e f = (e ∙ sym f, refl)

pub state_kind_of_one : OneOutcome state-kind-of-contract.ended state-kind-of.Reads.Learnt
state_kind_of_one κs a x y s u e f = (e ∙ sym f, refl)

pub state_rule_of_one : OneOutcome state-rule-of-contract.ended state-rule-of.Reads.Learnt
state_rule_of_one κs a x y s u e f = (e ∙ sym f, refl)

pub tally_tally_fresh_one : OneOutcome tally-tally-fresh-contract.ended tally-tally-fresh.Reads.Learnt
tally_tally_fresh_one κs a x y s u e f = (e ∙ sym f, refl)

pub tally_tally_with_answer_one : OneOutcome tally-tally-with-answer-contract.ended tally-tally-with-answer.Reads.Learnt
tally_tally_with_answer_one κs a x y s u e f = (e ∙ sym f, refl)

pub tally_tally_with_answers_one : OneOutcome tally-tally-with-answers-contract.ended tally-tally-with-answers.Reads.Learnt
tally_tally_with_answers_one κs a x y s u e f = (e ∙ sym f, refl)

pub handshake_handshake_with_state_one : OneOutcome handshake-handshake-with-state-contract.ended handshake-handshake-with-state.Reads.Learnt
handshake_handshake_with_state_one κs a x y s u e f = (e ∙ sym f, refl)

pub handshake_handshake_with_protection_one : OneOutcome handshake-handshake-with-protection-contract.ended handshake-handshake-with-protection.Reads.Learnt
handshake_handshake_with_protection_one κs a x y s u e f = (e ∙ sym f, refl)

pub handshake_handshake_reopened_one : OneOutcome handshake-handshake-reopened-contract.ended handshake-handshake-reopened.Reads.Learnt
handshake_handshake_reopened_one κs a x y s u e f = (e ∙ sym f, refl)

pub handshake_handshake_barred_one : OneOutcome handshake-handshake-barred-contract.ended handshake-handshake-barred.Reads.Learnt
handshake_handshake_barred_one κs a x y s u e f = (e ∙ sym f, refl)

pub handshake_blank_one : OneOutcome handshake-blank-contract.ended handshake-blank.Reads.Learnt
handshake_blank_one κs a x y s u e f = (e ∙ sym f, refl)

pub handshake_made_one : OneOutcome handshake-made-contract.ended handshake-made.Reads.Learnt
handshake_made_one κs a x y s u e f = (e ∙ sym f, refl)

pub calls_refused_one : OneOutcome calls-refused-contract.ended calls-refused.Reads.Learnt
calls_refused_one κs a x y s u e f = (e ∙ sym f, refl)

pub receive_refused_one : OneOutcome receive_refused-contract.ended receive_refused.Reads.Learnt
receive_refused_one κs a x y s u e f = (e ∙ sym f, refl)

pub receive_refused_at_one : OneOutcome receive-refused-at-contract.ended receive-refused-at.Reads.Learnt
receive_refused_at_one κs a x y s u e f = (e ∙ sym f, refl)

pub answer_refused_one : OneOutcome answer-refused-contract.ended answer-refused.Reads.Learnt
answer_refused_one κs a x y s u e f = (e ∙ sym f, refl)

pub answer_level_one : OneOutcome answer-level-contract.ended answer-level.Reads.Learnt
answer_level_one κs a x y s u e f = (e ∙ sym f, refl)

pub sent_sentrecords_fresh_one : OneOutcome sent-sentrecords-fresh-contract.ended sent-sentrecords-fresh.Reads.Learnt
sent_sentrecords_fresh_one κs a x y s u e f = (e ∙ sym f, refl)

pub sent_sentrecords_with_record_one : OneOutcome sent-sentrecords-with-record-contract.ended sent-sentrecords-with-record.Reads.Learnt
sent_sentrecords_with_record_one κs a x y s u e f = (e ∙ sym f, refl)

pub sent_sentrecords_with_reply_one : OneOutcome sent-sentrecords-with-reply-contract.ended sent-sentrecords-with-reply.Reads.Learnt
sent_sentrecords_with_reply_one κs a x y s u e f = (e ∙ sym f, refl)

pub sent_sentrecords_matches_one : OneOutcome sent-sentrecords-matches-contract.ended sent-sentrecords-matches.Reads.Learnt
sent_sentrecords_matches_one κs a x y s u e f = (e ∙ sym f, refl)

pub handshake_none_started_one : OneOutcome handshake-none-started-contract.ended handshake-none-started.Reads.Learnt
handshake_none_started_one κs a x y s u e f = (e ∙ sym f, refl)

pub handshake_newcomer_one : OneOutcome handshake-newcomer-contract.ended handshake-newcomer.Reads.Learnt
handshake_newcomer_one κs a x y s u e f = (e ∙ sym f, refl)

pub connection_alone_one : OneOutcome connection-alone-contract.ended connection-alone.Reads.Learnt
connection_alone_one κs a x y s u e f = (e ∙ sym f, refl)

pub asked_under_way_one : OneOutcome asked-under-way-contract.ended asked-under-way.Reads.Learnt
asked_under_way_one κs a x y s u e f = (e ∙ sym f, refl)

pub point_point_at_one : OneOutcome point-point-at-contract.ended point-point-at.Reads.Learnt
point_point_at_one κs a x y s u e f = (e.0 ∙ sym f.0, refl)

pub point_asked_at_one : OneOutcome point-asked-at-contract.ended point-asked-at.Reads.Learnt
point_asked_at_one κs a x y s u e f = (e ∙ sym f, refl)
