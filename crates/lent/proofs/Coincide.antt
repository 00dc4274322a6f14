-- Two outcomes that meet the contract of one exported call are the same: a theorem for each call, over the very predicate of its
-- `ensures` (`Determined`, in `digest`, says what is stated). `exact` is an equation for the result; each other clause but `loads`,
-- which is not needed, is one for a lent buffer, in its place among the parameters.
use mathlib.Core.Path.{refl, sym, ◌∙◌}
use Prim.Native.Nat.{ℕ}
use mir.Syntax.{w64}
use mir.Val.{Fits}
use denote.Param.{number}
use Rattle.digest.specs.Determined.{OneOutcome}
use Rattle.lent.proofs.fresh as fresh
use Rattle.lent.specs.contracts.fresh as fresh-contract
use Rattle.lent.proofs.receive as receive
use Rattle.lent.specs.contracts.receive as receive-contract
use Rattle.lent.proofs.send_data as send_data
use Rattle.lent.specs.contracts.send_data as send_data-contract
use Rattle.lent.proofs.send_alert as send_alert
use Rattle.lent.specs.contracts.send_alert as send_alert-contract
use Rattle.lent.proofs.close as close
use Rattle.lent.specs.contracts.close as close-contract
use Rattle.lent.proofs.start as start
use Rattle.lent.specs.contracts.start as start-contract
use Rattle.lent.proofs.state as state
use Rattle.lent.specs.contracts.state as state-contract
use Rattle.lent.proofs.arrived as arrived
use Rattle.lent.specs.contracts.arrived as arrived-contract
use Rattle.lent.proofs.width as width
use Rattle.lent.specs.contracts.width as width-contract
use Rattle.lent.proofs.mac as mac
use Rattle.lent.specs.contracts.mac as mac-contract
use Rattle.lent.proofs.load.lent_for as load-lent-for
use Rattle.lent.specs.contracts.load.lent_for as load-lent-for-contract
use Rattle.lent.proofs.result.result_of as result-result-of
use Rattle.lent.specs.contracts.result.result_of as result-result-of-contract
use Rattle.lent.proofs.bytes.two as bytes-two
use Rattle.lent.specs.contracts.bytes.two as bytes-two-contract
use Rattle.lent.proofs.bytes.four as bytes-four
use Rattle.lent.specs.contracts.bytes.four as bytes-four-contract
use Rattle.lent.proofs.bytes.eight as bytes-eight
use Rattle.lent.specs.contracts.bytes.eight as bytes-eight-contract
use Rattle.lent.proofs.bytes.two_within as bytes-two-within
use Rattle.lent.specs.contracts.bytes.two_within as bytes-two-within-contract
use Rattle.lent.proofs.bytes.four_within as bytes-four-within
use Rattle.lent.specs.contracts.bytes.four_within as bytes-four-within-contract
use Rattle.lent.proofs.bytes.eight_within as bytes-eight-within
use Rattle.lent.specs.contracts.bytes.eight_within as bytes-eight-within-contract
use Rattle.lent.proofs.counts.tally_within as counts-tally-within
use Rattle.lent.specs.contracts.counts.tally_within as counts-tally-within-contract
use Rattle.lent.proofs.counts.lay_tally as counts-lay-tally
use Rattle.lent.specs.contracts.counts.lay_tally as counts-lay-tally-contract
use Rattle.lent.proofs.report.lay_entry as report-lay-entry
use Rattle.lent.specs.contracts.report.lay_entry as report-lay-entry-contract
use Rattle.lent.proofs.load.sent_within as load-sent-within
use Rattle.lent.specs.contracts.load.sent_within as load-sent-within-contract
use Rattle.lent.proofs.load.is_saved as load-is-saved
use Rattle.lent.specs.contracts.load.is_saved as load-is-saved-contract
use Rattle.lent.proofs.load.connection_within as load-connection-within
use Rattle.lent.specs.contracts.load.connection_within as load-connection-within-contract
use Rattle.lent.proofs.save.state_number as save-state-number
use Rattle.lent.specs.contracts.save.state_number as save-state-number-contract
use Rattle.lent.proofs.save.lay_sent as save-lay-sent
use Rattle.lent.specs.contracts.save.lay_sent as save-lay-sent-contract
use Rattle.lent.proofs.bytes.bytes_within as bytes-bytes-within
use Rattle.lent.specs.contracts.bytes.bytes_within as bytes-bytes-within-contract
use Rattle.lent.proofs.parts.mac_numbered as parts-mac-numbered
use Rattle.lent.specs.contracts.parts.mac_numbered as parts-mac-numbered-contract
use Rattle.lent.proofs.parts.protection_in as parts-protection-in
use Rattle.lent.specs.contracts.parts.protection_in as parts-protection-in-contract
use Rattle.lent.proofs.parts.window_in as parts-window-in
use Rattle.lent.specs.contracts.parts.window_in as parts-window-in-contract
use Rattle.lent.proofs.parts.session_bytes as parts-session-bytes
use Rattle.lent.specs.contracts.parts.session_bytes as parts-session-bytes-contract
use Rattle.lent.proofs.parts.agreed_bytes as parts-agreed-bytes
use Rattle.lent.specs.contracts.parts.agreed_bytes as parts-agreed-bytes-contract
use Rattle.lent.proofs.parts.standing_bytes as parts-standing-bytes
use Rattle.lent.specs.contracts.parts.standing_bytes as parts-standing-bytes-contract
use Rattle.lent.proofs.parts.words as parts-words
use Rattle.lent.specs.contracts.parts.words as parts-words-contract
use Rattle.lent.proofs.report.Entry.new as report-entry-new
use Rattle.lent.specs.contracts.report.Entry.new as report-entry-new-contract
use Rattle.lent.proofs.result.not_taken as result-not-taken
use Rattle.lent.specs.contracts.result.not_taken as result-not-taken-contract

pub fresh_one_lem : OneOutcome fresh-contract.ended fresh.Reads.Learnt
fresh_one_lem κs a x y s u e f = (
  e.0 ∙ sym f.0,
  λ i. (tt, (tt, (tt, ((e.1.0 ∙ sym f.1.0) i, tt)))),
)

pub receive_one : OneOutcome receive-contract.ended receive.Reads.Learnt
receive_one κs a x y s u e f = (
  e.0 ∙ sym f.0,
  λ i. ((e.1.0 ∙ sym f.1.0) i, ((e.1.1.0 ∙ sym f.1.1.0) i, (tt, (tt, ((e.1.1.1.0 ∙ sym f.1.1.1.0) i, ((e.1.1.1.1.0 ∙ sym f.1.1.1.1.0) i, tt)))))),
)

pub send_data_one : OneOutcome send_data-contract.ended send_data.Reads.Learnt
send_data_one κs a x y s u e f = (
  e.0 ∙ sym f.0,
  λ i. ((e.1.0 ∙ sym f.1.0) i, (tt, ((e.1.1.0 ∙ sym f.1.1.0) i, tt))),
)

pub send_alert_one : OneOutcome send_alert-contract.ended send_alert.Reads.Learnt
send_alert_one κs a x y s u e f = (
  e.0 ∙ sym f.0,
  λ i. ((e.1.0 ∙ sym f.1.0) i, (tt, (tt, (tt, (tt, ((e.1.1.0 ∙ sym f.1.1.0) i, tt)))))),
)

pub close_one : OneOutcome close-contract.ended close.Reads.Learnt
close_one κs a x y s u e f = (
  e.0 ∙ sym f.0,
  λ i. ((e.1.0 ∙ sym f.1.0) i, tt),
)

pub start_one : OneOutcome start-contract.ended start.Reads.Learnt
start_one κs a x y s u e f = (
  e.0 ∙ sym f.0,
  λ i. ((e.1.0 ∙ sym f.1.0) i, tt),
)

pub state_one : OneOutcome state-contract.ended state.Reads.Learnt
state_one κs a x y s u e f = (e ∙ sym f, refl)

pub arrived_one : OneOutcome arrived-contract.ended arrived.Reads.Learnt
arrived_one κs a x y s u e f = (e ∙ sym f, refl)

pub width_one : OneOutcome width-contract.ended width.Reads.Learnt
width_one κs a x y s u e f = (e ∙ sym f, refl)

pub mac_one : OneOutcome mac-contract.ended mac.Reads.Learnt
mac_one κs a x y s u e f = (
  e.0 ∙ sym f.0,
  λ i. (tt, (tt, ((e.1 ∙ sym f.1) i, tt))),
)

pub load_lent_for_one : OneOutcome load-lent-for-contract.ended load-lent-for.Reads.Learnt
load_lent_for_one κs a x y s u e f = (e ∙ sym f, refl)

pub result_result_of_one : OneOutcome result-result-of-contract.ended result-result-of.Reads.Learnt
result_result_of_one κs a x y s u e f = (e ∙ sym f, refl)

pub bytes_two_one : OneOutcome bytes-two-contract.ended bytes-two.Reads.Learnt
bytes_two_one κs a x y s u e f = (e ∙ sym f, refl)

pub bytes_four_one : OneOutcome bytes-four-contract.ended bytes-four.Reads.Learnt
bytes_four_one κs a x y s u e f = (e ∙ sym f, refl)

pub bytes_eight_one : OneOutcome bytes-eight-contract.ended bytes-eight.Reads.Learnt
bytes_eight_one κs a x y s u e f = (e ∙ sym f, refl)

pub bytes_two_within_one : OneOutcome bytes-two-within-contract.ended bytes-two-within.Reads.Learnt
bytes_two_within_one κs a x y s u e f = (e ∙ sym f, refl)

pub bytes_four_within_one : OneOutcome bytes-four-within-contract.ended bytes-four-within.Reads.Learnt
bytes_four_within_one κs a x y s u e f = (e ∙ sym f, refl)

pub bytes_eight_within_one : OneOutcome bytes-eight-within-contract.ended bytes-eight-within.Reads.Learnt
bytes_eight_within_one κs a x y s u e f = (e ∙ sym f, refl)

pub counts_tally_within_one : OneOutcome counts-tally-within-contract.ended counts-tally-within.Reads.Learnt
counts_tally_within_one κs a x y s u e f = (e ∙ sym f, refl)

pub load_sent_within_one : OneOutcome load-sent-within-contract.ended load-sent-within.Reads.Learnt
load_sent_within_one κs a x y s u e f = (e ∙ sym f, refl)

pub load_is_saved_one : OneOutcome load-is-saved-contract.ended load-is-saved.Reads.Learnt
load_is_saved_one κs a x y s u e f = (e ∙ sym f, refl)

pub load_connection_within_one : OneOutcome load-connection-within-contract.ended load-connection-within.Reads.Learnt
load_connection_within_one κs a x y s u e f = (e ∙ sym f, refl)

pub save_state_number_one : OneOutcome save-state-number-contract.ended save-state-number.Reads.Learnt
save_state_number_one κs a x y s u e f = (e ∙ sym f, refl)

pub counts_lay_tally_one : OneOutcome counts-lay-tally-contract.ended counts-lay-tally.Reads.Learnt
counts_lay_tally_one κs a x y s u e f = (refl, λ i. ((e ∙ sym f) i, (tt, tt)))

pub report_lay_entry_one : OneOutcome report-lay-entry-contract.ended report-lay-entry.Reads.Learnt
report_lay_entry_one κs a x y s u e f = (refl, λ i. ((e ∙ sym f) i, (tt, (tt, tt))))

pub save_lay_sent_one : OneOutcome save-lay-sent-contract.ended save-lay-sent.Reads.Learnt
save_lay_sent_one κs a x y s u e f = (refl, λ i. ((e.0 ∙ sym f.0) i, (tt, tt)))

pub bytes_bytes_within_one : (n : ℕ) (fits : Fits w64 n) → OneOutcome (bytes-bytes-within-contract.ended (number n)) (bytes-bytes-within.Reads.Learnt n fits)
bytes_bytes_within_one n fits κs a x y s u e f = (e ∙ sym f, refl)

pub parts_mac_numbered_one : OneOutcome parts-mac-numbered-contract.ended parts-mac-numbered.Reads.Learnt
parts_mac_numbered_one κs a x y s u e f = (e ∙ sym f, refl)

pub parts_protection_in_one : OneOutcome parts-protection-in-contract.ended parts-protection-in.Reads.Learnt
parts_protection_in_one κs a x y s u e f = (e ∙ sym f, refl)

pub parts_window_in_one : OneOutcome parts-window-in-contract.ended parts-window-in.Reads.Learnt
parts_window_in_one κs a x y s u e f = (e ∙ sym f, refl)

pub parts_session_bytes_one : OneOutcome parts-session-bytes-contract.ended parts-session-bytes.Reads.Learnt
parts_session_bytes_one κs a x y s u e f = (e.0 ∙ sym f.0, refl)

pub parts_agreed_bytes_one : OneOutcome parts-agreed-bytes-contract.ended parts-agreed-bytes.Reads.Learnt
parts_agreed_bytes_one κs a x y s u e f = (e.0 ∙ sym f.0, refl)

pub parts_standing_bytes_one : OneOutcome parts-standing-bytes-contract.ended parts-standing-bytes.Reads.Learnt
parts_standing_bytes_one κs a x y s u e f = (e.0 ∙ sym f.0, refl)

pub parts_words_one : OneOutcome parts-words-contract.ended parts-words.Reads.Learnt
parts_words_one κs a x y s u e f = (e.0 ∙ sym f.0, refl)

pub report_entry_new_one : OneOutcome report-entry-new-contract.ended report-entry-new.Reads.Learnt
report_entry_new_one κs a x y s u e f = (e ∙ sym f, refl)

pub result_not_taken_one : OneOutcome result-not-taken-contract.ended result-not-taken.Reads.Learnt
result_not_taken_one κs a x y s u e f = (e ∙ sym f, refl)
