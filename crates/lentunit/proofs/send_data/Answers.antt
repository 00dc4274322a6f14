-- `send_data`: the bytes, then the call.
use mathlib.Core.Path.{refl, sym, ◌∙◌, ap}
use lib.ListN.{length}
use Rattle.unit.specs.Send.{data_sent, data_output}
use Rattle.lentunit.specs.Calls.{data_result, data_state, data_out, sent_result, sent_state, sent_loads, data_loads}
use Rattle.lent.proofs.Calling.{test_yes, test_no}
use Rattle.lentunit.proofs.Calling.{saved_size}
use Rattle.lentunit.proofs.send_data.Goals as goal

pub unit_in-requires : goal.unit_in-requires
unit_in-requires c = saved_size c.args.state.now (sym c.is_saved.ensures ∙ c.if-is_saved.true)

pub leave_sent-requires : goal.leave_sent-requires
leave_sent-requires c = saved_size c.args.state.now (sym c.is_saved.ensures ∙ c.if-is_saved.true)

pub returns-then-is_saved : goal.returns-then-is_saved
unfolding data_result data_state data_out data_loads
returns-then-is_saved c = let is = c.is_saved.ensures in
    let yes = c.if-is_saved.true in
    let state = c.args.state.now in
    let bytes = c.args.«data».now in
    let out = c.args.out.now in
    let sent = c.send_data-sent.ensures.exact ∙ ap (λ x. data_sent x bytes (length out)) c.unit_in.ensures in
    let written = c.send_data-sent.ensures.bytes ∙ ap (λ x. data_output x bytes out) c.unit_in.ensures in
    record { exact = test_yes _ is yes (c.leave_sent.ensures.value ∙ ap sent_result sent); unit = test_yes _ is yes (c.leave_sent.ensures.state_after ∙ ap (sent_state state) sent); bytes = test_yes _ is yes written; loads = test_yes _ is yes (c.leave_sent.ensures.state_after_2 ∙ ap (sent_loads state) sent) }

pub returns : goal.returns
unfolding data_result data_state data_out data_loads
returns c = record { exact = test_no _ c.is_saved.ensures c.if-is_saved.false c.not_taken.ensures; unit = test_no _ c.is_saved.ensures c.if-is_saved.false refl; bytes = test_no _ c.is_saved.ensures c.if-is_saved.false refl; loads = test_no _ c.is_saved.ensures c.if-is_saved.false refl }
