-- `send_data`: the bytes, then the call.
use mathlib.Core.Path.{refl, sym, ◌∙◌, ap}
use lib.ListN.{length}
use Rattle.connection.specs.Send.{data_sent, data_output}
use Rattle.lent.specs.Calls.{data_result, data_state, data_out, sent_result, sent_state, sent_loads, data_loads}
use Rattle.lent.proofs.Calling.{saved_size, test_yes, test_no}
use Rattle.lent.proofs.send_data.Goals as goal

pub connection_in-requires : goal.connection_in-requires
connection_in-requires c = saved_size c.args.state.now (sym c.is_saved.ensures.exact ∙ c.if-is_saved.true)

pub leave_sent-requires : goal.leave_sent-requires
leave_sent-requires c = saved_size c.args.state.now (sym c.is_saved.ensures.exact ∙ c.if-is_saved.true)

pub returns-then-is_saved : goal.returns-then-is_saved
unfolding data_result data_state data_out data_loads
returns-then-is_saved c = let is = c.is_saved.ensures.exact in
    let yes = c.if-is_saved.true in
    let state = c.args.state.now in
    let bytes = c.args.«data».now in
    let out = c.args.out.now in
    let sent = c.send_data-sent.ensures.exact ∙ ap (λ x. data_sent x bytes (length out)) c.connection_in.ensures in
    let written = c.send_data-sent.ensures.bytes ∙ ap (λ x. data_output x bytes out) c.connection_in.ensures in
    record { exact = test_yes _ is yes (c.leave_sent.ensures.value ∙ ap sent_result sent); connection = test_yes _ is yes (c.leave_sent.ensures.state_after ∙ ap (sent_state state) sent); bytes = test_yes _ is yes written; loads = test_yes _ is yes (c.leave_sent.ensures.state_after_2 ∙ ap (sent_loads state) sent) }

pub returns : goal.returns
unfolding data_result data_state data_out data_loads
returns c = record { exact = test_no _ c.is_saved.ensures.exact c.if-is_saved.false c.not_taken.ensures; connection = test_no _ c.is_saved.ensures.exact c.if-is_saved.false refl; bytes = test_no _ c.is_saved.ensures.exact c.if-is_saved.false refl; loads = test_no _ c.is_saved.ensures.exact c.if-is_saved.false refl }
