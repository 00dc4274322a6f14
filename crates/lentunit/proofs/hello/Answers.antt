-- `hello`: the bytes, then the call.
use mathlib.Core.Path.{refl, sym, ◌∙◌, ap}
use lib.ListN.{length}
use Rattle.unit.specs.Hello.{hello_sent, hello_output}
use Rattle.lentunit.specs.Calls.{hello_result, hello_state, hello_out, sent_result, sent_state, sent_loads, hello_loads}
use Rattle.lent.proofs.Calling.{test_yes, test_no}
use Rattle.lentunit.proofs.Calling.{saved_size}
use Rattle.lentunit.proofs.hello.Goals as goal

pub unit_in-requires : goal.unit_in-requires
unit_in-requires c = saved_size c.args.state.now (sym c.is_saved.ensures ∙ c.if-is_saved.true)

pub leave_sent-requires : goal.leave_sent-requires
leave_sent-requires c = saved_size c.args.state.now (sym c.is_saved.ensures ∙ c.if-is_saved.true)

pub returns-then-is_saved : goal.returns-then-is_saved
unfolding hello_result hello_state hello_out hello_loads
returns-then-is_saved c = let is = c.is_saved.ensures in
    let yes = c.if-is_saved.true in
    let state = c.args.state.now in
    let random = c.args.random.now in
    let macs = c.args.macs.now in
    let refresh = c.args.refresh in
    let out = c.args.out.now in
    let sent = c.hello-sent.ensures.exact ∙ ap (λ x. hello_sent x random macs refresh (length out)) c.unit_in.ensures in
    let written = c.hello-sent.ensures.bytes ∙ ap (λ x. hello_output x random macs refresh out) c.unit_in.ensures in
    record { exact = test_yes _ is yes (c.leave_sent.ensures.value ∙ ap sent_result sent); unit = test_yes _ is yes (c.leave_sent.ensures.state_after ∙ ap (sent_state state) sent); bytes = test_yes _ is yes written; loads = test_yes _ is yes (c.leave_sent.ensures.state_after_2 ∙ ap (sent_loads state) sent) }

pub returns : goal.returns
unfolding hello_result hello_state hello_out hello_loads
returns c = record { exact = test_no _ c.is_saved.ensures c.if-is_saved.false c.not_taken.ensures; unit = test_no _ c.is_saved.ensures c.if-is_saved.false refl; bytes = test_no _ c.is_saved.ensures c.if-is_saved.false refl; loads = test_no _ c.is_saved.ensures c.if-is_saved.false refl }
