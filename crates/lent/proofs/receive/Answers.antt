-- `receive`: what is lent, then the call.
use mathlib.Core.Path.{refl, sym, ◌∙◌, ap}
use lib.ListN.{length}
use Rattle.connection.specs.Receive.{received_of, output_of}
use Rattle.connection.specs.Tally.{counted_of}
use Rattle.lent.specs.Saved.{saved_of, loaded, Is}
use Rattle.lent.specs.Report.{report_of}
use Rattle.lent.specs.Counts.{tally_bytes, tally_in}
use Rattle.lent.specs.Calls.{receive_result, receive_state, receive_tally, receive_out, receive_answers, receive_loads, taken_result, where_taken}
use Rattle.lent.proofs.Calling.{lent_sizes, test_yes, test_no}
use Rattle.lent.proofs.receive.Goals as goal

pub connection_in-requires : goal.connection_in-requires
connection_in-requires c = (lent_sizes c.args.state.now _ _ (sym c.lent_for.ensures.exact ∙ c.if-lent_for.true)).0

pub leave_received-requires : goal.leave_received-requires
leave_received-requires c = let sizes = lent_sizes c.args.state.now _ _ (sym c.lent_for.ensures.exact ∙ c.if-lent_for.true) in (sizes.0, (sizes.1.0, sizes.1.1))

pub returns-then-lent_for : goal.returns-then-lent_for
unfolding receive_result receive_state receive_tally receive_out receive_answers receive_loads
returns-then-lent_for c = let is = c.lent_for.ensures.exact in
    let yes = c.if-lent_for.true in
    let b = c.args.state.now in
    let t = c.args.tally.now in
    let d = c.args.datagram.now in
    let random = c.args.random.now in
    let out = c.args.out.now in
    let got = c.receive-received.ensures.exact ∙ ap (λ x. received_of x d random (length out)) c.connection_in.ensures in
    let result = c.leave_received.ensures.value ∙ ap (λ g. taken_result g.written g.taken) got in
    let left = c.leave_received.ensures.state_after ∙ ap (λ g. where_taken g.taken (saved_of g.connection) b) got in
    let counted = c.leave_received.ensures.tally_after ∙ ap (λ g. where_taken g.taken (tally_bytes (counted_of (tally_in t) g.answers)) t) got in
    let written = c.receive-received.ensures.bytes ∙ ap (λ x. output_of x d random out) c.connection_in.ensures in
    let answered = c.leave_received.ensures.answers_after ∙ ap (λ g. where_taken g.taken (report_of g.answers) c.args.answers.now) got in
    let loads = c.leave_received.ensures.state_after_2 ∙ ap (λ g. where_taken g.taken (Is g.connection) (loaded b)) got in
    record { exact = test_yes _ is yes result; connection = test_yes _ is yes left; counted = test_yes _ is yes counted; bytes = test_yes _ is yes written; answered = test_yes _ is yes answered; loads = test_yes _ is yes loads }

pub returns : goal.returns
unfolding receive_result receive_state receive_tally receive_out receive_answers receive_loads
returns c = record { exact = test_no _ c.lent_for.ensures.exact c.if-lent_for.false c.not_taken.ensures; connection = test_no _ c.lent_for.ensures.exact c.if-lent_for.false refl; counted = test_no _ c.lent_for.ensures.exact c.if-lent_for.false refl; bytes = test_no _ c.lent_for.ensures.exact c.if-lent_for.false refl; answered = test_no _ c.lent_for.ensures.exact c.if-lent_for.false refl; loads = test_no _ c.lent_for.ensures.exact c.if-lent_for.false refl }
