-- `again`: the bytes, then the call.
use mathlib.Core.Path.{refl, sym, ◌∙◌, ap}
use lib.ListN.{length}
use Rattle.unit.specs.Hello.{again_sent, again_output}
use Rattle.lentunit.specs.Calls.{again_result, again_out, sent_result}
use Rattle.lent.proofs.Calling.{test_yes, test_no}
use Rattle.lentunit.proofs.Calling.{saved_size}
use Rattle.lentunit.proofs.again.Goals as goal

pub unit_in-requires : goal.unit_in-requires
unit_in-requires c = saved_size c.args.state.now (sym c.is_saved.ensures ∙ c.if-is_saved.true)

pub returns-then-is_saved : goal.returns-then-is_saved
unfolding again_result again_out
returns-then-is_saved c = let is = c.is_saved.ensures in
    let yes = c.if-is_saved.true in
    let out = c.args.out.now in
    let sent = c.again-sent.ensures.exact ∙ ap (λ x. again_sent x (length out)) c.unit_in.ensures in
    let written = c.again-sent.ensures.bytes ∙ ap (λ x. again_output x out) c.unit_in.ensures in
    record { exact = test_yes _ is yes (c.said.ensures ∙ ap sent_result sent); bytes = test_yes _ is yes written }

pub returns : goal.returns
unfolding again_result again_out
returns c = record { exact = test_no _ c.is_saved.ensures c.if-is_saved.false c.not_taken.ensures; bytes = test_no _ c.is_saved.ensures c.if-is_saved.false refl }
