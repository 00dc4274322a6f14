-- `why`: the size of the facts, the bytes, then the question.
use mathlib.Core.Path.{refl, sym, ◌∙◌, ap}
use native.Mathlib.Omega.{arith}
use lib.ListN.{length}
use Rattle.digest.proofs.Picks.{if_eq, if_ne}
use Rattle.why.specs.Reason.{reason_number}
use Rattle.why.specs.Why.{why_of}
use Rattle.lent.specs.Calls.{result_of}
use Rattle.lent.proofs.Calling.{test_yes, test_no}
use Rattle.lentwhy.specs.Facts.{facts_of}
use Rattle.lentwhy.specs.Calls.{why_result, why_facts}
use Rattle.lentwhy.proofs.Spelling.{saved_within}
use Rattle.lentwhy.proofs.why.Goals as goal

pub returns-then-facts-ne-SIZE : goal.returns-then-facts-ne-SIZE
unfolding why_result why_facts
returns-then-facts-ne-SIZE c = let facts = c.args.facts.now in
    record { exact = if_ne _ (length facts) 96 (omega arith) c.result_of.ensures.exact; bytes = if_ne _ (length facts) 96 (omega arith) refl }

pub returns-then-is_saved : goal.returns-then-is_saved
unfolding why_result why_facts
returns-then-is_saved c = let a = c.args in
    let is = c.is_saved.ensures.exact in
    let yes = c.if-is_saved.true in
    let held = c.connection_within-c.ensures.exact ∙ saved_within a.state.now (sym is ∙ yes) in
    let asked = c.why-w.ensures.exact ∙ ap (λ x. why_of a.edition x a.datagram.now a.random.now a.index) held in
    let named = c.result_of-then-is_saved.ensures.exact ∙ ap (result_of 0 96) (c.number.ensures.exact ∙ ap (λ x. reason_number x.reason) asked) in
    let laid = c.put_facts.ensures ∙ ap facts_of asked in
    record { exact = if_eq _ (length a.facts.now) 96 (omega arith) (test_yes _ is yes named); bytes = if_eq _ (length a.facts.now) 96 (omega arith) (test_yes _ is yes laid) }

pub returns : goal.returns
unfolding why_result why_facts
returns c = let facts = c.args.facts.now in
    let is = c.is_saved.ensures.exact in
    let left = c.if-is_saved.false in
    record { exact = if_eq _ (length facts) 96 (omega arith) (test_no _ is left c.result_of-2.ensures.exact); bytes = if_eq _ (length facts) 96 (omega arith) (test_no _ is left refl) }
