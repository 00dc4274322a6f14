-- `ask::malformed`: protected, a hello, or another clear content.
use mathlib.Core.Path.{◌∙◌, ap}
use Rattle.why.specs.Why.{is_hello}
use Rattle.why.proofs.Facts.{fragment_is, malformed_protected, malformed_hello, malformed_clear}
use Rattle.why.proofs.ask.malformed.Goals as goal

pub returns-then-r : goal.returns-then-r
returns-then-r c = let args = c.args in
    malformed_protected args.asked args.whom args.d.now args.r _ (fragment_is args.d.now args.r) c.under_of.result c.size.result _ c.bad_protected.result c.if-r.true c.under_of.ensures c.size.ensures.exact c.without_code.ensures c.bad_protected.ensures

pub returns-then-is_hello : goal.returns-then-is_hello
returns-then-is_hello c = let args = c.args in
    malformed_hello args.asked args.whom args.d.now args.r _ (fragment_is args.d.now args.r) c.is_hello.result c.field_of.result c.if-r.false (c.is_hello.ensures ∙ ap is_hello c.kind_in.ensures) c.if-is_hello.true c.field_of.ensures

pub returns : goal.returns
returns c = let args = c.args in
    malformed_clear args.asked args.whom args.d.now args.r _ (fragment_is args.d.now args.r) c.is_hello.result c.first_of.result c.second_of.result c.if-r.false (c.is_hello.ensures ∙ ap is_hello c.kind_in.ensures) c.if-is_hello.false c.first_of.ensures c.second_of.ensures
