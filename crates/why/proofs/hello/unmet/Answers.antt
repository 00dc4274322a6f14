-- `hello::unmet`: the condition, and where its field stands.
use mathlib.Core.Path.{◌∙◌, ap}
use native.Mathlib.Omega.{arith}
use Prim.Native.Nat.{◌+◌}
use Rattle.message.specs.Hello.{read_of}
use Rattle.why.specs.declared.reason.Reason.TheVariants.{Unacceptable}
use Rattle.why.specs.Hello.{unmet_of, unmet_by, unacceptable_at, condition_in, place_in}
use Rattle.why.proofs.Places.{place_bound}
use Rattle.why.proofs.hello.unmet.Goals as goal

pub overflow_add-result : goal.overflow_add-result
overflow_add-result c = let args = c.args in
    let m = args.m.now in
    let condition = c.condition_in-condition.result in
    let is = c.place_in-place.ensures ∙ ap (λ x. place_in x condition) c.read.ensures in
    omega (arith, place_bound m condition c.place_in-place.result is, c.requires)

pub returns : goal.returns
unfolding unmet_of
returns c = let args = c.args in
    let m = args.m.now in
    let condition = c.condition_in-condition.result in
    let there = c.place_in-place.ensures ∙ ap (λ x. place_in x condition) c.read.ensures in
    let first = c.condition_in-condition.ensures ∙ ap condition_in c.hear.ensures in
    ap (Unacceptable condition (args.at + c.place_in-place.result.from)) c.less.ensures
    ∙ ap (unacceptable_at args.at condition) there
    ∙ ap (unmet_by args.at (read_of m)) first
