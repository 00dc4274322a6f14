-- `asked::finished`: in Spec the code decides.
use mathlib.Core.Path.{◌≡◌, sym, ◌∙◌}
use mathlib.Core.Bool.{true, false}
use Rattle.digest.proofs.Picks.{picks}
use Rattle.connection.specs.Asked.{is_spec, right_under}
use Rattle.connection.proofs.asked.finished.Goals as goal

pub returns-then-not-is_spec : goal.returns-then-not-is_spec
returns-then-not-is_spec c = let spec : is_spec c.args.started.state ≡ false = sym c.is_spec.ensures ∙ c.if-not-is_spec.true in
    search picks depth 2

pub returns-then-genuine : goal.returns-then-genuine
returns-then-genuine c = let spec : is_spec c.args.started.state ≡ true = sym c.is_spec.ensures ∙ c.if-not-is_spec.false in
    let right : right_under c.args.started c.args.r c.args.fragment.now ≡ true = sym (c.genuine.ensures.meaning _ c.key-key.ensures) ∙ c.if-genuine.true in
    search picks depth 2

pub returns : goal.returns
returns c = let spec : is_spec c.args.started.state ≡ true = sym c.is_spec.ensures ∙ c.if-not-is_spec.false in
    let right : right_under c.args.started c.args.r c.args.fragment.now ≡ false = sym (c.genuine.ensures.meaning _ c.key-key.ensures) ∙ c.if-genuine.false in
    search picks depth 2
