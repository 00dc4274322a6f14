-- `clear::request`: a HelloRequest, or malformed.
use mathlib.Core.Path.{sym, ◌∙◌, ap}
use Rattle.unit.specs.Step.{step}
use Rattle.unit.specs.Clear.{requested_by}
use Rattle.unit.specs.declared.step.Move.TheVariants as M
use Rattle.unit.proofs.clear.request.Goals as goal

pub returns-then-not-is_request : goal.returns-then-not-is_request
unfolding requested_by
returns-then-not-is_request c = rw (sym c.is_request.ensures, c.if-not-is_request.true) c.refuse.ensures

pub returns : goal.returns
unfolding requested_by
returns c = rw (sym c.is_request.ensures, c.if-not-is_request.false) (c.lead.ensures ∙ ap (λ w. step w c.args.window M.Stay) c.request_in.ensures)
