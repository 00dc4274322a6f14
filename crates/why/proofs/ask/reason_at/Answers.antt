-- `ask::reason_at`: of the handshake that is asked.
use mathlib.Core.Path.{◌∙◌, ap}
use Rattle.why.specs.Why.{reason_by}
use Rattle.why.proofs.ask.reason_at.Goals as goal

pub returns : goal.returns
returns c = let args = c.args in
    let p = args.p in
    c.reason_by.ensures ∙ ap (λ h. reason_by h p.whom p.connection p.found args.d.now args.at args.refusal) c.asked_at.ensures.exact
