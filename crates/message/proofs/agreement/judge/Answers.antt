-- `agreement::judge`: each argument is the value at its place.
use mathlib.Core.Path.{◌∙◌}
use Rattle.message.specs.Agreement.{agreed_of}
use Rattle.message.proofs.agreement.judge.Goals as goal

pub returns : goal.returns
returns c = c.judged.ensures
    ∙ λ i.
    agreed_of
    (c.byte_at.ensures i)
    (c.part.ensures i)
    (c.byte_at-2.ensures i)
    (c.byte_at-3.ensures i)
    (c.byte_at-4.ensures i)
    (c.byte_at-5.ensures i)
    (c.byte_at-6.ensures i)
    (c.byte_at-7.ensures i)
    c.args.planted.now
    c.args.offer
