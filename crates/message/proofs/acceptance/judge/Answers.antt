-- `message::acceptance::judge` meets its contract: each argument is the value at its place. Assumes nothing.
use Rattle.message.specs.Acceptance.{accepted_of}
use mathlib.Core.Path.{◌∙◌}
use Rattle.message.proofs.acceptance.judge.Goals as goal

pub returns : goal.returns
returns c = c.accept.ensures
    ∙ λ i.
    accepted_of
    (c.byte_at.ensures i)
    (c.part.ensures i)
    (c.part-2.ensures i)
    (c.part-3.ensures i)
    (c.byte_at-2.ensures i)
    (c.byte_at-3.ensures i)
    c.args.planted.now
