-- `SentRecords::with_reply`: one after the other.
use mathlib.Core.Path.{◌∙◌, ap}
use Rattle.connection.specs.Sent.{with_record}
use Rattle.connection.proofs.sent.SentRecords.with_reply.Goals as goal

pub returns : goal.returns
returns c = c.with_record-3.ensures
    ∙ ap (λ s. with_record s c.args.finished) (c.with_record-2.ensures ∙ ap (λ s. with_record s c.args.change) c.with_record.ensures)
