-- `told::sent_after`: by the answer.
use mathlib.Core.Path.{◌∙◌, sym, ap}
use Rattle.connection.specs.Told.{sent_after}
use Rattle.connection.proofs.told.sent_after.Goals as goal

pub returns-in-Reply : goal.returns-in-Reply
returns-in-Reply c = c.replied.ensures ∙ sym (ap (sent_after c.args.sent c.args.kept) c.in-Reply.is)
