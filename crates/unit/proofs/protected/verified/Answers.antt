-- `protected::verified`: by what the message is.
use Rattle.std.specs.Prelude.{Err}
use mathlib.Core.Path.{sym, ap, ◌∙◌}
use Rattle.unit.specs.Protected.{verified_by}
use Rattle.unit.proofs.protected.verified.Goals as goal

pub returns-in-Err-Malformed : goal.returns-in-Err-Malformed
unfolding verified_by
returns-in-Err-Malformed c = rw (sym c.judge.ensures, (c.in-Err-Malformed.is ∙ ap Err c.in-Err-Malformed.field-0-is)) c.refuse.ensures

pub returns-in-Err-Wrong : goal.returns-in-Err-Wrong
unfolding verified_by
returns-in-Err-Wrong c = rw (sym c.judge.ensures, (c.in-Err-Wrong.is ∙ ap Err c.in-Err-Wrong.field-0-is)) c.lead.ensures

pub returns-in-Ok : goal.returns-in-Ok
unfolding verified_by
returns-in-Ok c = rw (sym c.judge.ensures, c.in-Ok.is) c.opened.ensures
