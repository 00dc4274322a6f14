-- `framing::byte_at`: 0 past the end.
use mathlib.Core.Path.{sym}
use lib.ListN.{get_or-eq_default}
use Rattle.why.proofs.framing.byte_at.Goals as goal

pub returns : goal.returns
returns c = sym (get_or-eq_default c.args.m.now 0 c.if-at-m.false)
