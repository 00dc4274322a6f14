-- `told::replied`: its three records.
use mathlib.Core.Path.{sym, ◌∙◌}
use lib.Seq.{length-take-le}
use native.Mathlib.Omega.{arith}
use Rattle.connection.specs.Told.{replied_with}
use Rattle.connection.specs.Sent.{with_reply}
use Rattle.connection.proofs.told.replied.Goals as goal

pub slice_bounds-checksum-end : goal.slice_bounds-checksum-end
slice_bounds-checksum-end c = sym (length-take-le 40 c.args.reply (omega (arith, c.requires)))

pub returns : goal.returns
unfolding replied_with
returns c = c.with_reply.ensures ∙ (λ i. with_reply c.args.sent (c.checksum-hello.ensures i) (c.checksum-change.ensures i) (c.last.ensures i))
