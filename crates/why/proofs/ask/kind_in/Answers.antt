-- `ask::kind_in`: by the first byte of the fragment.
use mathlib.Core.Path.{◌∙◌, ap}
use lib.ListN.{get_or}
use Rattle.connection.specs.State.{kind_of}
use Rattle.why.proofs.Facts.{fragment_is}
use Rattle.why.proofs.ask.kind_in.Goals as goal

pub returns : goal.returns
returns c = let args = c.args in
    c.kind_of.ensures ∙ ap (kind_of args.r.content args.r.protected) (c.byte_at.ensures ∙ ap (λ m. get_or m 0 0) (fragment_is args.d.now args.r))
