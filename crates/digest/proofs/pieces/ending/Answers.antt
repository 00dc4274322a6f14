-- `pieces::ending`: the bytes that are left at the front of zeros, and the last block or two.
use Rattle.std.proofs.Common.{refl, ap, ◌∙◌}
use Rattle.digest.specs.Sha1.{spelled}
use Rattle.digest.proofs.pieces.ending.Goals as goal

pub returns : goal.returns
returns c = c.spelled.ensures ∙ ap spelled (c.closed-last.ensures c.args.s.now refl c.lay.ensures)
