-- `Seed::lay`: four pieces, each laid behind those before it.
use Rattle.std.proofs.Common.{ap, ◌∙◌}
use Rattle.digest.specs.Bytes.{laid_over}
use Rattle.digest.proofs.Lay.{laid_pieces}
use Rattle.digest.proofs.seed.Seed.lay.Goals as goal

pub returns : goal.returns
returns c = let d = c.args.d.now in
    let s = c.self.inside in
    laid_pieces d _ _ _ _ s.label.now s.first.now s.second.now s.third.now c.lay.ensures c.lay-2.ensures c.lay-3.ensures c.lay-4.ensures
    ∙ ap (laid_over d 0) c.self.view_is
