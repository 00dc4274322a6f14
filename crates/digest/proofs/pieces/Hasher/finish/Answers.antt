-- `Hasher::finish`: what waits is what is left. The meaning follows from the exact outcome.
use Rattle.std.proofs.Common.{◌≡◌, length, sym, arith, length-take-le, rules}
use Rattle.digest.specs.Hasher.{finished}
use Rattle.digest.proofs.Hashing.{both_finished}
use Rattle.digest.proofs.pieces.Hasher.finish.Goals as goal

pub slice_bounds-rest-end : goal.slice_bounds-rest-end
slice_bounds-rest-end c = let whole : length c.args.self.rest ≡ 64 = search rules in omega arith

pub slice_bounds-ending-end : goal.slice_bounds-ending-end
slice_bounds-ending-end c = let whole : length c.args.self.rest ≡ 64 = search rules in sym (length-take-le _ _ (omega arith))

pub ending-requires : goal.ending-requires
ending-requires c = let whole : length c.args.self.rest ≡ 64 = search rules in length-take-le _ _ (omega arith)

pub returns : goal.returns
unfolding finished
returns c = let both = let args = c.args in
    both_finished args.self c.ending.result c.ending.ensures in record { exact = both.0; meaning = both.1 }
