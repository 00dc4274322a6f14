-- `kept`: a lower place begins before a higher one.
use native.Mathlib.Omega.{arith}
use Rattle.gather.proofs.Sums.{below_mono}
use Rattle.gather.proofs.spot.Spot.kept.Goals as goal

pub slice_bounds-result-count : goal.slice_bounds-result-count
slice_bounds-result-count c = omega (arith, below_mono c.args.self.now.slot c.args.from c.args.to (omega arith))

pub slice_bounds-result-start : goal.slice_bounds-result-start
slice_bounds-result-start c = omega (arith, below_mono c.args.self.now.slot c.args.from c.args.to (omega arith))
