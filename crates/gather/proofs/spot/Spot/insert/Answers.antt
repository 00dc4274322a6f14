-- `insert`: room is made, and the part laid into it.
use borrow.Author.Rules.{rules}
use native.Mathlib.Omega.{arith}
use Rattle.gather.proofs.Sums.{below_small, below_mono}
use Rattle.gather.proofs.Keeping.{inserted}
use Rattle.gather.proofs.spot.Spot.insert.Goals as goal

pub shift-requires : goal.shift-requires
shift-requires c = (
  omega (arith, below_mono c.args.self.now.slot c.args.self.now.i 11 (search rules)),
  omega (arith, below_small c.args.self.now.slot 11, below_mono c.args.self.now.slot c.args.self.now.i 11 (search rules)),
)

pub returns : goal.returns
returns c =
    inserted _ _ _ _ _ (search rules) (search rules) (search rules) (search rules) _ _ _ _ c.begin-from.ensures.value c.begin.ensures.value c.shift.ensures c.put.ensures.exact
