-- `cut`: a mask of as many ones as the width.
use Rattle.record.proofs.Marks.{cut_is}
use Rattle.record.proofs.window.HeldWidth.cut.Goals as goal

pub returns : goal.returns
returns c = cut_is c.args.marks c.args.self.width c.args.self.few
