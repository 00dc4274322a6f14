-- `save::put_slot`: the sizes before the i-th are laid behind the reference and the total.
use Rattle.std.proofs.Common.{◌≡◌, ◌∷◌}
use mathlib.Core.List.{map}
use lib.ListN.{take}
use Rattle.digest.specs.Bytes.{bytes2, laid_over}
use Rattle.lent.specs.Fields.{joined}
use Rattle.lentshort.proofs.save.put_slot.Given as goal

abbrev pub invariant-loop-i : goal.invariant-loop-i
invariant-loop-i l =
    l.d ≡ laid_over l.fn.d l.fn.at (l.fn.s.reference ∷ l.fn.s.total ∷ joined (map bytes2 (take l.i l.fn.s.sizes)))
