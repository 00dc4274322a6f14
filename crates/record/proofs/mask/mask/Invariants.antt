-- `mask`: after a turn the bytes up to its place are masked, and those behind it are as they were.
use mathlib.Core.Path.{◌≡◌}
use Rattle.record.proofs.Masking.{so_far}
use Rattle.record.proofs.mask.mask.Given as goal

abbrev pub invariant-loop-i : goal.invariant-loop-i
invariant-loop-i l = l.iv ≡ so_far l.initial.iv l.number l.i
