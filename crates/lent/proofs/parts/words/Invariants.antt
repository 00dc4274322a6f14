-- `parts::words`: after i turns the first i numbers are laid.
use Prim.Native.Nat.{◌*◌}
use lib.ListN.{replicate}
use Rattle.lent.proofs.Laying.{Laid}
use Rattle.lent.proofs.Sums.{first_words}
use Rattle.lent.proofs.parts.words.Given as goal

abbrev pub invariant-loop-i : goal.invariant-loop-i
invariant-loop-i l = Laid (replicate 32 0) 0 (first_words l.fn.numbers l.i) l.part (4 * l.i)
