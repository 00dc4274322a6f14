-- `bytes::lay`: after i turns the first i bytes of s are laid over d.
use Rattle.std.proofs.Common.{◌≡◌, ◌≤◌, length}
use lib.Seq.{paste}
use Rattle.digest.proofs.bytes.lay.Given as goal

abbrev pub invariant-loop-i : goal.invariant-loop-i
invariant-loop-i l = (l.i ≤ length l.s) × (length l.d ≡ length l.initial.d) × (l.d ≡ paste l.initial.d l.at l.s l.i)
