-- `mac::same_code`: no bit differs so far if and only if the bytes so far are equal.
use Rattle.digest.proofs.Same.{Joined}
use Rattle.digest.proofs.mac.same_code.Given as goal

abbrev pub invariant-loop-x : goal.invariant-loop-x
invariant-loop-x l = Joined l.a l.b l.x-iterator.a.rest.now l.x-iterator.b.rest.now l.differ
