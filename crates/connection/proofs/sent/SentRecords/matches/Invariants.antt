-- `SentRecords::matches`: what is left to search decides.
use mathlib.Core.Path.{◌≡◌}
use lib.ListN.{take, drop}
use Prim.Native.Nat.{min}
use Rattle.connection.specs.Sent.{one_of}
use Rattle.connection.proofs.sent.SentRecords.matches.Given as goal

abbrev pub invariant-loop-sum : goal.invariant-loop-sum
invariant-loop-sum l = one_of l.checksum (take l.kept l.fn.self.checksums) ≡ one_of l.checksum (drop l.sum-index (take l.kept l.fn.self.checksums))
