-- `bytes::put`: what fits is laid; the two tests are the definition's one.
use Rattle.digest.proofs.Lay.{laid_all, laid_none}
use Rattle.std.proofs.Common.{arith}
use Rattle.digest.proofs.bytes.put.Goals as goal

pub returns-then-d-s : goal.returns-then-d-s
returns-then-d-s c = record { exact = let args = c.args in laid_none args.d.now args.at args.s.now (omega arith) }

pub returns-then-d-s-2 : goal.returns-then-d-s-2
returns-then-d-s-2 c = record { exact = let args = c.args in laid_none args.d.now args.at args.s.now (omega arith) }

pub returns : goal.returns
returns c = record { exact = let args = c.args in laid_all args.d.now _ args.at args.s.now (omega arith) c.lay.ensures }
