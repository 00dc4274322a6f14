-- `marked`: the bit is free, so `
-- ` adds it.
use native.Mathlib.Omega.{arith}
use native.Mathlib.Nat.{one-mul}
use mathlib.Core.Path.{◌∙◌, ap}
use Prim.Native.Nat.{ℕ, ◌^◌}
use lib.Bits.{bit_or}
use lib.Pow.{shl_exact}
use Rattle.record.proofs.Marks.{mark_added}
use borrow.Author.Rules.{rules}
use Rattle.record.proofs.window.marked.Goals as goal

pub returns : goal.returns
returns c = let j : ℕ = c.args.place in
    ap (bit_or c.args.marks) (shl_exact {a = 1} 1 j 64 (search rules) (omega arith) ∙ one-mul (2 ^ j))
    ∙ mark_added c.args.marks j c.requires.1
