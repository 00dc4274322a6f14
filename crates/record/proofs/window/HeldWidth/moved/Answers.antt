-- `moved`: past the width nothing is left; else the lowest bit is free after the shift.
use native.Mathlib.Omega.{arith}
use mathlib.Core.Path.{◌∙◌, ap}
use Prim.Native.Nat.{ℕ}
use lib.Bits.{bit_or}
use Rattle.record.proofs.Marks.{moved_out, shift_cut, lowest_set}
use Rattle.record.proofs.window.HeldWidth.moved.Goals as goal

pub returns-then-self-by : goal.returns-then-self-by
returns-then-self-by c = rw (moved_out c.args.marks c.args.by c.args.self.width (omega arith))

pub returns-else-self-by : goal.returns-else-self-by
returns-else-self-by c = let a = c.args in
    ap (λ (x : ℕ). bit_or x 1) (c.cut.ensures ∙ shift_cut a.marks a.by a.self.width c.args.self.few)
    ∙ lowest_set a.marks a.by a.self.width c.requires c.args.self.some
