-- `mask`: a turn masks one more byte.
use mathlib.Core.Path.{sym, ap, ◌∙◌}
use Prim.Native.Nat.{ℕ, ◌%◌}
use mathlib.Core.List.{List}
use native.Mathlib.Omega.{arith}
use native.Mathlib.Numerals.{add-one}
use lib.ListN.{length, get_or}
use Rattle.record.proofs.Masking.{so_far, byte_over, one_more, all_done}
use Rattle.record.proofs.mask.mask.Goals as goal

pub loop-i-preserved : goal.loop-i-preserved
loop-i-preserved c = let l = c.loop-i in
    let a = c.args in
    one_more a.iv.now a.number l.iv l.i _ (omega arith) l.invariant
    (byte_over a.number (length a.iv.now) l.i (omega arith) ∙ ap (λ (x : List ℕ). get_or x (l.i % 2) 0) (sym c.to_be_bytes-pair.ensures))
    ∙ ap (so_far a.iv.now a.number) (sym (add-one l.i))

pub returns : goal.returns
returns c = let a = c.args in
    c.loop-i.invariant ∙ all_done a.iv.now a.number c.loop-i.i (omega arith)
