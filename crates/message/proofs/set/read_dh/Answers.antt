-- `message::set::read_dh` meets its contract: each end is the one that `read_dh` has, and the last one ends the set. Assumes
-- nothing.
use native.Mathlib.Omega.{arith}
use Rattle.std.proofs.Common.{sym, refl}
use Rattle.message.proofs.Fields.{end_none, end_some, not_zero}
use Rattle.message.proofs.SetEnds.{long_none, dh_by, fill_left, fill_whole}
use Rattle.message.proofs.set.read_dh.Goals as goal

pub returns-in_err-p : goal.returns-in_err-p
returns-in_err-p c = let s = c.args.s.now in
    rw c.from_residual.ensures
    (dh_by s 0 0 _ (sym (end_none _ c.in_err-p.ensures.value)) (long_none s 0 refl) refl)

pub returns-in_err-g : goal.returns-in_err-g
returns-in_err-g c =
    rw c.from_residual-in_err-g.ensures
    (dh_by c.args.s.now _ 0 _ (end_some _ _ c.in_ok-p.ensures.value).0 (sym (end_none _ c.in_err-g.ensures.value)) refl)

pub returns-then-g-s : goal.returns-then-g-s
returns-then-g-s c =
    let e = end_some _ _ c.in_ok-g.ensures.value in
    dh_by c.args.s.now _ _ _ (end_some _ _ c.in_ok-p.ensures.value).0 e.0 (fill_left _ _ _ (not_zero _ c.in_ok-g.ensures.within.0) c.if-g-s.true)

pub returns : goal.returns
returns c =
    let e = end_some _ _ c.in_ok-g.ensures.value in
    rw (c.byte_at.ensures, c.new.ensures, c.new-2.ensures)
    (dh_by c.args.s.now _ _ _ (end_some _ _ c.in_ok-p.ensures.value).0 e.0
    (fill_whole _ _ _ (not_zero _ c.in_ok-g.ensures.within.0) (omega (arith, c.in_ok-g.ensures.within, c.if-g-s.false))))
