-- `message::set::read_ec` meets its contract: each end is the one that `read_ec` has, and the last one ends the set. Assumes
-- nothing.
use native.Mathlib.Omega.{arith}
use Rattle.std.proofs.Common.{sym, refl}
use Rattle.message.specs.Set.{field_id_of}
use Rattle.message.proofs.Fields.{end_none, end_some, not_zero}
use Rattle.message.proofs.SetEnds.{next_none, next_there, next_gone, ec_none, ec_by, fill_left, fill_whole}
use Rattle.message.proofs.set.read_ec.Goals as goal

pub returns-in_err-end : goal.returns-in_err-end
returns-in_err-end c = let s = c.args.s.now in
    rw c.from_residual.ensures
    (ec_none s 0 0 0 0 0 0
    (sym (end_none _ c.in_err-end.ensures.value))
    (next_none 1 s 0 refl)
    (next_none 1 s 0 refl)
    (next_none 0 s 0 refl)
    (next_none 1 s 0 refl)
    (next_none 1 s 0 refl)
    (next_none 1 s 0 refl))

pub returns-in_err-a : goal.returns-in_err-a
returns-in_err-a c = let s = c.args.s.now in
    rw c.from_residual-in_err-a.ensures
    (ec_none s _ 0 0 0 0 0
    (end_some _ _ c.in_ok-end.ensures.value).0
    (next_gone 1 s _ c.in_ok-end.ensures.within.0 c.in_err-a.ensures.value)
    (next_none 1 s 0 refl)
    (next_none 0 s 0 refl)
    (next_none 1 s 0 refl)
    (next_none 1 s 0 refl)
    (next_none 1 s 0 refl))

pub returns-in_err-b : goal.returns-in_err-b
returns-in_err-b c = let s = c.args.s.now in
    rw c.from_residual-in_err-b.ensures
    (ec_none s _ _ 0 0 0 0
    (end_some _ _ c.in_ok-end.ensures.value).0
    (next_there 1 s _ c.in_ok-end.ensures.within.0 _ c.in_ok-a.ensures.value)
    (next_gone 1 s _ c.in_ok-a.ensures.within.0 c.in_err-b.ensures.value)
    (next_none 0 s 0 refl)
    (next_none 1 s 0 refl)
    (next_none 1 s 0 refl)
    (next_none 1 s 0 refl))

pub returns-in_err-seed : goal.returns-in_err-seed
returns-in_err-seed c = let s = c.args.s.now in
    rw c.from_residual-in_err-seed.ensures
    (ec_none s _ _ _ 0 0 0
    (end_some _ _ c.in_ok-end.ensures.value).0
    (next_there 1 s _ c.in_ok-end.ensures.within.0 _ c.in_ok-a.ensures.value)
    (next_there 1 s _ c.in_ok-a.ensures.within.0 _ c.in_ok-b.ensures.value)
    (next_gone 0 s _ c.in_ok-b.ensures.within.0 c.in_err-seed.ensures.value)
    (next_none 1 s 0 refl)
    (next_none 1 s 0 refl)
    (next_none 1 s 0 refl))

pub returns-in_err-base : goal.returns-in_err-base
returns-in_err-base c = let s = c.args.s.now in
    rw c.from_residual-in_err-base.ensures
    (ec_none s _ _ _ _ 0 0
    (end_some _ _ c.in_ok-end.ensures.value).0
    (next_there 1 s _ c.in_ok-end.ensures.within.0 _ c.in_ok-a.ensures.value)
    (next_there 1 s _ c.in_ok-a.ensures.within.0 _ c.in_ok-b.ensures.value)
    (next_there 0 s _ c.in_ok-b.ensures.within.0 _ c.in_ok-seed.ensures.value)
    (next_gone 1 s _ c.in_ok-seed.ensures.within.0 c.in_err-base.ensures.value)
    (next_none 1 s 0 refl)
    (next_none 1 s 0 refl))

pub returns-in_err-order : goal.returns-in_err-order
returns-in_err-order c = let s = c.args.s.now in
    rw c.from_residual-in_err-order.ensures
    (ec_none s _ _ _ _ _ 0
    (end_some _ _ c.in_ok-end.ensures.value).0
    (next_there 1 s _ c.in_ok-end.ensures.within.0 _ c.in_ok-a.ensures.value)
    (next_there 1 s _ c.in_ok-a.ensures.within.0 _ c.in_ok-b.ensures.value)
    (next_there 0 s _ c.in_ok-b.ensures.within.0 _ c.in_ok-seed.ensures.value)
    (next_there 1 s _ c.in_ok-seed.ensures.within.0 _ c.in_ok-base.ensures.value)
    (next_gone 1 s _ c.in_ok-base.ensures.within.0 c.in_err-order.ensures.value)
    (next_none 1 s 0 refl))

pub returns-in_err-cofactor : goal.returns-in_err-cofactor
returns-in_err-cofactor c = let s = c.args.s.now in
    rw c.from_residual-in_err-cofactor.ensures
    (ec_none s _ _ _ _ _ _
    (end_some _ _ c.in_ok-end.ensures.value).0
    (next_there 1 s _ c.in_ok-end.ensures.within.0 _ c.in_ok-a.ensures.value)
    (next_there 1 s _ c.in_ok-a.ensures.within.0 _ c.in_ok-b.ensures.value)
    (next_there 0 s _ c.in_ok-b.ensures.within.0 _ c.in_ok-seed.ensures.value)
    (next_there 1 s _ c.in_ok-seed.ensures.within.0 _ c.in_ok-base.ensures.value)
    (next_there 1 s _ c.in_ok-base.ensures.within.0 _ c.in_ok-order.ensures.value)
    (next_gone 1 s _ c.in_ok-order.ensures.within.0 c.in_err-cofactor.ensures.value))

pub returns-then-cofactor-s : goal.returns-then-cofactor-s
returns-then-cofactor-s c = let s = c.args.s.now in
    ec_by s (field_id_of s) _ _ _ _ _ _ _ _ refl
    (end_some _ _ c.in_ok-end.ensures.value).0
    (next_there 1 s _ c.in_ok-end.ensures.within.0 _ c.in_ok-a.ensures.value)
    (next_there 1 s _ c.in_ok-a.ensures.within.0 _ c.in_ok-b.ensures.value)
    (next_there 0 s _ c.in_ok-b.ensures.within.0 _ c.in_ok-seed.ensures.value)
    (next_there 1 s _ c.in_ok-seed.ensures.within.0 _ c.in_ok-base.ensures.value)
    (next_there 1 s _ c.in_ok-base.ensures.within.0 _ c.in_ok-order.ensures.value)
    (next_there 1 s _ c.in_ok-order.ensures.within.0 _ c.in_ok-cofactor.ensures.value)
    (fill_left _ _ _ (not_zero _ c.in_ok-cofactor.ensures.within.0) c.if-cofactor-s.true)

pub returns : goal.returns
returns c = let s = c.args.s.now in
    rw (c.new.ensures, c.new-2.ensures, c.new-3.ensures, c.new-4.ensures, c.new-5.ensures, c.new-6.ensures)
    (ec_by s c.field_id.result _ _ _ _ _ _ _ _ c.field_id.ensures
    (end_some _ _ c.in_ok-end.ensures.value).0
    (next_there 1 s _ c.in_ok-end.ensures.within.0 _ c.in_ok-a.ensures.value)
    (next_there 1 s _ c.in_ok-a.ensures.within.0 _ c.in_ok-b.ensures.value)
    (next_there 0 s _ c.in_ok-b.ensures.within.0 _ c.in_ok-seed.ensures.value)
    (next_there 1 s _ c.in_ok-seed.ensures.within.0 _ c.in_ok-base.ensures.value)
    (next_there 1 s _ c.in_ok-base.ensures.within.0 _ c.in_ok-order.ensures.value)
    (next_there 1 s _ c.in_ok-order.ensures.within.0 _ c.in_ok-cofactor.ensures.value)
    (fill_whole _ _ _ (not_zero _ c.in_ok-cofactor.ensures.within.0) (omega (arith, c.in_ok-cofactor.ensures.within, c.if-cofactor-s.false))))
