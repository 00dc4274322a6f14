-- `asked::whom_of`: by the state; in Open by what the record is.
use Prim.Native.Nat.{◌+◌, ◌-◌}
use mathlib.Core.Path.{◌≡◌, refl, ap}
use lib.ListN.{take, drop}
use native.Mathlib.Omega.{arith}
use Rattle.connection.specs.Asked.{whom_of}
use Rattle.connection.proofs.Asking.{asked_as}
use Rattle.connection.proofs.asked.whom_of.Goals as goal

pub returns-in-Idle : goal.returns-in-Idle
unfolding whom_of
returns-in-Idle c = rw c.in-Idle.is refl

pub returns-in-Replied : goal.returns-in-Replied
unfolding whom_of
returns-in-Replied c = rw c.in-Replied.is refl

pub returns-in-Spec : goal.returns-in-Spec
unfolding whom_of
returns-in-Spec c = rw c.in-Spec.is refl

pub returns-in-Open : goal.returns-in-Open
unfolding whom_of
returns-in-Open c = let a = c.args in
    let at = a.r.start + a.r.head in
    let back : at + a.r.size - at ≡ a.r.size = omega arith in
    asked_as a.c a.d.now a.r _ c.kind_of.result c.in_open.result c.in-Open.is
    (ap (λ n. take n (drop at a.d.now)) back) c.kind_of.ensures c.in_open.ensures

pub returns-in-Closed : goal.returns-in-Closed
unfolding whom_of
returns-in-Closed c = rw c.in-Closed.is refl

pub returns-in-Barred : goal.returns-in-Barred
unfolding whom_of
returns-in-Barred c = rw c.in-Barred.is refl
