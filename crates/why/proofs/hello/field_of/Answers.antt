-- `hello::field_of`: the size, then what the reader says.
use mathlib.Core.Path.{refl, sym, ◌∙◌}
use native.Mathlib.Omega.{arith}
use Rattle.digest.proofs.Picks.{if_lt, if_ge}
use lib.ListN.{length}
use Rattle.why.specs.Hello.{field_of}
use Rattle.why.proofs.hello.field_of.Goals as goal

pub returns-then-m-gt256 : goal.returns-then-m-gt256
unfolding field_of
returns-then-m-gt256 c = if_lt _ 256 (length c.args.m.now) (omega arith) refl

pub returns-in-Ok : goal.returns-in-Ok
unfolding field_of
returns-in-Ok c = let m = c.args.m.now in
    if_ge _ 256 (length m) (omega arith) (rw (sym c.read.ensures ∙ c.in-Ok.is) refl)

pub returns-in-Err : goal.returns-in-Err
unfolding field_of
returns-in-Err c = let m = c.args.m.now in
    if_ge _ 256 (length m) (omega arith) (rw (sym c.read.ensures ∙ c.in-Err.is) refl)
