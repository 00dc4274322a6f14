-- `hello::hello`: 16, then 7 and 8, then the hello.
use mathlib.Core.Path.{refl, sym, ◌∙◌, ap}
use native.Mathlib.Omega.{arith}
use Rattle.digest.proofs.Picks.{if_eq, if_ne, if_lt, if_ge}
use lib.ListN.{length}
use Rattle.record.specs.Written.{written_of}
use Rattle.connection.proofs.Filling.{filled_whole}
use Rattle.unit.specs.Hello.{hello_sent, hello_output, greeted_with, hello_datagram, offer_of}
use Rattle.unit.proofs.hello.hello.Goals as goal

-- the clauses of the contract, each under its name
named : {A B : Type 0} → A × B → record { exact : A; bytes : B }
named x = record { exact = x.0; bytes = x.1 }

pub returns-then-random-ne16 : goal.returns-then-random-ne16
unfolding hello_sent hello_output
returns-then-random-ne16 c = record { exact = if_ne _ (length c.args.random.now) 16 (λ z. omega arith) c.refused.ensures; bytes = if_ne _ (length c.args.random.now) 16 (λ z. omega arith) refl }

pub returns-then-refresh-gt255 : goal.returns-then-refresh-gt255
unfolding hello_sent hello_output
returns-then-refresh-gt255 c = record { exact = if_eq _ (length c.args.random.now) 16 (omega arith) (if_lt _ 255 c.args.refresh (omega arith) c.refused-then-refresh-gt255.ensures); bytes = if_eq _ (length c.args.random.now) 16 (omega arith) (if_lt _ 255 c.args.refresh (omega arith) refl) }

pub returns-in_default : goal.returns-in_default
unfolding hello_sent hello_output
returns-in_default c = named (rw (sym c.kinds_of.ensures, c.in_default.is) (if_eq _ (length c.args.random.now) 16 (omega arith) (if_ge _ 255 c.args.refresh (omega arith) c.refused-in_default.ensures), if_eq _ (length c.args.random.now) 16 (omega arith) (if_ge _ 255 c.args.refresh (omega arith) refl)))

pub returns-in-Err : goal.returns-in-Err
unfolding hello_sent hello_output
returns-in-Err c = named (rw (sym c.kinds_of.ensures, c.in-Some.is, sym c.may_hello.ensures, c.in-Err.is) (if_eq _ (length c.args.random.now) 16 (omega arith) (if_ge _ 255 c.args.refresh (omega arith) c.refused-in-Err.ensures), if_eq _ (length c.args.random.now) 16 (omega arith) (if_ge _ 255 c.args.refresh (omega arith) refl)))

pub returns-in-Ok : goal.returns-in-Ok
unfolding hello_sent hello_output
returns-in-Ok c = named (let a = c.args in
    let offer = offer_of c.in-Some.kinds a.refresh in
    let ours = filled_whole 16 a.random.now c.put.new.d (omega arith) c.put.ensures.exact in
    rw (sym c.kinds_of.ensures, c.in-Some.is, sym c.may_hello.ensures, c.in-Ok.is) (
      if_eq _ (length c.args.random.now) 16 (omega arith) (if_ge _ 255 c.args.refresh (omega arith) (c.greet.ensures.value ∙ ap (λ x. greeted_with a.u x offer (length a.out.now)) ours)),
      if_eq _ (length c.args.random.now) 16 (omega arith) (if_ge _ 255 c.args.refresh (omega arith) (c.greet.ensures.out_after ∙ ap (λ x. written_of a.out.now (hello_datagram a.u.id x offer)) ours)),
    ))
