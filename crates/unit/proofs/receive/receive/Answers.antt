-- `receive::receive`: 6, the framing, then the records.
use mathlib.Core.Path.{sym, refl, ◌∙◌}
use lib.ListN.{length}
use Rattle.digest.proofs.Picks.{if_lt, if_ge}
use Rattle.connection.proofs.Running.{walk_sound, walk_refused, laid_nothing}
use Rattle.unit.specs.Receive.{received_of, output_of}
use native.Mathlib.Omega.{arith}
use Rattle.unit.proofs.receive.receive.Goals as goal

-- the clauses of the contract, each under its name
named : {A B : Type 0} → A × B → record { exact : A; bytes : B }
named x = record { exact = x.0; bytes = x.1 }

pub returns-then-out-lt128 : goal.returns-then-out-lt128
unfolding received_of output_of
returns-then-out-lt128 c = let out = c.args.out.now in
    record { exact = if_lt _ (length out) 128 (omega arith) c.whole.ensures; bytes = if_lt _ (length out) 128 (omega arith) refl }

pub each-requires : goal.each-requires
each-requires c = (sym c.walked.ensures ∙ c.in-Ok.is, omega (arith, c.if-out-lt128.false))

pub returns-in-Err : goal.returns-in-Err
unfolding received_of output_of
returns-in-Err c = named (let out = c.args.out.now in
    rw (walk_refused c.args.datagram.now _ (sym c.walked.ensures ∙ c.in-Err.is)) (
      if_ge _ (length out) 128 (omega arith) c.whole-in-Err.ensures,
      if_ge _ (length out) 128 (omega arith) (laid_nothing out),
    ))

pub returns-in-Ok : goal.returns-in-Ok
unfolding received_of output_of
returns-in-Ok c = named (let out = c.args.out.now in
    rw (walk_sound c.args.datagram.now c.in-Ok.walk (sym c.walked.ensures ∙ c.in-Ok.is)) (
      if_ge _ (length out) 128 (omega arith) c.each.ensures.value,
      if_ge _ (length out) 128 (omega arith) c.each.ensures.out_after,
    ))
