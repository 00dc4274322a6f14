-- `send::send_data`: 16, then by the state.
use mathlib.Core.Path.{refl, sym}
use native.Mathlib.Omega.{arith}
use Rattle.digest.proofs.Picks.{if_eq, if_ne, if_lt, if_ge}
use lib.ListN.{length}
use Rattle.unit.specs.Send.{data_sent, data_output}
use Rattle.unit.proofs.send.send_data.Goals as goal

-- the clauses of the contract, each under its name
named : {A B : Type 0} → A × B → record { exact : A; bytes : B }
named x = record { exact = x.0; bytes = x.1 }

pub returns-then-data-eq0 : goal.returns-then-data-eq0
unfolding data_sent data_output
returns-then-data-eq0 c = record { exact = if_eq _ (length c.args.«data».now) 0 (omega arith) c.refused.ensures; bytes = if_eq _ (length c.args.«data».now) 0 (omega arith) refl }

pub returns-then-data-gt1300 : goal.returns-then-data-gt1300
unfolding data_sent data_output
returns-then-data-gt1300 c = record { exact = if_ne _ (length c.args.«data».now) 0 (λ z. omega arith) (if_lt _ 1300 (length c.args.«data».now) (omega arith) c.refused-then-data-gt1300.ensures); bytes = if_ne _ (length c.args.«data».now) 0 (λ z. omega arith) (if_lt _ 1300 (length c.args.«data».now) (omega arith) refl) }

pub returns-in-Err : goal.returns-in-Err
unfolding data_sent data_output
returns-in-Err c = named (rw (sym c.may_protect.ensures, c.in-Err.is) (if_ne _ (length c.args.«data».now) 0 (λ z. omega arith) (if_ge _ 1300 (length c.args.«data».now) (omega arith) c.refused-in-Err.ensures), if_ne _ (length c.args.«data».now) 0 (λ z. omega arith) (if_ge _ 1300 (length c.args.«data».now) (omega arith) refl)))

pub returns-in-Ok : goal.returns-in-Ok
unfolding data_sent data_output
returns-in-Ok c = named (rw (sym c.may_protect.ensures, c.in-Ok.is) (if_ne _ (length c.args.«data».now) 0 (λ z. omega arith) (if_ge _ 1300 (length c.args.«data».now) (omega arith) c.protected.ensures.value), if_ne _ (length c.args.«data».now) 0 (λ z. omega arith) (if_ge _ 1300 (length c.args.«data».now) (omega arith) c.protected.ensures.out_after)))
