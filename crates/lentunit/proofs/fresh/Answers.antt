-- `fresh`: the room, then the call.
-- another room
use mathlib.Core.Path.{◌≡◌, refl, ◌∙◌, ap}
use mathlib.Core.Logic.{◌≢◌}
use mathlib.Core.List.{List}
use Prim.Native.Nat.{ℕ}
use lib.ListN.{length}
use native.Mathlib.Omega.{arith}
use borrow.Author.Tests.{eq-eqb, ne_eqb}
use Rattle.unit.specs.Calls.{fresh_of}
use Rattle.unit.specs.declared.calls.Called.{Called}
use Rattle.lentunit.specs.Saved.{unit_size, loaded}
use Rattle.lentunit.specs.Calls.{fresh_result, fresh_state, fresh_loads, left_in, left_loaded}
use Rattle.lent.specs.Calls.{result_of, refusal_in, not_taken}
use Rattle.lentunit.proofs.fresh.Goals as goal

-- the clauses of the contract, each under its name
named : {A B C : Type 0} → A × (B × C) → record { exact : A; bytes : B; loads : C }
named x = record { exact = x.0; bytes = x.1.0; loads = x.1.1 }

no_room : (id secret : List ℕ) (width : ℕ) (state after : List ℕ) (r : ℕ) → length state ≢ unit_size → r ≡ not_taken → after ≡ state
    → (r ≡ fresh_result id secret width (length state)) × ((after ≡ fresh_state id secret width state) × (loaded after ≡ fresh_loads id secret width state))
unfolding fresh_result fresh_state fresh_loads
no_room id secret width state after r n e f = (
  rw (ne_eqb (length state) unit_size n) e,
  (rw (ne_eqb (length state) unit_size n) f, rw (ne_eqb (length state) unit_size n) (ap loaded f)),
)

-- what the call left, in its room
in-room : (id secret : List ℕ) (width : ℕ) (state after : List ℕ) (r : ℕ) (k : Called) → length state ≡ unit_size → k ≡ fresh_of id secret width
    → r ≡ result_of (refusal_in k.outcome) 0 0 → after ≡ left_in state k.unit k.outcome
    → loaded after ≡ left_loaded state k.unit k.outcome
    → (r ≡ fresh_result id secret width (length state)) × ((after ≡ fresh_state id secret width state) × (loaded after ≡ fresh_loads id secret width state))
unfolding fresh_result fresh_state fresh_loads
in-room id secret width state after r k s m e f g = (
  rw (eq-eqb (length state) unit_size s) (e ∙ ap (λ x. result_of (refusal_in x.outcome) 0 0) m),
  (
    rw (eq-eqb (length state) unit_size s) (f ∙ ap (λ x. left_in state x.unit x.outcome) m),
    rw (eq-eqb (length state) unit_size s) (g ∙ ap (λ x. left_loaded state x.unit x.outcome) m),
  ),
)

pub returns-then-state-ne-SIZE : goal.returns-then-state-ne-SIZE
returns-then-state-ne-SIZE c = named (no_room _ _ _ _ _ _ (λ z. omega arith) c.not_taken.ensures refl)

pub returns : goal.returns
returns c = named (in-room _ _ _ _ _ _ _ (omega arith) c.fresh.ensures c.leave_called.ensures.value
    c.leave_called.ensures.state_after c.leave_called.ensures.state_after_2)
