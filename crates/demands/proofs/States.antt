-- Whether a state is one of those that a row names, as a test; and that no state is two.
use mathlib.Core.Path.{◌≡◌, refl, ap}
use mathlib.Core.Logic.{◌⊎◌, inl, inr}
use mathlib.Core.Bool.{Bool, true, false}
use Prim.Native.Nat.{ℕ}
use native.Mathlib.Omega.{arith}
use Rattle.connection.specs.declared.state.State.{State}
use Rattle.connection.specs.declared.state.State.TheVariants as S
use Rattle.demands.specs.Table.{Hears, Over}
use Rattle.demands.proofs.Genuine.{true_false}

-- 7: "Barred, or Closed"
abbrev pub ended : State → Bool
ended S.Idle = false
ended S.Replied = false
ended S.Spec = false
ended S.Open = false
ended S.Closed = true
ended S.Barred = true

pub over_ended : (s : State) → Over s → ended s ≡ true
over_ended s (inl e) = ap ended e
over_ended s (inr e) = ap ended e

pub ended_over : (s : State) → ended s ≡ true → Over s
ended_over S.Idle e = true_false false e refl
ended_over S.Replied e = true_false false e refl
ended_over S.Spec e = true_false false e refl
ended_over S.Open e = true_false false e refl
ended_over S.Closed e = inl refl
ended_over S.Barred e = inr refl

pub live_over : (s : State) → ended s ≡ false → Over s → ⊥
live_over s e o = true_false (ended s) (over_ended s o) e

pub over_live : (s : State) → (Over s → ⊥) → ended s ≡ false
over_live s n = told (ended s) refl
  where
    told : (b : Bool) → ended s ≡ b → ended s ≡ false
    told true e = absurd (n (ended_over s e))
    told false e = e

-- a state that awaits a hello, or hears one, is neither over nor open
pub awaits_live : (s : State) → (s ≡ S.Idle) ⊎ Hears s → ended s ≡ false
awaits_live s (inl e) = ap ended e
awaits_live s (inr (inl e)) = ap ended e
awaits_live s (inr (inr e)) = ap ended e

pub awaits_closed : (s : State) → (s ≡ S.Idle) ⊎ Hears s → s ≡ S.Open → ⊥
awaits_closed s (inl a) b = let n : ◌≡◌ {A = ℕ} 0 1 = cc in omega arith
awaits_closed s (inr (inl a)) b = let n : ◌≡◌ {A = ℕ} 0 1 = cc in omega arith
awaits_closed s (inr (inr a)) b = let n : ◌≡◌ {A = ℕ} 0 1 = cc in omega arith
