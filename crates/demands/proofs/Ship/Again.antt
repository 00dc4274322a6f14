-- What is said again stays the same: by the rows of the table.
use mathlib.Core.Path.{◌≡◌, refl}
use mathlib.Core.Logic.{inl, inr}
use mathlib.Core.List.{List}
use Prim.Native.Nat.{ℕ}
use native.Mathlib.Omega.{arith}
use Rattle.record.specs.declared.reader.Record.{Record}
use Rattle.unit.specs.Agree.{agreed_with}
use Rattle.unit.specs.Hello.{hello_said}
use Rattle.unit.specs.Unit.{flight_of, opened}
use Rattle.unit.specs.declared.state.State.TheVariants as S
use Rattle.unit.specs.declared.state.Rule.TheVariants as T
use Rattle.unit.specs.declared.agree.Judged.{Judged}
use Rattle.unit.specs.declared.unit.Unit.{Unit as Ship}
use Rattle.demands.specs.Ship.Table.{Midway, Row}
use Rattle.demands.specs.Ship.Table.{row_stays, row_shuts, row_hello, row_change, row_marked, row_opens, row_bars}
use Rattle.demands.specs.Ship.Again.{AgainSame}
use Rattle.demands.proofs.Ship.Table.{ruled-says, row_of}
use Rattle.demands.proofs.Ship.HandedOut.{up-not-midway}

barred-not-midway : {P : Type 0} → Midway S.Barred → P
barred-not-midway (inl e) = let z : ◌≡◌ {A = ℕ} 0 1 = cc in absurd (omega arith)
barred-not-midway (inr (inl e)) = let z : ◌≡◌ {A = ℕ} 0 1 = cc in absurd (omega arith)
barred-not-midway (inr (inr e)) = let z : ◌≡◌ {A = ℕ} 0 1 = cc in absurd (omega arith)

hello-row : (u : Ship) (d : List ℕ) (r : Record) {j : Judged} → Row u d r j → Midway j.unit.state → hello_said j.unit ≡ hello_said u
unfolding agreed_with opened
hello-row u d r (row_stays s) m = refl
hello-row u d r (row_shuts s) m = refl
hello-row u d r (row_hello plan e z q) m = refl
hello-row u d r (row_change e q) m = refl
hello-row u d r (row_marked c w n x) m = refl
hello-row u d r (row_opens c w n s k q v) m = refl
hello-row u d r (row_bars c w a n k q l) m = barred-not-midway m

flight-row : (u : Ship) (d : List ℕ) (r : Record) → u.state ≡ S.Opening → {j : Judged} → Row u d r j → j.unit.state ≡ S.Opening
    → flight_of j.unit ≡ flight_of u
unfolding opened
flight-row u d r o (row_stays s) e = refl
flight-row u d r o (row_shuts s) e = refl
flight-row u d r o (row_hello plan x z q) e = up-not-midway u.state (inl o) (ruled-says u d r T.Agree x).0
flight-row u d r o (row_change x q) e = refl
flight-row u d r o (row_marked c w n x) e = refl
flight-row u d r o (row_opens c w n s k q v) e = refl
flight-row u d r o (row_bars c w a n k q l) e = let z : ◌≡◌ {A = ℕ} 0 1 = cc in absurd (omega arith)

pub again-same-datagram : AgainSame
again-same-datagram =
    record {
      hello_kept = λ u d r m n. hello-row u d r (row_of u d r) n;
      flight_kept = λ u d r o e. flight-row u d r o (row_of u d r) e;
    }
