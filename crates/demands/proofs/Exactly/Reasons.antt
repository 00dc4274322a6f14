-- From a case analysis to an if-and-only-if. The idea: an outcome `holds` if what it says has its reason. That an
-- outcome holds is shown by going through the tests of its definition; then a refusal has its reason, and the other
-- way is a computation.
use mathlib.Core.Path.{◌≡◌, refl, subst}
use mathlib.Core.Logic.{◌↔◌}
use mathlib.Core.Bool.{Bool, true, false}
use Prim.Native.Nat.{ℕ}
use native.Mathlib.Omega.{arith}
use Rattle.connection.specs.declared.refusal.Refusal.{Refusal}
use Rattle.record.specs.Header.{content_of}
use Rattle.demands.specs.Exactly.Numbers.{Numbered, ContentsNumbered}
use Rattle.std.specs.Prelude.{Err, Ok, Result, ⊤}

pub contents-numbered : ContentsNumbered
unfolding content_of
contents-numbered = record { one = refl; two = refl; three = refl; four = refl }

pub numbered : Numbered
numbered =
    record {
      one = refl;
      two = refl;
      three = refl;
      four = refl;
      five = refl;
      six = refl;
      seven = refl;
      eight = refl;
      nine = refl;
      ten = refl;
      eleven = refl;
      twelve = refl;
      thirteen = refl;
      fourteen = refl;
      fifteen = refl;
      sixteen = refl;
      seventeen = refl;
    }

-- true is not false
pub clash : {P : Type 0} → true ≡ false → P
clash e = let z : ◌≡◌ {A = ℕ} 0 1 = cc in absurd (omega arith)

-- by a test
pub decide : {P : Type 0} (b : Bool) → (b ≡ true → P) → (b ≡ false → P) → P
decide true y n = y refl
decide false y n = n refl

abbrev pub Holds : (Refusal → Type 0) → Type 0 → Result ⊤ Refusal → Type 0
Holds Why Goes (Ok tt) = Goes
Holds Why Goes (Err x) = Why x

pub refused_when : (Why : Refusal → Type 0) (Goes : Type 0) (o : Result ⊤ Refusal) → Holds Why Goes o
    → ((x : Refusal) → Why x → o ≡ Err x)
    → (x : Refusal) → (o ≡ Err x) ↔ Why x
refused_when Why Goes o h b x = (λ e. subst (Holds Why Goes) e h, b x)

pub done-when : (Why : Refusal → Type 0) (Goes : Type 0) (o : Result ⊤ Refusal) → Holds Why Goes o → (Goes → o ≡ Ok tt)
    → (o ≡ Ok tt) ↔ Goes
done-when Why Goes o h b = (λ e. subst (Holds Why Goes) e h, b)

-- one after the other
pub through : {P Q R : Type 0} → P ↔ Q → Q ↔ R → P ↔ R
through a b = (λ p. b.0 (a.0 p), λ r. a.1 (b.1 r))
