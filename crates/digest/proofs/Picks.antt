-- The laws of `pick`: which value it gives, by the test or by the fact that the test decides. `search picks`
-- closes nearly every return of branching code against a definition made of picks.
use Rattle.std.proofs.Common.{◌≡◌, ℕ, ◌+◌, ◌<◌, ◌≤◌, Bool, true, false, eqb, ltb, leb, sym, refl, ap, ◌∙◌, arith, le-ltb, lt-ltb, eq-eqb, ne_eqb, le-leb}
use mathlib.Core.Logic.{by_cases}
use native.Mathlib.Decide.{dec_le}
use borrow.Author.Tests.{lt-leb}
use Rattle.digest.specs.Pick.{pick}

pub pick_yes : (A : Type 0) (r x y : A) (b : Bool) → b ≡ true → r ≡ x → r ≡ pick b x y
pick_yes A r x y b h e = rw h e

pub pick_no : (A : Type 0) (r x y : A) (b : Bool) → b ≡ false → r ≡ y → r ≡ pick b x y
pick_no A r x y b h e = rw h e

-- a test that equals another whose value is known
pub via : (b t a : Bool) → a ≡ b → a ≡ t → b ≡ t
via b t a p q = sym p ∙ q

pub ruleset picks = (pick_yes, pick_no, eq-eqb, ne_eqb, lt-ltb, le-ltb, le-leb, lt-leb, via)

-- The same by a fact about numbers, one law to each way that a test falls out. A proof by these says of a wrong program which fact fails.
pub if_eq : {A : Type 0} {r x : A} (y : A) (a b : ℕ) → a ≡ b → r ≡ x → r ≡ pick (eqb a b) x y
if_eq {A} {r} {x} y a b h e = pick_yes A r x y (eqb a b) (eq-eqb a b h) e

pub if_ne : {A : Type 0} {r y : A} (x : A) (a b : ℕ) → (a ≡ b → ⊥) → r ≡ y → r ≡ pick (eqb a b) x y
if_ne {A} {r} {y} x a b h e = pick_no A r x y (eqb a b) (ne_eqb a b h) e

pub if_lt : {A : Type 0} {r x : A} (y : A) (a b : ℕ) → a < b → r ≡ x → r ≡ pick (ltb a b) x y
if_lt {A} {r} {x} y a b h e = pick_yes A r x y (ltb a b) (lt-ltb a b h) e

pub if_ge : {A : Type 0} {r y : A} (x : A) (a b : ℕ) → b ≤ a → r ≡ y → r ≡ pick (ltb a b) x y
if_ge {A} {r} {y} x a b h e = pick_no A r x y (ltb a b) (le-ltb a b h) e

-- A sum that was kept within a limit, where it is not the one number above it.
pub within : (most a b r : ℕ) → r ≡ pick (leb (a + b) most) (a + b) (most + 1) → r ≤ most → r ≡ a + b
within most a b r e h =
    by_cases (dec_le (a + b) most)
    (λ y. e ∙ sym (pick_yes ℕ (a + b) (a + b) (most + 1) (leb (a + b) most) (le-leb (a + b) most y) refl))
    (λ n. absurd (omega (arith, e ∙ sym (pick_no ℕ (most + 1) (a + b) (most + 1) (leb (a + b) most) (lt-leb (a + b) most (omega arith)) refl))))
