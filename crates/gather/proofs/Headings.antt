-- What a header says of a part lies within its bounds.
use mathlib.Core.Path.{◌≡◌, refl, sym, ap, ◌∙◌}
use mathlib.Core.Bool.{Bool, true, false}
use mathlib.Core.List.{List, [], ◌∷◌}
use Prim.Native.Nat.{ℕ, suc, ◌+◌, ◌*◌, ◌≤◌, ◌<◌}
use native.Mathlib.Omega.{arith}
use lib.ListN.{length, get_or, take, drop}
use lib.Dec.{eqb, ltb}
use borrow.Author.Tests.{ltb-false, eqb-false, eq-eqb, ne_eqb, le-ltb, lt-ltb}
use Rattle.digest.specs.Pick.{pick}
use Rattle.std.specs.Prelude.{Option, Some, None, Result, Ok, Err}
use Rattle.std.specs.List.{IsSplitAt}
use Rattle.std.specs.Int.{w16, from_be_bytes}
use Rattle.gather.specs.Header.{with_ports, with_place, element_of, placed_of, judged_by, heading_by, heading_of, walked_of}
use Rattle.gather.specs.declared.refusal.Refusal.{Refusal}
use Rattle.gather.specs.declared.refusal.Refusal.TheVariants as R
use Rattle.gather.specs.declared.header.Ports.{Ports}
use Rattle.gather.specs.declared.header.Place.{Place}
use Rattle.gather.specs.declared.header.Noted.{Noted}
use Rattle.gather.specs.declared.header.Heading.{Heading}
use Rattle.gather.specs.declared.header.Heading.TheVariants.{Alone, Part}

-- a choice that is not the first value is the second, and the test failed
pub not_first : (A : Type 0) (b : Bool) (x y z : A) → pick b x y ≡ z → (x ≡ z → ⊥) → (b ≡ false) × (y ≡ z)
not_first A true x y z e refuted = absurd (refuted e)
not_first A false x y z e refuted = (refl, e)

pub not_second : (A : Type 0) (b : Bool) (x y z : A) → pick b x y ≡ z → (y ≡ z → ⊥) → (b ≡ true) × (x ≡ z)
not_second A true x y z e refuted = (refl, e)
not_second A false x y z e refuted = absurd (refuted e)

abbrev Outcome : Type 0
Outcome = Result Heading Refusal

no_refusal : (refusal : Refusal) (ports : Ports) (start : ℕ) (p : Place) → ◌≡◌ {A = Outcome} (Err refusal) (Ok (Part ports start p)) → ⊥
no_refusal refusal ports start p e = cc

not_alone : (q : Ports) (s : ℕ) (ports : Ports) (start : ℕ) (p : Place) → ◌≡◌ {A = Outcome} (Ok (Alone q s)) (Ok (Part ports start p)) → ⊥
not_alone q s ports start p e = cc

-- a part's place and total, and where it begins
pub record Within (m : List ℕ) (start : ℕ) (p : Place) : Type 0 where
  pub positive : 0 < p.place
  pub up_to : p.place ≤ p.total
  pub eleven : p.total ≤ 11
  pub several : p.total ≡ 1 → ⊥
  pub begins : start ≤ length m

placed_within : (m : List ℕ) (ports : Ports) (start : ℕ) (p : Place) (ports' : Ports) (start' : ℕ) (q : Place) → start ≤ length m
    → placed_of ports start p ≡ Ok (Part ports' start' q) → Within m start' q
unfolding placed_of
placed_within m ports start p ports' start' q b e =
    let refuted = no_refusal R.Header ports' start' q in
    let one = not_first Outcome (ltb 11 p.total) (Err R.Header) _ _ e refuted in
    let two = not_first Outcome (eqb p.place 0) (Err R.Header) _ _ one.1 refuted in
    let three = not_first Outcome (ltb p.total p.place) (Err R.Header) _ _ two.1 refuted in
    let four = not_first Outcome (eqb p.total 1) (Ok (Alone ports start)) _ _ three.1 (not_alone ports start ports' start' q) in
    let same : p ≡ q = cc four.1 in
    let begun : start ≡ start' = cc four.1 in
    let there : Within m start p =
    record {
      positive = let n : p.place ≡ 0 → ⊥ = eqb-false p.place 0 two.0 in omega arith;
      up_to = ltb-false p.total p.place three.0;
      eleven = ltb-false 11 p.total one.0;
      several = eqb-false p.total 1 four.0;
      begins = b;
    } in
    rw begun at (rw same at there)

judged_within : (m : List ℕ) (ports : Option Ports) (place : Option Place) (start : ℕ) (ports' : Ports) (start' : ℕ) (q : Place)
    → start ≤ length m → judged_by ports place start ≡ Ok (Part ports' start' q) → Within m start' q
judged_within m None place start ports' start' q b e = absurd (no_refusal R.Header ports' start' q e)
judged_within m (Some ports) None start ports' start' q b e = absurd (not_alone ports start ports' start' q e)
judged_within m (Some ports) (Some p) start ports' start' q b e = placed_within m ports start p ports' start' q b e

by_within : (m : List ℕ) (w : Result Noted Refusal) (start : ℕ) (ports : Ports) (start' : ℕ) (q : Place) → start ≤ length m
    → heading_by w start ≡ Ok (Part ports start' q) → Within m start' q
by_within m (Err refusal) start ports start' q b e = absurd (no_refusal refusal ports start' q e)
by_within m (Ok n) start ports start' q b e = judged_within m n.ports n.place start ports start' q b e

pub part_within : (m : List ℕ) (ports : Ports) (start : ℕ) (p : Place) → heading_of m ≡ Ok (Part ports start p) → Within m start p
unfolding heading_of
part_within m ports start p e =
    let refuted = no_refusal R.Header ports start p in
    let one = not_first Outcome (eqb (length m) 0) (Err R.Header) _ _ e refuted in
    let two = not_first Outcome (ltb (length m) (get_or m 0 0 + 1)) (Err R.Header) _ _ one.1 refuted in
    by_within m (walked_of (take (get_or m 0 0) (drop 1 m))) (get_or m 0 0 + 1) ports start p
    (ltb-false (length m) (get_or m 0 0 + 1) two.0) two.1

-- ---- an element

-- the number that two bytes spell, as std reads it
two_bytes : (a b : ℕ) → from_be_bytes w16 (a ∷ b ∷ []) ≡ a * 256 + b
two_bytes a b = omega arith

pub ports_noted : (n : Noted) (number : ℕ) (b : List ℕ) (d o : ℕ) → number ≡ 5 → length b ≡ 4
    → d ≡ from_be_bytes w16 (get_or b 0 0 ∷ get_or b 1 0 ∷ []) → o ≡ from_be_bytes w16 (get_or b 2 0 ∷ get_or b 3 0 ∷ [])
    → ◌≡◌ {A = Result Noted Refusal} (Ok (with_ports n (record { destination = d; originator = o }))) (element_of n number b)
unfolding element_of
ports_noted n number b d o e l ed eo =
    rw (ed ∙ two_bytes (get_or b 0 0) (get_or b 1 0), eo ∙ two_bytes (get_or b 2 0) (get_or b 3 0), eq-eqb number 5 e, eq-eqb (length b) 4 l)

pub ports_wrong : (n : Noted) (number : ℕ) (b : List ℕ) → number ≡ 5 → (length b ≡ 4 → ⊥) → Err R.Header ≡ element_of n number b
unfolding element_of
ports_wrong n number b e l = rw (eq-eqb number 5 e, ne_eqb (length b) 4 l)

pub place_noted : (n : Noted) (number : ℕ) (b : List ℕ) → number ≡ 0 → length b ≡ 3
    → ◌≡◌ {A = Result Noted Refusal}
    (Ok (with_place n (record { reference = get_or b 0 0; total = get_or b 1 0; place = get_or b 2 0 }))) (element_of n number b)
unfolding element_of
place_noted n number b e l = rw (ne_eqb number 5 (λ q. omega arith), eq-eqb number 0 e, eq-eqb (length b) 3 l)

pub place_wrong : (n : Noted) (number : ℕ) (b : List ℕ) → number ≡ 0 → (length b ≡ 3 → ⊥) → Err R.Header ≡ element_of n number b
unfolding element_of
place_wrong n number b e l = rw (ne_eqb number 5 (λ q. omega arith), eq-eqb number 0 e, ne_eqb (length b) 3 l)

pub skipped : (n : Noted) (number : ℕ) (b : List ℕ) → (number ≡ 5 → ⊥) → (number ≡ 0 → ⊥) → Ok n ≡ element_of n number b
unfolding element_of
skipped n number b h k = rw (ne_eqb number 5 h, ne_eqb number 0 k)

pub total_over : (ports : Ports) (start : ℕ) (p : Place) → 11 < p.total → Err R.Header ≡ placed_of ports start p
unfolding placed_of
total_over ports start p h = rw (lt-ltb 11 p.total h)

-- ---- the whole header

-- no byte, or a header past the end
pub no_bytes : (m : List ℕ) → length m ≡ 0 → Err R.Header ≡ heading_of m
unfolding heading_of
no_bytes m e = rw (eq-eqb (length m) 0 e)

module _ (m : List ℕ) (first : ℕ) (rest : List ℕ) (whole : m ≡ first ∷ rest) (size : ℕ) (is : size ≡ first) where
  pub past_end : length rest < size → Err R.Header ≡ heading_of m
  unfolding heading_of
  past_end l =
      rw (whole, sym is)
      (rw (ne_eqb (suc (length rest)) 0 (λ q. omega arith), lt-ltb (suc (length rest)) (size + 1) (omega arith)))

  -- once its length is seen to fit
  pub read_on : (header back : List ℕ) (w : Result Noted Refusal) (x : Outcome) → IsSplitAt rest size header back
      → walked_of header ≡ w → x ≡ heading_by w (size + 1) → x ≡ heading_of m
  unfolding heading_of
  read_on header back w x cut e ex =
      rw (whole, sym is)
      (rw (ne_eqb (suc (length rest)) 0 (λ q. omega arith), le-ltb (suc (length rest)) (size + 1) (omega (arith, cut.0)))
      (ex ∙ ap (λ v. heading_by v (size + 1)) (sym e ∙ ap walked_of cut.1)))
