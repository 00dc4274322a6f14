-- A whole report at the front, read off from the bytes. The idea: what was found has passed every test of the definition,
-- so each pick is undone by the value it gave; and bytes with these properties pass every test.
use mathlib.Core.Path.{◌≡◌, refl, sym, ◌∙◌, ap}
use mathlib.Core.Bool.{Bool, true, false}
use mathlib.Core.List.{List, [], ◌∷◌, ◌++◌}
use Prim.Native.Nat.{ℕ, ◌+◌, ◌-◌, ◌≤◌, ◌<◌}
use native.Mathlib.Omega.{arith}
use native.Mathlib.Nat.{le_of_eq}
use lib.ListN.{length, get_or, take, drop, length-append, length-drop}
use lib.Seq.{length-take-le, take-add, take_at, take_all}
use lib.Dec.{eqb, ltb}
use borrow.Author.Tests.{eqb-true, ltb-false, eq-eqb, ne_eqb, lt-ltb, le-ltb}
use Rattle.digest.specs.Pick.{pick}
use Rattle.digest.specs.Bytes.{bytes2}
use Rattle.dayfile.specs.File.{Report, head_of, report_of, is_sized}
use Rattle.dayfile.specs.Runs.{pair_at, whole_if, front_of, found_in, Standing}
use Rattle.dayfile.specs.declared.report.Found.{Found}
use Rattle.std.specs.Prelude.{Option, Some, None}
use Rattle.dayfile.proofs.Laying.{pair_back, bytes2_of}

pub record FrontIs (s : List ℕ) (found : Found) : Type 0 where
  pub opens : get_or s 0 0 ≡ 209
  pub numbered : found.number ≡ pair_at s 1
  pub sized : found.size ≡ pair_at s 3
  pub some : 1 ≤ found.size
  pub small : found.size ≤ 1400
  pub inside : 5 + found.size ≤ length s

-- ---- sizes

pub sized_yes : (n : ℕ) → 1 ≤ n → n ≤ 1400 → is_sized n ≡ true
sized_yes n h k = rw (le-ltb n 1 h, le-ltb 1400 n k)

pub sized_is : (n : ℕ) → is_sized n ≡ true → (1 ≤ n) × (n ≤ 1400)
sized_is n e = told (ltb n 1) (ltb 1400 n) refl refl e
  where
    told : (a b : Bool) → ltb n 1 ≡ a → ltb 1400 n ≡ b → pick a false (pick b false true) ≡ true → (1 ≤ n) × (n ≤ 1400)
    told true b p q z = let w : false ≡ true = z in absurd (cc)
    told false true p q z = let w : false ≡ true = z in absurd (cc)
    told false false p q z = (ltb-false n 1 p, ltb-false 1400 n q)

-- ---- from the answer to the bytes

passed_no : (b : Bool) (y : Option Found) (f : Found) → pick b None y ≡ Some f → (b ≡ false) × (y ≡ Some f)
passed_no true y f e = absurd (cc)
passed_no false y f e = (refl, e)

passed_yes : (b : Bool) (y : Option Found) (f : Found) → pick b y None ≡ Some f → (b ≡ true) × (y ≡ Some f)
passed_yes true y f e = (refl, e)
passed_yes false y f e = absurd (cc)

same_found : (f g : Found) → ◌≡◌ {A = Option Found} (Some f) (Some g) → f ≡ g
same_found f g e = cc

whole_is : (number size left : ℕ) (f : Found) → whole_if number size left ≡ Some f
    → (f ≡ record { number = number; size = size }) × (1 ≤ size) × (size ≤ 1400) × (size ≤ left)
unfolding whole_if
whole_is number size left f e =
    let found : Found = record { number = number; size = size } in
    let one = passed_yes (is_sized size) (pick (ltb left size) None (Some found)) f e in
    let two = passed_no (ltb left size) (Some found) f one.1 in
    let range = sized_is size one.0 in
    (sym (same_found found f two.1), range.0, range.1, ltb-false left size two.0)

pub front_is : (s : List ℕ) (f : Found) → front_of s ≡ Some f → FrontIs s f
unfolding front_of
front_is s f e =
    let rest : Option Found = whole_if (pair_at s 1) (pair_at s 3) (length s - 5) in
    let one = passed_no (ltb (length s) 5) (pick (eqb (get_or s 0 0) 209) rest None) f e in
    let two = passed_yes (eqb (get_or s 0 0) 209) rest f one.1 in
    let long : 5 ≤ length s = ltb-false (length s) 5 one.0 in
    let three = whole_is (pair_at s 1) (pair_at s 3) (length s - 5) f two.1 in
    let size : f.size ≡ pair_at s 3 = ap (λ g. g.size) three.0 in
    record {
      opens = eqb-true (get_or s 0 0) 209 two.0;
      numbered = ap (λ g. g.number) three.0;
      sized = size;
      some = rw size three.1;
      small = rw size three.2;
      inside = rw size (omega (arith, three.3, long));
    }

-- ---- from the bytes to the answer

pub ill_sized : (number size left : ℕ) → is_sized size ≡ false → None ≡ whole_if number size left
unfolding whole_if
ill_sized number size left e = sym (ap (λ t. pick t (pick (ltb left size) None (Some (record { number = number; size = size }))) None) e)

pub too_short : (number size left : ℕ) → is_sized size ≡ true → left < size → None ≡ whole_if number size left
unfolding whole_if
too_short number size left e h = sym (rw (e, lt-ltb left size h))

pub whole_found : (f : Found) (left : ℕ) → is_sized f.size ≡ true → f.size ≤ left → Some f ≡ whole_if f.number f.size left
unfolding whole_if
whole_found f left e h = sym (rw (e, le-ltb left f.size h))

pub front_found : (s : List ℕ) (f : Found) → FrontIs s f → front_of s ≡ Some f
unfolding front_of
front_found s f w =
    let inside : f.size ≤ length s - 5 = omega (arith, w.inside) in
    let long : 5 ≤ length s = omega (arith, w.inside) in
    let found : whole_if (pair_at s 1) (pair_at s 3) (length s - 5) ≡ Some f
    = (λ i. whole_if (sym w.numbered i) (sym w.sized i) (length s - 5)) ∙ sym (whole_found f (length s - 5) (sized_yes f.size w.some w.small) inside) in
    rw (le-ltb (length s) 5 long, eq-eqb (get_or s 0 0) 209 w.opens) found

pub short_nothing : (s : List ℕ) → length s < 5 → front_of s ≡ None
unfolding front_of
short_nothing s h = rw (lt-ltb (length s) 5 h)

pub other_nothing : (s : List ℕ) → (get_or s 0 0 ≡ 209 → ⊥) → front_of s ≡ None
unfolding front_of
other_nothing s h =
    ap (λ t. pick (ltb (length s) 5) None (pick t (whole_if (pair_at s 1) (pair_at s 3) (length s - 5)) None)) (ne_eqb (get_or s 0 0) 209 h)
    ∙ either (ltb (length s) 5)
  where
    either : (a : Bool) → ◌≡◌ {A = Option Found} (pick a None None) None
    either true = refl
    either false = refl

pub front_opened : (s : List ℕ) (n z : ℕ) → 5 ≤ length s → get_or s 0 0 ≡ 209 → n ≡ pair_at s 1 → z ≡ pair_at s 3
    → whole_if n z (length s - 5) ≡ front_of s
unfolding front_of
front_opened s n z h e p q =
    rw (le-ltb (length s) 5 h, eq-eqb (get_or s 0 0) 209 e) (λ i. whole_if (p i) (q i) (length s - 5))

pub part_on : (d : List ℕ) (at : ℕ) → take (length d - at) (drop at d) ≡ drop at d
part_on d at = take_all (length d - at) (drop at d) (le_of_eq (length-drop at d))

-- ---- what is found stands there

pub length_report : (r : Report) → length (report_of r) ≡ 5 + length r.bytes
unfolding report_of
length_report r = length-append (head_of r.number (length r.bytes)) r.bytes

five_first : (s : List ℕ) → 5 ≤ length s
    → take 5 s ≡ get_or s 0 0 ∷ get_or s 1 0 ∷ get_or s 2 0 ∷ get_or s 3 0 ∷ get_or s 4 0 ∷ []
five_first [] h = absurd (omega arith)
five_first (a ∷ []) h = absurd (omega arith)
five_first (a ∷ b ∷ []) h = absurd (omega arith)
five_first (a ∷ b ∷ c ∷ []) h = absurd (omega arith)
five_first (a ∷ b ∷ c ∷ d ∷ []) h = absurd (omega arith)
five_first (a ∷ b ∷ c ∷ d ∷ e ∷ s) h = refl

pub found_length : (s : List ℕ) (f : Found) → 5 + f.size ≤ length s → length (found_in s f).bytes ≡ f.size
found_length s f h = length-take-le f.size (drop 5 s) (omega (arith, length-drop 5 s))

pub front_stands : (s : List ℕ) → ((k : ℕ) → get_or s k 0 < 256) → Standing s (front_of s)
unfolding report_of
front_stands s below f e =
    let w : FrontIs s f = front_is s f e in
    let size : length (found_in s f).bytes ≡ f.size = found_length s f w.inside in
    let number : bytes2 f.number ≡ get_or s 1 0 ∷ get_or s 2 0 ∷ [] = ap bytes2 w.numbered ∙ bytes2_of (get_or s 1 0) (get_or s 2 0) (below 1) (below 2) in
    let sizes : bytes2 f.size ≡ get_or s 3 0 ∷ get_or s 4 0 ∷ [] = ap bytes2 w.sized ∙ bytes2_of (get_or s 3 0) (get_or s 4 0) (below 3) (below 4) in
    let head : head_of f.number f.size ≡ take 5 s
    = (λ i. sym w.opens i ∷ (number i ++ sizes i)) ∙ sym (five_first s (omega (arith, w.inside))) in
    ap (λ m. head_of f.number m ++ take f.size (drop 5 s)) size
    ∙ ap (λ l. l ++ take f.size (drop 5 s)) head
    ∙ sym (take-add 5 f.size s)

pub nothing_stands : (s : List ℕ) (front : Option Found) → front ≡ None → Standing s front
nothing_stands s front e f w = absurd (cc)

-- ---- what is written is found

-- what tells of a report
abbrev pub told_of : Report → Found
told_of r = record { number = r.number; size = length r.bytes }

pub report_front : (r : Report) (t : List ℕ) → 1 ≤ length r.bytes → length r.bytes ≤ 1400 → r.number < 65536
    → FrontIs (report_of r ++ t) (told_of r)
unfolding report_of
report_front r t h k m =
    record {
      opens = refl;
      numbered = sym (pair_back r.number m);
      sized = sym (pair_back (length r.bytes) (omega arith));
      some = h;
      small = k;
      inside = omega (arith, length-append r.bytes t);
    }

pub report_found : (r : Report) (t : List ℕ) → found_in (report_of r ++ t) (told_of r) ≡ r
unfolding report_of
report_found r t = ap (λ b. record { number = r.number; bytes = b }) (take_at r.bytes t (length r.bytes) refl)
