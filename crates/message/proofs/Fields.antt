-- Laws of fields and vectors: where one ends if it is there, and that none ends past the message. At the end, of tests.
use mathlib.Core.Path.{◌≡◌, refl, sym, ◌∙◌, ap}
use mathlib.Core.List.{List, []}
use mathlib.Core.Bool.{Bool, true, false}
use Prim.Native.Nat.{ℕ, ◌+◌, ◌-◌, ◌≤◌, ◌<◌}
use native.Mathlib.Omega.{arith}
use native.Mathlib.Nat.{le_refl}
use lib.ListN.{length, get_or, take, drop, length-drop, drop_of_length-le}
use lib.Seq.{take-nil, take_all}
use lib.Dec.{leb, ltb}
use borrow.Author.Tests.{le-leb, lt-leb, le-ltb, lt-ltb, leb-true, ltb-true, ltb-false, ne_eqb, eqb-true, eqb-false}
use Rattle.digest.specs.Pick.{pick}
use Rattle.std.specs.Prelude.{Option, None, Some, Err, ok_or, eqb, slice_get, ◌∷◌}
use Rattle.std.specs.Bool.{then_some}
use Rattle.std.proofs.lemmas.Grind.{get_or_default_zero}
use Rattle.message.specs.Field.{field_end, short_end, long_end, told_end, two_at, part_of, both}

-- what `ok_or` refuses with
pub refused_by : {T E : Type 0} (o : Option T) (d f : E) → Err d ≡ ok_or o f → (o ≡ None) × (d ≡ f)
refused_by None d f e = (refl, cc)
refused_by (Some x) d f e = let y : ◌≡◌ {A = ℕ} 0 1 = cc in absurd (omega arith)

-- an end as it is answered
pub told_none : (n : ℕ) → 0 ≡ n → None ≡ told_end n
told_none n h = rw (sym h) refl

pub told_some : (e n : ℕ) → 0 < e → e ≡ n → Some e ≡ told_end n
told_some e n p h = rw (sym h, ne_eqb e 0 (λ z. omega arith)) refl

pub told_same : (r : Option ℕ) (n k : ℕ) → r ≡ told_end n → n ≡ k → r ≡ told_end k
told_same r n k e h = e ∙ ap told_end h

pub told_if : (b : Bool) (e n : ℕ) → 0 < e → pick b e 0 ≡ n → then_some b e ≡ told_end n
told_if true e n p h = told_some e n p h
told_if false e n p h = told_none n h

pub not_zero : (n : ℕ) → 0 < n → n ≡ 0 → ⊥
not_zero n p h = omega arith

pub end_none : (n : ℕ) → None ≡ told_end n → n ≡ 0
end_none n e = go (eqb n 0) refl e
  where
    go : (b : Bool) → eqb n 0 ≡ b → ◌≡◌ {A = Option ℕ} None (pick b None (Some n)) → n ≡ 0
    go true h z = eqb-true n 0 h
    go false h z = let y : ◌≡◌ {A = ℕ} 0 1 = cc in absurd (omega arith)

pub end_some : (e n : ℕ) → Some e ≡ told_end n → (e ≡ n) × (n ≡ 0 → ⊥)
end_some e n = go (eqb n 0) refl
  where
    go : (b : Bool) → eqb n 0 ≡ b → ◌≡◌ {A = Option ℕ} (Some e) (pick b None (Some n)) → (e ≡ n) × (n ≡ 0 → ⊥)
    go true h z = let y : ◌≡◌ {A = ℕ} 0 1 = cc in absurd (omega arith)
    go false h z = (cc, eqb-false n 0 h)

pub field_fits : (m : List ℕ) (at n : ℕ) → at + n ≤ length m → at + n ≡ field_end m at n
unfolding field_end
field_fits m at n h = rw (le-leb (at + n) (length m) h) refl

pub field_cut : (m : List ℕ) (at n : ℕ) → length m < at + n → 0 ≡ field_end m at n
unfolding field_end
field_cut m at n h = rw (lt-leb (at + n) (length m) h) refl

-- a pick of numbers, each at most a bound, is at most the bound
pub pick_le : (b : Bool) (x y n : ℕ) → x ≤ n → y ≤ n → pick b x y ≤ n
pick_le true x y n h k = h
pick_le false x y n h k = k

pub field_within : (m : List ℕ) (at n : ℕ) → field_end m at n ≤ length m
unfolding field_end
field_within m at n = go (leb (at + n) (length m)) refl
  where
    go : (b : Bool) → leb (at + n) (length m) ≡ b → pick b (at + n) 0 ≤ length m
    go true e = leb-true (at + n) (length m) e
    go false e = omega arith

-- a field that is there ends where its bytes end
pub field_there : (m : List ℕ) (at n : ℕ) → (field_end m at n ≡ 0 → ⊥) → (field_end m at n ≡ at + n) × (at + n ≤ length m)
unfolding field_end
field_there m at n = go (leb (at + n) (length m)) refl
  where
    go : (b : Bool) → leb (at + n) (length m) ≡ b → (pick b (at + n) 0 ≡ 0 → ⊥) → (pick b (at + n) 0 ≡ at + n) × (at + n ≤ length m)
    go true e h = (refl, leb-true (at + n) (length m) e)
    go false e h = absurd (h refl)

-- parts
pub part_past : (m : List ℕ) (from end : ℕ) → length m ≤ from → [] ≡ part_of m from end
part_past m from end h = rw (drop_of_length-le m h) (sym (take-nil (end - from)))

pub part_none : (m : List ℕ) (from end : ℕ) → end ≤ from → [] ≡ part_of m from end
part_none m from end h =
    let z : end - from ≡ 0 = omega arith in
    rw z refl

pub part_rest : (m : List ℕ) (from end : ℕ) → length m ≤ end → take (length m - from) (drop from m) ≡ part_of m from end
part_rest m from end h =
    let n : length (drop from m) ≤ length m - from = rw (length-drop from m) (le_refl _) in
    let k : length (drop from m) ≤ end - from = rw (length-drop from m) (omega arith) in
    take_all (length m - from) (drop from m) n ∙ sym (take_all (end - from) (drop from m) k)

pub pick_same : (b : Bool) (x : ℕ) → x ≡ pick b x x
pick_same true x = refl
pick_same false x = refl

-- a byte that `get` gave, and one that it did not give
pub got : (m : List ℕ) (at b : ℕ) → true ≡ ltb at (length m) → b ≡ get_or m at b → (at < length m) × (b ≡ get_or m at 0)
got m at b h e =
    let l : at < length m = ltb-true at (length m) (sym h) in
    (l, e ∙ get_or_default_zero m at b l)

pub not_got : (m : List ℕ) (at : ℕ) → false ≡ ltb at (length m) → length m ≤ at
not_got m at h = ltb-false at (length m) (sym h)

pub first_got : (m : List ℕ) (b : ℕ) → Some b ≡ slice_get m 0 → (length m ≡ 0 → ⊥) × (b ≡ get_or m 0 0)
first_got [] b e = let y : ◌≡◌ {A = ℕ} 0 1 = cc in absurd (omega arith)
first_got (x ∷ m) b e = (λ z. omega arith, cc)

pub first_not_got : (m : List ℕ) → None ≡ slice_get m 0 → length m ≡ 0
first_not_got [] e = refl
first_not_got (x ∷ m) e = let y : ◌≡◌ {A = ℕ} 0 1 = cc in absurd (omega arith)

-- vectors with a length of one byte
module _ (floor ceiling : ℕ) (m : List ℕ) (at : ℕ) where
  pub short_cut : length m ≤ at → short_end floor ceiling m at ≡ 0
  unfolding short_end
  short_cut h = rw (le-ltb at (length m) h) refl

  module _ (l : at < length m) (b : ℕ) (e : b ≡ get_or m at 0) where
    pub short_low : b < floor → 0 ≡ short_end floor ceiling m at
    unfolding short_end
    short_low h = rw (lt-ltb at (length m) l, sym e, lt-leb floor b h) refl

    pub short_high : ceiling < b → 0 ≡ short_end floor ceiling m at
    unfolding short_end
    short_high h = rw (lt-ltb at (length m) l, sym e, lt-leb b ceiling h) (pick_same (leb floor b) 0)

    pub short_fits : floor ≤ b → b ≤ ceiling → field_end m (at + 1) b ≡ short_end floor ceiling m at
    unfolding short_end
    short_fits f h = rw (lt-ltb at (length m) l, sym e, le-leb floor b f, le-leb b ceiling h) refl

-- vectors with a length of two bytes
pub long_fits : (m : List ℕ) (at : ℕ) → at + 1 < length m → field_end m (at + 2) (two_at m at) ≡ long_end m at
unfolding long_end
long_fits m at h = rw (lt-ltb (at + 1) (length m) h) refl

pub long_cut : (m : List ℕ) (at : ℕ) → length m ≤ at + 1 → 0 ≡ long_end m at
unfolding long_end
long_cut m at h = rw (le-ltb (at + 1) (length m) h) refl

pub long_within : (m : List ℕ) (at : ℕ) → long_end m at ≤ length m
unfolding long_end
long_within m at = pick_le (ltb (at + 1) (length m)) _ 0 (length m) (field_within m (at + 2) (two_at m at)) (omega arith)

-- a place that lies past n, unless it is the 0 of a field that is not there
abbrev pub Past : ℕ → ℕ → Type 0
Past n x = (x ≡ 0 → ⊥) → n < x

pub past_zero : (n : ℕ) → Past n 0
past_zero n h = absurd (h refl)

pub past_pick : (b : Bool) (x y n : ℕ) → Past n x → Past n y → Past n (pick b x y)
past_pick true x y n p q = p
past_pick false x y n p q = q

pub past_field : (m : List ℕ) (at k n : ℕ) → n < at + k → Past n (field_end m at k)
past_field m at k n l h = omega (arith, (field_there m at k h).0)

pub past_short : (floor ceiling : ℕ) (m : List ℕ) (at n : ℕ) → n ≤ at → Past n (short_end floor ceiling m at)
unfolding short_end
past_short floor ceiling m at n l =
    past_pick (ltb at (length m)) _ 0 n
    (past_pick (leb floor (get_or m at 0)) _ 0 n
    (past_pick (leb (get_or m at 0) ceiling) _ 0 n (past_field m (at + 1) (get_or m at 0) n (omega arith)) (past_zero n))
    (past_zero n))
    (past_zero n)

pub past_long : (m : List ℕ) (at n : ℕ) → n ≤ at → Past n (long_end m at)
unfolding long_end
past_long m at n l =
    past_pick (ltb (at + 1) (length m)) _ 0 n (past_field m (at + 2) (two_at m at) n (omega arith)) (past_zero n)

-- a vector that is there has room for its length
pub long_there : (m : List ℕ) (at : ℕ) → (long_end m at ≡ 0 → ⊥)
    → (long_end m at ≡ at + 2 + two_at m at) × (at + 2 + two_at m at ≤ length m)
unfolding long_end
long_there m at = go (ltb (at + 1) (length m))
  where
    go : (b : Bool) → (pick b (field_end m (at + 2) (two_at m at)) 0 ≡ 0 → ⊥)
        → (pick b (field_end m (at + 2) (two_at m at)) 0 ≡ at + 2 + two_at m at) × (at + 2 + two_at m at ≤ length m)
    go true h = field_there m (at + 2) (two_at m at) h
    go false h = absurd (h refl)

-- tests: cases on one, a false one that holds, two that both hold
pub by_test : (C : Type 0) (b : Bool) → (b ≡ true → C) → (b ≡ false → C) → C
by_test C true f g = f refl
by_test C false f g = g refl

pub clash : {C : Type 0} → false ≡ true → C
clash e = let z : ◌≡◌ {A = ℕ} 0 1 = cc in absurd (omega arith)

pub both_split : (a b : Bool) → both a b ≡ true → (a ≡ true) × (b ≡ true)
both_split true b h = (refl, h)
both_split false b h = clash h

pub both_true : (a b : Bool) → a ≡ true → b ≡ true → both a b ≡ true
both_true a b p q = rw p q
