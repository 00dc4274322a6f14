-- Laws of the ends of a set's parts and of what is told of them: one for each return of the reader.
use Rattle.std.specs.Prelude.{Option, None, Some}
use mathlib.Core.Path.{◌≡◌, refl, sym, ◌∙◌, ap}
use mathlib.Core.List.{List}
use mathlib.Core.Bool.{Bool, true, false}
use Prim.Native.Nat.{ℕ, ◌+◌, ◌≤◌, ◌<◌}
use native.Mathlib.Omega.{arith}
use lib.ListN.{length, get_or, get_or-eq_default}
use borrow.Author.Tests.{le-leb, lt-leb, le-ltb, lt-ltb, eq-eqb, ne_eqb}
use Rattle.digest.specs.Pick.{pick}
use Rattle.message.specs.Field.{field_end, short_end, long_end, told_end, two_at, part_of}
use Rattle.message.specs.Keys.{specifier_end}
use Rattle.message.specs.Set.{is_diffie_hellman, is_elliptic_curve, next_end, next_long, basis_end, curve_field_end, field_id_of, place, dh_placed, ec_placed, filling, read_dh, read_ec, read_of, set_sound}
use Rattle.message.specs.declared.set.FieldId.{FieldId}
use Rattle.message.specs.declared.set.FieldId.TheVariants as F
use Rattle.message.specs.declared.set.Set.{Set}
use Rattle.message.specs.declared.set.Set.TheVariants.{Skipped, DiffieHellman, EllipticCurve}
use Rattle.message.proofs.Fields.{pick_same, end_none, end_some}

-- a vector behind another part
module _ (floor : ℕ) (s : List ℕ) (at : ℕ) where
  pub next_none : at ≡ 0 → 0 ≡ next_end floor s at
  unfolding next_end
  next_none h = rw (eq-eqb at 0 h) refl

  pub next_some : (at ≡ 0 → ⊥) → next_end floor s at ≡ short_end floor 255 s at
  unfolding next_end
  next_some h = rw (ne_eqb at 0 h) refl

  -- as it is answered, behind a part that is there
  pub next_there : 0 < at → (e : ℕ) → Some e ≡ told_end (short_end floor 255 s at) → e ≡ next_end floor s at
  next_there p e h = (end_some e _ h).0 ∙ sym (next_some (λ z. omega arith))

  pub next_gone : 0 < at → None ≡ told_end (short_end floor 255 s at) → 0 ≡ next_end floor s at
  next_gone p h = sym (next_some (λ z. omega arith) ∙ end_none _ h)

module _ (s : List ℕ) (at : ℕ) where
  pub long_none : at ≡ 0 → 0 ≡ next_long s at
  unfolding next_long
  long_none h = rw (eq-eqb at 0 h) refl

  pub long_empty : (at ≡ 0 → ⊥) → two_at s at ≡ 0 → 0 ≡ next_long s at
  unfolding next_long
  long_empty h k = rw (ne_eqb at 0 h, eq-eqb (two_at s at) 0 k) refl

  pub long_some : (at ≡ 0 → ⊥) → (two_at s at ≡ 0 → ⊥) → next_long s at ≡ long_end s at
  unfolding next_long
  long_some h k = rw (ne_eqb at 0 h, ne_eqb (two_at s at) 0 k) refl

  -- a number past the end is 0
  pub two_past : length s ≤ at → 0 ≡ two_at s at
  two_past h = rw (get_or-eq_default s 0 h, get_or-eq_default s 0 {n = at + 1} (omega arith)) refl

-- the basis
module _ (s : List ℕ) (h : 3 < length s) where
  pub basis_onb : get_or s 3 0 ≡ 1 → basis_end s ≡ 4
  unfolding basis_end
  basis_onb y = rw (lt-ltb 3 (length s) h, y) refl

  pub basis_trinomial : get_or s 3 0 ≡ 2 → basis_end s ≡ field_end s 4 2
  unfolding basis_end
  basis_trinomial y = rw (lt-ltb 3 (length s) h, y) refl

  pub basis_pentanomial : get_or s 3 0 ≡ 3 → basis_end s ≡ field_end s 4 6
  unfolding basis_end
  basis_pentanomial y = rw (lt-ltb 3 (length s) h, y) refl

  pub basis_polynomial : get_or s 3 0 ≡ 4 → basis_end s ≡ short_end 1 255 s 4
  unfolding basis_end
  basis_polynomial y = rw (lt-ltb 3 (length s) h, y) refl

  pub basis_other : (get_or s 3 0 ≡ 1 → ⊥) → (get_or s 3 0 ≡ 2 → ⊥) → (get_or s 3 0 ≡ 3 → ⊥) → (get_or s 3 0 ≡ 4 → ⊥)
      → basis_end s ≡ 0
  unfolding basis_end
  basis_other a b c d =
      rw (
        lt-ltb 3 (length s) h,
        ne_eqb (get_or s 3 0) 1 a,
        ne_eqb (get_or s 3 0) 2 b,
        ne_eqb (get_or s 3 0) 3 c,
        ne_eqb (get_or s 3 0) 4 d,
      )
      refl

pub basis_cut : (s : List ℕ) → length s ≤ 3 → basis_end s ≡ 0
unfolding basis_end
basis_cut s h = rw (le-ltb 3 (length s) h) refl

-- the field
module _ (s : List ℕ) (n : length s ≡ 0 → ⊥) where
  pub field_is_prime : get_or s 0 0 ≡ 1 → curve_field_end s ≡ short_end 1 255 s 1
  unfolding curve_field_end
  field_is_prime y = rw (lt-ltb 0 (length s) (omega (arith, n)), y) refl

  pub field_is_two : get_or s 0 0 ≡ 2 → curve_field_end s ≡ basis_end s
  unfolding curve_field_end
  field_is_two y = rw (lt-ltb 0 (length s) (omega (arith, n)), y) refl

  pub field_other : (get_or s 0 0 ≡ 1 → ⊥) → (get_or s 0 0 ≡ 2 → ⊥) → curve_field_end s ≡ 0
  unfolding curve_field_end
  field_other a b =
      rw (lt-ltb 0 (length s) (omega (arith, n)), ne_eqb (get_or s 0 0) 1 a, ne_eqb (get_or s 0 0) 2 b) refl

pub field_cut : (s : List ℕ) → length s ≡ 0 → curve_field_end s ≡ 0
unfolding curve_field_end
field_cut s h = rw (le-ltb 0 (length s) (omega arith)) refl

-- what is told of it
pub id_prime : (s : List ℕ) → get_or s 0 0 ≡ 1 → F.Prime (place 2 (curve_field_end s)) ≡ field_id_of s
unfolding field_id_of
id_prime s y = rw (eq-eqb (get_or s 0 0) 1 y) refl

module _ (s : List ℕ) (n : get_or s 0 0 ≡ 1 → ⊥) where
  pub id_onb : get_or s 3 0 ≡ 1 → F.Onb (two_at s 1) ≡ field_id_of s
  unfolding field_id_of
  id_onb y = rw (ne_eqb (get_or s 0 0) 1 n, eq-eqb (get_or s 3 0) 1 y) refl

  pub id_trinomial : get_or s 3 0 ≡ 2 → F.Trinomial (two_at s 1) (two_at s 4) ≡ field_id_of s
  unfolding field_id_of
  id_trinomial y =
      rw (ne_eqb (get_or s 0 0) 1 n, ne_eqb (get_or s 3 0) 1 (λ z. omega arith), eq-eqb (get_or s 3 0) 2 y) refl

  pub id_pentanomial : get_or s 3 0 ≡ 3 → F.Pentanomial (two_at s 1) (two_at s 4) (two_at s 6) (two_at s 8) ≡ field_id_of s
  unfolding field_id_of
  id_pentanomial y =
      rw (
        ne_eqb (get_or s 0 0) 1 n,
        ne_eqb (get_or s 3 0) 1 (λ z. omega arith),
        ne_eqb (get_or s 3 0) 2 (λ z. omega arith),
        eq-eqb (get_or s 3 0) 3 y,
      )
      refl

  pub id_polynomial : (get_or s 3 0 ≡ 1 → ⊥) → (get_or s 3 0 ≡ 2 → ⊥) → (get_or s 3 0 ≡ 3 → ⊥)
      → F.Polynomial (two_at s 1) (place 5 (curve_field_end s)) ≡ field_id_of s
  unfolding field_id_of
  id_polynomial a b c =
      rw (
        ne_eqb (get_or s 0 0) 1 n,
        ne_eqb (get_or s 3 0) 1 a,
        ne_eqb (get_or s 3 0) 2 b,
        ne_eqb (get_or s 3 0) 3 c,
      )
      refl

-- the last part ends the bytes
module _ (end size : ℕ) (r : Set) where
  pub fill_none : end ≡ 0 → None ≡ filling end size r
  fill_none h = rw (eq-eqb end 0 h) refl

  pub fill_left : (end ≡ 0 → ⊥) → end < size → None ≡ filling end size r
  fill_left h k = rw (ne_eqb end 0 h, ne_eqb end size (λ z. omega arith)) refl

  pub fill_whole : (end ≡ 0 → ⊥) → end ≡ size → Some r ≡ filling end size r
  fill_whole h k = rw (ne_eqb end 0 h, eq-eqb end size k) refl

-- the reading of a set, by the ends of its parts
pub dh_by : (s : List ℕ) (p g : ℕ) (r : Option Set)
    → p ≡ next_long s 1
    → g ≡ next_long s p
    → r ≡ filling g (length s) (DiffieHellman (dh_placed (get_or s 0 0) p g))
    → r ≡ read_dh s
unfolding read_dh
dh_by s p g r ep eg e =
    let dg = eg ∙ ap (next_long s) ep in
    e ∙ λ i. filling (dg i) (length s) (DiffieHellman (dh_placed (get_or s 0 0) (ep i) (dg i)))

pub ec_by : (s : List ℕ) (field : FieldId) (f a b seed base order cofactor : ℕ) (r : Option Set)
    → field ≡ field_id_of s
    → f ≡ curve_field_end s
    → a ≡ next_end 1 s f
    → b ≡ next_end 1 s a
    → seed ≡ next_end 0 s b
    → base ≡ next_end 1 s seed
    → order ≡ next_end 1 s base
    → cofactor ≡ next_end 1 s order
    → r ≡ filling cofactor (length s) (EllipticCurve (ec_placed field f a b seed base order cofactor))
    → r ≡ read_ec s
unfolding read_ec
ec_by s field f a b seed base order cofactor r ei ef ea eb es ep en eh e =
    let da = ea ∙ ap (next_end 1 s) ef in
    let db = eb ∙ ap (next_end 1 s) da in
    let ds = es ∙ ap (next_end 0 s) db in
    let dp = ep ∙ ap (next_end 1 s) ds in
    let dn = en ∙ ap (next_end 1 s) dp in
    let dh = eh ∙ ap (next_end 1 s) dn in
    e
    ∙ λ i. filling (dh i) (length s) (EllipticCurve (ec_placed (ei i) (ef i) (da i) (db i) (ds i) (dp i) (dn i) (dh i)))

pub ec_none : (s : List ℕ) (f a b seed base order : ℕ)
    → f ≡ curve_field_end s
    → a ≡ next_end 1 s f
    → b ≡ next_end 1 s a
    → seed ≡ next_end 0 s b
    → base ≡ next_end 1 s seed
    → order ≡ next_end 1 s base
    → 0 ≡ next_end 1 s order
    → None ≡ read_ec s
ec_none s f a b seed base order ef ea eb es ep en eh =
    ec_by s (field_id_of s) f a b seed base order 0 None refl ef ea eb es ep en eh refl

-- the suites
pub below_dh : (n : ℕ) → n < 2 → is_diffie_hellman n ≡ false
below_dh n h = rw (lt-leb 2 n h) refl

pub above_dh : (n : ℕ) → 4 < n → is_diffie_hellman n ≡ false
above_dh n h = rw (le-leb 2 n (omega arith), lt-leb n 4 h) refl

pub in_dh : (n : ℕ) → 2 ≤ n → n ≤ 4 → is_diffie_hellman n ≡ true
in_dh n h k = rw (le-leb 2 n h, le-leb n 4 k) refl

pub below_ec : (n : ℕ) → n < 11 → is_elliptic_curve n ≡ false
below_ec n h = rw (lt-leb 11 n h) refl

pub above_ec : (n : ℕ) → 18 < n → is_elliptic_curve n ≡ false
above_ec n h = rw (le-leb 11 n (omega arith), lt-leb n 18 h) refl

pub in_ec : (n : ℕ) → 11 ≤ n → n ≤ 18 → is_elliptic_curve n ≡ true
in_ec n h k = rw (le-leb 11 n h, le-leb n 18 k) refl

module _ (suite : ℕ) (s : List ℕ) where
  pub read_skipped : is_diffie_hellman suite ≡ false → is_elliptic_curve suite ≡ false → Some Skipped ≡ read_of suite s
  unfolding read_of
  read_skipped h k = rw (h, k) refl

  pub read_as_dh : is_diffie_hellman suite ≡ true → read_dh s ≡ read_of suite s
  unfolding read_of
  read_as_dh h = rw h refl

  pub read_as_ec : is_diffie_hellman suite ≡ false → is_elliptic_curve suite ≡ true → read_ec s ≡ read_of suite s
  unfolding read_of
  read_as_ec h k = rw (h, k) refl

-- a specifier with an explicit set: the set's length is not there, or what is read of its bytes
module _ (s : List ℕ) (at suite : ℕ) (l : at < length s) (y : get_or s at 0 ≡ 255) where
  pub specifier_cut : long_end s (at + 1) ≡ 0 → 0 ≡ specifier_end s at suite
  unfolding specifier_end
  specifier_cut h =
      rw (lt-ltb at (length s) l, y, h) (pick_same (set_sound suite (part_of s (at + 3) 0)) 0)

  pub specifier_by : (end : ℕ) (set : List ℕ) (sound t : Bool) → end ≡ long_end s (at + 1) → set ≡ part_of s (at + 3) end
      → sound ≡ set_sound suite set → sound ≡ t → pick t end 0 ≡ specifier_end s at suite
  unfolding specifier_end
  specifier_by end set sound t e p w h =
      let v : t ≡ set_sound suite (part_of s (at + 3) end) = sym h ∙ w ∙ ap (set_sound suite) p in
      rw (lt-ltb at (length s) l, y)
      (ap (λ (b : Bool). pick b end 0) v ∙ ap (λ (k : ℕ). pick (set_sound suite (part_of s (at + 3) k)) k 0) e)
