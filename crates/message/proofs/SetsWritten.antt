-- What is written of a set's values is sound, and the same values stand in it: by what is left of the bytes after each part.
use Rattle.std.specs.Prelude.{Option, Some}
use mathlib.Core.Path.{◌≡◌, refl, sym, ◌∙◌, ap, subst}
use mathlib.Core.List.{List, [], ◌∷◌, ◌++◌, append-nil}
use mathlib.Core.Bool.{true, false}
use Prim.Native.Nat.{ℕ, ◌+◌, ◌/◌, ◌%◌, ◌≤◌, ◌<◌}
use native.Mathlib.Omega.{arith}
use lib.ListN.{length, get_or}
use lib.Dec.{leb, ltb}
use borrow.Author.Tests.{leb-true, ltb-true}
use Rattle.digest.specs.Bytes.{bytes2}
use Rattle.message.specs.Field.{short, long, long_end, two_at, part_of}
use Rattle.message.specs.Set.{Basis, onb, trinomial, pentanomial, polynomial, CurveField, prime, two, ParameterSet, dh, ec, other, is_diffie_hellman, is_elliptic_curve, basis_bytes, field_bytes, set_bytes, vector_allowed, basis_allowed, field_allowed, vectors_allowed, curve_allowed, set_allowed, next_end, next_long, basis_end, curve_field_end, field_id_of, read_dh, read_ec, read_of, well_formed, set_sound, field_at, set_at, set_in}
use Rattle.message.specs.declared.set.Set.{Set}
use Rattle.message.specs.declared.set.Set.TheVariants.{Skipped}
use Rattle.message.proofs.Rests as rests
use Rattle.message.proofs.Rests.{rest_byte, front_end, front_part, front_rest, short_end_lem, short_part, short_rest, long_end_lem, long_part, long_rest}
use Rattle.message.proofs.Fields.{by_test, clash, both_split, long_there}
use Rattle.message.proofs.SetEnds.{next_some, long_some, basis_onb, basis_trinomial, basis_pentanomial, basis_polynomial, field_is_prime, field_is_two, id_prime, id_onb, id_trinomial, id_pentanomial, id_polynomial, dh_by, ec_by, fill_whole, above_dh, read_skipped, read_as_dh, read_as_ec}

-- a vector that can stand in a set
pub vector_floor : (floor ceiling : ℕ) (x : List ℕ) → vector_allowed floor ceiling x ≡ true → floor ≤ length x
vector_floor floor ceiling x h = leb-true floor (length x) (both_split (leb floor (length x)) _ h).0

pub vector_ceiling : (floor ceiling : ℕ) (x : List ℕ) → vector_allowed floor ceiling x ≡ true → length x ≤ ceiling
vector_ceiling floor ceiling x h = leb-true (length x) ceiling (both_split (leb floor (length x)) _ h).1

-- a vector at the front of what is left, behind another part
pub record NextIs (s : List ℕ) (a from e : ℕ) (x l : List ℕ) : Type 0 where
  pub part : part_of s from e ≡ x
  pub rest : rests.Rest s e l
  pub some : e ≡ 0 → ⊥

next_is : (floor : ℕ) (s : List ℕ) (a : ℕ) (x l : List ℕ) → (a ≡ 0 → ⊥) → vector_allowed floor 255 x ≡ true
    → rests.Rest s a (short x ++ l) → NextIs s a (a + 1) (next_end floor s a) x l
next_is floor s a x l n h w =
    let e : next_end floor s a ≡ a + 1 + length x =
    next_some floor s a n ∙ short_end_lem floor 255 s a x l w (vector_floor floor 255 x h) (vector_ceiling floor 255 x h) in
    record {
      part = ap (λ (k : ℕ). part_of s (a + 1) k) e ∙ short_part floor 255 s a x l w;
      rest = subst (λ (k : ℕ). rests.Rest s k l) (sym e) (short_rest floor 255 s a x l w);
      some = λ z. omega (arith, e);
    }

long_is : (s : List ℕ) (a : ℕ) (x l : List ℕ) → (a ≡ 0 → ⊥) → vector_allowed 1 65535 x ≡ true
    → rests.Rest s a (long x ++ l) → NextIs s a (a + 2) (next_long s a) x l
long_is s a x l n h w =
    let c = vector_ceiling 1 65535 x h in
    let d = vector_floor 1 65535 x h in
    let q : long_end s a ≡ a + 2 + length x = long_end_lem s a x l w (omega arith) in
    let t = (long_there s a (λ z. omega (arith, q))).0 in
    let e : next_long s a ≡ a + 2 + length x = long_some s a n (λ z. omega (arith, q, t, d)) ∙ q in
    record {
      part = ap (λ (k : ℕ). part_of s (a + 2) k) e ∙ long_part s a x l w;
      rest = subst (λ (k : ℕ). rests.Rest s k l) (sym e) (long_rest s a x l w);
      some = λ z. omega (arith, e);
    }

-- a number of two bytes at the front of what is left
module _ (s : List ℕ) (a m : ℕ) (l : List ℕ) (w : rests.Rest s a (bytes2 m ++ l)) where
  two_is : m < 65536 → two_at s a ≡ m
  two_is h =
      let r1 : rests.Rest s (a + 1) (m % 256 ∷ l) = front_rest s a 1 (m / 256 % 256 ∷ []) (m % 256 ∷ l) w refl in
      omega (
        arith,
        rest_byte s a (m / 256 % 256) (m % 256 ∷ l) w,
        rest_byte s (a + 1) (m % 256) l r1,
      )

  two_rest : rests.Rest s (a + 2) l
  two_rest = front_rest s a 2 (bytes2 m) l w refl

-- a basis, behind the number of the field and m
pub record BasisIs (s : List ℕ) (m : ℕ) (b : Basis) (l : List ℕ) : Type 0 where
  pub is : field_at s (field_id_of s) ≡ two m b
  pub rest : rests.Rest s (basis_end s) l
  pub some : basis_end s ≡ 0 → ⊥

module _ (s : List ℕ) (m : ℕ) (l : List ℕ) (y : get_or s 0 0 ≡ 2) (n : length s ≡ 0 → ⊥) (t : two_at s 1 ≡ m) where
  not_prime : get_or s 0 0 ≡ 1 → ⊥
  not_prime z = omega (arith, y)

  onb_is : rests.Rest s 3 (1 ∷ l) → BasisIs s m onb l
  onb_is w =
      let y3 = rest_byte s 3 1 l w in
      let e = basis_onb s (omega (arith, w.size)) y3 in
      record {
        is = ap (field_at s) (sym (id_onb s not_prime y3)) ∙ ap (λ (k : ℕ). two k onb) t;
        rest = subst (λ (k : ℕ). rests.Rest s k l) (sym e) (front_rest s 3 1 (1 ∷ []) l w refl);
        some = λ z. omega (arith, e);
      }

  trinomial_is : (k : ℕ) → k < 65536 → rests.Rest s 3 (2 ∷ (bytes2 k ++ l)) → BasisIs s m (trinomial k) l
  trinomial_is k h w =
      let y3 = rest_byte s 3 2 (bytes2 k ++ l) w in
      let r4 : rests.Rest s 4 (bytes2 k ++ l) = front_rest s 3 1 (2 ∷ []) (bytes2 k ++ l) w refl in
      let q = two_is s 4 k l r4 h in
      let e : basis_end s ≡ 6 =
      basis_trinomial s (omega (arith, w.size)) y3 ∙ front_end s 4 2 (bytes2 k) l r4 refl in
      record {
        is = ap (field_at s) (sym (id_trinomial s not_prime y3)) ∙ (λ i. two (t i) (trinomial (q i)));
        rest = subst (λ (j : ℕ). rests.Rest s j l) (sym e) (two_rest s 4 k l r4);
        some = λ z. omega (arith, e);
      }

  pentanomial_is : (k1 k2 k3 : ℕ) → k1 < 65536 → k2 < 65536 → k3 < 65536
      → rests.Rest s 3 (3 ∷ (bytes2 k1 ++ (bytes2 k2 ++ (bytes2 k3 ++ l)))) → BasisIs s m (pentanomial k1 k2 k3) l
  pentanomial_is k1 k2 k3 h1 h2 h3 w =
      let l3 = bytes2 k3 ++ l in
      let l2 = bytes2 k2 ++ l3 in
      let y3 = rest_byte s 3 3 (bytes2 k1 ++ l2) w in
      let r4 : rests.Rest s 4 (bytes2 k1 ++ l2) = front_rest s 3 1 (3 ∷ []) (bytes2 k1 ++ l2) w refl in
      let r6 : rests.Rest s 6 (bytes2 k2 ++ l3) = two_rest s 4 k1 l2 r4 in
      let r8 : rests.Rest s 8 (bytes2 k3 ++ l) = two_rest s 6 k2 l3 r6 in
      let q1 = two_is s 4 k1 l2 r4 h1 in
      let q2 = two_is s 6 k2 l3 r6 h2 in
      let q3 = two_is s 8 k3 l r8 h3 in
      let e : basis_end s ≡ 10 =
      basis_pentanomial s (omega (arith, w.size)) y3
      ∙ front_end s 4 6 (bytes2 k1 ++ (bytes2 k2 ++ bytes2 k3)) l r4 refl in
      record {
        is = ap (field_at s) (sym (id_pentanomial s not_prime y3)) ∙ (λ i. two (t i) (pentanomial (q1 i) (q2 i) (q3 i)));
        rest = subst (λ (j : ℕ). rests.Rest s j l) (sym e) (two_rest s 8 k3 l r8);
        some = λ z. omega (arith, e);
      }

  polynomial_is : (p : List ℕ) → vector_allowed 1 255 p ≡ true → rests.Rest s 3 (4 ∷ (short p ++ l)) → BasisIs s m (polynomial p) l
  polynomial_is p h w =
      let y3 = rest_byte s 3 4 (short p ++ l) w in
      let r4 : rests.Rest s 4 (short p ++ l) = front_rest s 3 1 (4 ∷ []) (short p ++ l) w refl in
      let e : basis_end s ≡ 5 + length p =
      basis_polynomial s (omega (arith, w.size)) y3
      ∙ short_end_lem 1 255 s 4 p l r4 (vector_floor 1 255 p h) (vector_ceiling 1 255 p h) in
      let q : part_of s 5 (curve_field_end s) ≡ p =
      ap (λ (j : ℕ). part_of s 5 j) (field_is_two s n y ∙ e) ∙ short_part 1 255 s 4 p l r4 in
      record {
        is = ap (field_at s)
            (sym (id_polynomial s not_prime (λ z. omega (arith, y3)) (λ z. omega (arith, y3)) (λ z. omega (arith, y3))))
            ∙ (λ i. two (t i) (polynomial (q i)));
        rest = subst (λ (j : ℕ). rests.Rest s j l) (sym e) (short_rest 1 255 s 4 p l r4);
        some = λ z. omega (arith, e);
      }

  basis_is : (b : Basis) → basis_allowed b ≡ true → rests.Rest s 3 (basis_bytes b ++ l) → BasisIs s m b l
  unfolding basis_bytes basis_allowed
  basis_is onb h w = onb_is w
  basis_is (trinomial k) h w = trinomial_is k (ltb-true k 65536 h) w
  basis_is (pentanomial k1 k2 k3) h w =
      let p = both_split (ltb k1 65536) _ h in
      let q = both_split (ltb k2 65536) _ p.1 in
      pentanomial_is k1 k2 k3 (ltb-true k1 65536 p.0) (ltb-true k2 65536 q.0) (ltb-true k3 65536 q.1) w
  basis_is (polynomial p) h w = polynomial_is p h w

-- the field, at the front
pub record FieldIs (s : List ℕ) (f : CurveField) (l : List ℕ) : Type 0 where
  pub is : field_at s (field_id_of s) ≡ f
  pub rest : rests.Rest s (curve_field_end s) l
  pub some : curve_field_end s ≡ 0 → ⊥

field_is : (s : List ℕ) (f : CurveField) (l : List ℕ) → field_allowed f ≡ true → rests.Rest s 0 (field_bytes f ++ l) → FieldIs s f l
unfolding field_bytes field_allowed
field_is s (prime p) l h w =
    let y = rest_byte s 0 1 (short p ++ l) w in
    let r1 : rests.Rest s 1 (short p ++ l) = front_rest s 0 1 (1 ∷ []) (short p ++ l) w refl in
    let e : curve_field_end s ≡ 2 + length p =
    field_is_prime s (λ z. omega (arith, w.size)) y
    ∙ short_end_lem 1 255 s 1 p l r1 (vector_floor 1 255 p h) (vector_ceiling 1 255 p h) in
    let q : part_of s 2 (curve_field_end s) ≡ p = ap (λ (j : ℕ). part_of s 2 j) e ∙ short_part 1 255 s 1 p l r1 in
    record {
      is = ap (field_at s) (sym (id_prime s y)) ∙ ap prime q;
      rest = subst (λ (j : ℕ). rests.Rest s j l) (sym e) (short_rest 1 255 s 1 p l r1);
      some = λ z. omega (arith, e);
    }
field_is s (two m b) l h w =
    let g = both_split (ltb m 65536) _ h in
    let y = rest_byte s 0 2 (bytes2 m ++ (basis_bytes b ++ l)) w in
    let n : length s ≡ 0 → ⊥ = λ z. omega (arith, w.size) in
    let r1 : rests.Rest s 1 (bytes2 m ++ (basis_bytes b ++ l)) =
    front_rest s 0 1 (2 ∷ []) (bytes2 m ++ (basis_bytes b ++ l)) w refl in
    let t = two_is s 1 m (basis_bytes b ++ l) r1 (ltb-true m 65536 g.0) in
    let i = basis_is s m l y n t b g.1 (two_rest s 1 m (basis_bytes b ++ l) r1) in
    let e = field_is_two s n y in
    record {
      is = i.is;
      rest = subst (λ (j : ℕ). rests.Rest s j l) (sym e) i.rest;
      some = λ z. i.some (sym e ∙ z);
    }

-- a whole set: it is read, and its values stand at the places that were read
pub record SetIs (r : Option Set) (s : List ℕ) (v : ParameterSet) : Type 0 where
  pub sound : well_formed r ≡ true
  pub is : set_at s r ≡ v

all_of : (s : List ℕ) → rests.Rest s 0 s
all_of s = record { from = refl; size = omega arith }

ended : (s x : List ℕ) (a : ℕ) → rests.Rest s a x → rests.Rest s a (x ++ [])
ended s x a w = subst (λ (t : List ℕ). rests.Rest s a t) (sym (append-nil x)) w

dh_is : (e : ℕ) (p g : List ℕ) → vector_allowed 1 65535 p ≡ true → vector_allowed 1 65535 g ≡ true
    → SetIs (read_dh (set_bytes (dh e p g))) (set_bytes (dh e p g)) (dh e p g)
unfolding set_bytes
dh_is e p g hp hg =
    let s = e ∷ (long p ++ long g) in
    let y = rest_byte s 0 e (long p ++ long g) (all_of s) in
    let r1 : rests.Rest s 1 (long p ++ long g) = front_rest s 0 1 (e ∷ []) (long p ++ long g) (all_of s) refl in
    let i = long_is s 1 p (long g) (λ z. omega arith) hp r1 in
    let j = long_is s (next_long s 1) g [] i.some hg (ended s (long g) (next_long s 1) i.rest) in
    let z : next_long s (next_long s 1) ≡ length s = omega (arith, j.rest.size) in
    let read = dh_by s _ _ _ refl refl (fill_whole (next_long s (next_long s 1)) (length s) _ j.some z) in
    subst (λ (r : Option Set). SetIs r s (dh e p g)) read
    (record { sound = refl; is = λ k. dh (y k) (i.part k) (j.part k) })

ec_is : (f : CurveField) (a b seed base order cofactor : List ℕ) → curve_allowed f a b seed base order cofactor ≡ true
    → SetIs (read_ec (set_bytes (ec f a b seed base order cofactor))) (set_bytes (ec f a b seed base order cofactor))
    (ec f a b seed base order cofactor)
unfolding set_bytes curve_allowed vectors_allowed
ec_is f a b seed base order cofactor h =
    let hf = both_split (field_allowed f) _ h in
    let ha = both_split (vector_allowed 1 255 a) _ hf.1 in
    let hb = both_split (vector_allowed 1 255 b) _ ha.1 in
    let hs = both_split (vector_allowed 0 255 seed) _ hb.1 in
    let hp = both_split (vector_allowed 1 255 base) _ hs.1 in
    let hn = both_split (vector_allowed 1 255 order) _ hp.1 in
    let ln = short order ++ short cofactor in
    let lp = short base ++ ln in
    let ls = short seed ++ lp in
    let lb = short b ++ ls in
    let la = short a ++ lb in
    let s = field_bytes f ++ la in
    let wf = field_is s f la hf.0 (all_of s) in
    let ef = curve_field_end s in
    let wa = next_is 1 s ef a lb wf.some ha.0 wf.rest in
    let ea = next_end 1 s ef in
    let wb = next_is 1 s ea b ls wa.some hb.0 wa.rest in
    let eb = next_end 1 s ea in
    let ws = next_is 0 s eb seed lp wb.some hs.0 wb.rest in
    let es = next_end 0 s eb in
    let wp = next_is 1 s es base ln ws.some hp.0 ws.rest in
    let ep = next_end 1 s es in
    let wn = next_is 1 s ep order (short cofactor) wp.some hn.0 wp.rest in
    let en = next_end 1 s ep in
    let wh = next_is 1 s en cofactor [] wn.some hn.1 (ended s (short cofactor) en wn.rest) in
    let eh = next_end 1 s en in
    let z : eh ≡ length s = omega (arith, wh.rest.size) in
    let read = ec_by s (field_id_of s) ef ea eb es ep en eh _ refl refl refl refl refl refl refl refl (fill_whole eh (length s) _ wh.some z) in
    subst (λ (r : Option Set). SetIs r s (ec f a b seed base order cofactor)) read
    (record {
      sound = refl;
      is = λ k. ec (wf.is k) (wa.part k) (wb.part k) (ws.part k) (wp.part k) (wn.part k) (wh.part k);
    })

-- suites of one kind are not of the other
pub dh_not_ec : (suite : ℕ) → is_elliptic_curve suite ≡ true → is_diffie_hellman suite ≡ false
dh_not_ec suite h =
    let p = leb-true 11 suite (both_split (leb 11 suite) _ h).0 in
    above_dh suite (omega arith)

other_bytes : (s : List ℕ) → set_bytes (other s) ≡ s
unfolding set_bytes
other_bytes s = refl

set_is : (suite : ℕ) (v : ParameterSet) → set_allowed suite v ≡ true → SetIs (read_of suite (set_bytes v)) (set_bytes v) v
unfolding set_allowed
set_is suite (dh e p g) h =
    let k = both_split (is_diffie_hellman suite) _ h in
    let q = both_split (vector_allowed 1 65535 p) _ k.1 in
    subst (λ (r : Option Set). SetIs r (set_bytes (dh e p g)) (dh e p g)) (read_as_dh suite (set_bytes (dh e p g)) k.0)
    (dh_is e p g q.0 q.1)
set_is suite (ec f a b seed base order cofactor) h =
    let k = both_split (is_elliptic_curve suite) _ h in
    let v = ec f a b seed base order cofactor in
    subst (λ (r : Option Set). SetIs r (set_bytes v) v) (read_as_ec suite (set_bytes v) (dh_not_ec suite k.0) k.0)
    (ec_is f a b seed base order cofactor k.1)
set_is suite (other s) h =
    by_test (SetIs (read_of suite (set_bytes (other s))) (set_bytes (other s)) (other s)) (is_diffie_hellman suite)
    (λ d. clash (rw d at h))
    (λ d. by_test (SetIs (read_of suite (set_bytes (other s))) (set_bytes (other s)) (other s)) (is_elliptic_curve suite)
    (λ c. clash (rw (d, c) at h))
    (λ c. subst (λ (r : Option Set). SetIs r (set_bytes (other s)) (other s)) (read_skipped suite (set_bytes (other s)) d c) skipped))
  where
    skipped : SetIs (Some Skipped) (set_bytes (other s)) (other s)
    skipped = record { sound = refl; is = ap other (other_bytes s) }

-- what is written of a set's values is sound, and they stand in it
pub set_written : (suite : ℕ) (v : ParameterSet) → set_allowed suite v ≡ true
    → (set_sound suite (set_bytes v) ≡ true) × (set_in suite (set_bytes v) ≡ v)
unfolding set_sound set_in
set_written suite v h = ((set_is suite v h).sound, (set_is suite v h).is)
