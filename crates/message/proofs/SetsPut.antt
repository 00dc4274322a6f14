-- Laws of writing a set: what is written by the tests of the values, how long it is, and its pieces put one after the other.
use Rattle.std.specs.Prelude.{Option, get_or}
use mathlib.Core.Path.{◌≡◌, refl, sym, ◌∙◌, ap, subst}
use mathlib.Core.List.{List, [], ◌∷◌, ◌++◌}
use mathlib.Core.Bool.{true, false}
use Prim.Native.Nat.{ℕ, ◌+◌, ◌/◌, ◌%◌, ◌≤◌}
use native.Mathlib.Omega.{arith}
use lib.ListN.{length, length-append}
use lib.Dec.{ltb}
use Rattle.digest.specs.Pick.{pick}
use Rattle.message.specs.Field.{short, long}
use Rattle.message.specs.Buffer.{over, fitting, Puts}
use Rattle.message.specs.Set.{Basis, onb, trinomial, pentanomial, polynomial, CurveField, prime, two, dh, ec, basis_bytes, field_bytes, set_bytes, vector_allowed, vectors_allowed, basis_allowed, field_allowed, curve_allowed, dh_written, field_written, ec_written, written_of, field_at, set_at}
use Rattle.message.specs.declared.set.FieldId.{FieldId}
use Rattle.message.specs.declared.set.Set.{Set}
use Rattle.message.proofs.Fields.{by_test, both_split}
use Rattle.message.proofs.Buffers.{put_on, puts_as}
use Rattle.message.proofs.SetsWritten.{vector_ceiling}

-- the field
pub field_written_lem : (f : CurveField) → field_allowed f ≡ true → field_written f ≡ field_bytes f
unfolding field_written
field_written_lem f h = rw h refl

pub field_can : (f : CurveField) → (length (field_written f) ≡ 0 → ⊥) → field_allowed f ≡ true
unfolding field_written
field_can f h = by_test (field_allowed f ≡ true) (field_allowed f) (λ e. e) (λ e. absurd (h (rw e refl)))

field_some : (f : CurveField) → 1 ≤ length (field_bytes f)
unfolding field_bytes
field_some (prime p) = omega arith
field_some (two m b) = omega arith

basis_small : (b : Basis) → basis_allowed b ≡ true → length (basis_bytes b) ≤ 257
unfolding basis_bytes basis_allowed
basis_small onb h = omega arith
basis_small (trinomial k) h = omega arith
basis_small (pentanomial k1 k2 k3) h = omega arith
basis_small (polynomial p) h = omega (arith, vector_ceiling 1 255 p h)

pub field_small : (f : CurveField) → field_allowed f ≡ true → length (field_bytes f) ≤ 260
unfolding field_bytes field_allowed
field_small (prime p) h = omega (arith, vector_ceiling 1 255 p h)
field_small (two m b) h = omega (arith, basis_small b (both_split (ltb m 65536) _ h).1)

-- its size, by its kind
pub size_prime : (p : List ℕ) → pick (vector_allowed 1 255 p) (2 + length p) 0 ≡ length (field_written (prime p))
unfolding field_written field_allowed field_bytes
size_prime p =
    by_test (pick (vector_allowed 1 255 p) (2 + length p) 0 ≡ length (field_written (prime p))) (vector_allowed 1 255 p)
    (λ e. rw e (omega arith)) (λ e. rw e refl)

-- a number of two bytes in front of a size
pub by_ranged : (n x y r : ℕ) → r ≡ pick (ltb n 65536) x 0 → x ≡ y → r ≡ pick (ltb n 65536) y 0
by_ranged n x y r e f = e ∙ ap (λ (z : ℕ). pick (ltb n 65536) z 0) f

pub size_onb : (m : ℕ) → pick (ltb m 65536) 4 0 ≡ length (field_written (two m onb))
unfolding field_written field_allowed basis_allowed field_bytes basis_bytes
size_onb m =
    by_test (pick (ltb m 65536) 4 0 ≡ length (field_written (two m onb))) (ltb m 65536) (λ e. rw e refl) (λ e. rw e refl)

pub size_trinomial : (m k : ℕ) → pick (ltb m 65536) (pick (ltb k 65536) 6 0) 0 ≡ length (field_written (two m (trinomial k)))
unfolding field_written field_allowed basis_allowed field_bytes basis_bytes
size_trinomial m k =
    let C = pick (ltb m 65536) (pick (ltb k 65536) 6 0) 0 ≡ length (field_written (two m (trinomial k))) in
    by_test C (ltb m 65536)
    (λ e. by_test C (ltb k 65536) (λ f. rw (e, f) refl) (λ f. rw (e, f) refl))
    (λ e. rw e refl)

pub size_pentanomial : (m k1 k2 k3 : ℕ)
    → pick (ltb m 65536) (pick (ltb k1 65536) (pick (ltb k2 65536) (pick (ltb k3 65536) 10 0) 0) 0) 0
    ≡ length (field_written (two m (pentanomial k1 k2 k3)))
unfolding field_written field_allowed basis_allowed field_bytes basis_bytes
size_pentanomial m k1 k2 k3 =
    let C =
    pick (ltb m 65536) (pick (ltb k1 65536) (pick (ltb k2 65536) (pick (ltb k3 65536) 10 0) 0) 0) 0
    ≡ length (field_written (two m (pentanomial k1 k2 k3))) in
    by_test C (ltb m 65536)
    (λ e. by_test C (ltb k1 65536)
    (λ f. by_test C (ltb k2 65536)
    (λ g. by_test C (ltb k3 65536) (λ h. rw (e, f, g, h) refl) (λ h. rw (e, f, g, h) refl))
    (λ g. rw (e, f, g) refl))
    (λ f. rw (e, f) refl))
    (λ e. rw e refl)

pub size_polynomial : (m : ℕ) (p : List ℕ)
    → pick (ltb m 65536) (pick (vector_allowed 1 255 p) (5 + length p) 0) 0 ≡ length (field_written (two m (polynomial p)))
unfolding field_written field_allowed basis_allowed field_bytes basis_bytes
size_polynomial m p =
    let C = pick (ltb m 65536) (pick (vector_allowed 1 255 p) (5 + length p) 0) 0 ≡ length (field_written (two m (polynomial p))) in
    by_test C (ltb m 65536)
    (λ e. by_test C (vector_allowed 1 255 p) (λ f. rw (e, f) (omega arith)) (λ f. rw (e, f) refl))
    (λ e. rw e refl)

pub size_as : (s : List ℕ) (i j : FieldId) (r : ℕ) → i ≡ j → r ≡ length (field_written (field_at s j))
    → r ≡ length (field_written (field_at s i))
size_as s i j r e w = w ∙ ap (λ (k : FieldId). length (field_written (field_at s k))) (sym e)

pub behind_as : (n : ℕ) (x y : List ℕ) → x ≡ y
    → pick (vector_allowed 1 255 x) (n + length x) 0 ≡ pick (vector_allowed 1 255 y) (n + length y) 0
behind_as n x y e = ap (λ (z : List ℕ). pick (vector_allowed 1 255 z) (n + length z) 0) e

pub written_small : (f : CurveField) → length (field_written f) ≤ 260
unfolding field_written
written_small f =
    by_test (length (field_written f) ≤ 260) (field_allowed f) (λ e. rw e (field_small f e)) (λ e. rw e (omega arith))

-- its pieces
abbrev pub FieldPuts : CurveField → List ℕ → List ℕ → ℕ → Type 0
FieldPuts f o o' r = field_allowed f ≡ true → Puts (field_bytes f) o 0 o' r

pub field_as : (s : List ℕ) (i j : FieldId) (o o' : List ℕ) (r : ℕ) → i ≡ j → FieldPuts (field_at s j) o o' r
    → FieldPuts (field_at s i) o o' r
field_as s i j o o' r e w = subst (λ (k : FieldId). FieldPuts (field_at s k) o o' r) (sym e) w

pub put_prime : (p o o1 o2 : List ℕ) (a1 a2 : ℕ) → Puts (1 ∷ []) o 0 o1 a1 → (length p ≤ 255 → Puts (short p) o1 a1 o2 a2)
    → FieldPuts (prime p) o o2 a2
unfolding field_bytes field_allowed
put_prime p o o1 o2 a1 a2 x y h = put_on (1 ∷ []) (short p) o o1 o2 0 a1 a2 x (y (vector_ceiling 1 255 p h))

-- the two bytes of a number, as the library spells it
pub high_byte : (r : List ℕ) (h l : ℕ) → r ≡ h ∷ l ∷ [] → get_or r 0 0 ≡ h
high_byte r h l e = ap (λ (s : List ℕ). get_or s 0 0) e

pub low_byte : (r : List ℕ) (h l : ℕ) → r ≡ h ∷ l ∷ [] → get_or r 1 0 ≡ l
low_byte r h l e = ap (λ (s : List ℕ). get_or s 1 0) e

module _ (m h l : ℕ) (eh : h ≡ m / 256 % 256) (el : l ≡ m % 256) (o o1 : List ℕ) (a1 : ℕ) where
  pub put_onb : Puts (2 ∷ h ∷ l ∷ 1 ∷ []) o 0 o1 a1 → FieldPuts (two m onb) o o1 a1
  unfolding field_bytes basis_bytes
  put_onb x g = puts_as _ _ o o1 0 a1 (λ i. 2 ∷ eh i ∷ el i ∷ 1 ∷ []) x

  pub put_trinomial : (k kh kl : ℕ) → kh ≡ k / 256 % 256 → kl ≡ k % 256
      → Puts (2 ∷ h ∷ l ∷ 2 ∷ kh ∷ kl ∷ []) o 0 o1 a1 → FieldPuts (two m (trinomial k)) o o1 a1
  unfolding field_bytes basis_bytes
  put_trinomial k kh kl e f x g = puts_as _ _ o o1 0 a1 (λ i. 2 ∷ eh i ∷ el i ∷ 2 ∷ e i ∷ f i ∷ []) x

  pub put_pentanomial : (k1 h1 l1 k2 h2 l2 k3 h3 l3 : ℕ)
      → h1 ≡ k1 / 256 % 256 → l1 ≡ k1 % 256 → h2 ≡ k2 / 256 % 256 → l2 ≡ k2 % 256 → h3 ≡ k3 / 256 % 256 → l3 ≡ k3 % 256
      → Puts (2 ∷ h ∷ l ∷ 3 ∷ h1 ∷ l1 ∷ h2 ∷ l2 ∷ h3 ∷ l3 ∷ []) o 0 o1 a1
      → FieldPuts (two m (pentanomial k1 k2 k3)) o o1 a1
  unfolding field_bytes basis_bytes
  put_pentanomial k1 h1 l1 k2 h2 l2 k3 h3 l3 e1 f1 e2 f2 e3 f3 x g =
      puts_as _ _ o o1 0 a1 (λ i. 2 ∷ eh i ∷ el i ∷ 3 ∷ e1 i ∷ f1 i ∷ e2 i ∷ f2 i ∷ e3 i ∷ f3 i ∷ []) x

  pub put_polynomial : (p o2 : List ℕ) (a2 : ℕ) → Puts (2 ∷ h ∷ l ∷ 4 ∷ []) o 0 o1 a1
      → (length p ≤ 255 → Puts (short p) o1 a1 o2 a2) → FieldPuts (two m (polynomial p)) o o2 a2
  unfolding field_bytes basis_bytes field_allowed basis_allowed
  put_polynomial p o2 a2 x y g =
      let q : Puts (2 ∷ m / 256 % 256 ∷ m % 256 ∷ 4 ∷ []) o 0 o1 a1 =
      puts_as _ _ o o1 0 a1 (λ i. 2 ∷ eh i ∷ el i ∷ 4 ∷ []) x in
      put_on (2 ∷ m / 256 % 256 ∷ m % 256 ∷ 4 ∷ []) (short p) o o1 o2 0 a1 a2 q
      (y (vector_ceiling 1 255 p (both_split (ltb m 65536) _ g).1))

-- DHParameters
module _ (e : ℕ) (p g : List ℕ) where
  pub dh_no_p : vector_allowed 1 65535 p ≡ false → length (dh_written e p g) ≡ 0
  unfolding dh_written
  dh_no_p h = rw h refl

  pub dh_no_g : vector_allowed 1 65535 p ≡ true → vector_allowed 1 65535 g ≡ false → length (dh_written e p g) ≡ 0
  unfolding dh_written
  dh_no_g h k = rw (h, k) refl

  pub dh_written_lem : vector_allowed 1 65535 p ≡ true → vector_allowed 1 65535 g ≡ true → dh_written e p g ≡ set_bytes (dh e p g)
  unfolding dh_written
  dh_written_lem h k = rw (h, k) refl

  pub length_dh : length (set_bytes (dh e p g)) ≡ 5 + length p + length g
  unfolding set_bytes
  length_dh = omega (arith, length-append p (long g))

  pub put_dh : (o o1 o2 o3 : List ℕ) (a1 a2 a3 : ℕ) → Puts (e ∷ []) o 0 o1 a1 → Puts (long p) o1 a1 o2 a2
      → Puts (long g) o2 a2 o3 a3 → Puts (set_bytes (dh e p g)) o 0 o3 a3
  unfolding set_bytes
  put_dh o o1 o2 o3 a1 a2 a3 x y z =
      put_on (e ∷ []) (long p ++ long g) o o1 o3 0 a1 a3 x (put_on (long p) (long g) o1 o2 o3 a1 a2 a3 y z)

-- ECParameters
pub record Vectors (a b seed base order cofactor : List ℕ) : Type 0 where
  pub a_size : length a ≤ 255
  pub b_size : length b ≤ 255
  pub seed_size : length seed ≤ 255
  pub base_size : length base ≤ 255
  pub order_size : length order ≤ 255
  pub cofactor_size : length cofactor ≤ 255

pub vectors_parts : (a b seed base order cofactor : List ℕ) → vectors_allowed a b seed base order cofactor ≡ true
    → Vectors a b seed base order cofactor
unfolding vectors_allowed
vectors_parts a b seed base order cofactor h =
    let ha = both_split (vector_allowed 1 255 a) _ h in
    let hb = both_split (vector_allowed 1 255 b) _ ha.1 in
    let hs = both_split (vector_allowed 0 255 seed) _ hb.1 in
    let hp = both_split (vector_allowed 1 255 base) _ hs.1 in
    let hn = both_split (vector_allowed 1 255 order) _ hp.1 in
    record {
      a_size = vector_ceiling 1 255 a ha.0;
      b_size = vector_ceiling 1 255 b hb.0;
      seed_size = vector_ceiling 0 255 seed hs.0;
      base_size = vector_ceiling 1 255 base hp.0;
      order_size = vector_ceiling 1 255 order hn.0;
      cofactor_size = vector_ceiling 1 255 cofactor hn.1;
    }

module _ (f : CurveField) (a b seed base order cofactor : List ℕ) where
  pub ec_no_field : length (field_written f) ≡ 0 → length (ec_written f a b seed base order cofactor) ≡ 0
  unfolding ec_written curve_allowed
  ec_no_field h =
      by_test (length (ec_written f a b seed base order cofactor) ≡ 0) (field_allowed f)
      (λ e. absurd (omega (arith, field_some f, ap length (sym (field_written_lem f e)) ∙ h)))
      (λ e. rw e refl)

  pub ec_no_vectors : field_allowed f ≡ true → vectors_allowed a b seed base order cofactor ≡ false
      → length (ec_written f a b seed base order cofactor) ≡ 0
  unfolding ec_written curve_allowed
  ec_no_vectors h k = rw (h, k) refl

  pub ec_written_lem : field_allowed f ≡ true → vectors_allowed a b seed base order cofactor ≡ true
      → ec_written f a b seed base order cofactor ≡ set_bytes (ec f a b seed base order cofactor)
  unfolding ec_written curve_allowed
  ec_written_lem h k = rw (h, k) refl

  pub length_ec : length (set_bytes (ec f a b seed base order cofactor))
      ≡ length (field_bytes f) + 6 + length a + length b + length seed + length base + length order + length cofactor
  unfolding set_bytes
  length_ec =
      let l5 = short order ++ short cofactor in
      let l4 = short base ++ l5 in
      let l3 = short seed ++ l4 in
      let l2 = short b ++ l3 in
      let l1 = short a ++ l2 in
      omega (
        arith,
        length-append (field_bytes f) l1,
        length-append a l2,
        length-append b l3,
        length-append seed l4,
        length-append base l5,
        length-append order (short cofactor),
      )

  pub put_ec : (o o0 o1 o2 o3 o4 o5 o6 : List ℕ) (n0 n1 n2 n3 n4 n5 n6 : ℕ)
      → Puts (field_bytes f) o 0 o0 n0
      → Puts (short a) o0 n0 o1 n1
      → Puts (short b) o1 n1 o2 n2
      → Puts (short seed) o2 n2 o3 n3
      → Puts (short base) o3 n3 o4 n4
      → Puts (short order) o4 n4 o5 n5
      → Puts (short cofactor) o5 n5 o6 n6
      → Puts (set_bytes (ec f a b seed base order cofactor)) o 0 o6 n6
  unfolding set_bytes
  put_ec o o0 o1 o2 o3 o4 o5 o6 n0 n1 n2 n3 n4 n5 n6 p0 p1 p2 p3 p4 p5 p6 =
      let l5 = short order ++ short cofactor in
      let l4 = short base ++ l5 in
      let l3 = short seed ++ l4 in
      let l2 = short b ++ l3 in
      let l1 = short a ++ l2 in
      put_on (field_bytes f) l1 o o0 o6 0 n0 n6 p0
      (put_on (short a) l2 o0 o1 o6 n0 n1 n6 p1
      (put_on (short b) l3 o1 o2 o6 n1 n2 n6 p2
      (put_on (short seed) l4 o2 o3 o6 n2 n3 n6 p3
      (put_on (short base) l5 o3 o4 o6 n3 n4 n6 p4 (put_on (short order) (short cofactor) o4 o5 o6 n4 n5 n6 p5 p6)))))

-- the outcome of a writer of other bytes that are the same
pub wrote_as : (d o' b b' : List ℕ) (r : ℕ) → b ≡ b'
    → (r ≡ length (fitting (length d) b)) × (o' ≡ over d (fitting (length d) b))
    → (r ≡ length (fitting (length d) b')) × (o' ≡ over d (fitting (length d) b'))
wrote_as d o' b b' r e w =
    subst (λ (x : List ℕ). (r ≡ length (fitting (length d) x)) × (o' ≡ over d (fitting (length d) x))) e w

pub dh_same : (e : ℕ) (p q g h : List ℕ) → p ≡ q → g ≡ h → dh_written e p g ≡ dh_written e q h
dh_same e p q g h x y = λ i. dh_written e (x i) (y i)

pub ec_same : (f : CurveField) (a a' b b' s s' p p' n n' h h' : List ℕ)
    → a ≡ a' → b ≡ b' → s ≡ s' → p ≡ p' → n ≡ n' → h ≡ h'
    → ec_written f a b s p n h ≡ ec_written f a' b' s' p' n' h'
ec_same f a a' b b' s s' p p' n n' h h' ea eb es ep en eh =
    λ i. ec_written f (ea i) (eb i) (es i) (ep i) (en i) (eh i)

pub set_as : (s : List ℕ) (i j : Option Set) → i ≡ j → written_of (set_at s j) ≡ written_of (set_at s i)
set_as s i j e = ap (λ (k : Option Set). written_of (set_at s k)) (sym e)

-- the pieces of a field whose prime or polynomial is a part of the lent bytes
pub prime_as : (x y o o' : List ℕ) (r : ℕ) → x ≡ y → FieldPuts (prime x) o o' r → FieldPuts (prime y) o o' r
prime_as x y o o' r e w = subst (λ (k : List ℕ). FieldPuts (prime k) o o' r) e w

pub polynomial_as : (m : ℕ) (x y o o' : List ℕ) (r : ℕ) → x ≡ y → FieldPuts (two m (polynomial x)) o o' r
    → FieldPuts (two m (polynomial y)) o o' r
polynomial_as m x y o o' r e w = subst (λ (k : List ℕ). FieldPuts (two m (polynomial k)) o o' r) e w
