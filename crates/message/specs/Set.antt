-- Explicit parameter sets: as values, as they are written, and as they stand in the bytes of a set (002 10.5.1.2). The
-- bytes of a set are what its length counts; its first byte stands at place 0.
use Rattle.std.specs.Prelude.{List, [], ◌∷◌, ◌++◌, Bool, true, false, ℕ, ◌+◌, length, get_or, leb, ltb, eqb, Option, None, Some, is_some}
use Rattle.digest.specs.Pick.{pick}
use Rattle.digest.specs.Bytes.{bytes2}
use Rattle.message.specs.Field.{both, short, long, field_end, short_end, long_end, two_at, part_of}
use Rattle.message.specs.declared.hello.Place.{Place}
use Rattle.message.specs.declared.set.FieldId.{FieldId}
use Rattle.message.specs.declared.set.FieldId.TheVariants as F
use Rattle.message.specs.declared.set.DhParameters.{DhParameters}
use Rattle.message.specs.declared.set.EcParameters.{EcParameters}
use Rattle.message.specs.declared.set.Set.{Set}
use Rattle.message.specs.declared.set.Set.TheVariants.{Skipped, DiffieHellman, EllipticCurve}

-- appendix A: DH_anon, DH_anon_512, DH_anon_768; ECDH_anon to ECDH_ECDSA_uncomp
abbrev pub is_diffie_hellman : ℕ → Bool
is_diffie_hellman suite = both (leb 2 suite) (leb suite 4)

abbrev pub is_elliptic_curve : ℕ → Bool
is_elliptic_curve suite = both (leb 11 suite) (leb suite 18)

-- enum { ec_basis_onb(1), ec_basis_trinomial(2), ec_basis_pentanomial(3), ec_basis_polynomial(4) } ECBasisType
pub data Basis : Type 0 where
  onb : Basis
  trinomial : ℕ → Basis
  pentanomial : ℕ → ℕ → ℕ → Basis
  polynomial : List ℕ → Basis

-- enum { ec_prime_p(1), ec_characteristic_two(2) } ECFieldID: the prime, or m and the basis
pub data CurveField : Type 0 where
  prime : List ℕ → CurveField
  two : ℕ → Basis → CurveField

-- ParameterSet: DHParameters (e, p, g), ECParameters (field, a, b, seed, base, order, cofactor), or that of another suite
pub data ParameterSet : Type 0 where
  dh : ℕ → List ℕ → List ℕ → ParameterSet
  ec : CurveField → List ℕ → List ℕ → List ℕ → List ℕ → List ℕ → List ℕ → ParameterSet
  other : List ℕ → ParameterSet

-- as they are written: uint16 m, k, k1, k2, k3; opaque prime_p, irreducible with a length of one byte
unfoldable pub basis_bytes : Basis → List ℕ
basis_bytes onb = 1 ∷ []
basis_bytes (trinomial k) = 2 ∷ bytes2 k
basis_bytes (pentanomial k1 k2 k3) = 3 ∷ (bytes2 k1 ++ (bytes2 k2 ++ bytes2 k3))
basis_bytes (polynomial irreducible) = 4 ∷ short irreducible

unfoldable pub field_bytes : CurveField → List ℕ
field_bytes (prime p) = 1 ∷ short p
field_bytes (two m basis) = 2 ∷ (bytes2 m ++ basis_bytes basis)

unfoldable pub set_bytes : ParameterSet → List ℕ
set_bytes (dh e p g) = e ∷ (long p ++ long g)
set_bytes (ec field a b seed base order cofactor) =
    field_bytes field
    ++ (short a ++ (short b ++ (short seed ++ (short base ++ (short order ++ short cofactor)))))
set_bytes (other s) = s

-- the values that they can have: opaque<1..2^8-1>, opaque<0..2^8-1>, opaque<1..2^16-1>, uint16
abbrev pub vector_allowed : ℕ → ℕ → List ℕ → Bool
vector_allowed floor ceiling v = both (leb floor (length v)) (leb (length v) ceiling)

unfoldable pub basis_allowed : Basis → Bool
basis_allowed onb = true
basis_allowed (trinomial k) = ltb k 65536
basis_allowed (pentanomial k1 k2 k3) = both (ltb k1 65536) (both (ltb k2 65536) (ltb k3 65536))
basis_allowed (polynomial irreducible) = vector_allowed 1 255 irreducible

unfoldable pub field_allowed : CurveField → Bool
field_allowed (prime p) = vector_allowed 1 255 p
field_allowed (two m basis) = both (ltb m 65536) (basis_allowed basis)

-- ECCurve curve (a, b, seed), ECPoint base, order and cofactor
unfoldable pub vectors_allowed : List ℕ → List ℕ → List ℕ → List ℕ → List ℕ → List ℕ → Bool
vectors_allowed a b seed base order cofactor =
    both (vector_allowed 1 255 a)
    (both (vector_allowed 1 255 b)
    (both (vector_allowed 0 255 seed)
    (both (vector_allowed 1 255 base) (both (vector_allowed 1 255 order) (vector_allowed 1 255 cofactor)))))

unfoldable pub curve_allowed : CurveField → List ℕ → List ℕ → List ℕ → List ℕ → List ℕ → List ℕ → Bool
curve_allowed field a b seed base order cofactor =
    both (field_allowed field) (vectors_allowed a b seed base order cofactor)

-- a set of the kind that its suite has
unfoldable pub set_allowed : ℕ → ParameterSet → Bool
set_allowed suite (dh e p g) =
    both (is_diffie_hellman suite) (both (vector_allowed 1 65535 p) (vector_allowed 1 65535 g))
set_allowed suite (ec field a b seed base order cofactor) =
    both (is_elliptic_curve suite) (curve_allowed field a b seed base order cofactor)
set_allowed suite (other s) = pick (is_diffie_hellman suite) false (pick (is_elliptic_curve suite) false true)

-- Where the parts of a set end; 0 says that the bytes have no such part there, and then none behind it either.
unfoldable pub next_end : ℕ → List ℕ → ℕ → ℕ
next_end floor s at = pick (eqb at 0) 0 (short_end floor 255 s at)

unfoldable pub next_long : List ℕ → ℕ → ℕ
next_long s at = pick (eqb at 0) 0 (pick (eqb (two_at s at) 0) 0 (long_end s at))

-- ECBasisType, behind the field's number and m, and the numbers of the basis
unfoldable pub basis_end : List ℕ → ℕ
basis_end s =
    pick (ltb 3 (length s))
    (pick (eqb (get_or s 3 0) 1) 4
    (pick (eqb (get_or s 3 0) 2) (field_end s 4 2)
    (pick (eqb (get_or s 3 0) 3) (field_end s 4 6) (pick (eqb (get_or s 3 0) 4) (short_end 1 255 s 4) 0))))
    0

unfoldable pub curve_field_end : List ℕ → ℕ
curve_field_end s =
    pick (ltb 0 (length s))
    (pick (eqb (get_or s 0 0) 1) (short_end 1 255 s 1) (pick (eqb (get_or s 0 0) 2) (basis_end s) 0))
    0

-- where the contents of a part stand
abbrev pub place : ℕ → ℕ → Place
place from end = record { from = from; end = end }

-- the field, told by its numbers and by the place of its prime or polynomial
unfoldable pub field_id_of : List ℕ → FieldId
field_id_of s =
    pick (eqb (get_or s 0 0) 1) (F.Prime (place 2 (curve_field_end s)))
    (pick (eqb (get_or s 3 0) 1) (F.Onb (two_at s 1))
    (pick (eqb (get_or s 3 0) 2) (F.Trinomial (two_at s 1) (two_at s 4))
    (pick (eqb (get_or s 3 0) 3) (F.Pentanomial (two_at s 1) (two_at s 4) (two_at s 6) (two_at s 8))
    (F.Polynomial (two_at s 1) (place 5 (curve_field_end s))))))

-- the parts, each told by its end
abbrev pub dh_placed : ℕ → ℕ → ℕ → DhParameters
dh_placed e p g = record { e = e; p = place 3 p; g = place (p + 2) g }

abbrev pub ec_placed : FieldId → ℕ → ℕ → ℕ → ℕ → ℕ → ℕ → ℕ → EcParameters
ec_placed field f a b seed base order cofactor =
    record {
      field = field;
      a = place (f + 1) a;
      b = place (a + 1) b;
      seed = place (b + 1) seed;
      base = place (seed + 1) base;
      order = place (base + 1) order;
      cofactor = place (order + 1) cofactor;
    }

-- "A set must fill its stated length exactly": the last part ends the bytes
abbrev pub filling : ℕ → ℕ → Set → Option Set
filling end size set = pick (eqb end 0) None (pick (eqb end size) (Some set) None)

unfoldable pub read_dh : List ℕ → Option Set
read_dh s =
    let p = next_long s 1 in
    let g = next_long s p in
    filling g (length s) (DiffieHellman (dh_placed (get_or s 0 0) p g))

unfoldable pub read_ec : List ℕ → Option Set
read_ec s =
    let f = curve_field_end s in
    let a = next_end 1 s f in
    let b = next_end 1 s a in
    let seed = next_end 0 s b in
    let base = next_end 1 s seed in
    let order = next_end 1 s base in
    let cofactor = next_end 1 s order in
    filling cofactor (length s) (EllipticCurve (ec_placed (field_id_of s) f a b seed base order cofactor))

-- "sets of other suites stay skipped"
unfoldable pub read_of : ℕ → List ℕ → Option Set
read_of suite s = pick (is_diffie_hellman suite) (read_dh s) (pick (is_elliptic_curve suite) (read_ec s) (Some Skipped))

-- "a malformed set, unknown field or basis included, makes the hello 12"
abbrev pub well_formed : Option Set → Bool
well_formed r = is_some r

unfoldable pub set_sound : ℕ → List ℕ → Bool
set_sound suite s = well_formed (read_of suite s)

-- the values that stand at the places
abbrev pub bytes_at : List ℕ → Place → List ℕ
bytes_at s p = part_of s p.from p.end

abbrev pub field_at : List ℕ → FieldId → CurveField
field_at s (F.Prime p) = prime (bytes_at s p)
field_at s (F.Onb m) = two m onb
field_at s (F.Trinomial m k) = two m (trinomial k)
field_at s (F.Pentanomial m k1 k2 k3) = two m (pentanomial k1 k2 k3)
field_at s (F.Polynomial m p) = two m (polynomial (bytes_at s p))

abbrev pub set_at : List ℕ → Option Set → ParameterSet
set_at s None = other s
set_at s (Some Skipped) = other s
set_at s (Some (DiffieHellman d)) = dh d.e (bytes_at s d.p) (bytes_at s d.g)
set_at s (Some (EllipticCurve c)) =
    ec (field_at s c.field) (bytes_at s c.a) (bytes_at s c.b) (bytes_at s c.seed) (bytes_at s c.base)
    (bytes_at s c.order) (bytes_at s c.cofactor)

-- what is written of the values at the places: nothing where no set can have them
unfoldable pub dh_written : ℕ → List ℕ → List ℕ → List ℕ
dh_written e p g = pick (both (vector_allowed 1 65535 p) (vector_allowed 1 65535 g)) (set_bytes (dh e p g)) []

unfoldable pub field_written : CurveField → List ℕ
field_written field = pick (field_allowed field) (field_bytes field) []

unfoldable pub ec_written : CurveField → List ℕ → List ℕ → List ℕ → List ℕ → List ℕ → List ℕ → List ℕ
ec_written field a b seed base order cofactor =
    pick (curve_allowed field a b seed base order cofactor) (set_bytes (ec field a b seed base order cofactor)) []

abbrev pub written_of : ParameterSet → List ℕ
written_of (dh e p g) = dh_written e p g
written_of (ec field a b seed base order cofactor) = ec_written field a b seed base order cofactor
written_of (other s) = []

-- the values of a set that was read
unfoldable pub set_in : ℕ → List ℕ → ParameterSet
set_in suite s = set_at s (read_of suite s)
