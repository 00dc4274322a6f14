-- The layout of a hello's explicit sets: the hello with every value of its sets blanked. Two hellos of one layout differ
-- only inside the values of their sets.
use Rattle.std.specs.Prelude.{List, [], ◌∷◌, ◌≡◌, Bool, true, ℕ, length, replicate, ltb}
use Rattle.message.specs.Field.{both}
use Rattle.message.specs.Set.{Basis, onb, trinomial, pentanomial, polynomial, CurveField, prime, two, ParameterSet, dh, ec, other}
use Rattle.message.specs.Entry.{Entry, Parameters, indexed, explicit}
use Rattle.message.specs.Values.{Values, allowed, hello_of}
use Rattle.message.specs.Acceptance.{heard_of}

-- as many zeros as bytes
abbrev pub zeros : List ℕ → List ℕ
zeros v = replicate (length v) 0

unfoldable pub blank_basis : Basis → Basis
blank_basis onb = onb
blank_basis (trinomial k) = trinomial 0
blank_basis (pentanomial k1 k2 k3) = pentanomial 0 0 0
blank_basis (polynomial p) = polynomial (zeros p)

unfoldable pub blank_field : CurveField → CurveField
blank_field (prime p) = prime (zeros p)
blank_field (two m basis) = two 0 (blank_basis basis)

unfoldable pub blank_set : ParameterSet → ParameterSet
blank_set (dh e p g) = dh 0 (zeros p) (zeros g)
blank_set (ec field a b seed base order cofactor) =
    ec (blank_field field) (zeros a) (zeros b) (zeros seed) (zeros base) (zeros order) (zeros cofactor)
blank_set (other s) = other (zeros s)

unfoldable pub blank_parameters : Parameters → Parameters
blank_parameters (indexed index) = indexed index
blank_parameters (explicit set) = explicit (blank_set set)

unfoldable pub blank_entries : List Entry → List Entry
blank_entries [] = []
blank_entries (e ∷ es) =
    record { suite = e.suite; parameters = blank_parameters e.parameters; identifier = e.identifier } ∷ blank_entries es

abbrev pub blanked : Values → Values
blanked v =
    record {
      version = v.version;
      random = v.random;
      session = v.session;
      client = blank_entries v.client;
      trusted = blank_entries v.trusted;
      suites = v.suites;
      methods = v.methods;
      numbering = v.numbering;
      refresh = v.refresh;
    }

-- uint16 m, k, k1, k2, k3: the numbers of a set take two bytes each
unfoldable pub basis_ranged : Basis → Bool
basis_ranged onb = true
basis_ranged (trinomial k) = ltb k 65536
basis_ranged (pentanomial k1 k2 k3) = both (ltb k1 65536) (both (ltb k2 65536) (ltb k3 65536))
basis_ranged (polynomial p) = true

unfoldable pub field_ranged : CurveField → Bool
field_ranged (prime p) = true
field_ranged (two m basis) = both (ltb m 65536) (basis_ranged basis)

unfoldable pub parameters_ranged : Parameters → Bool
parameters_ranged (indexed index) = true
parameters_ranged (explicit (dh e p g)) = true
parameters_ranged (explicit (ec field a b seed base order cofactor)) = field_ranged field
parameters_ranged (explicit (other s)) = true

unfoldable pub entries_ranged : List Entry → Bool
entries_ranged [] = true
entries_ranged (e ∷ es) = both (parameters_ranged e.parameters) (entries_ranged es)

-- "Acceptance of a hello does not depend on the values": of two hellos of one layout both are well formed or neither, and
-- both are heard alike. Proved in proofs/Blanks.antt.
pub record HeardAlike : Type 0 where
  pub sound : (v w : Values) → blanked v ≡ blanked w → entries_ranged w.client ≡ true → entries_ranged w.trusted ≡ true
      → allowed v ≡ true → allowed w ≡ true
  pub heard : (v w : Values) (planted : List ℕ) → blanked v ≡ blanked w → allowed v ≡ true → allowed w ≡ true
      → heard_of (hello_of v) planted ≡ heard_of (hello_of w) planted
