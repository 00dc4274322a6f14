-- Hellos of one layout are heard alike: whether values are allowed, and how long they are written, is told by their layout
-- and the range of their numbers; what is heard of an allowed hello does not look at its key lists.
use mathlib.Core.Path.{◌≡◌, refl, sym, ◌∙◌, ap}
use mathlib.Core.List.{List, [], ◌∷◌, ◌++◌}
use mathlib.Core.Bool.{true}
use Prim.Native.Nat.{ℕ}
use native.Mathlib.Omega.{arith}
use lib.ListN.{length, length-append, length-replicate}
use lib.Dec.{leb, ltb, eqb}
use Rattle.message.specs.Field.{both}
use Rattle.message.specs.Set.{Basis, onb, trinomial, pentanomial, polynomial, CurveField, prime, two, ParameterSet, dh, ec, other, is_elliptic_curve, basis_bytes, field_bytes, set_bytes, vector_allowed, vectors_allowed, basis_allowed, field_allowed, curve_allowed, set_allowed}
use Rattle.message.specs.Entry.{Entry, Parameters, indexed, explicit, identifier_bytes, parameters_bytes, entry_bytes, list_bytes, identifier_allowed, parameters_allowed, list_allowed}
use Rattle.message.specs.Given.{offers_allowed}
use Rattle.message.specs.Values.{Values, bytes_of, hello_of, fields_allowed, allowed}
use Rattle.message.specs.Acceptance.{acceptance_of, judged, heard_of}
use Rattle.message.specs.Blank.{zeros, blank_basis, blank_field, blank_set, blank_parameters, blank_entries, blanked, basis_ranged, field_ranged, parameters_ranged, entries_ranged, HeardAlike}
use Rattle.message.proofs.Fields.{both_split, both_true}
use Rattle.message.proofs.SetsPut.{length_dh, length_ec}
use Rattle.message.proofs.Givens.{length_hello}
use Rattle.message.proofs.Saying.{heard_so}

zeros_size : (v : List ℕ) → length (zeros v) ≡ length v
zeros_size v = length-replicate (length v) 0

zeros_can : (floor ceiling : ℕ) (v : List ℕ) → vector_allowed floor ceiling (zeros v) ≡ vector_allowed floor ceiling v
zeros_can floor ceiling v = ap (λ (n : ℕ). both (leb floor n) (leb n ceiling)) (zeros_size v)

-- a basis
basis_size : (b : Basis) → length (basis_bytes (blank_basis b)) ≡ length (basis_bytes b)
unfolding basis_bytes blank_basis
basis_size onb = refl
basis_size (trinomial k) = refl
basis_size (pentanomial k1 k2 k3) = refl
basis_size (polynomial p) = omega (arith, zeros_size p)

basis_blank : (b : Basis) → basis_allowed b ≡ true → basis_allowed (blank_basis b) ≡ true
unfolding basis_allowed blank_basis
basis_blank onb h = refl
basis_blank (trinomial k) h = refl
basis_blank (pentanomial k1 k2 k3) h = refl
basis_blank (polynomial p) h = zeros_can 1 255 p ∙ h

basis_full : (b : Basis) → basis_ranged b ≡ true → basis_allowed (blank_basis b) ≡ true → basis_allowed b ≡ true
unfolding basis_allowed blank_basis basis_ranged
basis_full onb r h = refl
basis_full (trinomial k) r h = r
basis_full (pentanomial k1 k2 k3) r h = r
basis_full (polynomial p) r h = sym (zeros_can 1 255 p) ∙ h

-- a field
field_size : (f : CurveField) → length (field_bytes (blank_field f)) ≡ length (field_bytes f)
unfolding field_bytes blank_field
field_size (prime p) = omega (arith, zeros_size p)
field_size (two m b) = omega (arith, basis_size b)

field_blank : (f : CurveField) → field_allowed f ≡ true → field_allowed (blank_field f) ≡ true
unfolding field_allowed blank_field
field_blank (prime p) h = zeros_can 1 255 p ∙ h
field_blank (two m b) h = basis_blank b (both_split (ltb m 65536) _ h).1

field_full : (f : CurveField) → field_ranged f ≡ true → field_allowed (blank_field f) ≡ true → field_allowed f ≡ true
unfolding field_allowed blank_field field_ranged
field_full (prime p) r h = sym (zeros_can 1 255 p) ∙ h
field_full (two m b) r h =
    let q = both_split (ltb m 65536) _ r in
    both_true _ _ q.0 (basis_full b q.1 h)

-- the vectors of a curve
vectors_same : (a b seed base order cofactor : List ℕ)
    → vectors_allowed (zeros a) (zeros b) (zeros seed) (zeros base) (zeros order) (zeros cofactor)
    ≡ vectors_allowed a b seed base order cofactor
unfolding vectors_allowed
vectors_same a b seed base order cofactor =
    rw (
      zeros_can 1 255 a,
      zeros_can 1 255 b,
      zeros_can 0 255 seed,
      zeros_can 1 255 base,
      zeros_can 1 255 order,
      zeros_can 1 255 cofactor,
    )
    refl

-- a set
other_is : (s : List ℕ) → set_bytes (other s) ≡ s
unfolding set_bytes
other_is s = refl

set_size : (s : ParameterSet) → length (set_bytes (blank_set s)) ≡ length (set_bytes s)
unfolding blank_set
set_size (dh e p g) =
    omega (arith, length_dh 0 (zeros p) (zeros g), length_dh e p g, zeros_size p, zeros_size g)
set_size (ec f a b seed base order cofactor) =
    omega (
      arith,
      length_ec (blank_field f) (zeros a) (zeros b) (zeros seed) (zeros base) (zeros order) (zeros cofactor),
      length_ec f a b seed base order cofactor,
      field_size f,
      zeros_size a,
      zeros_size b,
      zeros_size seed,
      zeros_size base,
      zeros_size order,
      zeros_size cofactor,
    )
set_size (other s) = ap length (other_is (zeros s)) ∙ zeros_size s ∙ ap length (sym (other_is s))

set_blank : (suite : ℕ) (s : ParameterSet) → set_allowed suite s ≡ true → set_allowed suite (blank_set s) ≡ true
unfolding set_allowed blank_set curve_allowed
set_blank suite (dh e p g) h = rw (zeros_can 1 65535 p, zeros_can 1 65535 g) h
set_blank suite (ec f a b seed base order cofactor) h =
    let q = both_split (is_elliptic_curve suite) _ h in
    let r = both_split (field_allowed f) _ q.1 in
    both_true _ _ q.0 (both_true _ _ (field_blank f r.0) (vectors_same a b seed base order cofactor ∙ r.1))
set_blank suite (other s) h = h

set_full : (suite : ℕ) (s : ParameterSet) → parameters_ranged (explicit s) ≡ true → set_allowed suite (blank_set s) ≡ true
    → set_allowed suite s ≡ true
unfolding set_allowed blank_set curve_allowed parameters_ranged
set_full suite (dh e p g) r h = rw (sym (zeros_can 1 65535 p), sym (zeros_can 1 65535 g)) h
set_full suite (ec f a b seed base order cofactor) r h =
    let q = both_split (is_elliptic_curve suite) _ h in
    let k = both_split (field_allowed (blank_field f)) _ q.1 in
    both_true _ _ q.0
    (both_true _ _ (field_full f r k.0) (sym (vectors_same a b seed base order cofactor) ∙ k.1))
set_full suite (other s) r h = h

-- a parameter specifier
parameters_size : (p : Parameters) → length (parameters_bytes (blank_parameters p)) ≡ length (parameters_bytes p)
unfolding parameters_bytes blank_parameters
parameters_size (indexed index) = refl
parameters_size (explicit s) = omega (arith, set_size s)

parameters_blank : (suite : ℕ) (p : Parameters) → parameters_allowed suite p ≡ true → parameters_allowed suite (blank_parameters p) ≡ true
unfolding parameters_allowed blank_parameters
parameters_blank suite (indexed index) h = h
parameters_blank suite (explicit s) h =
    let q = both_split (set_allowed suite s) _ h in
    both_true _ _ (set_blank suite s q.0) (ap (λ (n : ℕ). ltb n 65536) (set_size s) ∙ q.1)

parameters_full : (suite : ℕ) (p : Parameters) → parameters_ranged p ≡ true → parameters_allowed suite (blank_parameters p) ≡ true
    → parameters_allowed suite p ≡ true
unfolding parameters_allowed blank_parameters
parameters_full suite (indexed index) r h = h
parameters_full suite (explicit s) r h =
    let q = both_split (set_allowed suite (blank_set s)) _ h in
    both_true _ _ (set_full suite s r q.0) (ap (λ (n : ℕ). ltb n 65536) (sym (set_size s)) ∙ q.1)

-- a key list
list_size : (es : List Entry) → length (list_bytes (blank_entries es)) ≡ length (list_bytes es)
unfolding list_bytes blank_entries entry_bytes
list_size [] = refl
list_size (e ∷ es) =
    let p = parameters_bytes e.parameters in
    let q = parameters_bytes (blank_parameters e.parameters) in
    let i = identifier_bytes e.identifier in
    omega (
      arith,
      list_size es,
      parameters_size e.parameters,
      length-append p i,
      length-append q i,
      length-append (p ++ i) (list_bytes es),
      length-append (q ++ i) (list_bytes (blank_entries es)),
    )

list_blank : (es : List Entry) → list_allowed es ≡ true → list_allowed (blank_entries es) ≡ true
unfolding list_allowed blank_entries
list_blank [] h = refl
list_blank (e ∷ es) h =
    let p = both_split (both (parameters_allowed e.suite e.parameters) (identifier_allowed e.identifier)) _ h in
    let q = both_split (parameters_allowed e.suite e.parameters) _ p.0 in
    both_true _ _ (both_true _ _ (parameters_blank e.suite e.parameters q.0) q.1) (list_blank es p.1)

list_full : (es : List Entry) → entries_ranged es ≡ true → list_allowed (blank_entries es) ≡ true → list_allowed es ≡ true
unfolding list_allowed blank_entries entries_ranged
list_full [] r h = refl
list_full (e ∷ es) r h =
    let s = both_split (parameters_ranged e.parameters) _ r in
    let p = both_split (both (parameters_allowed e.suite (blank_parameters e.parameters)) (identifier_allowed e.identifier)) _ h in
    let q = both_split (parameters_allowed e.suite (blank_parameters e.parameters)) _ p.0 in
    both_true _ _ (both_true _ _ (parameters_full e.suite e.parameters s.0 q.0) q.1) (list_full es s.1 p.1)

-- a hello
hello_size_lem : (v : Values) → length (hello_of (blanked v)) ≡ length (hello_of v)
hello_size_lem v =
    omega (
      arith,
      length_hello (bytes_of (blanked v)),
      length_hello (bytes_of v),
      list_size v.client,
      list_size v.trusted,
    )

allowed_blank : (v : Values) → allowed v ≡ true → allowed (blanked v) ≡ true
unfolding allowed fields_allowed
allowed_blank v h =
    let a = both_split (fields_allowed v.random v.session v.client v.trusted) _ h in
    let r = both_split (eqb (length v.random) 16) _ a.0 in
    let s = both_split (leb (length v.session) 8) _ r.1 in
    let c = both_split (list_allowed v.client) _ s.1 in
    let o = both_split (offers_allowed v.suites v.methods) _ a.1 in
    both_true _ _
    (both_true _ _ r.0 (both_true _ _ s.0 (both_true _ _ (list_blank v.client c.0) (list_blank v.trusted c.1))))
    (both_true _ _ o.0 (ap (λ (n : ℕ). leb n 256) (hello_size_lem v) ∙ o.1))

allowed_full : (v : Values) → entries_ranged v.client ≡ true → entries_ranged v.trusted ≡ true
    → allowed (blanked v) ≡ true → allowed v ≡ true
unfolding allowed fields_allowed
allowed_full v rc rt h =
    let a = both_split (fields_allowed v.random v.session (blank_entries v.client) (blank_entries v.trusted)) _ h in
    let r = both_split (eqb (length v.random) 16) _ a.0 in
    let s = both_split (leb (length v.session) 8) _ r.1 in
    let c = both_split (list_allowed (blank_entries v.client)) _ s.1 in
    let o = both_split (offers_allowed v.suites v.methods) _ a.1 in
    both_true _ _
    (both_true _ _ r.0
    (both_true _ _ s.0 (both_true _ _ (list_full v.client rc c.0) (list_full v.trusted rt c.1))))
    (both_true _ _ o.0 (ap (λ (n : ℕ). leb n 256) (sym (hello_size_lem v)) ∙ o.1))

pub alike_sound : (v w : Values) → blanked v ≡ blanked w → entries_ranged w.client ≡ true → entries_ranged w.trusted ≡ true
    → allowed v ≡ true → allowed w ≡ true
alike_sound v w e rc rt h = allowed_full w rc rt (sym (ap allowed e) ∙ allowed_blank v h)

pub alike_heard : (v w : Values) (planted : List ℕ) → blanked v ≡ blanked w → allowed v ≡ true → allowed w ≡ true
    → heard_of (hello_of v) planted ≡ heard_of (hello_of w) planted
alike_heard v w planted e h k =
    heard_so v planted h
    ∙ ap (λ (u : Values). judged (acceptance_of u planted)) e
    ∙ sym (heard_so w planted k)

pub heard_alike : HeardAlike
heard_alike = record { sound = alike_sound; heard = alike_heard }
