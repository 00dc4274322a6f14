-- The field of a condition begins inside the hello.
use mathlib.Core.Path.{◌≡◌, refl, ap}
use mathlib.Core.List.{List}
use Prim.Native.Nat.{ℕ, ◌≤◌}
use native.Mathlib.Omega.{arith}
use lib.ListN.{length}
use Rattle.message.specs.Hello.{read_of}
use Rattle.message.specs.declared.hello.Place.{Place}
use Rattle.message.specs.declared.hello.Hello.{Hello}
use Rattle.message.specs.declared.acceptance.Condition.{Condition}
use Rattle.message.specs.declared.acceptance.Condition.TheVariants as C
use Rattle.message.proofs.Fields.{field_there}
use Rattle.message.proofs.Rests.{short_there}
use Rattle.message.proofs.Givens.{Walked, walked, suites_there, random_end, trusted_end, pairs_end, methods_end}
use Rattle.why.specs.Hello.{field_for, place_in}
use Rattle.std.specs.Prelude.{Err, Ok, Result}
use Rattle.message.specs.declared.hello.Field.{Field}

inside_of : (m : List ℕ) (h : Hello) → Walked m h → (condition : Condition) → (field_for h condition).from ≤ length m
inside_of m h w C.Version = omega (arith, (field_there m 3 1 w.version).1, ap (λ (x : Hello). x.version.from) w.places)
inside_of m h w C.SessionId =
    let s = short_there 0 8 m (random_end m) w.session in
    omega (arith, s.ends, s.within, ap (λ (x : Hello). x.session.from) w.places)
inside_of m h w C.CipherSuite =
    let s = suites_there m (trusted_end m) w.pairs in
    omega (arith, s.there.ends, s.there.within, ap (λ (x : Hello). x.suites.from) w.places)
inside_of m h w C.Compression =
    let s = short_there 1 255 m (pairs_end m) w.methods in
    omega (arith, s.ends, s.within, ap (λ (x : Hello). x.methods.from) w.places)
inside_of m h w C.Numbering =
    let s = field_there m (methods_end m) 1 w.numbering in
    omega (arith, s.1, ap (λ (x : Hello). x.numbering.from) w.places)

place_inside : (m : List ℕ) (condition : Condition) → (place_in (read_of m) condition).from ≤ length m
place_inside m condition = go (read_of m) refl
  where
    go : (x : Result Hello Field) → read_of m ≡ x → (place_in x condition).from ≤ length m
    go (Ok h) e = inside_of m h (walked m h e) condition
    go (Err fault) e = omega arith

pub place_bound : (m : List ℕ) (condition : Condition) (p : Place) → p ≡ place_in (read_of m) condition → p.from ≤ length m
place_bound m condition p e = rw e (place_inside m condition)
