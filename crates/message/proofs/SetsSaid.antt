-- What is said of explicit sets, in one place: from the laws of sets that are written (SetsWritten) and of sets that are read
-- (SetsRead).
use Rattle.std.specs.Prelude.{None}
use mathlib.Core.Path.{◌≡◌, refl, sym, ◌∙◌, ap, subst}
use mathlib.Core.Logic.{◌⊎◌, inl, inr, ◌↔◌}
use mathlib.Core.List.{List, []}
use mathlib.Core.Bool.{true, false}
use Prim.Native.Nat.{ℕ}
use native.Mathlib.Omega.{arith}
use Rattle.message.specs.Set.{ParameterSet, dh, ec, other, is_diffie_hellman, is_elliptic_curve, vector_allowed, set_bytes, set_allowed, read_dh, read_ec, well_formed, set_sound, set_in, ec_written, written_of}
use Rattle.message.specs.Said.{Bytes, SetsAsWritten}
use Rattle.message.proofs.Fields.{clash, both_split}
use Rattle.message.proofs.SetEnds.{next_none, field_cut, long_none, long_empty, two_past, dh_by, ec_by, read_skipped, read_as_dh, read_as_ec}
use Rattle.message.proofs.SetsWritten.{set_written, dh_not_ec}
use Rattle.message.proofs.SetsRead.{set_read}
use Rattle.message.proofs.SetsPut.{dh_written_lem}

-- the suites that have sets
abbrev Read : ℕ → Type 0
Read suite = (is_diffie_hellman suite ≡ true) ⊎ (is_elliptic_curve suite ≡ true)

all_written : (suite : ℕ) (v : ParameterSet) → set_allowed suite v ≡ true → Read suite → written_of v ≡ set_bytes v
unfolding set_allowed ec_written
all_written suite (dh e p g) h r =
    let q = both_split (is_diffie_hellman suite) _ h in
    let k = both_split (vector_allowed 1 65535 p) _ q.1 in
    dh_written_lem e p g k.0 k.1
all_written suite (ec f a b seed base order cofactor) h r =
    let q = both_split (is_elliptic_curve suite) _ h in
    rw q.1 refl
all_written suite (other s) h (inl d) = clash (rw d at h)
all_written suite (other s) h (inr c) = clash (rw (dh_not_ec suite c, c) at h)

back : (suite : ℕ) (s : List ℕ) → Bytes s → set_sound suite s ≡ true → Read suite → written_of (set_in suite s) ≡ s
back suite s b h r =
    let w = set_read suite s b h in
    all_written suite (set_in suite s) w.0 r ∙ w.1

image : (suite : ℕ) (s : List ℕ) → Bytes s
    → (set_sound suite s ≡ true) ↔ ((v : ParameterSet) × (set_allowed suite v ≡ true) × (set_bytes v ≡ s))
image suite s b = (
  λ h. (set_in suite s, (set_read suite s b h).0, (set_read suite s b h).1),
  λ w. subst (λ (l : List ℕ). set_sound suite l ≡ true) w.2 (set_written suite w.0 w.1).0,
)

skipped : (suite : ℕ) (s : List ℕ) → is_diffie_hellman suite ≡ false → is_elliptic_curve suite ≡ false → set_sound suite s ≡ true
unfolding set_sound
skipped suite s d c = ap well_formed (sym (read_skipped suite s d c))

dh_empty : read_dh [] ≡ None
unfolding read_dh
dh_empty =
    let one = long_empty [] 1 (λ z. omega arith) (sym (two_past [] 1 (omega arith))) in
    sym (dh_by [] 0 0 None one (long_none [] 0 refl) refl)

ec_empty : read_ec [] ≡ None
ec_empty =
    sym
    (ec_by [] _ 0 0 0 0 0 0 0 None refl (sym (field_cut [] refl)) (next_none 1 [] 0 refl) (next_none 1 [] 0 refl)
    (next_none 0 [] 0 refl) (next_none 1 [] 0 refl) (next_none 1 [] 0 refl) (next_none 1 [] 0 refl) refl)

empty : (suite : ℕ) → Read suite → set_sound suite [] ≡ false
unfolding set_sound
empty suite (inl d) = ap well_formed (sym (read_as_dh suite [] d) ∙ dh_empty)
empty suite (inr c) = ap well_formed (sym (read_as_ec suite [] (dh_not_ec suite c) c) ∙ ec_empty)

pub sets_as_written : SetsAsWritten
sets_as_written =
    record { written = set_written; read = set_read; image = image; back = back; skipped = skipped; empty = empty }
