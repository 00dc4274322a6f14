-- The records of a soundly framed datagram cover it exactly, and each is found in its place of the walk's answer. The idea:
-- each step of the framing reads one record and goes on behind it, so a framing that ends without a fault has passed over
-- every byte.
use mathlib.Core.Path.{◌≡◌, refl, sym, ap, subst, ◌∙◌}
use mathlib.Core.Bool.{Bool, true, false}
use mathlib.Core.List.{List, [], ◌∷◌}
use Prim.Native.Nat.{ℕ, zero, suc, ◌+◌, ◌-◌, ◌≤◌, ◌<◌}
use native.Mathlib.Omega.{arith}
use lib.ListN.{length, get_or, drop, replicate, length-append, length-drop, length-replicate, get_or-append}
use lib.Seq.{drop-drop}
use lib.Dec.{eqb, ltb}
use borrow.Author.Tests.{eqb-true, eqb-false, ltb-false}
use Rattle.digest.specs.Pick.{pick}
use Rattle.record.specs.Reader.{read_of}
use Rattle.record.specs.Datagram.{Framing, framed, faulty, after, ahead, placed_at, framing_from, framing_of, blank, found_all, answered, walk_of, CoversFrom}
use Rattle.record.specs.declared.reader.Record.{Record}
use Rattle.record.specs.declared.reader.Fault.{Fault}
use Rattle.record.specs.declared.reader.Fault.TheVariants as F
use Rattle.record.specs.declared.datagram.Walk.{Walk}
use Rattle.record.proofs.Standing.{Stands, stands, takes}
use Rattle.std.specs.Prelude.{Err, Ok, Result}

faulty_never : {P : Type 0} (f : Fault) (at : ℕ) (rs : List Record) → faulty f at ≡ framed rs → P
faulty_never f at rs e = let z : ◌≡◌ {A = ℕ} 0 1 = cc in absurd (omega arith)

-- a pick that gave records
by_test : {P : Type 0} (b : Bool) (x y : Framing) (rs : List Record) → pick b x y ≡ framed rs → (b ≡ true → x ≡ framed rs → P) → (b ≡ false → y ≡ framed rs → P) → P
by_test true x y rs e p q = p refl e
by_test false x y rs e p q = q refl e

-- the record that was read, and the framing of the rest
by_reading : {P : Type 0} (at : ℕ) (x : Result Record Fault) (rest : Record → Framing) (rs : List Record) → ahead at x rest ≡ framed rs → ((r : Record) (more : List Record) → x ≡ Ok r → rest r ≡ framed more → rs ≡ placed_at r at ∷ more → P) → P
by_reading at (Err f) rest rs e k = faulty_never f at rs e
by_reading {P} at (Ok r) rest rs e k = by_rest (rest r) refl e
  where
    by_rest : (y : Framing) → rest r ≡ y → after (placed_at r at ∷ []) y ≡ framed rs → P
    by_rest (faulty f p) q h = faulty_never f p rs h
    by_rest (framed more) q h = k r more refl q (cc)

covers_none : (d : List ℕ) (at : ℕ) (s : List ℕ) (rs : List Record) → s ≡ drop at d → at ≤ length d → eqb (length s) 0 ≡ true → framed [] ≡ framed rs → CoversFrom d at rs × (length rs ≤ 0)
unfolding CoversFrom
covers_none d at s rs e l t h =
    let z : rs ≡ [] = cc in
    rw z (omega (arith, eqb-true (length s) 0 t, ap length e, length-drop at d), omega arith)

covers_from : (room : ℕ) (d : List ℕ) (at : ℕ) (s : List ℕ) (rs : List Record) → s ≡ drop at d → at ≤ length d → framing_from room at s ≡ framed rs → CoversFrom d at rs × (length rs ≤ room)
unfolding framing_from CoversFrom
covers_from zero d at s rs e l h =
    by_test (eqb (length s) 0) (framed []) (faulty F.Ninth at) rs h (covers_none d at s rs e l) (λ t q. faulty_never F.Ninth at rs q)
covers_from (suc room) d at s rs e l h =
    by_test (eqb (length s) 0) (framed []) (ahead at (read_of s) (λ r. framing_from room (at + r.used) (drop r.used s))) rs h
    (λ t q. let c = covers_none d at s rs e l t q in (c.0, omega (arith, c.1)))
    (λ t q. by_reading at (read_of s) (λ r. framing_from room (at + r.used) (drop r.used s)) rs q
    (λ r more read rest z.
    let inside : at + r.used ≤ length d = omega (arith, takes s r read, ap length e, length-drop at d) in
    let c = covers_from room d (at + r.used) (drop r.used s) more (ap (drop r.used) e ∙ drop-drop r.used at d) inside rest in
    let zero-start : placed_at r 0 ≡ r = ap (placed_at r) (sym (stands s r read).start) in
    rw z ((refl, (ap read_of (sym e) ∙ read ∙ ap Ok (sym zero-start), c.0)), omega (arith, c.1))))

not_none : (d : List ℕ) (rs : List Record) → 1 ≤ length d → CoversFrom d 0 rs → 1 ≤ length rs
unfolding CoversFrom
not_none d [] h c = omega (arith, c)
not_none d (r ∷ rs) h c = omega arith

-- a soundly framed datagram has 1 to 1,400 bytes and 1 to 8 records, and the records cover it exactly
pub covers : (d : List ℕ) (rs : List Record) → framing_of d ≡ framed rs → CoversFrom d 0 rs × (1 ≤ length d) × (length d ≤ 1400) × (1 ≤ length rs) × (length rs ≤ 8)
unfolding framing_of
covers d rs e =
    by_test (eqb (length d) 0) (faulty F.Size 0) (pick (ltb 1400 (length d)) (faulty F.Size 0) (framing_from 8 0 d)) rs e
    (λ t q. faulty_never F.Size 0 rs q)
    (λ t q. by_test (ltb 1400 (length d)) (faulty F.Size 0) (framing_from 8 0 d) rs q
    (λ u p. faulty_never F.Size 0 rs p)
    (λ u p.
    let c = covers_from 8 d 0 d rs refl (omega arith) p in
    let some : 1 ≤ length d = omega (arith, eqb-false (length d) 0 t) in
    (c.0, some, ltb-false 1400 (length d) u, not_none d rs some c.0, c.1)))

-- ---- one record of them

-- what the layers above need of a record: where it stands, that it lies inside, and how it is read
pub record Lies (d : List ℕ) (r : Record) : Type 0 where
  pub reads : read_of (drop r.start d) ≡ Ok (placed_at r 0)
  pub stand : Stands (drop r.start d) (placed_at r 0)
  pub inside : r.start + r.used ≤ length d

lies : (d : List ℕ) (at : ℕ) (r : Record) → at ≤ length d → r.start ≡ at → read_of (drop at d) ≡ Ok (placed_at r 0) → Lies d r
lies d at r l e read =
    let here : read_of (drop r.start d) ≡ Ok (placed_at r 0) = rw e read in
    let s : Stands (drop r.start d) (placed_at r 0) = stands (drop r.start d) (placed_at r 0) here in
    record { reads = here; stand = s; inside = omega (arith, s.inside, length-drop r.start d) }

-- record i of the cover
pub lies_at : (rs : List Record) (i : ℕ) (d : List ℕ) (at : ℕ) → at ≤ length d → CoversFrom d at rs → i < length rs → Lies d (get_or rs i blank)
unfolding CoversFrom
lies_at [] i d at l c h = absurd (omega arith)
lies_at (r ∷ rs) zero d at l c h = lies d at r l c.0 c.1.0
lies_at (r ∷ rs) (suc i) d at l c h =
    let here : Lies d r = lies d at r l c.0 c.1.0 in
    lies_at rs i d (at + r.used) (omega (arith, here.inside, c.0)) c.1.1 (omega arith)

-- the next record begins where this one ends
pub next_start : (rs : List Record) (i : ℕ) (d : List ℕ) (at : ℕ) → CoversFrom d at rs → suc i < length rs → (get_or rs (suc i) blank).start ≡ (get_or rs i blank).start + (get_or rs i blank).used
unfolding CoversFrom
next_start [] i d at c h = absurd (omega arith)
next_start (r ∷ []) i d at c h = absurd (omega arith)
next_start (r ∷ q ∷ rs) zero d at c h = c.1.1.0 ∙ ap (λ (x : ℕ). x + r.used) (sym c.0)
next_start (r ∷ q ∷ rs) (suc i) d at c h = next_start (q ∷ rs) i d (at + r.used) c.1.1 (omega arith)

-- ---- the walk's answer

pub found_at : (rs : List Record) (i : ℕ) → i < length rs → get_or (found_all rs).records i blank ≡ get_or rs i blank
unfolding found_all
found_at rs i h = get_or-append rs (replicate (8 - length rs) blank) blank i h

pub found_eight : (rs : List Record) → length rs ≤ 8 → length (found_all rs).records ≡ 8
unfolding found_all
found_eight rs h =
    length-append rs (replicate (8 - length rs) blank) ∙ ap (λ (n : ℕ). length rs + n) (length-replicate (8 - length rs) blank) ∙ omega arith

-- ---- whatever the datagram: at most eight records in eight places, and each that is counted lies in the datagram

-- what a caller needs of the walk's answer to go through its records
pub record Walkable (d : List ℕ) (count : ℕ) (records : List Record) : Type 0 where
  pub few : count ≤ 8
  pub eight : length records ≡ 8
  pub each : (i : ℕ) → i < count → Lies d (get_or records i blank)

pub walkable : (d : List ℕ) (w : Walk) → walk_of d ≡ Ok w → Walkable d w.count w.records
unfolding found_all
walkable d w = told (framing_of d) refl
  where
    told : (x : Framing) → framing_of d ≡ x → answered x ≡ Ok w → Walkable d w.count w.records
    told (framed rs) q e =
        let few = (covers d rs q).4 in
        let is : w ≡ found_all rs = cc in
        subst (λ (x : Walk). Walkable d x.count x.records) (sym is) (
        record {
          few = few;
          eight = found_eight rs few;
          each = λ i h. subst (Lies d) (sym (found_at rs i h)) (lies_at rs i d 0 (omega arith) (covers d rs q).0 h);
        })
    told (faulty f at) q e = let z : ◌≡◌ {A = ℕ} 0 1 = cc in absurd (omega arith)

pub walk_count : (d : List ℕ) (w : Walk) → walk_of d ≡ Ok w → w.count ≤ 8
walk_count d w e = (walkable d w e).few

pub walk_eight : (d : List ℕ) (w : Walk) → walk_of d ≡ Ok w → length w.records ≡ 8
walk_eight d w e = (walkable d w e).eight

pub walk_lies : (d : List ℕ) (w : Walk) → walk_of d ≡ Ok w → (i : ℕ) → i < w.count → Lies d (get_or w.records i blank)
walk_lies d w e = (walkable d w e).each
