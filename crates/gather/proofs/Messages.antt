-- A step of a sound gatherer is the step of the map: `step_means`.
use mathlib.Core.Path.{◌≡◌, refl, sym, ap, ◌∙◌, subst}
use mathlib.Core.Bool.{Bool, true, false}
use mathlib.Core.List.{List}
use mathlib.Core.Logic.{by_cases}
use Prim.Native.Nat.{ℕ, zero, suc, ◌+◌, ◌-◌, ◌*◌, ◌≤◌, ◌<◌}
use native.Mathlib.Omega.{arith}
use native.Mathlib.Decide.{ℕ_discrete}
use lib.ListN.{length, get_or, take, drop, replicate}
use lib.Seq.{drop-drop}
use lib.Dec.{eqb}
use borrow.Author.Tests.{eq-eqb, ne_eqb, le-ltb, le-leb, lt-leb}
use Rattle.digest.specs.Pick.{pick}
use Rattle.digest.specs.Mac.{same_bytes}
use Rattle.gather.specs.Header.{heading_of}
use Rattle.gather.specs.Slot.{begun, holds, sum_of, below, together}
use Rattle.std.specs.Prelude.{Option, Some, None, Result, Ok, Err}
use Rattle.gather.specs.Gatherer.{slot_at, held_at, vacant_at, within, again_of, add_of, join_by, join_of, step_by, step_of}
use Rattle.gather.specs.Map.{Part, missing, there, Entry, absent, held, held_in, have, refused, waiting, placed, joins, message_by, message_of, places_of, room_of, map_of, Fits, Sound, Bytes}
use Rattle.gather.specs.declared.slot.Slot.{Slot}
use Rattle.gather.specs.declared.header.Ports.{Ports}
use Rattle.gather.specs.declared.header.Place.{Place}
use Rattle.gather.specs.declared.header.Heading.{Heading}
use Rattle.gather.specs.declared.header.Heading.TheVariants as H
use Rattle.gather.specs.declared.refusal.Refusal.{Refusal}
use Rattle.gather.specs.declared.refusal.Refusal.TheVariants as R
use Rattle.gather.specs.declared.gatherer.Gatherer.{Gatherer}
use Rattle.gather.proofs.Always.{holds_no}
use Rattle.gather.proofs.Headings.{part_within}
use Rattle.gather.proofs.References.{reference_byte}
use Rattle.gather.proofs.Places.{have_places, place_missing, place_there}
use Rattle.gather.proofs.Sums.{together_more, together_mono, all_there}
use Rattle.gather.proofs.Finishing.{cut_of_front}
use Rattle.gather.proofs.Mapping.{found, none_holds, map_held, map_absent, vacant}
use Rattle.gather.proofs.Counted.{holds_own, owned, apart, four_held, fewer_held}
use Rattle.gather.proofs.Meaning.{Means, put_means}

-- ---- a place that is held

module _ (s : Slot) (k i n : ℕ) (store : List ℕ) (place : i < 11) (fits : Fits s) (size : get_or s.sizes i 0 ≡ suc n) where
  upto : (m : ℕ) → m ≤ 11 → below s m ≡ sum_of (take m s.sizes)
  upto m h =
      let all : sum_of (take 11 s.sizes) ≡ sum_of s.sizes = ap sum_of (lib.Seq.take_all 11 s.sizes (omega (arith, fits.eleven))) in
      sym (all_there s m (sum_of (take m s.sizes)) refl (omega (arith, together_mono (λ x. x - 1) s.sizes m 11 h, fits.bytes)))

  one_on : below s (i + 1) ≡ below s i + n
  one_on =
      upto (i + 1) (omega arith)
      ∙ together_more (λ x. x - 1) s.sizes i (omega (arith, fits.eleven))
      ∙ (let z : sum_of (take i s.sizes) + (get_or s.sizes i 0 - 1) ≡ below s i + n = omega (arith, upto i (omega arith), size) in z)

  in_place : get_or (places_of s.sizes (room_of store k)) i missing ≡ there (within store k s i)
  in_place =
      let width : n ≡ below s (i + 1) - below s i = omega (arith, one_on) in
      let at : sum_of (take i s.sizes) ≡ below s i = sym (upto i (omega arith)) in
      let most : below s (i + 1) ≤ 1400 = Rattle.gather.proofs.Sums.below_small s (i + 1) in
      place_there s.sizes (room_of store k) i n size
      ∙ (λ j. there (take (width j) (drop (at j) (room_of store k))))
      ∙ ap there
      (cut_of_front (below s (i + 1) - below s i) (below s i) 1400 (drop (k * 1400) store) (omega (arith, one_on))
      ∙ ap (take (below s (i + 1) - below s i)) (drop-drop (below s i) (k * 1400) store))

pub zeros : sum_of (replicate 11 0) ≤ 1400
unfolding together
zeros = omega arith

held_by : (g : Gatherer) (store message assembly : List ℕ) (k : ℕ) (s : Slot) (i : ℕ) (part : List ℕ) (ports : Ports) (b : Bool)
    → (get_or s.sizes i 0 ≡ 0 → ⊥) → same_bytes (within store k s i) part ≡ b
    → Means message (add_of g k s i store part ports assembly)
    (pick (same_bytes (within store k s i) part)
    (record { said = waiting s.reference (have (places_of s.sizes (room_of store k))) s.total; map = map_of g store })
    (record { said = refused R.Differs; map = map_of g store }))
unfolding add_of again_of
held_by g store message assembly k s i part ports true h e =
    rw (ne_eqb (get_or s.sizes i 0) 0 h, e)
    (record {
      answer = ap (λ (n : ℕ). waiting s.reference n s.total) (sym (have_places s.sizes (room_of store k)));
      gathering = λ x. refl;
    })
held_by g store message assembly k s i part ports false h e =
    rw (ne_eqb (get_or s.sizes i 0) 0 h, e) (record { answer = refl; gathering = λ x. refl })

-- ---- a part, whether its place is held or not

module _ (g : Gatherer) (store message assembly : List ℕ) (long : 5600 ≤ length store) (roomy : 1400 ≤ length assembly) where
  added : (k : ℕ) (s : Slot) (i : ℕ) (part : List ℕ) (ports : Ports) → k < 4 → i < 11 → Fits s → eqb s.total 0 ≡ false
      → ((x : ℕ) → (x ≡ s.reference → ⊥) → holds (slot_at g k) x ≡ false)
      → ((j : ℕ) → j < length g.slots → (j ≡ k → ⊥) → holds (slot_at g j) s.reference ≡ false)
      → Means message (add_of g k s i store part ports assembly)
      (placed (map_of g store) s.reference s.total (places_of s.sizes (room_of store k)) i part (get_or (places_of s.sizes (room_of store k)) i missing))
  added k s i part ports few place fits used old others =
      by_cases (ℕ_discrete (get_or s.sizes i 0) 0)
      (λ gone.
      subst (λ (p : Part). Means message (add_of g k s i store part ports assembly) (placed (map_of g store) s.reference s.total (places_of s.sizes (room_of store k)) i part p))
      (sym (place_missing s.sizes (room_of store k) i gone))
      (put_means g store message assembly k s i part ports few place fits used old others long roomy gone))
      (λ there-is.
      let size : get_or s.sizes i 0 ≡ suc (get_or s.sizes i 0 - 1) = omega arith in
      subst (λ (p : Part). Means message (add_of g k s i store part ports assembly) (placed (map_of g store) s.reference s.total (places_of s.sizes (room_of store k)) i part p))
      (sym (in_place s k i (get_or s.sizes i 0 - 1) store place fits size))
      (held_by g store message assembly k s i part ports (same_bytes (within store k s i) part) there-is refl))

  free_holds : (s : Slot) (x : ℕ) → s.total ≡ 0 → holds s x ≡ false
  free_holds s x e = rw (eq-eqb s.total 0 e)

  zero_sizes : (i : ℕ) → ◌≡◌ {A = ℕ} (get_or (replicate 11 0) i 0) 0
  zero_sizes i = all_zero 11 i
    where
      all_zero : (n i : ℕ) → ◌≡◌ {A = ℕ} (get_or (replicate n 0) i 0) 0
      all_zero zero i = refl
      all_zero (suc n) zero = refl
      all_zero (suc n) (suc i) = all_zero n i

  module _ (sound : Sound g) (part : List ℕ) (ports : Ports) (p : Place) (positive : 0 < p.place) (eleven : p.place ≤ 11)
      (several : p.total ≡ 0 → ⊥) (byte : p.reference < 256) where
    held_means : (k : ℕ) → held_at g p.reference ≡ Some k → (b : Bool) → eqb (slot_at g k).total p.total ≡ b
        → Means message (join_by g store part ports p assembly (Some k) (vacant_at g))
        (joins (map_of g store) p part (held (slot_at g k).total (places_of (slot_at g k).sizes (room_of store k))))
    held_means k at true e =
        let there = found g p.reference k at in
        let few : k < 4 = omega (arith, g.four, there.0) in
        let is = owned (slot_at g k) p.reference there.1 in
        rw e
        (subst (λ (r : ℕ). Means message (add_of g k (slot_at g k) (p.place - 1) store part ports assembly) (placed (map_of g store) r (slot_at g k).total (places_of (slot_at g k).sizes (room_of store k)) (p.place - 1) part (get_or (places_of (slot_at g k).sizes (room_of store k)) (p.place - 1) missing)))
        is.1
        (added k (slot_at g k) (p.place - 1) part ports few (omega arith) (sound.fits k few) is.0 (λ x n. holds_no (slot_at g k) x (λ q. n (sym q)))
        (λ j l n. apart g sound k j (slot_at g k).reference few (omega (arith, g.four)) (λ q. n (sym q)) (holds_own (slot_at g k) is.0))))
    held_means k at false e = rw e (record { answer = refl; gathering = λ x. refl })

    new_means : held_at g p.reference ≡ None → (room : Option ℕ) → vacant_at g ≡ room
        → Means message (join_by g store part ports p assembly None room) (joins (map_of g store) p part absent)
    unfolding places_of
    new_means none None e =
        rw (le-leb 4 (held_in (map_of g store)) (omega (arith, four_held g store sound e)))
        (record { answer = refl; gathering = λ x. refl })
    new_means none (Some k) e =
        let v = vacant g k e in
        let s = begun p.reference p.total in
        let fits : Fits s = record { byte = byte; eleven = refl; bytes = zeros } in
        rw (lt-leb 4 (held_in (map_of g store)) (fewer_held g store k sound e))
        (put_means g store message assembly k s (p.place - 1) part ports (omega (arith, g.four, v.0)) (omega arith) fits
        (ne_eqb p.total 0 several) (λ x q. free_holds (slot_at g k) x v.1) (λ j l q. none_holds g p.reference none j l) long roomy
        (zero_sizes (p.place - 1)))

    joined_means : (at : Option ℕ) → held_at g p.reference ≡ at
        → Means message (join_by g store part ports p assembly at (vacant_at g)) (joins (map_of g store) p part (map_of g store p.reference))
    joined_means (Some k) e =
        subst (λ (x : Entry). Means message (join_by g store part ports p assembly (Some k) (vacant_at g)) (joins (map_of g store) p part x))
        (sym (map_held g store p.reference k e)) (held_means k e (eqb (slot_at g k).total p.total) refl)
    joined_means None e =
        subst (λ (x : Entry). Means message (join_by g store part ports p assembly None (vacant_at g)) (joins (map_of g store) p part x))
        (sym (map_absent g store p.reference e)) (new_means e (vacant_at g) refl)

    join_means : Means message (join_of g store part ports p assembly) (joins (map_of g store) p part (map_of g store p.reference))
    join_means = joined_means (held_at g p.reference) refl

  by_means : Sound g → Bytes message → (heading : Result Heading Refusal) → heading_of message ≡ heading
      → Means message (step_by g store message assembly heading) (message_by (map_of g store) message heading)
  by_means sound bytes (Err refusal) e = record { answer = refl; gathering = λ x. refl }
  by_means sound bytes (Ok (H.Alone ports start)) e = record { answer = refl; gathering = λ x. refl }
  by_means sound bytes (Ok (H.Part ports start p)) e =
      let w = part_within message ports start p e in
      join_means sound (drop start message) ports p w.positive (omega (arith, w.up_to, w.eleven))
      (λ z. omega (arith, w.up_to, w.positive)) (reference_byte message ports start p bytes e)

  -- the step of the gatherer is the step of the map
  pub step_means : Sound g → Bytes message → Means message (step_of g store message assembly) (message_of (map_of g store) message)
  unfolding step_of
  step_means sound bytes =
      rw (le-ltb (length store) 5600 long, le-ltb (length assembly) 1400 roomy) (by_means sound bytes (heading_of message) refl)
