-- A fresh gatherer is sound, and steps and drops leave it so; a drop is the map without the reference. So in every run the
-- gatherer means its map (`Messages.step_means`).
use mathlib.Core.Path.{◌≡◌, refl, sym, ap, ◌∙◌, subst}
use mathlib.Core.Bool.{Bool, true, false}
use mathlib.Core.List.{List, ◌++◌}
use mathlib.Core.Logic.{by_cases}
use Prim.Native.Nat.{ℕ, zero, suc, ◌+◌, ◌-◌, ◌*◌, ◌≤◌, ◌<◌}
use native.Mathlib.Omega.{arith}
use native.Mathlib.Decide.{dec_le, ℕ_discrete}
use lib.ListN.{length, get_or, take, drop, set, replicate, length-set}
use lib.Seq.{get_or-set_same, get_or-set_other}
use lib.Dec.{eqb, ltb}
use borrow.Author.Tests.{eq-eqb, ne_eqb}
use Rattle.digest.specs.Pick.{pick}
use Rattle.digest.specs.Bytes.{laid_over}
use Rattle.gather.specs.Header.{heading_of}
use Rattle.gather.specs.Slot.{free, begun, holds, count_of, sum_of, below, sized}
use Rattle.std.specs.Prelude.{Option, Some, None, Result, Ok, Err}
use Rattle.gather.specs.Gatherer.{fresh_of, slot_at, with_slot, held_at, vacant_at, lower, upper, Left, again_of, add_of, join_by, step_by, step_of, drop_by, drop_of}
use Rattle.gather.specs.Map.{absent, with, map_of, Fits, Sound, Bytes}
use Rattle.gather.specs.declared.slot.Slot.{Slot}
use Rattle.gather.specs.declared.header.Ports.{Ports}
use Rattle.gather.specs.declared.header.Place.{Place}
use Rattle.gather.specs.declared.header.Heading.{Heading}
use Rattle.gather.specs.declared.header.Heading.TheVariants as H
use Rattle.gather.specs.declared.refusal.Refusal.{Refusal}
use Rattle.gather.specs.declared.gatherer.Gatherer.{Gatherer}
use Rattle.gather.proofs.Always.{holds_no, either_way}
use Rattle.gather.proofs.Headings.{part_within}
use Rattle.gather.proofs.References.{reference_byte}
use Rattle.gather.proofs.Sums.{all_there}
use Rattle.gather.proofs.Steps.{add_again, add_long, add_finished, add_waiting}
use Rattle.gather.proofs.Finishing.{sum_set}
use Rattle.gather.proofs.Mapping.{found, none_holds, map_absent, vacant, updated}
use Rattle.gather.proofs.Counted.{holds_own, owned, apart}
use Rattle.gather.proofs.Messages.{zeros}

-- ---- a slot put in another's stead

slot_same : (g : Gatherer) (s : Slot) (k j : ℕ) → k < length g.slots → j ≡ k → s ≡ slot_at (with_slot g k s) j
slot_same g s k j few e = sym (get_or-set_same g.slots k s free few) ∙ ap (λ (n : ℕ). get_or (set g.slots k s) n free) (sym e)

slot_other : (g : Gatherer) (s : Slot) (k j : ℕ) → (j ≡ k → ⊥) → slot_at g j ≡ slot_at (with_slot g k s) j
slot_other g s k j n = sym (get_or-set_other g.slots k j s free n)

clash : (b : Bool) → b ≡ true → b ≡ false → ⊥
clash true e f = let z : ◌≡◌ {A = ℕ} 0 1 = cc in omega arith
clash false e f = let z : ◌≡◌ {A = ℕ} 0 1 = cc in omega arith

sound_with : (g : Gatherer) (k : ℕ) (s : Slot) → Sound g → k < 4 → Fits s
    → ((x : ℕ) → holds s x ≡ true → (j : ℕ) → j < 4 → (j ≡ k → ⊥) → holds (slot_at g j) x ≡ false) → Sound (with_slot g k s)
sound_with g k s sound few fits lone =
    let room : k < length g.slots = omega (arith, g.four) in
    record {
      fits =
          λ j l.
          by_cases (ℕ_discrete j k) (λ e. subst Fits (slot_same g s k j room e) fits)
          (λ n. subst Fits (slot_other g s k j n) (sound.fits j l));
      once =
          λ i j r hi hj ei ej.
          by_cases (ℕ_discrete i k)
          (λ p.
          by_cases (ℕ_discrete j k) (λ q. p ∙ sym q)
          (λ q.
          absurd
          (clash (holds (slot_at g j) r) (ap (λ (t : Slot). holds t r) (slot_other g s k j q) ∙ ej)
          (lone r (ap (λ (t : Slot). holds t r) (slot_same g s k i room p) ∙ ei) j hj q))))
          (λ p.
          by_cases (ℕ_discrete j k)
          (λ q.
          absurd
          (clash (holds (slot_at g i) r) (ap (λ (t : Slot). holds t r) (slot_other g s k i p) ∙ ei)
          (lone r (ap (λ (t : Slot). holds t r) (slot_same g s k j room q) ∙ ej) i hi p)))
          (λ q.
          sound.once i j r hi hj (ap (λ (t : Slot). holds t r) (slot_other g s k i p) ∙ ei)
          (ap (λ (t : Slot). holds t r) (slot_other g s k j q) ∙ ej)));
    }

free_fits : Fits free
free_fits = record { byte = omega arith; eleven = refl; bytes = zeros }

not_free : (x : ℕ) → holds free x ≡ true → ⊥
not_free x e = clash (holds free x) e refl

pub freed_sound : (g : Gatherer) (k : ℕ) → Sound g → k < 4 → Sound (with_slot g k free)
freed_sound g k sound few = sound_with g k free sound few free_fits (λ x e j l n. absurd (not_free x e))

free_at : (n i : ℕ) → get_or (replicate n free) i free ≡ free
free_at zero i = refl
free_at (suc n) zero = refl
free_at (suc n) (suc i) = free_at n i

pub fresh_sound : Sound fresh_of
fresh_sound =
    record {
      fits = λ i l. subst Fits (sym (free_at 4 i)) free_fits;
      once = λ i k r hi hk ei ek. absurd (not_free r (rw (free_at 4 i) at ei));
    }

-- ---- a step

module _ (g : Gatherer) (store assembly : List ℕ) (sound : Sound g) where
  added_sound : (k : ℕ) (s : Slot) (i : ℕ) (part : List ℕ) (ports : Ports) → k < 4 → i < 11 → Fits s
      → ((j : ℕ) → j < 4 → (j ≡ k → ⊥) → holds (slot_at g j) s.reference ≡ false)
      → Sound (add_of g k s i store part ports assembly).gatherer
  added_sound k s i part ports few place fits others =
      by_cases (ℕ_discrete (get_or s.sizes i 0) 0)
      (λ gone. by_cases (dec_le (length part) (1400 - below s 11)) (fitting gone) (too_long gone)) seen
    where
      whole : below s 11 ≡ sum_of s.sizes
      whole =
          let all : sum_of s.sizes ≡ sum_of (take 11 s.sizes) = ap sum_of (sym (lib.Seq.take_all 11 s.sizes (omega (arith, fits.eleven)))) in
          sym (all_there s 11 (sum_of s.sizes) all fits.bytes)

      seen : (get_or s.sizes i 0 ≡ 0 → ⊥) → Sound (add_of g k s i store part ports assembly).gatherer
      seen n =
          subst (λ (l : Left). Sound l.gatherer) (add_again g k s i store part ports assembly (again_of k s i store part ports) n refl) sound

      too_long : get_or s.sizes i 0 ≡ 0 → (length part ≤ 1400 - below s 11 → ⊥) → Sound (add_of g k s i store part ports assembly).gatherer
      too_long gone h =
          subst (λ (l : Left). Sound l.gatherer)
          (add_long g k s i store part ports assembly (with_slot g k free) (below s 11) gone refl (omega arith) refl) (freed_sound g k sound few)

      finished : get_or s.sizes i 0 ≡ 0 → length part ≤ 1400 - below s 11 → s.total ≤ count_of s.sizes + 1 → Sound (add_of g k s i store part ports assembly).gatherer
      finished gone h t =
          subst (λ (l : Left). Sound l.gatherer)
          (add_finished g k s i store part ports assembly (with_slot g k free) (below s 11) (count_of s.sizes) (below s 11 + length part)
          (laid_over assembly 0 (lower store k s i ++ part ++ upper store k s i)) gone refl h refl t refl refl refl)
          (freed_sound g k sound few)

      waits : get_or s.sizes i 0 ≡ 0 → length part ≤ 1400 - below s 11 → count_of s.sizes + 1 < s.total → Sound (add_of g k s i store part ports assembly).gatherer
      waits gone h t =
          let s₁ = sized s i (length part) in
          let fits₁ : Fits s₁ =
          record {
            byte = fits.byte;
            eleven = length-set s.sizes i (length part + 1) ∙ fits.eleven;
            bytes = omega (arith, sum_set s.sizes i (length part) (omega (arith, fits.eleven)) gone, whole, fits.bytes);
          } in
          subst (λ (l : Left). Sound l.gatherer)
          (add_waiting g k s i store part ports assembly (with_slot g k s₁) (below s 11) (count_of s.sizes)
          (laid_over store (k * 1400 + below s i) (part ++ upper store k s i)) gone refl h refl t refl refl)
          (sound_with g k s₁ sound few fits₁ (λ x e j l n. ap (holds (slot_at g j)) (sym (owned s₁ x e).1) ∙ others j l n))

      fitting : get_or s.sizes i 0 ≡ 0 → length part ≤ 1400 - below s 11 → Sound (add_of g k s i store part ports assembly).gatherer
      fitting gone h = by_cases (dec_le s.total (count_of s.sizes + 1)) (finished gone h) (λ l. waits gone h (omega arith))

  join_sound : (part : List ℕ) (ports : Ports) (p : Place) → 0 < p.place → p.place ≤ 11 → p.reference < 256
      → (at room : Option ℕ) → held_at g p.reference ≡ at → vacant_at g ≡ room
      → Sound (join_by g store part ports p assembly at room).gatherer
  join_sound part ports p positive eleven byte (Some k) room e v =
      let there = found g p.reference k e in
      let few : k < 4 = omega (arith, g.four, there.0) in
      let s = slot_at g k in
      let is = owned s p.reference there.1 in
      either_way Left (λ q. Sound q.gatherer) (eqb s.total p.total) _ _
      (added_sound k s (p.place - 1) part ports few (omega arith) (sound.fits k few)
      (λ j h n. apart g sound k j s.reference few h (λ q. n (sym q)) (holds_own s is.0)))
      sound
  join_sound part ports p positive eleven byte None (Some k) e v =
      let free_one = vacant g k v in
      added_sound k (begun p.reference p.total) (p.place - 1) part ports (omega (arith, g.four, free_one.0)) (omega arith)
      (record { byte = byte; eleven = refl; bytes = zeros }) (λ j l q. none_holds g p.reference e j (omega (arith, g.four)))
  join_sound part ports p positive eleven byte None None e v = sound

  by_sound : (message : List ℕ) → Bytes message → (h : Result Heading Refusal) → heading_of message ≡ h
      → Sound (step_by g store message assembly h).gatherer
  by_sound message bytes (Err refusal) e = sound
  by_sound message bytes (Ok (H.Alone ports start)) e = sound
  by_sound message bytes (Ok (H.Part ports start p)) e =
      let w = part_within message ports start p e in
      join_sound (drop start message) ports p w.positive (omega (arith, w.up_to, w.eleven)) (reference_byte message ports start p bytes e)
      (held_at g p.reference) (vacant_at g) refl refl

  -- every step leaves a sound gatherer
  pub step_sound : (message : List ℕ) → Bytes message → Sound (step_of g store message assembly).gatherer
  unfolding step_of
  step_sound message bytes =
      either_way Left (λ q. Sound q.gatherer) (ltb (length store) 5600) _ _ sound
      (either_way Left (λ q. Sound q.gatherer) (ltb (length assembly) 1400) _ _ sound (by_sound message bytes (heading_of message) refl))

-- ---- a drop

dropped_sound : (g : Gatherer) (r : ℕ) (at : Option ℕ) → Sound g → held_at g r ≡ at → Sound (drop_by g at)
dropped_sound g r None sound e = sound
dropped_sound g r (Some k) sound e = freed_sound g k sound (omega (arith, g.four, (found g r k e).0))

pub drop_sound : (g : Gatherer) (r : ℕ) → Sound g → Sound (drop_of g r)
drop_sound g r sound = dropped_sound g r (held_at g r) sound refl

dropped_means : (g : Gatherer) (store : List ℕ) (r : ℕ) (at : Option ℕ) → Sound g → held_at g r ≡ at
    → (x : ℕ) → map_of (drop_by g at) store x ≡ with (map_of g store) r absent x
dropped_means g store r None sound e x =
    by_cases (ℕ_discrete x r)
    (λ same.
    ap (map_of g store) same ∙ map_absent g store r e
    ∙ sym (ap (λ (b : Bool). pick b absent (map_of g store x)) (eq-eqb x r same)))
    (λ n. sym (ap (λ (b : Bool). pick b absent (map_of g store x)) (ne_eqb x r n)))
dropped_means g store r (Some k) sound e x =
    let there = found g r k e in
    let is = owned (slot_at g k) r there.1 in
    updated g store store k r free absent there.0 (λ m q. refl) (λ y q. refl)
    (λ y q. holds_no (slot_at g k) y (λ z. q (sym z ∙ is.1)))
    (λ j l q. apart g sound k j r (omega (arith, g.four, there.0)) (omega (arith, g.four)) (λ z. q (sym z)) there.1) refl x

-- "a finished or dropped reference gives its room back": the map without it
pub drop_means : (g : Gatherer) (store : List ℕ) (r : ℕ) → Sound g → (x : ℕ) → map_of (drop_of g r) store x ≡ with (map_of g store) r absent x
drop_means g store r sound x = dropped_means g store r (held_at g r) sound refl x
