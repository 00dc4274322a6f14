-- The gatherer means a map: a step of a sound gatherer is the step of the map, answer and all. The idea: the slot of a
-- reference is its entry, what is tested of the slot is what is tested of the entry, and a changed slot is a changed entry.
use mathlib.Core.Path.{◌≡◌, refl, sym, ap, ◌∙◌, subst}
use mathlib.Core.Bool.{Bool, true, false}
use mathlib.Core.List.{List, [], ◌∷◌, ◌++◌}
use mathlib.Core.Logic.{by_cases}
use Prim.Native.Nat.{ℕ, zero, suc, ◌+◌, ◌-◌, ◌*◌, ◌≤◌, ◌<◌}
use native.Mathlib.Omega.{arith}
use native.Mathlib.Decide.{dec_le}
use lib.ListN.{length, get_or, take, set, length-append}
use lib.Seq.{length-take-le}
use lib.Dec.{eqb}
use borrow.Author.Tests.{eq-eqb, lt-ltb, le-ltb, le-leb, lt-leb}
use Rattle.digest.specs.Pick.{pick}
use Rattle.digest.specs.Bytes.{laid_over}
use Rattle.gather.specs.Slot.{free, holds, count_of, sum_of, below, sized}
use Rattle.gather.specs.Gatherer.{slot_at, with_slot, lower, upper, Left, add_of}
use Rattle.gather.specs.Map.{Part, missing, there, absent, held, Map, with, have, joined, is_there, bytes_of, refused, waiting, gathered, Next, put, places_of, room_of, map_of, said_of, Fits}
use Rattle.gather.specs.declared.slot.Slot.{Slot}
use Rattle.gather.specs.declared.header.Ports.{Ports}
use Rattle.gather.specs.declared.refusal.Refusal.TheVariants as R
use Rattle.gather.specs.declared.gatherer.Gatherer.{Gatherer}
use Rattle.gather.proofs.Always.{holds_no}
use Rattle.gather.proofs.Places.{as_many, have_places, joined_places, place_missing}
use Rattle.gather.proofs.Steps.{add_long, add_finished, add_waiting}
use Rattle.gather.proofs.Finishing.{finished_joined, waiting_places}
use Rattle.gather.proofs.Mapping.{updated, other_rooms}
use Rattle.gather.proofs.Laying.{length_cut}

-- what a step leaves, and what the map's step gives, are the same
pub record Means (message : List ℕ) (l : Left) (n : Next) : Type 0 where
  pub answer : said_of l.answer message l.assembly ≡ n.said
  pub gathering : (x : ℕ) → map_of l.gatherer l.store x ≡ n.map x

-- ---- a place that was missing

joined_set : (ps : List Part) (i : ℕ) (b : List ℕ) → i < length ps → get_or ps i missing ≡ missing
    → length (joined (set ps i (there b))) ≡ length (joined ps) + length b
unfolding joined
joined_set [] i b h e = absurd (let z : suc i ≤ 0 = h in omega arith)
joined_set (missing ∷ ps) zero b h e = omega (arith, length-append b (joined ps))
joined_set (there c ∷ ps) zero b h e = absurd (let z : ◌≡◌ {A = ℕ} 1 0 = ap is_there e in omega arith)
joined_set (p ∷ ps) (suc i) b h e =
    omega (arith, joined_set ps i b (omega arith) e, length-append (bytes_of p) (joined (set ps i (there b))), length-append (bytes_of p) (joined ps))

have_set : (ps : List Part) (i : ℕ) (b : List ℕ) → i < length ps → get_or ps i missing ≡ missing → have (set ps i (there b)) ≡ have ps + 1
unfolding have
have_set [] i b h e = absurd (let z : suc i ≤ 0 = h in omega arith)
have_set (missing ∷ ps) zero b h e = omega arith
have_set (there c ∷ ps) zero b h e = absurd (let z : ◌≡◌ {A = ℕ} 1 0 = ap is_there e in omega arith)
have_set (p ∷ ps) (suc i) b h e = omega (arith, have_set ps i b (omega arith) e)

put_long : (m : Map) (r t : ℕ) (ps : List Part) → 1400 < length (joined ps) → put m r t ps ≡ record { said = refused R.Long; map = with m r absent }
unfolding put
put_long m r t ps h = rw (lt-ltb 1400 (length (joined ps)) h)

put_done : (m : Map) (r t : ℕ) (ps : List Part) → length (joined ps) ≤ 1400 → t ≤ have ps
    → put m r t ps ≡ record { said = gathered (joined ps); map = with m r absent }
unfolding put
put_done m r t ps h l = rw (le-ltb 1400 (length (joined ps)) h, le-leb t (have ps) l)

put_waits : (m : Map) (r t : ℕ) (ps : List Part) → length (joined ps) ≤ 1400 → have ps < t
    → put m r t ps ≡ record { said = waiting r (have ps) t; map = with m r (held t ps) }
unfolding put
put_waits m r t ps h l = rw (le-ltb 1400 (length (joined ps)) h, lt-leb t (have ps) l)

-- a slot in use, by its own reference and by no other
holds_own : (s : Slot) → eqb s.total 0 ≡ false → holds s s.reference ≡ true
holds_own s h = rw (h, eq-eqb s.reference s.reference refl)

module _ (g : Gatherer) (store message assembly : List ℕ) (k : ℕ) (s : Slot) (i : ℕ) (part : List ℕ) (ports : Ports)
    (few : k < 4) (place : i < 11) (fits : Fits s) (used : eqb s.total 0 ≡ false)
    (old : (x : ℕ) → (x ≡ s.reference → ⊥) → holds (slot_at g k) x ≡ false)
    (others : (j : ℕ) → j < length g.slots → (j ≡ k → ⊥) → holds (slot_at g j) s.reference ≡ false)
    (long : 5600 ≤ length store) (roomy : 1400 ≤ length assembly) (gone : get_or s.sizes i 0 ≡ 0) where
  abbrev places : List Part
  places = places_of s.sizes (room_of store k)

  abbrev filled : List Part
  filled = set places i (there part)

  missed : get_or places i missing ≡ missing
  missed = place_missing s.sizes (room_of store k) i gone

  inside : i < length places
  inside = omega (arith, as_many s.sizes (room_of store k), fits.eleven)

  whole : below s 11 ≡ sum_of s.sizes
  whole =
      let all : sum_of s.sizes ≡ sum_of (take 11 s.sizes) = ap sum_of (sym (lib.Seq.take_all 11 s.sizes (omega (arith, fits.eleven)))) in
      sym (Rattle.gather.proofs.Sums.all_there s 11 (sum_of s.sizes) all fits.bytes)

  bytes_held : length (joined places) ≡ below s 11
  bytes_held =
      ap length (joined_places s.sizes (room_of store k))
      ∙ length-take-le (sum_of s.sizes) (room_of store k) (omega (arith, fits.bytes, length_cut 1400 (k * 1400) store (omega arith)))
      ∙ sym whole

  bytes_then : length (joined filled) ≡ below s 11 + length part
  bytes_then = omega (arith, joined_set places i part inside missed, bytes_held)

  have_then : have filled ≡ count_of s.sizes + 1
  have_then = have_set places i part inside missed ∙ ap (λ (n : ℕ). n + 1) (have_places s.sizes (room_of store k))

  room : k < length g.slots
  room = omega (arith, g.four)

  -- a free slot holds nothing
  free_holds : (x : ℕ) → (x ≡ s.reference → ⊥) → holds free x ≡ false
  free_holds x n = refl

  freed : (x : ℕ) → map_of (with_slot g k free) store x ≡ with (map_of g store) s.reference absent x
  freed = updated g store store k s.reference free absent room (λ m n. refl) free_holds old others refl

  abbrev next : Next
  next = put (map_of g store) s.reference s.total filled

  too_long : (length part ≤ 1400 - below s 11 → ⊥) → Means message (add_of g k s i store part ports assembly) next
  too_long h =
      let e = put_long (map_of g store) s.reference s.total filled (omega (arith, bytes_then, whole, fits.bytes)) in
      subst (λ (l : Left). Means message l next)
      (add_long g k s i store part ports assembly (with_slot g k free) (below s 11) gone refl (omega arith) refl)
      (record { answer = ap (λ (n : Next). n.said) (sym e); gathering = λ x. freed x ∙ ap (λ (n : Next). n.map x) (sym e) })

  finished : length part ≤ 1400 - below s 11 → s.total ≤ count_of s.sizes + 1 → Means message (add_of g k s i store part ports assembly) next
  finished h t =
      let e = put_done (map_of g store) s.reference s.total filled (omega (arith, bytes_then, whole, fits.bytes)) (omega (arith, have_then)) in
      let shown = finished_joined s k i store part few fits.eleven place long fits.bytes gone (omega (arith, whole)) assembly roomy in
      subst (λ (l : Left). Means message l next)
      (add_finished g k s i store part ports assembly (with_slot g k free) (below s 11) (count_of s.sizes) (below s 11 + length part)
      (laid_over assembly 0 (lower store k s i ++ part ++ upper store k s i)) gone refl h refl t refl refl refl)
      (record {
        answer = ap gathered shown ∙ ap (λ (n : Next). n.said) (sym e);
        gathering = λ x. freed x ∙ ap (λ (n : Next). n.map x) (sym e);
      })

  waits : length part ≤ 1400 - below s 11 → count_of s.sizes + 1 < s.total → Means message (add_of g k s i store part ports assembly) next
  waits h t =
      let e = put_waits (map_of g store) s.reference s.total filled (omega (arith, bytes_then, whole, fits.bytes)) (omega (arith, have_then)) in
      let store₁ = laid_over store (k * 1400 + below s i) (part ++ upper store k s i) in
      let s₁ = sized s i (length part) in
      let set_places = waiting_places s k i store part few fits.eleven place long fits.bytes gone (omega (arith, whole)) store₁ refl in
      let own : holds s₁ s.reference ≡ true = holds_own s used in
      let entry : pick (holds s₁ s.reference) (held s₁.total (places_of s₁.sizes (room_of store₁ k))) absent ≡ held s.total filled =
      ap (λ (b : Bool). pick b (held s₁.total (places_of s₁.sizes (room_of store₁ k))) absent) own ∙ ap (held s.total) set_places in
      let small = Rattle.gather.proofs.Sums.below_mono s i 11 (omega arith) in
      let upmost : length (upper store k s i) ≡ below s 11 - below s i =
      length_cut (below s 11 - below s i) (k * 1400 + below s i) store (omega (arith, whole, fits.bytes)) in
      subst (λ (l : Left). Means message l next)
      (add_waiting g k s i store part ports assembly (with_slot g k s₁) (below s 11) (count_of s.sizes) store₁ gone refl h refl t refl refl)
      (record {
        answer = ap (λ (n : ℕ). waiting s.reference n s.total) (sym have_then) ∙ ap (λ (n : Next). n.said) (sym e);
        gathering =
            λ x.
            updated g store store₁ k s.reference s₁ (held s.total filled) room
            (other_rooms store k (below s i) (part ++ upper store k s i) few (omega (arith, length-append part (upper store k s i), whole, fits.bytes)) long)
            (λ y n. holds_no s₁ y (λ q. n (sym q))) old others entry x
            ∙ ap (λ (n : Next). n.map x) (sym e);
      })

  fitting : length part ≤ 1400 - below s 11 → Means message (add_of g k s i store part ports assembly) next
  fitting h = by_cases (dec_le s.total (count_of s.sizes + 1)) (finished h) (λ l. waits h (omega arith))

  pub put_means : Means message (add_of g k s i store part ports assembly) (put (map_of g store) s.reference s.total filled)
  put_means =
      by_cases (dec_le (length part) (1400 - below s 11)) fitting too_long
