-- The ways through a step, each as an equation with the definition: the tests on the way, and what the calls gave.
use mathlib.Core.Path.{◌≡◌, sym, ap, ◌∙◌}
use mathlib.Core.HLevel.{is_prop→PathP}
use mathlib.Core.List.{List, ◌++◌}
use Prim.Native.Nat.{ℕ, ◌+◌, ◌-◌, ◌*◌, ◌≤◌, ◌<◌}
use native.Mathlib.Nat.{ℕ_set}
use lib.ListN.{length, get_or, take, drop, set}
use borrow.Author.Tests.{eq-eqb, ne_eqb, lt-ltb, le-ltb, le-leb, lt-leb}
use Rattle.std.specs.Prelude.{Some, Result, Ok, Err}
use Rattle.digest.specs.Bytes.{laid_over}
use Rattle.gather.specs.Header.{heading_of}
use Rattle.gather.specs.Slot.{free, count_of, below, sized}
use Rattle.gather.specs.Gatherer.{slot_at, with_slot, held_at, lower, upper, Left, leaves, again_of, add_of, join_of, step_by, step_of}
use Rattle.gather.specs.declared.slot.Slot.{Slot}
use Rattle.gather.specs.declared.header.Ports.{Ports}
use Rattle.gather.specs.declared.header.Place.{Place}
use Rattle.gather.specs.declared.header.Heading.{Heading}
use Rattle.gather.specs.declared.header.Heading.TheVariants as H
use Rattle.gather.specs.declared.refusal.Refusal.{Refusal}
use Rattle.gather.specs.declared.refusal.Refusal.TheVariants as R
use Rattle.gather.specs.declared.gatherer.Gatherer.{Gatherer}
use Rattle.gather.specs.declared.gatherer.Answer.{Answer}
use Rattle.gather.specs.declared.gatherer.Answer.TheVariants.{Waiting, Gathered}
use Rattle.gather.proofs.Laying.{rest_of}

-- the slots are all that a gatherer has
pub same_slots : (g h : Gatherer) → g.slots ≡ h.slots → g ≡ h
same_slots g h e =
    λ i. record { slots = e i; four = is_prop→PathP (λ j. length (e j) ≡ 4) (λ j. ℕ_set (length (e j)) 4) g.four h.four i }

module _ (g : Gatherer) (k : ℕ) (s : Slot) (i : ℕ) (store part : List ℕ) (ports : Ports) (assembly : List ℕ) where
  pub add_again : (r : Result Answer Refusal) → (get_or s.sizes i 0 ≡ 0 → ⊥) → r ≡ again_of k s i store part ports
      → leaves g r store assembly ≡ add_of g k s i store part ports assembly
  unfolding add_of
  add_again r h e = rw (ne_eqb (get_or s.sizes i 0) 0 h) (ap (λ x. leaves g x store assembly) e)

  pub add_long : (h : Gatherer) (n : ℕ) → get_or s.sizes i 0 ≡ 0 → n ≡ below s 11 → 1400 - n < length part
      → h.slots ≡ set g.slots k free → leaves h (Err R.Long) store assembly ≡ add_of g k s i store part ports assembly
  unfolding add_of
  add_long h n z e l eh =
      rw (eq-eqb (get_or s.sizes i 0) 0 z, lt-ltb (1400 - below s 11) (length part) (rw e at l))
      (ap (λ x. leaves x (Err R.Long) store assembly) (same_slots h (with_slot g k free) eh))

  pub add_finished : (h : Gatherer) (n have size : ℕ) (a : List ℕ) → get_or s.sizes i 0 ≡ 0 → n ≡ below s 11
      → length part ≤ 1400 - n → have ≡ count_of s.sizes → s.total ≤ have + 1 → size ≡ below s 11 + length part
      → a ≡ laid_over assembly 0 (lower store k s i ++ part ++ upper store k s i) → h.slots ≡ set g.slots k free
      → leaves h (Ok (Gathered ports size)) store a ≡ add_of g k s i store part ports assembly
  unfolding add_of
  add_finished h n have size a z e l eh t es ea ef =
      rw (
        eq-eqb (get_or s.sizes i 0) 0 z,
        le-ltb (1400 - below s 11) (length part) (rw e at l),
        le-leb s.total (count_of s.sizes + 1) (rw eh at t),
      )
      (λ j. leaves (same_slots h (with_slot g k free) ef j) (Ok (Gathered ports (es j))) store (ea j))

  pub add_waiting : (h : Gatherer) (n have : ℕ) (d : List ℕ) → get_or s.sizes i 0 ≡ 0 → n ≡ below s 11
      → length part ≤ 1400 - n → have ≡ count_of s.sizes → have + 1 < s.total
      → d ≡ laid_over store (k * 1400 + below s i) (part ++ upper store k s i) → h.slots ≡ set g.slots k (sized s i (length part))
      → leaves h (Ok (Waiting ports s.reference (have + 1) s.total)) d assembly ≡ add_of g k s i store part ports assembly
  unfolding add_of
  add_waiting h n have d z e l eh t ed ef =
      rw (
        eq-eqb (get_or s.sizes i 0) 0 z,
        le-ltb (1400 - below s 11) (length part) (rw e at l),
        lt-leb s.total (count_of s.sizes + 1) (rw eh at t),
      )
      (λ j. leaves (same_slots h (with_slot g k (sized s i (length part))) ef j) (Ok (Waiting ports s.reference (eh j + 1) s.total)) (ed j) assembly)

-- a part of a reference that is held, by another total
pub join_differs : (g : Gatherer) (store part : List ℕ) (ports : Ports) (p : Place) (assembly : List ℕ) (k total : ℕ)
    → held_at g p.reference ≡ Some k → total ≡ (slot_at g k).total → (total ≡ p.total → ⊥)
    → leaves g (Err R.Differs) store assembly ≡ join_of g store part ports p assembly
join_differs g store part ports p assembly k total e et n = rw (e, ne_eqb (slot_at g k).total p.total (λ q. n (et ∙ q)))

module _ (g : Gatherer) (store message assembly : List ℕ) where
  pub step_argument : length store < 5600 → leaves g (Err R.Argument) store assembly ≡ step_of g store message assembly
  unfolding step_of
  step_argument l = rw (lt-ltb (length store) 5600 l)

  pub step_room : 5600 ≤ length store → length assembly < 1400 → leaves g (Err R.Room) store assembly ≡ step_of g store message assembly
  unfolding step_of
  step_room h l = rw (le-ltb (length store) 5600 h, lt-ltb (length assembly) 1400 l)

  pub step_on : (x : Left) (heading : Result Heading Refusal) → 5600 ≤ length store → 1400 ≤ length assembly
      → heading_of message ≡ heading → x ≡ step_by g store message assembly heading → x ≡ step_of g store message assembly
  unfolding step_of
  step_on x heading h l e ex =
      rw (le-ltb (length store) 5600 h, le-ltb (length assembly) 1400 l) (ex ∙ ap (step_by g store message assembly) (sym e))

  pub step_part : (x : Left) (ports : Ports) (start : ℕ) (p : Place) → 5600 ≤ length store → 1400 ≤ length assembly
      → heading_of message ≡ Ok (H.Part ports start p)
      → x ≡ join_of g store (take (length message - start) (drop start message)) ports p assembly
      → x ≡ step_of g store message assembly
  step_part x ports start p h l e ex =
      step_on x (Ok (H.Part ports start p)) h l e (ex ∙ ap (λ (q : List ℕ). join_of g store q ports p assembly) (rest_of message start))
