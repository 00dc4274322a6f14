-- What holds of every value: at most four references, eleven places, 1,400 bytes each; and of every step: a refusal other
-- than 22 leaves the gathering, and every refusal leaves both buffers.
use mathlib.Core.Path.{◌≡◌, refl, ap, sym}
use mathlib.Core.Bool.{Bool, true, false}
use mathlib.Core.List.{List, [], ◌∷◌}
use mathlib.Core.Logic.{by_cases}
use Prim.Native.Nat.{ℕ, zero, suc, ◌+◌, ◌-◌, ◌*◌, ◌≤◌, ◌<◌}
use native.Mathlib.Omega.{arith}
use native.Mathlib.Decide.{dec_le, ℕ_discrete}
use lib.ListN.{length, get_or, drop, length-take}
use lib.Dec.{eqb, ltb, leb}
use borrow.Author.Tests.{ne_eqb, lt-ltb, le-ltb}
use Rattle.digest.specs.Pick.{pick}
use Rattle.digest.specs.Mac.{same_bytes}
use Rattle.gather.specs.Header.{heading_of}
use Rattle.gather.specs.Slot.{free, begun, holds, count_of, below, sized}
use Rattle.std.specs.Prelude.{Option, Some, None, Result, Ok, Err}
use Rattle.gather.specs.Gatherer.{slot_at, with_slot, held_at, vacant_at, within, Left, leaves, add_of, again_of, join_by, step_by, step_of, drop_of}
use Rattle.gather.specs.Map.{Entry, absent, held, Map, is_held, held_below, held_in, joined, places_of, room_of, look_up, map_of}
use Rattle.gather.specs.declared.slot.Slot.{Slot}
use Rattle.gather.specs.declared.header.Ports.{Ports}
use Rattle.gather.specs.declared.header.Place.{Place}
use Rattle.gather.specs.declared.header.Heading.{Heading}
use Rattle.gather.specs.declared.header.Heading.TheVariants as H
use Rattle.gather.specs.declared.refusal.Refusal.{Refusal}
use Rattle.gather.specs.declared.refusal.Refusal.TheVariants as R
use Rattle.gather.specs.declared.gatherer.Gatherer.{Gatherer}
use Rattle.gather.specs.declared.gatherer.Answer.{Answer}
use Rattle.gather.specs.declared.gatherer.Answer.TheVariants.{Waiting, Received, Gathered}
use Rattle.digest.proofs.Picks.{pick_yes}
use Rattle.gather.proofs.Steps.{add_again}
use Rattle.gather.proofs.Places.{joined_few}

-- ---- four references, 1,400 bytes each

held_once : (e : Entry) → is_held e ≤ 1
held_once absent = omega arith
held_once (held total places) = omega arith

-- 1 from the number above r on
abbrev pub hot : ℕ → ℕ → ℕ
hot r n = pick (ltb r n) 1 0

pub hot_no : (r n : ℕ) → n ≤ r → hot r n ≡ 0
hot_no r n h = ap (λ (b : Bool). pick {A = ℕ} b 1 0) (le-ltb r n h)

pub hot_yes : (r n : ℕ) → r < n → hot r n ≡ 1
hot_yes r n h = ap (λ (b : Bool). pick {A = ℕ} b 1 0) (lt-ltb r n h)

neither : (b : Bool) → pick b false false ≡ false
neither true = refl
neither false = refl

pub holds_no : (s : Slot) (r : ℕ) → (s.reference ≡ r → ⊥) → holds s r ≡ false
holds_no s r h = rw (ne_eqb s.reference r h) (neither (eqb s.total 0))

pub one_slot : (s : Slot) (h : Entry) (m : Map) (n : ℕ) → held_below n (λ r. pick (holds s r) h (m r)) ≤ held_below n m + hot s.reference n
unfolding held_below
one_slot s h m zero = omega arith
one_slot s h m (suc n) =
    let rest = one_slot s h m n in
    by_cases (ℕ_discrete s.reference n)
    (λ e. omega (arith, held_once (pick (holds s n) h (m n)), hot_no s.reference n (omega arith), hot_yes s.reference (suc n) (omega arith)))
    (λ e.
    let same : is_held (pick (holds s n) h (m n)) ≡ is_held (m n) = ap (λ (b : Bool). is_held (pick b h (m n))) (holds_no s n e) in
    by_cases (dec_le n s.reference)
    (λ l. omega (arith, hot_no s.reference n l, hot_no s.reference (suc n) (omega arith)))
    (λ l. omega (arith, hot_yes s.reference n (omega arith), hot_yes s.reference (suc n) (omega arith))))

pub none_held : (n : ℕ) → held_below n (λ r. absent) ≡ 0
unfolding held_below
none_held zero = refl
none_held (suc n) = omega (arith, none_held n)

pub hot_once : (r n : ℕ) → hot r n ≤ 1
hot_once r n =
    by_cases (dec_le n r) (λ l. omega (arith, hot_no r n l)) (λ l. omega (arith, hot_yes r n (omega arith)))

pub few : (k : ℕ) (slots : List Slot) (store : List ℕ) (n : ℕ) → held_below n (look_up k slots store) ≤ length slots
unfolding look_up
few k [] store n = omega (arith, none_held n)
few k (s ∷ slots) store n =
    omega (
      arith,
      one_slot s (held s.total (places_of s.sizes (room_of store k))) (look_up (suc k) slots store) n,
      few (suc k) slots store n,
      hot_once s.reference n,
    )

-- whatever the gatherer and the store are, at most four references are held
pub four_references : (g : Gatherer) (store : List ℕ) → held_in (map_of g store) ≤ 4
four_references g store = omega (arith, few 0 g.slots store 256, g.four)

-- and each has at most 1,400 bytes
pub bytes_each : (s : Slot) (store : List ℕ) (k : ℕ) → length (joined (places_of s.sizes (room_of store k))) ≤ 1400
bytes_each s store k =
    let room : length (room_of store k) ≤ 1400 = rw (length-take 1400 (drop (k * 1400) store)) (native.Mathlib.Nat.min-le_left 1400 (length (drop (k * 1400) store))) in
    omega (arith, joined_few s.sizes (room_of store k))

-- ---- refusals

-- a refusal leaves both buffers, and but for 22 the gatherer
pub record Keeps (g : Gatherer) (store assembly : List ℕ) (l : Left) : Type 0 where
  pub buffers : (refusal : Refusal) → l.answer ≡ Err refusal → (l.store ≡ store) × (l.assembly ≡ assembly)
  pub gathering : (refusal : Refusal) → l.answer ≡ Err refusal → (refusal ≡ R.Long → ⊥) → l.gatherer ≡ g

pub either_way : (A : Type 0) (P : A → Type 0) (b : Bool) (x y : A) → P x → P y → P (pick b x y)
either_way A P true x y p q = p
either_way A P false x y p q = q

module _ (g : Gatherer) (store assembly : List ℕ) where
  as_it_was : (answer : Result Answer Refusal) → Keeps g store assembly (leaves g answer store assembly)
  as_it_was answer = record { buffers = λ r e. (refl, refl); gathering = λ r e f. refl }

  too_long : (h : Gatherer) → Keeps g store assembly (leaves h (Err R.Long) store assembly)
  too_long h =
      record {
        buffers = λ r e. (refl, refl);
        gathering = λ r e f. absurd (f (let same : r ≡ R.Long = cc in same));
      }

  no_refusal : (h : Gatherer) (answer : Answer) (d a : List ℕ) → Keeps g store assembly (leaves h (Ok answer) d a)
  no_refusal h answer d a =
      record { buffers = λ r e. absurd (let z : ⊥ = cc in z); gathering = λ r e f. absurd (let z : ⊥ = cc in z) }

  add_keeps : (k : ℕ) (s : Slot) (i : ℕ) (part : List ℕ) (ports : Ports) → Keeps g store assembly (add_of g k s i store part ports assembly)
  unfolding add_of
  add_keeps k s i part ports =
      either_way Left (Keeps g store assembly) (eqb (get_or s.sizes i 0) 0) _ _
      (either_way Left (Keeps g store assembly) (ltb (1400 - below s 11) (length part)) _ _ (too_long (with_slot g k free))
      (either_way Left (Keeps g store assembly) (leb s.total (count_of s.sizes + 1)) _ _
      (no_refusal (with_slot g k free) (Gathered ports (below s 11 + length part)) _ _)
      (no_refusal (with_slot g k (sized s i (length part))) (Waiting ports s.reference (count_of s.sizes + 1) s.total) _ _)))
      (as_it_was (again_of k s i store part ports))

  join_keeps : (part : List ℕ) (ports : Ports) (p : Place) (found room : Option ℕ)
      → Keeps g store assembly (join_by g store part ports p assembly found room)
  join_keeps part ports p (Some k) room =
      either_way Left (Keeps g store assembly) (eqb (slot_at g k).total p.total) _ _
      (add_keeps k (slot_at g k) (p.place - 1) part ports)
      (as_it_was (Err R.Differs))
  join_keeps part ports p None (Some k) = add_keeps k (begun p.reference p.total) (p.place - 1) part ports
  join_keeps part ports p None None = as_it_was (Err R.Full)

  by_keeps : (message : List ℕ) (h : Result Heading Refusal) → Keeps g store assembly (step_by g store message assembly h)
  by_keeps message (Err refusal) = as_it_was (Err refusal)
  by_keeps message (Ok (H.Alone ports start)) = as_it_was (Ok (Received ports start))
  by_keeps message (Ok (H.Part ports start p)) = join_keeps (drop start message) ports p (held_at g p.reference) (vacant_at g)

  -- 16, 6, and 19 to 21 change nothing, the gathering included; 22 only drops the reference
  pub refusals_keep : (message : List ℕ) → Keeps g store assembly (step_of g store message assembly)
  unfolding step_of
  refusals_keep message =
      either_way Left (Keeps g store assembly) (ltb (length store) 5600) _ _ (as_it_was (Err R.Argument))
      (either_way Left (Keeps g store assembly) (ltb (length assembly) 1400) _ _ (as_it_was (Err R.Room))
      (by_keeps message (heading_of message)))

-- "A part seen twice with equal bytes changes nothing": neither the gatherer nor a buffer
pub seen_twice : (g : Gatherer) (k : ℕ) (s : Slot) (i : ℕ) (store part : List ℕ) (ports : Ports) (assembly : List ℕ)
    → (get_or s.sizes i 0 ≡ 0 → ⊥) → same_bytes (within store k s i) part ≡ true
    → add_of g k s i store part ports assembly ≡ leaves g (Ok (Waiting ports s.reference (count_of s.sizes) s.total)) store assembly
unfolding again_of
seen_twice g k s i store part ports assembly h e =
    let seen = Ok (Waiting ports s.reference (count_of s.sizes) s.total) in
    sym
    (add_again g k s i store part ports assembly seen h
    (pick_yes (Result Answer Refusal) seen seen (Err R.Differs) (same_bytes (within store k s i) part) e refl))

-- "dropping one not held changes nothing"
pub drop_nothing : (g : Gatherer) (r : ℕ) → held_at g r ≡ None → drop_of g r ≡ g
drop_nothing g r e = rw e
