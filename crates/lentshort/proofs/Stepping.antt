-- The gatherer's step on lent bytes: an answer that touches nothing leaves the gathering as it was, and the store that was lent on
-- comes back into its place.
use mathlib.Core.Path.{◌≡◌, refl, sym, ◌∙◌, ap}
use mathlib.Core.Bool.{Bool, true, false}
use mathlib.Core.List.{List, [], ◌++◌, append-nil}
use Prim.Native.Nat.{ℕ, ◌+◌, ◌-◌}
use native.Mathlib.Omega.{arith}
use lib.ListN.{length, get_or, take, drop, length-drop, take-append-drop, drop_of_length-le}
use lib.Seq.{drop_at, length-take-le}
use lib.Dec.{eqb, ltb, leb}
use borrow.Rule.Slice.PartMut.{put_mid}
use Rattle.gather.specs.Header.{heading_of}
use Rattle.gather.specs.Slot.{free, begun, count_of, below, sized}
use Rattle.std.specs.Prelude.{Option, Some, None, Result, Ok, Err}
use Rattle.gather.specs.Gatherer.{slot_at, with_slot, held_at, vacant_at, Left, leaves, again_of, add_of, join_by, step_by, step_of}
use Rattle.gather.specs.declared.slot.Slot.{Slot}
use Rattle.gather.specs.declared.header.Ports.{Ports}
use Rattle.gather.specs.declared.header.Place.{Place}
use Rattle.gather.specs.declared.header.Heading.{Heading}
use Rattle.gather.specs.declared.header.Heading.TheVariants as H
use Rattle.gather.specs.declared.refusal.Refusal.{Refusal}
use Rattle.gather.specs.declared.refusal.Refusal.TheVariants as R
use Rattle.gather.specs.declared.gatherer.Gatherer.{Gatherer}
use Rattle.gather.specs.declared.gatherer.Answer.{Answer}
use Rattle.gather.specs.declared.gatherer.Answer.TheVariants.{Waiting, Received, Gathered}
use Rattle.gather.proofs.Always.{either_way}
use Rattle.gather.proofs.Laying.{rest_of}
use Rattle.lentshort.specs.Saved.{gatherer_size, store_at, saved_gatherer, gatherer_in, store_in, Is, loaded_gatherer}
use Rattle.lentshort.specs.Gathered.{touches, gatherer_after, gatherer_then}

-- ---- what touches nothing

pub record Still (g : Gatherer) (store : List ℕ) (l : Left) : Type 0 where
  pub slots : touches l.answer ≡ false → l.gatherer ≡ g
  pub bytes : touches l.answer ≡ false → l.store ≡ store

module _ (g : Gatherer) (store assembly : List ℕ) where
  as_it_was : (answer : Result Answer Refusal) → Still g store (leaves g answer store assembly)
  as_it_was answer = record { slots = λ e. refl; bytes = λ e. refl }

  touched : (h : Gatherer) (answer : Result Answer Refusal) (d a : List ℕ) → touches answer ≡ true → Still g store (leaves h answer d a)
  touched h answer d a t = record { slots = λ e. absurd (let n : ⊥ = cc in n); bytes = λ e. absurd (let n : ⊥ = cc in n) }

  add_still : (k : ℕ) (s : Slot) (i : ℕ) (part : List ℕ) (ports : Ports) → Still g store (add_of g k s i store part ports assembly)
  unfolding add_of
  add_still k s i part ports =
      either_way Left (Still g store) (eqb (get_or s.sizes i 0) 0) _ _
      (either_way Left (Still g store) (ltb (1400 - below s 11) (length part)) _ _
      (touched (with_slot g k free) (Err R.Long) _ _ refl)
      (either_way Left (Still g store) (leb s.total (count_of s.sizes + 1)) _ _
      (touched (with_slot g k free) (Ok (Gathered ports (below s 11 + length part))) _ _ refl)
      (touched (with_slot g k (sized s i (length part))) (Ok (Waiting ports s.reference (count_of s.sizes + 1) s.total)) _ _ refl)))
      (as_it_was (again_of k s i store part ports))

  join_still : (part : List ℕ) (ports : Ports) (p : Place) (found room : Option ℕ) → Still g store (join_by g store part ports p assembly found room)
  join_still part ports p (Some k) room =
      either_way Left (Still g store) (eqb (slot_at g k).total p.total) _ _ (add_still k (slot_at g k) (p.place - 1) part ports)
      (as_it_was (Err R.Differs))
  join_still part ports p None (Some k) = add_still k (begun p.reference p.total) (p.place - 1) part ports
  join_still part ports p None None = as_it_was (Err R.Full)

  by_still : (message : List ℕ) (h : Result Heading Refusal) → Still g store (step_by g store message assembly h)
  by_still message (Err refusal) = as_it_was (Err refusal)
  by_still message (Ok (H.Alone ports start)) = as_it_was (Ok (Received ports start))
  by_still message (Ok (H.Part ports start p)) = join_still (drop start message) ports p (held_at g p.reference) (vacant_at g)

  -- an answer that touches nothing leaves the slots and the store as they were
  pub step_still : (message : List ℕ) → Still g store (step_of g store message assembly)
  unfolding step_of
  step_still message =
      either_way Left (Still g store) (ltb (length store) 5600) _ _ (as_it_was (Err R.Argument))
      (either_way Left (Still g store) (ltb (length assembly) 1400) _ _ (as_it_was (Err R.Room))
      (by_still message (heading_of message)))

-- ---- the store in its place

-- the part that was lent is the store
pub store_lent : (d : List ℕ) → take (length d - store_at) (drop store_at d) ≡ store_in d
store_lent d = rest_of d store_at

-- and comes back behind the slots
pub store_put : (d ys : List ℕ) → put_mid store_at (length d - store_at) d ys ≡ take store_at d ++ ys
store_put d ys =
    let none : drop (length d - store_at) (drop store_at d) ≡ []
    = drop_of_length-le (drop store_at d) {i = length d - store_at} (omega (arith, length-drop store_at d)) in
    ap (λ x. take store_at d ++ (ys ++ x)) none ∙ ap (λ x. take store_at d ++ x) (append-nil ys)

module _ (d ys : List ℕ) (size : length d ≡ gatherer_size) where
  pub store_then : store_in (put_mid store_at (length d - store_at) d ys) ≡ ys
  store_then =
      ap (drop store_at) (store_put d ys) ∙ drop_at (take store_at d) ys store_at (length-take-le store_at d (omega arith))

  pub store_same : ys ≡ store_in d → put_mid store_at (length d - store_at) d ys ≡ d
  store_same e = store_put d ys ∙ ap (λ x. take store_at d ++ x) e ∙ take-append-drop store_at d

  -- what is saved after an answer that touches the gathering
  pub after_touch : (l : Left) (e : List ℕ) → touches l.answer ≡ true → ys ≡ l.store
      → e ≡ saved_gatherer l.gatherer (store_in (put_mid store_at (length d - store_at) d ys)) → e ≡ gatherer_after d l
  unfolding gatherer_after
  after_touch l e t s m = rw t (m ∙ ap (saved_gatherer l.gatherer) (store_then ∙ s))

  pub then_touch : (l : Left) (e : List ℕ) → touches l.answer ≡ true → ys ≡ l.store
      → loaded_gatherer e ≡ Is l.gatherer (store_in (put_mid store_at (length d - store_at) d ys)) → loaded_gatherer e ≡ gatherer_then d l
  unfolding gatherer_then
  then_touch l e t s m = rw t (m ∙ ap (Is l.gatherer) (store_then ∙ s))

  -- and after one that does not
  pub after_still : (l : Left) (g : Gatherer) → Still g (store_in d) l → touches l.answer ≡ false → ys ≡ l.store
      → put_mid store_at (length d - store_at) d ys ≡ gatherer_after d l
  unfolding gatherer_after
  after_still l g k t s = rw t (store_same (s ∙ k.bytes t))

  pub then_still : (l : Left) (g : Gatherer) → Still g (store_in d) l → touches l.answer ≡ false → ys ≡ l.store
      → loaded_gatherer (put_mid store_at (length d - store_at) d ys) ≡ gatherer_then d l
  unfolding gatherer_then
  then_still l g k t s = rw t (ap loaded_gatherer (store_same (s ∙ k.bytes t)))

-- ---- the step

module _ (d message assembly ys assembly' : List ℕ) (g h : Gatherer) (answer : Result Answer Refusal) (size : length d ≡ gatherer_size)
    (is : g ≡ gatherer_in d)
    (made : leaves h answer ys assembly' ≡ step_of g (take (length d - store_at) (drop store_at d)) message assembly)
  where
    abbrev whole : Left
    whole = step_of (gatherer_in d) (store_in d) message assembly

    left : leaves h answer ys assembly' ≡ whole
    left = made ∙ (λ i. step_of (is i) (store_lent d i) message assembly)

    pub step_answer : answer ≡ whole.answer
    step_answer = ap (λ (l : Left). l.answer) left

    pub step_assembly : assembly' ≡ whole.assembly
    step_assembly = ap (λ (l : Left). l.assembly) left

    step_store : ys ≡ whole.store
    step_store = ap (λ (l : Left). l.store) left

    step_slots : h ≡ whole.gatherer
    step_slots = ap (λ (l : Left). l.gatherer) left

    -- it touches the gathering, and that is saved
    pub step_saved : (t : Bool) (e : List ℕ) → t ≡ touches answer → t ≡ true
        → e ≡ saved_gatherer h (store_in (put_mid store_at (length d - store_at) d ys))
        → loaded_gatherer e ≡ Is h (store_in (put_mid store_at (length d - store_at) d ys))
        → (e ≡ gatherer_after d whole) × (loaded_gatherer e ≡ gatherer_then d whole)
    step_saved t e s h' a b =
        let is-touched : touches whole.answer ≡ true = ap touches (sym step_answer) ∙ sym s ∙ h' in
        let put = put_mid store_at (length d - store_at) d ys in (
          after_touch d ys size whole e is-touched step_store (a ∙ ap (λ x. saved_gatherer x (store_in put)) step_slots),
          then_touch d ys size whole e is-touched step_store (b ∙ ap (λ x. Is x (store_in put)) step_slots),
        )

    -- it does not, and every byte is what it was
    pub step_left : (t : Bool) → t ≡ touches answer → t ≡ false
        → (put_mid store_at (length d - store_at) d ys ≡ gatherer_after d whole)
        × (loaded_gatherer (put_mid store_at (length d - store_at) d ys) ≡ gatherer_then d whole)
    step_left t s h' =
        let untouched : touches whole.answer ≡ false = ap touches (sym step_answer) ∙ sym s ∙ h' in
        let still = step_still (gatherer_in d) (store_in d) assembly message in (
          after_still d ys size whole (gatherer_in d) still untouched step_store,
          then_still d ys size whole (gatherer_in d) still untouched step_store,
        )
