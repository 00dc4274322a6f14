-- The ways through the calls, each as an equation with the definition: the tests on the way, and what the calls gave.
use mathlib.Core.Path.{◌≡◌, refl, sym, ◌∙◌, ap}
use mathlib.Core.Bool.{Bool, true, false}
use mathlib.Core.List.{List}
use Prim.Native.Nat.{ℕ, ◌+◌, ◌*◌, ◌≤◌, ◌<◌}
use native.Mathlib.Omega.{arith}
use lib.ListN.{length, length-drop}
use lib.Dec.{eqb}
use borrow.Author.Tests.{eq-eqb, ne_eqb, lt-ltb, le-ltb, eqb-true}
use Rattle.digest.specs.Pick.{pick}
use Rattle.gather.specs.Gatherer.{Left, fresh_of, drop_of, step_of, datagram_of}
use Rattle.std.specs.Prelude.{Result}
use Rattle.gather.specs.declared.refusal.Refusal.{Refusal}
use Rattle.gather.specs.declared.gatherer.Answer.{Answer}
use Rattle.short.specs.Message.{is_shown, gathered_of}
use Rattle.lent.specs.Saved as C
use Rattle.lent.specs.Calls.{result_of, not_taken, lent_for, receive_result, receive_state, receive_tally, receive_out, receive_answers, receive_loads}
use Rattle.lent.proofs.Calling.{both_true, test_yes, test_no}
use Rattle.digest.proofs.Picks.{if_lt, if_ge}
use Rattle.gather.specs.Slot.{count_of}
use Rattle.gather.specs.declared.slot.Slot.{Slot}
use Rattle.gather.specs.declared.gatherer.Gatherer.{Gatherer}
use Rattle.lentshort.specs.Calls.{empty_result, empty_bytes, empty_loads, drop_result, drop_bytes, drop_loads, holding, held_result}
use Rattle.lentshort.specs.Saved.{gatherer_size, saved_gatherer, is_gatherer, slot_in, gatherer_in, store_in, Is, loaded_gatherer}
use Rattle.lentshort.specs.Said.{said_size, saying_of}
use Rattle.lentshort.specs.Gathered.{lent_to_gather, gatherer_after, gatherer_then, unshown_number, keeps, gather_keeps, gather_loads}
use Rattle.lentshort.specs.Message.{lent_to, hears, heard_of, heard_loads, Leaves, leaves, message_leaves, connection_loads, gatherer_loads}
use Rattle.lentshort.proofs.Back.{gatherer_size_lem}

-- what was lent to a gathering, and to a message, has its sizes
pub gather_sizes : (gatherer : List ℕ) (saying : ℕ) → lent_to_gather gatherer saying ≡ true
    → (length gatherer ≡ gatherer_size) × (saying ≡ said_size)
unfolding lent_to_gather
gather_sizes gatherer saying h =
    let both = both_true (eqb saying said_size) (is_gatherer gatherer) h in
    (gatherer_size_lem gatherer both.1, eqb-true saying said_size both.0)

pub lent_sizes : (state : List ℕ) (counts places : ℕ) (gatherer : List ℕ) (saying : ℕ) → lent_to state counts places gatherer saying ≡ true
    → (length gatherer ≡ gatherer_size) × (saying ≡ said_size)
unfolding lent_to
lent_sizes state counts places gatherer saying h =
    gather_sizes gatherer saying (both_true (lent_to_gather gatherer saying) (lent_for state counts places) h).0

-- ---- an empty gatherer, a reference dropped, a slot told

module _ (b : List ℕ) where
  pub empty_room : (r : ℕ) → (length b ≡ gatherer_size → ⊥) → r ≡ not_taken
      → (r ≡ empty_result (length b)) × ((b ≡ empty_bytes b) × (loaded_gatherer b ≡ empty_loads b))
  unfolding empty_result empty_bytes empty_loads
  empty_room r h e = (
    rw (ne_eqb (length b) gatherer_size h) e,
    (rw (ne_eqb (length b) gatherer_size h) refl, rw (ne_eqb (length b) gatherer_size h) refl),
  )

  pub empty_made : (r : ℕ) (g : Gatherer) (a : List ℕ) → length b ≡ gatherer_size → g ≡ fresh_of → r ≡ result_of 0 0 0
      → a ≡ saved_gatherer g (store_in b) → loaded_gatherer a ≡ Is g (store_in b)
      → (r ≡ empty_result (length b)) × ((a ≡ empty_bytes b) × (loaded_gatherer a ≡ empty_loads b))
  unfolding empty_result empty_bytes empty_loads
  empty_made r g a h f e m l = (
    rw (eq-eqb (length b) gatherer_size h) e,
    (
      rw (eq-eqb (length b) gatherer_size h) (m ∙ ap (λ x. saved_gatherer x (store_in b)) f),
      rw (eq-eqb (length b) gatherer_size h) (l ∙ ap (λ x. Is x (store_in b)) f),
    ),
  )

  pub drop_over : (r n : ℕ) → 255 < n → r ≡ not_taken
      → (r ≡ drop_result b n) × ((b ≡ drop_bytes b n) × (loaded_gatherer b ≡ drop_loads b n))
  unfolding drop_result drop_bytes drop_loads
  drop_over r n h e = (if_lt _ 255 n h e, (if_lt _ 255 n h refl, if_lt _ 255 n h refl))

  pub drop_none : (r n : ℕ) (t : Bool) → n ≤ 255 → t ≡ is_gatherer b → t ≡ false → r ≡ not_taken
      → (r ≡ drop_result b n) × ((b ≡ drop_bytes b n) × (loaded_gatherer b ≡ drop_loads b n))
  unfolding drop_result drop_bytes drop_loads
  drop_none r n t h s f e = (
    if_ge _ 255 n h (test_no _ s f e),
    (if_ge _ 255 n h (test_no _ s f refl), if_ge _ 255 n h (test_no _ s f refl)),
  )

  pub drop_done : (r n : ℕ) (t : Bool) (g k : Gatherer) (a : List ℕ) → n ≤ 255 → t ≡ is_gatherer b → t ≡ true
      → g ≡ gatherer_in b → k ≡ drop_of g n → r ≡ result_of 0 0 0 → a ≡ saved_gatherer k (store_in b)
      → loaded_gatherer a ≡ Is k (store_in b)
      → (r ≡ drop_result b n) × ((a ≡ drop_bytes b n) × (loaded_gatherer a ≡ drop_loads b n))
  unfolding drop_result drop_bytes drop_loads
  drop_done r n t g k a h s f eg ek e m l =
      let is : k ≡ drop_of (gatherer_in b) n = ek ∙ ap (λ x. drop_of x n) eg in (
        if_ge _ 255 n h (test_yes _ s f e),
        (
          if_ge _ 255 n h (test_yes _ s f (m ∙ ap (λ x. saved_gatherer x (store_in b)) is)),
          if_ge _ 255 n h (test_yes _ s f (l ∙ ap (λ x. Is x (store_in b)) is)),
        ),
      )

  pub held_over : (r n : ℕ) → 3 < n → r ≡ not_taken → r ≡ held_result b n
  unfolding held_result
  held_over r n h e = if_lt _ 3 n h e

  pub held_none : (r n : ℕ) (t : Bool) → n ≤ 3 → t ≡ is_gatherer b → t ≡ false → r ≡ not_taken → r ≡ held_result b n
  unfolding held_result
  held_none r n t h s f e = if_ge _ 3 n h (test_no _ s f e)

  pub held_told : (r n : ℕ) (t : Bool) (x : Slot) (have : ℕ) → n ≤ 3 → t ≡ is_gatherer b → t ≡ true
      → x ≡ slot_in b (4 + 24 * n) → have ≡ count_of x.sizes → r ≡ result_of 0 have (x.total * 256 + x.reference)
      → r ≡ held_result b n
  unfolding held_result
  held_told r n t x have h s f ex eh e =
      if_ge _ 3 n h
      (test_yes _ s f (e ∙ ap (λ k. result_of 0 k (x.total * 256 + x.reference)) eh ∙ ap (λ (y : Slot). holding y) ex))

-- ---- the gathering

module _ (gatherer message assembly said : List ℕ) where
  abbrev stepping : Left
  stepping = step_of (gatherer_in gatherer) (store_in gatherer) message assembly

  pub gather_unlent : (r : ℕ) (t : Bool) → t ≡ lent_to_gather gatherer (length said) → t ≡ false → r ≡ not_taken
      → (keeps r gatherer assembly said ≡ gather_keeps gatherer message assembly said)
      × (loaded_gatherer gatherer ≡ gather_loads gatherer message assembly said)
  unfolding gather_keeps gather_loads
  gather_unlent r t s h e = (rw (sym s ∙ h) (ap (λ x. keeps x gatherer assembly said) e), rw (sym s ∙ h) refl)

  pub gather_on : (t : Bool) (answer : Result Answer Refusal) (r n : ℕ) (gatherer' assembly' said' : List ℕ)
      → t ≡ lent_to_gather gatherer (length said) → t ≡ true
      → answer ≡ stepping.answer → assembly' ≡ stepping.assembly → gatherer' ≡ gatherer_after gatherer stepping
      → loaded_gatherer gatherer' ≡ gatherer_then gatherer stepping → said' ≡ saying_of answer said
      → n ≡ unshown_number answer → r ≡ result_of n 0 0
      → (keeps r gatherer' assembly' said' ≡ gather_keeps gatherer message assembly said)
      × (loaded_gatherer gatherer' ≡ gather_loads gatherer message assembly said)
  unfolding gather_keeps gather_loads
  gather_on t answer r n gatherer' assembly' said' s h ea eb eg el es en er =
      let told = es ∙ ap (λ x. saying_of x said) ea in
      let result = er ∙ ap (λ x. result_of x 0 0) (en ∙ ap unshown_number ea) in
      (rw (sym s ∙ h) (λ i. keeps (result i) (eg i) (eb i) (told i)), rw (sym s ∙ h) el)

-- ---- the datagram

module _ (answer : Result Answer Refusal) (state tally d random out answers : List ℕ) where
  -- one is shown, and x is it
  pub heard_shown : (x : List ℕ) (r : ℕ) (s t o a : List ℕ) → is_shown answer ≡ true → x ≡ d
      → r ≡ receive_result state tally answers x random (length out)
      → s ≡ receive_state state tally answers x random (length out)
      → t ≡ receive_tally state tally answers x random (length out)
      → o ≡ receive_out state tally answers x random out
      → a ≡ receive_answers state tally answers x random (length out)
      → C.loaded s ≡ receive_loads state tally answers x random (length out)
      → (hears r s t o a ≡ heard_of answer state tally d random out answers)
      × (C.loaded s ≡ heard_loads answer state tally d random (length out) answers)
  unfolding heard_of heard_loads
  heard_shown x r s t o a h e er es et eo ea el = (
    rw h
        (λ i. hears ((er ∙ ap (λ y. receive_result state tally answers y random (length out)) e) i)
        ((es ∙ ap (λ y. receive_state state tally answers y random (length out)) e) i)
        ((et ∙ ap (λ y. receive_tally state tally answers y random (length out)) e) i)
        ((eo ∙ ap (λ y. receive_out state tally answers y random out) e) i)
        ((ea ∙ ap (λ y. receive_answers state tally answers y random (length out)) e) i)),
    rw h (el ∙ ap (λ y. receive_loads state tally answers y random (length out)) e),
  )

  -- none is
  pub heard_none : (r n : ℕ) → is_shown answer ≡ false → n ≡ unshown_number answer → r ≡ result_of n 0 0
      → (hears r state tally out answers ≡ heard_of answer state tally d random out answers)
      × (C.loaded state ≡ heard_loads answer state tally d random (length out) answers)
  unfolding heard_of heard_loads
  heard_none r n h e er = (
    rw h (ap (λ x. hears x state tally out answers) (er ∙ ap (λ x. result_of x 0 0) e)),
    rw h refl,
  )

-- ---- the message

-- whichever a test says
whichever : {A : Type 0} {r x y : A} (b : Bool) → r ≡ x → r ≡ y → r ≡ pick b x y
whichever true e f = e
whichever false e f = f

module _ (state tally gatherer message assembly random said out answers : List ℕ) where
  abbrev as_lent : ℕ → Leaves
  as_lent r = leaves (hears r state tally out answers) gatherer assembly said

  abbrev Told : Leaves → C.Loaded → Rattle.lentshort.specs.Saved.Loaded → Type 0
  Told l c g =
      (l ≡ message_leaves state tally gatherer message assembly random said out answers)
      × ((c ≡ connection_loads state tally gatherer message assembly random said out answers)
      × (g ≡ gatherer_loads state tally gatherer message assembly random said out answers))

  pub message_random : (r : ℕ) → (length random ≡ 16 → ⊥) → r ≡ not_taken → Told (as_lent r) (C.loaded state) (loaded_gatherer gatherer)
  unfolding message_leaves connection_loads gatherer_loads gathered_of heard_of heard_loads gatherer_after gatherer_then
  message_random r h e =
      let t = lent_to state (length tally) (length answers) gatherer (length said) in (
        whichever t (rw (ne_eqb (length random) 16 h) (ap as_lent e)) (ap as_lent e),
        (
          whichever t (rw (ne_eqb (length random) 16 h) refl) refl,
          whichever t (rw (ne_eqb (length random) 16 h) refl) refl,
        ),
      )

  pub message_unlent : (r : ℕ) (t : Bool) → t ≡ lent_to state (length tally) (length answers) gatherer (length said) → t ≡ false
      → r ≡ not_taken → Told (as_lent r) (C.loaded state) (loaded_gatherer gatherer)
  unfolding message_leaves connection_loads gatherer_loads
  message_unlent r t s h e = (rw (sym s ∙ h) (ap as_lent e), (rw (sym s ∙ h) refl, rw (sym s ∙ h) refl))

  -- 6 for the room
  pub message_room : (r : ℕ) (t : Bool) → t ≡ lent_to state (length tally) (length answers) gatherer (length said) → t ≡ true
      → length random ≡ 16 → length out < 128 → r ≡ result_of 6 0 0 → Told (as_lent r) (C.loaded state) (loaded_gatherer gatherer)
  unfolding message_leaves connection_loads gatherer_loads gathered_of heard_of heard_loads gatherer_after gatherer_then
  message_room r t s h l m e =
      let is : lent_to state (length tally) (length answers) gatherer (length said) ≡ true = sym s ∙ h in
      let size : length gatherer ≡ gatherer_size = (lent_sizes state (length tally) (length answers) gatherer (length said) is).0 in
      let whole : 5600 ≤ length (store_in gatherer) = omega (arith, length-drop 100 gatherer) in (
        rw (is, eq-eqb (length random) 16 l, le-ltb (length (store_in gatherer)) 5600 whole, lt-ltb (length out) 128 m) (ap as_lent e),
        (
          rw (is, eq-eqb (length random) 16 l, le-ltb (length (store_in gatherer)) 5600 whole, lt-ltb (length out) 128 m) refl,
          rw (is, eq-eqb (length random) 16 l, le-ltb (length (store_in gatherer)) 5600 whole, lt-ltb (length out) 128 m) refl,
        ),
      )

  -- what the step left, and what was heard of the datagram that it shows
  pub message_on : (t : Bool) (answer : Result Answer Refusal) (r : ℕ) (state' tally' gatherer' assembly' said' out' answers' : List ℕ)
      → t ≡ lent_to state (length tally) (length answers) gatherer (length said) → t ≡ true
      → length random ≡ 16 → 128 ≤ length out
      → answer ≡ (step_of (gatherer_in gatherer) (store_in gatherer) message assembly).answer
      → assembly' ≡ (step_of (gatherer_in gatherer) (store_in gatherer) message assembly).assembly
      → gatherer' ≡ gatherer_after gatherer (step_of (gatherer_in gatherer) (store_in gatherer) message assembly)
      → loaded_gatherer gatherer' ≡ gatherer_then gatherer (step_of (gatherer_in gatherer) (store_in gatherer) message assembly)
      → said' ≡ saying_of answer said
      → hears r state' tally' out' answers' ≡ heard_of answer state tally (datagram_of answer message assembly') random out answers
      → C.loaded state' ≡ heard_loads answer state tally (datagram_of answer message assembly') random (length out) answers
      → Told (leaves (hears r state' tally' out' answers') gatherer' assembly' said') (C.loaded state') (loaded_gatherer gatherer')
  unfolding message_leaves connection_loads gatherer_loads gathered_of
  message_on t answer r state' tally' gatherer' assembly' said' out' answers' s h l m ea eb eg el es eh ec =
      let is : lent_to state (length tally) (length answers) gatherer (length said) ≡ true = sym s ∙ h in
      let size : length gatherer ≡ gatherer_size = (lent_sizes state (length tally) (length answers) gatherer (length said) is).0 in
      let whole : 5600 ≤ length (store_in gatherer) = omega (arith, length-drop 100 gatherer) in
      let heard = eh ∙ (λ i. heard_of (ea i) state tally (datagram_of (ea i) message (eb i)) random out answers) in
      let told = es ∙ ap (λ x. saying_of x said) ea in (
        rw (is, eq-eqb (length random) 16 l, le-ltb (length (store_in gatherer)) 5600 whole, le-ltb (length out) 128 m)
            (λ i. leaves (heard i) (eg i) (eb i) (told i)),
        (
          rw (is, eq-eqb (length random) 16 l, le-ltb (length (store_in gatherer)) 5600 whole, le-ltb (length out) 128 m)
              (ec ∙ (λ i. heard_loads (ea i) state tally (datagram_of (ea i) message (eb i)) random (length out) answers)),
          rw (is, eq-eqb (length random) 16 l, le-ltb (length (store_in gatherer)) 5600 whole, le-ltb (length out) 128 m) el,
        ),
      )
