-- What the exported calls answer and leave, from what the unit's calls gave: by whether the bytes are a saved unit.
use mathlib.Core.Path.{◌≡◌, refl, ◌∙◌, ap}
use mathlib.Core.Bool.{Bool, true, false}
use mathlib.Core.List.{List}
use Prim.Native.Nat.{ℕ, ◌<◌}
use lib.ListN.{length, get_or}
use lib.Dec.{eqb, ltb}
use borrow.Author.Tests.{eqb-true}
use Rattle.digest.specs.Pick.{pick}
use Rattle.digest.specs.Bytes.{word_at}
use Rattle.message.specs.Alert.{level_of, sorted_of, descriptions}
use Rattle.connection.specs.declared.refusal.Refusal.TheVariants.{Argument}
use Rattle.lent.specs.Calls.{result_of, refusal_in}
use Rattle.lent.proofs.Calling.{both_true, test_yes, no_level_above, no_description_above}
use Rattle.unit.specs.Send.{alert_sent, alert_output, alert_sent_as, alert_output_as, unsent}
use Rattle.unit.specs.declared.calls.Called.{Called}
use Rattle.unit.specs.declared.unit.Unit.{Unit}
use Rattle.lentunit.specs.Saved.{unit_size, state_place, mark, is_saved, unit_in, loaded}
use Rattle.lentunit.specs.Calls.{left_in, left_loaded, called_result, called_state, called_loads, lent_for}
use Rattle.std.specs.Prelude.{None, Option, Some}
use Rattle.message.specs.declared.alert.Description.{Description}
use Rattle.message.specs.declared.alert.Level.{Level}

-- a saved unit has its size
pub saved_size : (b : List ℕ) → is_saved b ≡ true → length b ≡ unit_size
unfolding is_saved
saved_size b h =
    eqb-true (length b) unit_size
    (both_true (eqb (length b) unit_size)
    (pick (eqb (word_at b 0) mark)
    (pick (ltb 7 (get_or b state_place 0)) false
    (pick (ltb 3 (get_or b 115 0)) false (pick (eqb (get_or b 101 0) 2) true (eqb (get_or b 101 0) 3))))
    false)
    h).0

pub lent_sizes : (b : List ℕ) (counts places : ℕ) → lent_for b counts places ≡ true
    → (length b ≡ unit_size) × ((counts ≡ 16) × (places ≡ 192))
unfolding lent_for
lent_sizes b counts places h =
    let first = both_true (eqb counts 16) (pick (eqb places 192) (is_saved b) false) h in
    let second = both_true (eqb places 192) (is_saved b) first.1 in
    (saved_size b second.1, (eqb-true counts 16 first.0, eqb-true places 192 second.0))

-- close and start again
pub called : (call : Unit → Called) (b : List ℕ) (t : Bool) (k : Called) (r : ℕ) (e : List ℕ) → t ≡ is_saved b → t ≡ true
    → k ≡ call (unit_in b) → r ≡ result_of (refusal_in k.outcome) 0 0 → e ≡ left_in b k.unit k.outcome
    → loaded e ≡ left_loaded b k.unit k.outcome
    → (r ≡ called_result call b) × ((e ≡ called_state call b) × (loaded e ≡ called_loads call b))
called call b t k r e s h is er ee el = (
  test_yes _ s h (er ∙ ap (λ x. result_of (refusal_in x.outcome) 0 0) is),
  (
    test_yes _ s h (ee ∙ ap (λ x. left_in b x.unit x.outcome) is),
    test_yes _ s h (el ∙ ap (λ x. left_loaded b x.unit x.outcome) is),
  ),
)

-- no level and no description is above 255: an alert with one is refused 16, and nothing is written
no_level : (u : Unit) (protected : Bool) (answered : List ℕ) (room : ℕ) (d : Option Description) → unsent u Argument ≡ alert_sent_as u protected answered room None d
no_level u protected answered room (Some description) = refl
no_level u protected answered room None = refl

no_level_output : (u : Unit) (protected : Bool) (answered out : List ℕ) (d : Option Description) → out ≡ alert_output_as u protected answered out None d
no_level_output u protected answered out (Some description) = refl
no_level_output u protected answered out None = refl

no_sort : (u : Unit) (protected : Bool) (answered : List ℕ) (room : ℕ) (g : Option Level) → unsent u Argument ≡ alert_sent_as u protected answered room g None
no_sort u protected answered room (Some level) = refl
no_sort u protected answered room None = refl

no_sort_output : (u : Unit) (protected : Bool) (answered out : List ℕ) (g : Option Level) → out ≡ alert_output_as u protected answered out g None
no_sort_output u protected answered out (Some level) = refl
no_sort_output u protected answered out None = refl

pub level_above : (u : Unit) (protected : Bool) (level description : ℕ) (answered : List ℕ) (room : ℕ) → 255 < level
    → unsent u Argument ≡ alert_sent u protected level description answered room
unfolding alert_sent
level_above u protected level description answered room h =
    rw (no_level_above level h) (no_level u protected answered room (sorted_of description))

pub level_above_output : (u : Unit) (protected : Bool) (level description : ℕ) (answered out : List ℕ) → 255 < level
    → out ≡ alert_output u protected level description answered out
unfolding alert_output
level_above_output u protected level description answered out h =
    rw (no_level_above level h) (no_level_output u protected answered out (sorted_of description))

pub description_above : (u : Unit) (protected : Bool) (level description : ℕ) (answered : List ℕ) (room : ℕ) → 255 < description
    → unsent u Argument ≡ alert_sent u protected level description answered room
unfolding alert_sent sorted_of
description_above u protected level description answered room h =
    rw (no_description_above descriptions description h) (no_sort u protected answered room (level_of level))

pub description_above_output : (u : Unit) (protected : Bool) (level description : ℕ) (answered out : List ℕ) → 255 < description
    → out ≡ alert_output u protected level description answered out
unfolding alert_output sorted_of
description_above_output u protected level description answered out h =
    rw (no_description_above descriptions description h) (no_sort_output u protected answered out (level_of level))
