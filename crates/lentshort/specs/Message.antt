-- A short message taken on lent bytes (02, P2): what the gatherer that the bytes hold makes of it, by `short`'s own definition, and
-- then `lent`'s receive on the datagram that it shows.
use Rattle.std.specs.Prelude.{Bool, false, List, ℕ, length, Result}
use Rattle.digest.specs.Pick.{pick}
use Rattle.gather.specs.Gatherer.{Left, datagram_of}
use Rattle.gather.specs.declared.refusal.Refusal.{Refusal}
use Rattle.gather.specs.declared.gatherer.Answer.{Answer}
use Rattle.short.specs.Message.{is_shown, gathered_of}
use Rattle.lent.specs.Saved as C
use Rattle.lent.specs.Calls.{result_of, not_taken, lent_for, receive_result, receive_state, receive_tally, receive_out, receive_answers, receive_loads}
use Rattle.lentshort.specs.Saved.{gatherer_in, store_in, Loaded, loaded_gatherer}
use Rattle.lentshort.specs.Said.{saying_of}
use Rattle.lentshort.specs.Gathered.{lent_to_gather, gatherer_after, gatherer_then, unshown_number}

-- what is lent: what a gathering needs, and what a receive needs
unfoldable pub lent_to : List ℕ → ℕ → ℕ → List ℕ → ℕ → Bool
lent_to state counts places gatherer saying = pick (lent_to_gather gatherer saying) (lent_for state counts places) false

-- what a receive leaves: its answer, and every byte that was lent to it
pub record Heard : Type 0 where
  pub result : ℕ
  pub state : List ℕ
  pub tally : List ℕ
  pub out : List ℕ
  pub answers : List ℕ

abbrev pub hears : ℕ → List ℕ → List ℕ → List ℕ → List ℕ → Heard
hears result state tally out answers = record { result = result; state = state; tally = tally; out = out; answers = answers }

-- receive on the datagram d where one is shown; else nothing but the refusal of the message, or 0
unfoldable pub heard_of : Result Answer Refusal → List ℕ → List ℕ → List ℕ → List ℕ → List ℕ → List ℕ → Heard
heard_of answer state tally d random out answers =
    pick (is_shown answer)
    (record {
      result = receive_result state tally answers d random (length out);
      state = receive_state state tally answers d random (length out);
      tally = receive_tally state tally answers d random (length out);
      out = receive_out state tally answers d random out;
      answers = receive_answers state tally answers d random (length out);
    })
    (hears (result_of (unshown_number answer) 0 0) state tally out answers)

unfoldable pub heard_loads : Result Answer Refusal → List ℕ → List ℕ → List ℕ → List ℕ → ℕ → List ℕ → C.Loaded
heard_loads answer state tally d random room answers =
    pick (is_shown answer) (receive_loads state tally answers d random room) (C.loaded state)

-- what a message leaves: what was heard, and every other byte that was lent to it
pub record Leaves : Type 0 where
  pub heard : Heard
  pub gatherer : List ℕ
  pub assembly : List ℕ
  pub said : List ℕ

abbrev pub leaves : Heard → List ℕ → List ℕ → List ℕ → Leaves
leaves heard gatherer assembly said = record { heard = heard; gatherer = gatherer; assembly = assembly; said = said }

module _ (state tally gatherer message assembly random said out answers : List ℕ) where
  -- what the gatherer makes of the message
  abbrev pub made : Left
  made = gathered_of (gatherer_in gatherer) (store_in gatherer) message assembly random (length out)

  -- and then the datagram that it shows
  abbrev pub shown : Left → Leaves
  shown l =
      leaves (heard_of l.answer state tally (datagram_of l.answer message l.assembly) random out answers)
      (gatherer_after gatherer l) l.assembly (saying_of l.answer said)

  unfoldable pub message_leaves : Leaves
  message_leaves =
      pick (lent_to state (length tally) (length answers) gatherer (length said)) (shown made)
      (leaves (hears not_taken state tally out answers) gatherer assembly said)

  -- what the lent connection and the lent gatherer load as then
  unfoldable pub connection_loads : C.Loaded
  connection_loads =
      pick (lent_to state (length tally) (length answers) gatherer (length said))
      (heard_loads made.answer state tally (datagram_of made.answer message made.assembly) random (length out) answers)
      (C.loaded state)

  unfoldable pub gatherer_loads : Loaded
  gatherer_loads =
      pick (lent_to state (length tally) (length answers) gatherer (length said)) (gatherer_then gatherer made) (loaded_gatherer gatherer)
