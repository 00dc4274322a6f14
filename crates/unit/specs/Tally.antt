-- The tally, as ashore (01): "handed out, forged, too old, repeated".
use Rattle.std.specs.Prelude.{List, ℕ, zero, suc, get_or}
use Rattle.connection.specs.Tally.{counted_answer}
use Rattle.connection.specs.declared.tally.Tally.{Tally}
use Rattle.unit.specs.Answer.{as_ashore, slot}
use Rattle.unit.specs.declared.answer.Answer.TheVariants.{Nothing}
use Rattle.unit.specs.declared.answer.Slot.{Slot}

-- the first n of the answers of a receive, one after the other
unfoldable pub counted_first : Tally → List Slot → ℕ → Tally
counted_first t answers zero = t
counted_first t answers (suc n) =
    counted_answer (counted_first t answers n) (as_ashore (get_or answers n (slot Nothing)).answer)

-- all eight places
abbrev pub counted_of : Tally → List Slot → Tally
counted_of t answers = counted_first t answers 8
