-- The tally at the shipboard end, as ashore (01): "Each count equals the number of such answers since the tally was fresh, up to that
-- stop; a datagram refused as a whole changes none." For each receive: each count goes on by the number of such answers.
use Rattle.std.specs.Prelude.{◌≡◌, List, map, ℕ, ◌+◌}
use Rattle.connection.specs.declared.answer.Slot.{Slot as Ashore}
use Rattle.connection.specs.declared.tally.Tally.{Tally}
use Rattle.unit.specs.Answer.{as_ashore}
use Rattle.unit.specs.Receive.{received_of}
use Rattle.unit.specs.Tally.{counted_of}
use Rattle.unit.specs.declared.answer.Slot.{Slot}
use Rattle.unit.specs.declared.unit.Unit.{Unit as Ship}
use Rattle.demands.specs.Past.{is_data}
use Rattle.demands.specs.Counts.{is_forged, is_old, is_repeated, refused_as, count_in, up_to_stop}

-- the answers as the shore gives them
abbrev pub slot_ashore : Slot → Ashore
slot_ashore s = record { answer = as_ashore s.answer }

abbrev pub slots_ashore : List Slot → List Ashore
slots_ashore slots = map slot_ashore slots

-- the tally of so many answers: handed out, forged, too old, repeated
abbrev pub tally_up_to : ℕ → ℕ → ℕ → ℕ → Tally
tally_up_to a b c e = record { handed = up_to_stop a; forged = up_to_stop b; old = up_to_stop c; repeated = up_to_stop e }

unfoldable pub CountsRight : Type 0
CountsRight =
    (u : Ship) (d : List ℕ) (room a b c e : ℕ)
    → let answers = slots_ashore (received_of u d room).answers in
    counted_of (tally_up_to a b c e) (received_of u d room).answers
    ≡ tally_up_to (a + count_in is_data answers) (b + count_in (refused_as is_forged) answers) (c + count_in (refused_as is_old) answers)
    (e + count_in (refused_as is_repeated) answers)
