-- Both ends (02, P7): what a call of either gives, by the definitions that its contract cites; and how a report goes from one to the
-- other, where all arrives in order.
use Rattle.std.specs.Prelude.{◌≡◌, List, [], ◌∷◌, ℕ, suc, ◌+◌, ◌≤◌, length, take, Ok, Result, ⊤}
use Rattle.connection.specs.declared.refusal.Refusal.{Refusal}
use Rattle.digest.specs.Mac.{size_of}
use Rattle.digest.specs.Pick.{pick}
use Rattle.digest.specs.declared.mac.Mac.{Mac}
use Rattle.connection.specs.Answer.{handed_of}
use Rattle.connection.specs.declared.answer.Slot.{Slot as SlotAshore}
use Rattle.connection.specs.declared.connection.Connection.{Connection}
use Rattle.connection.specs.Receive as Ashore
use Rattle.connection.specs.Send as AshoreSends
use Rattle.unit.specs.Answer.{as_ashore}
use Rattle.unit.specs.Receive as Aboard
use Rattle.unit.specs.Send as AboardSends
use Rattle.unit.specs.declared.answer.Slot.{Slot as SlotAboard}
use Rattle.unit.specs.declared.unit.Unit.{Unit as ShipsUnit}
use Rattle.demands.specs.Past.{is_data}

-- both ends of one connection
pub record Ends : Type 0 where
  pub unit : ShipsUnit
  pub shore : Connection

abbrev pub ends_of : ShipsUnit → Connection → Ends
ends_of u c = record { unit = u; shore = c }

-- "handed out, as a part of the datagram": the byte strings, in the order of the answers
unfoldable pub handed_ashore : List ℕ → List SlotAshore → List (List ℕ)
handed_ashore d [] = []
handed_ashore d (s ∷ slots) = pick (is_data s.answer) (handed_of d s.answer ∷ handed_ashore d slots) (handed_ashore d slots)

unfoldable pub handed_aboard : List ℕ → List SlotAboard → List (List ℕ)
handed_aboard d [] = []
handed_aboard d (s ∷ slots) =
    pick (is_data (as_ashore s.answer)) (handed_of d (as_ashore s.answer) ∷ handed_aboard d slots) (handed_aboard d slots)

-- A report goes from one end to the other: the one sends the bytes, with room in `out`, and what it wrote is what the other receives,
-- with room in `space`; the shore also with a random.
pub data Turn : Type 0 where
  from_unit : (bytes out random space : List ℕ) → Turn
  from_shore : (bytes out space : List ℕ) → Turn

-- the datagram that is sent: the counted bytes at the front of the output
abbrev pub sent_aboard : ShipsUnit → List ℕ → List ℕ → List ℕ
sent_aboard u bytes out = take (AboardSends.data_sent u bytes (length out)).written (AboardSends.data_output u bytes out)

abbrev pub sent_ashore : Connection → List ℕ → List ℕ → List ℕ
sent_ashore c bytes out = take (AshoreSends.data_sent c bytes (length out)).written (AshoreSends.data_output c bytes out)

-- both ends after it
abbrev pub turned : Ends → Turn → Ends
turned e (from_unit bytes out random space) =
    ends_of (AboardSends.data_sent e.unit bytes (length out)).unit
    (Ashore.received_of e.shore (sent_aboard e.unit bytes out) random (length space)).connection
turned e (from_shore bytes out space) =
    ends_of (Aboard.received_of e.unit (sent_ashore e.shore bytes out) (length space)).unit
    (AshoreSends.data_sent e.shore bytes (length out)).connection

-- how the send ended, and what the other end then hands out
abbrev pub send_of : Ends → Turn → Result ⊤ Refusal
send_of e (from_unit bytes out random space) = (AboardSends.data_sent e.unit bytes (length out)).outcome
send_of e (from_shore bytes out space) = (AshoreSends.data_sent e.shore bytes (length out)).outcome

abbrev pub handed_in : Ends → Turn → List (List ℕ)
handed_in e (from_unit bytes out random space) =
    let d = sent_aboard e.unit bytes out in handed_ashore d (Ashore.received_of e.shore d random (length space)).answers
handed_in e (from_shore bytes out space) =
    let d = sent_ashore e.shore bytes out in handed_aboard d (Aboard.received_of e.unit d (length space)).answers

abbrev pub report_in : Turn → List ℕ
report_in (from_unit bytes out random space) = bytes
report_in (from_shore bytes out space) = bytes

-- "arguments and room as listed": data of 1 to 1,300 bytes, room for its record under this kind of code, a random of 16 bytes, and
-- room of 128 for the receive
abbrev pub ListedTurn : Mac → Turn → Type 0
ListedTurn mac (from_unit bytes out random space) =
    (1 ≤ length bytes) × (length bytes ≤ 1300) × (3 + length bytes + size_of mac ≤ length out) × (length random ≡ 16)
    × (128 ≤ length space)
ListedTurn mac (from_shore bytes out space) =
    (1 ≤ length bytes) × (length bytes ≤ 1300) × (3 + length bytes + size_of mac ≤ length out) × (128 ≤ length space)

abbrev pub ListedTurns : Mac → List Turn → Type 0
ListedTurns mac [] = Unit
ListedTurns mac (t ∷ turns) = ListedTurn mac t × ListedTurns mac turns

-- how many of them are the unit's, and how many the shore's
unfoldable pub unit_turns : List Turn → ℕ
unit_turns [] = 0
unit_turns (from_unit bytes out random space ∷ turns) = suc (unit_turns turns)
unit_turns (from_shore bytes out space ∷ turns) = unit_turns turns

unfoldable pub shore_turns : List Turn → ℕ
shore_turns [] = 0
shore_turns (from_unit bytes out random space ∷ turns) = shore_turns turns
shore_turns (from_shore bytes out space ∷ turns) = suc (shore_turns turns)

-- each report is sent, and the other end hands out it and nothing else
abbrev pub AllHanded : Ends → List Turn → Type 0
AllHanded e [] = Unit
AllHanded e (t ∷ turns) =
    (send_of e t ≡ Ok tt) × (handed_in e t ≡ report_in t ∷ []) × AllHanded (turned e t) turns
