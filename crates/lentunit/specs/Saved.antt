-- A unit in 180 lent bytes. Every value of a unit has its bytes, and one string of bytes only; which strings are a saved unit is
-- `is_saved`. Numbers have the most significant byte first. The hello is not kept: it is made again of what it offered. The shore's
-- reply is not kept either: what it agreed on is.
--
--     place  bytes
--         0      4  the mark: "WTU", and 1, the number of this layout
--         4      4  how many records that we sent are kept
--         8     32  the checksums of these records, four bytes each, the newest first
--        40      1  the state: 0 Idle, 1 Sent, 2 Replied, 3 Spec, 4 Opening, 5 Open, 6 Closed, 7 Barred
--        41      8  the session's identifier
--        49     20  the session's master secret
--        69     16  the server random
--        85     16  the client random
--       101      1  the MAC kind, by its number in 002 appendix A: 2 SHA_80, 3 SHA
--       102      1  the key refresh
--       103     12  the contents that the shore's Finished must have
--       115      1  the MAC kinds offered: 0 SHA_80, 1 SHA, 2 SHA_80 before SHA, 3 SHA before SHA_80
--       116      1  the key refresh offered
--       117     44  the flight, at the front of its place
--       161      1  the window: its width
--       162      2  the window: the highest number accepted
--       164      8  the window: the marks
--       172      4  the next protected number
--       176      4  the next clear number
use Rattle.std.specs.Prelude.{Bool, true, false, List, [], ◌∷◌, ◌++◌, ◌≡◌, ℕ, ◌<◌, length, get_or, eqb, ltb}
use Rattle.digest.specs.Pick.{pick}
use Rattle.digest.specs.Bytes.{bytes4, word_at}
use Rattle.digest.specs.Mac.{number_of}
use Rattle.record.specs.declared.keys.Keys.{Keys}
use Rattle.record.specs.declared.protection.Protection.{Protection}
use Rattle.record.specs.declared.window.Window.{Window}
use Rattle.message.specs.declared.offer.Kinds.{Kinds}
use Rattle.message.specs.declared.offer.Kinds.TheVariants as K
use Rattle.message.specs.declared.offer.Offer.{Offer}
use Rattle.lent.specs.Fields.{joined, bytes_in, two_in, eight_in}
use Rattle.lent.specs.Saved.{sent_fields, window_fields, sending_fields, mac_numbered, sent_in, SentRanged}
use Rattle.unit.specs.declared.state.State.{State}
use Rattle.unit.specs.declared.state.State.TheVariants.{Idle, Sent, Replied, Spec, Opening, Open, Closed, Barred}
use Rattle.unit.specs.declared.unit.Unit.{Unit}

-- how many bytes hold a unit, and where its state stands
abbrev pub unit_size : ℕ
unit_size = 180

abbrev pub state_place : ℕ
state_place = 40

-- "WTU", 1
abbrev pub mark : ℕ
mark = 0x57545501

-- the number of a state, and that of the kinds offered
abbrev pub state_number : State → ℕ
state_number Idle = 0
state_number Sent = 1
state_number Replied = 2
state_number Spec = 3
state_number Opening = 4
state_number Open = 5
state_number Closed = 6
state_number Barred = 7

abbrev pub kinds_number : Kinds → ℕ
kinds_number K.Sha80 = 0
kinds_number K.Sha = 1
kinds_number K.Sha80First = 2
kinds_number K.ShaFirst = 3

-- The fields of a unit, in their order.
abbrev pub session_fields : State → List ℕ → Keys → List (List ℕ)
session_fields state id keys = (state_number state ∷ []) ∷ id ∷ keys.secret ∷ []

abbrev pub agreed_fields : Keys → List ℕ → List (List ℕ)
agreed_fields keys expected =
    keys.server ∷ keys.client ∷ (number_of keys.mac ∷ []) ∷ (keys.refresh ∷ []) ∷ expected ∷ []

abbrev pub offer_fields : Offer → List ℕ → List (List ℕ)
offer_fields offer flight = (kinds_number offer.kinds ∷ []) ∷ (offer.refresh ∷ []) ∷ flight ∷ []

abbrev pub standing_fields : Protection → List (List ℕ)
standing_fields p = window_fields p.window ++ sending_fields p

abbrev pub unit_fields : Unit → List (List ℕ)
unit_fields u =
    (bytes4 mark ∷ [])
    ++ sent_fields u.sent
    ++ session_fields u.state u.id u.protection.keys
    ++ agreed_fields u.protection.keys u.expected
    ++ offer_fields u.offer u.flight
    ++ standing_fields u.protection

-- the bytes of a unit
unfoldable pub saved_of : Unit → List ℕ
saved_of u = joined (unit_fields u)

-- which bytes are a saved unit: the size, the mark, a state, kinds offered, and a MAC kind
abbrev pub is_unit : List ℕ → Bool
is_unit b =
    pick (ltb 7 (get_or b state_place 0)) false
    (pick (ltb 3 (get_or b 115 0)) false (pick (eqb (get_or b 101 0) 2) true (eqb (get_or b 101 0) 3)))

unfoldable pub is_saved : List ℕ → Bool
is_saved b = pick (eqb (length b) unit_size) (pick (eqb (word_at b 0) mark) (is_unit b) false) false

-- The unit of bytes, read from the same places.
unfoldable pub state_numbered : ℕ → State
state_numbered n =
    pick (eqb n 0) Idle
    (pick (eqb n 1) Sent
    (pick (eqb n 2) Replied
    (pick (eqb n 3) Spec (pick (eqb n 4) Opening (pick (eqb n 5) Open (pick (eqb n 6) Closed Barred))))))

unfoldable pub kinds_numbered : ℕ → Kinds
kinds_numbered n = pick (eqb n 0) K.Sha80 (pick (eqb n 1) K.Sha (pick (eqb n 2) K.Sha80First K.ShaFirst))

unfoldable pub keys_in : List ℕ → Keys
keys_in b =
    record {
      secret = bytes_in b 49 20;
      server = bytes_in b 69 16;
      client = bytes_in b 85 16;
      mac = mac_numbered (get_or b 101 0);
      refresh = get_or b 102 0;
    }

unfoldable pub offer_in : List ℕ → Offer
offer_in b = record { kinds = kinds_numbered (get_or b 115 0); refresh = get_or b 116 0 }

unfoldable pub window_in : List ℕ → Window
window_in b = record { width = get_or b 161 0; highest = two_in b 162; marks = eight_in b 164 }

unfoldable pub protection_in : List ℕ → Protection
protection_in b = record { keys = keys_in b; window = window_in b; protected = word_at b 172; clear = word_at b 176 }

unfoldable pub unit_in : List ℕ → Unit
unit_in b =
    record {
      state = state_numbered (get_or b state_place 0);
      id = bytes_in b 41 8;
      offer = offer_in b;
      expected = bytes_in b 103 12;
      flight = bytes_in b 117 44;
      sent = sent_in b;
      protection = protection_in b;
    }

-- what bytes load as: a unit, or none
pub data Loaded : Type 0 where
  Is : Unit → Loaded
  No : Loaded

unfoldable pub loaded : List ℕ → Loaded
loaded b = pick (is_saved b) (Is (unit_in b)) No

-- A unit is what its type says: arrays of their sizes, numbers in their ranges.
pub record Ranged (u : Unit) : Type 0 where
  pub sent : SentRanged u.sent
  pub id : length u.id ≡ 8
  pub secret : length u.protection.keys.secret ≡ 20
  pub server : length u.protection.keys.server ≡ 16
  pub client : length u.protection.keys.client ≡ 16
  pub expected : length u.expected ≡ 12
  pub flight : length u.flight ≡ 44
  pub highest : u.protection.window.highest < 65536
  pub marks : u.protection.window.marks < 18446744073709551616
  pub protected : u.protection.protected < 4294967296
  pub clear : u.protection.clear < 4294967296
