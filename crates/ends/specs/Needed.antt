-- The premises of P14 are met, and three of them are shown to be needed. After the handshake of P7, for every setting and every room,
-- both ends are just open; and from there what is said of the courses fails where one of the three is dropped.
use Rattle.std.specs.Prelude.{◌≡◌, List, [], ◌∷◌, ℕ, ◌+◌, ◌≤◌, length, take}
use Rattle.digest.specs.Mac.{size_of}
use Rattle.record.specs.Protection.{record_under}
use Rattle.record.specs.declared.header.Content.TheVariants as C
use Rattle.record.specs.declared.keys.Keys.{Keys}
use Rattle.record.specs.declared.keys.Sense.TheVariants.{FromUnit}
use Rattle.message.specs.Alert.{alert_bytes}
use Rattle.message.specs.declared.alert.Description.TheVariants as D
use Rattle.message.specs.declared.alert.Level.TheVariants as L
use Rattle.unit.specs.Send.{data_sent, data_output}
use Rattle.demands.specs.Runs as Shore
use Rattle.demands.specs.Ship.Runs as Ship
use Rattle.ends.specs.Sides.{Ends, ends_of}
use Rattle.ends.specs.InOrder.{Setting, ListedSetting, Rooms, ListedRooms, Met}
use Rattle.ends.specs.Link.{Doing, ashore, aboard, done_by, takes, trace_of, Within}
use Rattle.ends.specs.BothEnds.{JustOpen, Premises, StayOpen}

-- a datagram comes to the shore
abbrev pub comes : List ℕ → List ℕ → List ℕ → Doing
comes d random out = ashore (Shore.receive d random out)

-- the unit's record of this number, as it would be written
abbrev pub unit_data : Keys → ℕ → List ℕ → List ℕ
unit_data k number bytes = record_under k FromUnit C.Data number bytes

abbrev pub critical_alert : Keys → ℕ → List ℕ
critical_alert k number = record_under k FromUnit C.Alert number (alert_bytes L.Critical D.ConnectionCloseNotify 0)

-- "calls with arguments and room as listed"
pub record ListedData (bytes : List ℕ) : Type 0 where
  pub some : 1 ≤ length bytes
  pub most : length bytes ≤ 1300

pub record ListedRoom (random out : List ℕ) : Type 0 where
  pub random_size : length random ≡ 16
  pub room : 128 ≤ length out

-- the datagram of the unit's next report, and a run: it is sent, and the link brings it twice
abbrev pub report_datagram : Ends → List ℕ → List ℕ → List ℕ
report_datagram e bytes out = take (data_sent e.unit bytes (length out)).written (data_output e.unit bytes out)

abbrev pub brought_twice : Ends → List ℕ → List ℕ → List ℕ → List ℕ → List Doing
brought_twice e bytes out random space =
    aboard (Ship.send_data bytes out)
    ∷ comes (report_datagram e bytes out) random space
    ∷ comes (report_datagram e bytes out) random space
    ∷ []

-- of both ends, the unit's keys, what each has written to the other, and the width of the shore's window
pub record Needed (e : Ends) (k : Keys) (by_unit by_shore : List (List ℕ)) (width : ℕ) : Type 0 where
  pub just_open : JustOpen k e by_unit by_shore
  -- all premises are met, by a run in which a report is sent and comes twice
  pub met : (bytes out random space : List ℕ) → ListedData bytes → 3 + length bytes + size_of k.mac ≤ length out
      → ListedRoom random space
      → Premises k e by_unit by_shore (brought_twice e bytes out random space)
  -- "no data sent yet", under these keys: a report of an earlier connection with the same randoms comes and is handed out, but the unit
  -- has not sent it
  pub used_before : (bytes random out : List ℕ) → ListedData bytes → ListedRoom random out
      → Within [] (trace_of FromUnit e (comes (unit_data k 1 bytes) random out ∷ [])) → ⊥
  -- "none sent before and still on its way": a critical alert that was comes, and the shore closes
  pub on_its_way : (random out : List ℕ) → ListedRoom random out → StayOpen e (comes (critical_alert k 1) random out ∷ []) → ⊥
  -- "before any record whose number is higher by the window's width or more": behind such a one a report is not handed out
  pub too_late : (first later random out : List ℕ) → ListedData first → ListedData later → ListedRoom random out
      → trace_of FromUnit (done_by e (comes (unit_data k (1 + width) later) random out)) (comes (unit_data k 1 first) random out ∷ [])
      ≡ takes (unit_data k 1 first) [] ∷ []

-- behind the handshake of P7, whatever its calls gave: the unit wrote the hello and the flight, the shore the reply
unfoldable pub ThreeNeeded : Type 0
ThreeNeeded =
    (s : Setting) (r : Rooms) → ListedSetting s → ListedRooms r → (m : Met s r)
    → Needed (ends_of m.u₂ m.c₂) m.u₂.protection.keys (m.flight ∷ m.hello ∷ []) (m.reply ∷ []) s.shore_width
