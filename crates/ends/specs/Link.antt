-- 02, P14, "Both ends on one bad link": a run of both ends and a channel between them. Two courses, one for each sense of travel: what
-- the one end sends is what the other hands out.
use Rattle.std.specs.Prelude.{◌≡◌, ◌⊎◌, ◌≢◌, true, false, List, [], ◌∷◌, ◌++◌, ℕ, ◌+◌, ◌<◌, length, take, Err, Ok, Result, ⊤}
use Rattle.connection.specs.declared.refusal.Refusal.{Refusal}
use Rattle.digest.specs.Pick.{pick}
use Rattle.digest.specs.Hmac.{hmac}
use Rattle.digest.specs.Mac.{size_of}
use Rattle.record.specs.Code.{fragment_by}
use Rattle.record.specs.History.{accepted}
use Rattle.record.specs.Keys.{secret_for}
use Rattle.record.specs.declared.header.Content.TheVariants as C
use Rattle.record.specs.declared.keys.Keys.{Keys}
use Rattle.record.specs.declared.keys.Sense.{Sense}
use Rattle.record.specs.declared.keys.Sense.TheVariants.{FromUnit, FromShore}
use Rattle.record.specs.declared.reader.Record.{Record}
use Rattle.connection.specs.Answer.{handed_of}
use Rattle.connection.specs.Judge.{fragment_of}
use Rattle.connection.specs.Receive as Ashore
use Rattle.connection.specs.Send as AshoreSends
use Rattle.connection.specs.declared.answer.Answer.{Answer}
use Rattle.connection.specs.declared.answer.Answer.TheVariants as A
use Rattle.connection.specs.declared.answer.Slot.{Slot as SlotAshore}
use Rattle.unit.specs.Answer.{as_ashore}
use Rattle.unit.specs.Receive as Aboard
use Rattle.unit.specs.Send as AboardSends
use Rattle.unit.specs.declared.answer.Slot.{Slot as SlotAboard}
use Rattle.demands.specs.Genuine.{RecordOf}
use Rattle.demands.specs.Past.{is_data}
use Rattle.demands.specs.Runs as Shore
use Rattle.demands.specs.Ship.Runs as Ship
use Rattle.ends.specs.Sides.{Ends, ends_of}

-- ---- genuine, for the end that it travels to

-- r is a record of the datagram d that is genuine under the keys k in this sense of travel, with the content c: "code right under the
-- key for its number"
pub record GenuineFor (k : Keys) (sense : Sense) (d : List ℕ) (r : Record) (c : List ℕ) : Type 0 where
  pub in_place : RecordOf d r
  pub is_protected : r.protected ≡ true
  pub is_coded : fragment_of d r ≡ fragment_by (hmac (secret_for k sense r.number)) (size_of k.mac) r.number r.byte c

-- "without a record genuine under the open keys"
abbrev pub NoneFor : Keys → Sense → List ℕ → Type 0
NoneFor k sense d = (r : Record) (c : List ℕ) → GenuineFor k sense d r c → ⊥

-- Of such a datagram a record may be genuine only if it is a handshake message of number 0, as the handshake's own datagrams have: an
-- end that is open has taken the Finished, number 0, and takes no other of that number.
abbrev pub OtherFor : Keys → Sense → List ℕ → Type 0
OtherFor k sense d = (r : Record) (c : List ℕ) → GenuineFor k sense d r c → (r.content ≡ C.Handshake) × (r.number ≡ 0)

-- ---- runs of both ends

-- a step: a call of either end, with its arguments and the room that is lent. A call to receive is a delivery.
pub data Doing : Type 0 where
  ashore : (call : Shore.Call) → Doing
  aboard : (call : Ship.Call) → Doing

abbrev pub done_by : Ends → Doing → Ends
done_by e (ashore call) = ends_of e.unit (Shore.step_of e.shore call).connection
done_by e (aboard call) = ends_of (Ship.step_of e.unit call).unit e.shore

-- ---- what happens on a course

-- a report that was sent: its number, its bytes, and the datagram that was written
pub record Report : Type 0 where
  pub number : ℕ
  pub bytes : List ℕ
  pub datagram : List ℕ

-- what was handed out, with the number that the answer says
pub record Handed : Type 0 where
  pub number : ℕ
  pub bytes : List ℕ

abbrev pub handed : ℕ → List ℕ → Handed
handed number bytes = record { number = number; bytes = bytes }

pub data Entry : Type 0 where
  -- the one end sent a report
  sends : Report → Entry
  -- it wrote another protected record to the other: an alert
  writes : (datagram : List ℕ) → Entry
  -- a datagram came to the other, which handed this out
  takes : (datagram : List ℕ) (out : List Handed) → Entry

-- the number that an answer says
abbrev pub number_in : Answer → ℕ
number_in A.Nothing = 0
number_in (A.Reply size) = 0
number_in (A.Resent size) = 0
number_in A.Spec = 0
number_in A.Open = 0
number_in A.Again = 0
number_in (A.Data number start size) = number
number_in (A.Warning description) = 0
number_in (A.Critical description) = 0
number_in (A.Fatal description) = 0
number_in (A.Barred description) = 0
number_in (A.Refused refusal) = 0

-- what an answer hands out, and what the answers to a datagram do, in their order
abbrev pub handed_as : List ℕ → Answer → List Handed
handed_as d a = pick (is_data a) (handed (number_in a) (handed_of d a) ∷ []) []

unfoldable pub out_ashore : List ℕ → List SlotAshore → List Handed
out_ashore d [] = []
out_ashore d (s ∷ slots) = handed_as d s.answer ++ out_ashore d slots

unfoldable pub out_aboard : List ℕ → List SlotAboard → List Handed
out_aboard d [] = []
out_aboard d (s ∷ slots) = handed_as d (as_ashore s.answer) ++ out_aboard d slots

abbrev pub if_done : Result ⊤ Refusal → Entry → List Entry
if_done (Ok tt) entry = entry ∷ []
if_done (Err refusal) entry = []

-- the unit's reports and protected alerts, and the datagrams that come to the shore
abbrev pub from_unit : Ends → Doing → List Entry
from_unit e (ashore (Shore.receive d random out)) =
    takes d (out_ashore d (Ashore.received_of e.shore d random (length out)).answers) ∷ []
from_unit e (ashore (Shore.send_data bytes out)) = []
from_unit e (ashore (Shore.send_alert protected level description answered out)) = []
from_unit e (ashore Shore.close) = []
from_unit e (ashore Shore.start) = []
from_unit e (aboard (Ship.hello random macs refresh out)) = []
from_unit e (aboard (Ship.again out)) = []
from_unit e (aboard (Ship.receive d out)) = []
from_unit e (aboard (Ship.send_data bytes out)) =
    let s = AboardSends.data_sent e.unit bytes (length out) in
    if_done s.outcome
    (sends record {
      number = e.unit.protection.protected;
      bytes = bytes;
      datagram = take s.written (AboardSends.data_output e.unit bytes out);
    })
from_unit e (aboard (Ship.send_alert false level description answered out)) = []
from_unit e (aboard (Ship.send_alert true level description answered out)) =
    let s = AboardSends.alert_sent e.unit true level description answered (length out) in
    if_done s.outcome (writes (take s.written (AboardSends.alert_output e.unit true level description answered out)))
from_unit e (aboard Ship.close) = []
from_unit e (aboard Ship.start) = []

-- "ship for shore"
abbrev pub from_shore : Ends → Doing → List Entry
from_shore e (aboard (Ship.receive d out)) =
    takes d (out_aboard d (Aboard.received_of e.unit d (length out)).answers) ∷ []
from_shore e (aboard (Ship.hello random macs refresh out)) = []
from_shore e (aboard (Ship.again out)) = []
from_shore e (aboard (Ship.send_data bytes out)) = []
from_shore e (aboard (Ship.send_alert protected level description answered out)) = []
from_shore e (aboard Ship.close) = []
from_shore e (aboard Ship.start) = []
from_shore e (ashore (Shore.receive d random out)) = []
from_shore e (ashore (Shore.send_data bytes out)) =
    let s = AshoreSends.data_sent e.shore bytes (length out) in
    if_done s.outcome
    (sends record {
      number = e.shore.handshake.protection.protected;
      bytes = bytes;
      datagram = take s.written (AshoreSends.data_output e.shore bytes out);
    })
from_shore e (ashore (Shore.send_alert false level description answered out)) = []
from_shore e (ashore (Shore.send_alert true level description answered out)) =
    let s = AshoreSends.alert_sent e.shore true level description answered (length out) in
    if_done s.outcome (writes (take s.written (AshoreSends.alert_output e.shore true level description answered out)))
from_shore e (ashore Shore.close) = []
from_shore e (ashore Shore.start) = []

abbrev pub entries_of : Sense → Ends → Doing → List Entry
entries_of FromUnit e doing = from_unit e doing
entries_of FromShore e doing = from_shore e doing

-- all that happens on a course in a run
unfoldable pub trace_of : Sense → Ends → List Doing → List Entry
trace_of sense e [] = []
trace_of sense e (doing ∷ doings) = entries_of sense e doing ++ trace_of sense (done_by e doing) doings

-- ---- the link

-- d is one of these
abbrev pub In : List ℕ → List (List ℕ) → Type 0
In d [] = ⊥
In d (x ∷ xs) = (d ≡ x) ⊎ In d xs

-- "a channel that may drop, repeat and reorder datagrams that one end wrote to the other and may add any others without a record
-- genuine under the open keys": at each delivery, of those written so far or such another. (A reply or a flight that is written
-- meanwhile, as it is to a repeated hello or to one that starts another handshake, is one of the others: its Finished has number 0.)
unfoldable pub Linked : Keys → Sense → List (List ℕ) → List Entry → Type 0
Linked k sense written [] = Unit
Linked k sense written (sends report ∷ entries) = Linked k sense (report.datagram ∷ written) entries
Linked k sense written (writes d ∷ entries) = Linked k sense (d ∷ written) entries
Linked k sense written (takes d out ∷ entries) = (In d written ⊎ OtherFor k sense d) × Linked k sense written entries

-- ---- what is said of a course

-- one of these reports has this number and these bytes, and was written as this datagram
abbrev pub SentAs : List Report → List ℕ → Handed → Type 0
SentAs [] d x = ⊥
SentAs (report ∷ reports) d x =
    ((report.number ≡ x.number) × (report.bytes ≡ x.bytes) × (report.datagram ≡ d)) ⊎ SentAs reports d x

abbrev pub AllSentAs : List Report → List ℕ → List Handed → Type 0
AllSentAs reports d [] = Unit
AllSentAs reports d (x ∷ xs) = SentAs reports d x × AllSentAs reports d xs

-- "The data handed out ashore are then reports that the unit sent .. and exactly those that arrived at all", none but those: each was
-- sent before, under that number, with those bytes, and the datagram that came is the one that was written for it
unfoldable pub Within : List Report → List Entry → Type 0
Within sent [] = Unit
Within sent (sends report ∷ entries) = Within (report ∷ sent) entries
Within sent (writes d ∷ entries) = Within sent entries
Within sent (takes d out ∷ entries) = AllSentAs sent d out × Within sent entries

-- "each at most once": no number is handed out that was handed out before
abbrev pub NewIn : List ℕ → List Handed → Type 0
NewIn before [] = Unit
NewIn before (x ∷ xs) = (accepted before x.number ≡ false) × NewIn (x.number ∷ before) xs

abbrev pub with_all : List ℕ → List Handed → List ℕ
with_all before [] = before
with_all before (x ∷ xs) = with_all (x.number ∷ before) xs

unfoldable pub Once : List ℕ → List Entry → Type 0
Once before [] = Unit
Once before (sends report ∷ entries) = Once before entries
Once before (writes d ∷ entries) = Once before entries
Once before (takes d out ∷ entries) = NewIn before out × Once (with_all before out) entries

-- a report is handed out there
abbrev pub HandedIn : Report → List Handed → Type 0
HandedIn report [] = ⊥
HandedIn report (x ∷ xs) = ((x.number ≡ report.number) × (x.bytes ≡ report.bytes)) ⊎ HandedIn report xs

-- every genuine record of a datagram has a number below this one
abbrev pub AllBelow : Keys → Sense → ℕ → List ℕ → Type 0
AllBelow k sense most d = (r : Record) (c : List ℕ) → GenuineFor k sense d r c → r.number < most

-- "exactly those that arrived at all, provided that each first arrives before any record whose number is higher by the window's width
-- or more", all of those: a report is handed out by the delivery at which it first arrives, if all that came before it is below its
-- number and the width. For each report by itself.
unfoldable pub Arrives : Keys → Sense → ℕ → Report → List Entry → Type 0
Arrives k sense width report [] = Unit
Arrives k sense width report (sends other ∷ entries) = Arrives k sense width report entries
Arrives k sense width report (writes d ∷ entries) = Arrives k sense width report entries
Arrives k sense width report (takes d out ∷ entries) =
    (d ≡ report.datagram → HandedIn report out)
    × (d ≢ report.datagram → AllBelow k sense (report.number + width) d → Arrives k sense width report entries)

unfoldable pub Exactly : Keys → Sense → ℕ → List Entry → Type 0
Exactly k sense width [] = Unit
Exactly k sense width (sends report ∷ entries) = Arrives k sense width report entries × Exactly k sense width entries
Exactly k sense width (writes d ∷ entries) = Exactly k sense width entries
Exactly k sense width (takes d out ∷ entries) = Exactly k sense width entries

pub record Delivered (k : Keys) (sense : Sense) (width : ℕ) (entries : List Entry) : Type 0 where
  pub within : Within [] entries
  pub once : Once [] entries
  pub exactly : Exactly k sense width entries
