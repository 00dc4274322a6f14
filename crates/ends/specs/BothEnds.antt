-- 02, P14, "Both ends on one bad link": the statement.
use Rattle.std.specs.Prelude.{◌≡◌, ◌≢◌, true, false, List, [], ◌∷◌, ℕ, ◌≤◌, ◌<◌, length, Some}
use Rattle.record.specs.History.{accepted}
use Rattle.record.specs.Window.{Held}
use Rattle.record.specs.declared.header.Content.TheVariants as C
use Rattle.record.specs.declared.keys.Keys.{Keys}
use Rattle.record.specs.declared.keys.Sense.{Sense}
use Rattle.record.specs.declared.keys.Sense.TheVariants.{FromUnit, FromShore}
use Rattle.record.specs.declared.reader.Record.{Record}
use Rattle.message.specs.Alert.{alert_of, level_of}
use Rattle.message.specs.declared.alert.Level.{Level}
use Rattle.message.specs.declared.alert.Level.TheVariants as L
use Rattle.message.specs.declared.acceptance.Plan.{Plan}
use Rattle.connection.specs.Calls.{session_of}
use Rattle.connection.specs.Reply.{reply_to}
use Rattle.connection.specs.declared.handshake.Session.{Session}
use Rattle.connection.specs.declared.state.State.TheVariants as S
use Rattle.unit.specs.Agree.{flight_bytes}
use Rattle.demands.specs.Acts.{Act, SoundActs, behind, acts_in}
use Rattle.demands.specs.Course.{alert_shuts}
use Rattle.demands.specs.HandedOut.{past_of}
use Rattle.demands.specs.LeftOut.{Unreplaced}
use Rattle.demands.specs.Past.{keys_in, accepted_in}
use Rattle.demands.specs.Runs as Shore
use Rattle.demands.specs.Ship.Course.{HoldsNumbers}
use Rattle.demands.specs.Ship.Runs as Ship
use Rattle.demands.specs.Ship.Table.{Up}
use Rattle.ends.specs.Sides.{Ends}
use Rattle.ends.specs.Link.{GenuineFor, OtherFor, Doing, ashore, aboard, done_by, trace_of, In, Linked, Delivered}

-- ---- at the start

-- a record that was written before is no data, closes nothing, and has a number below the next; a Finished has number 0
pub record Quiet (next : ℕ) (r : Record) (c : List ℕ) : Type 0 where
  pub no_data : r.content ≢ C.Data
  pub no_closing : r.content ≡ C.Alert → alert_shuts (alert_of c) ≡ false
  pub finished : r.content ≡ C.Handshake → r.number ≡ 0
  pub numbered : r.number < next

-- One course: `before` is what the one end has written to the other so far, `next` its next number, `numbers` what the other accepted.
pub record Begun (k : Keys) (sense : Sense) (before : List (List ℕ)) (next : ℕ) (numbers : List ℕ) : Type 0 where
  -- "no data sent yet": no data record genuine under these keys has ever been written; "no alert above warning (none sent before
  -- and still on its way either)"
  pub quiet : (d : List ℕ) → In d before → (r : Record) (c : List ℕ) → GenuineFor k sense d r c → Quiet next r c
  -- the Finished, number 0, was taken; and all that was accepted had been written
  pub opened : accepted numbers 0 ≡ true
  pub below : (n : ℕ) → accepted numbers n ≡ true → n < next

-- "both ends just open on the same connection under the same keys, no data sent yet": the shore is Open in a run from fresh, the unit
-- in Opening or Open with a window that holds the numbers that it accepted
pub record JustOpen (k : Keys) (e : Ends) (by_unit by_shore : List (List ℕ)) : Type 0 where
  pub id : List ℕ
  pub secret : List ℕ
  pub width : ℕ
  pub held : Held width
  pub acts : List Act
  pub sound : SoundActs acts
  pub shore_is : e.shore ≡ behind (Shore.fresh_one id secret width) acts
  pub is_open : (behind (Shore.fresh_one id secret width) acts).handshake.state ≡ S.Open
  pub keys_ashore : keys_in (session_of id secret) (past_of id secret width acts) ≡ k
  pub is_up : Up e.unit.state
  pub numbers : List ℕ
  pub holds : HoldsNumbers e.unit numbers
  pub keys_aboard : e.unit.protection.keys ≡ k
  pub from_unit : Begun k FromUnit by_unit e.unit.protection.protected (accepted_in (past_of id secret width acts))
  pub from_shore : Begun k FromShore by_shore e.shore.handshake.protection.protected numbers

-- ---- on the way

-- "no alert above warning"
abbrev pub Warns : ℕ → Type 0
Warns level = (l : Level) → level_of level ≡ Some l → l ≡ L.Warning

-- "calls with arguments and room as listed, no close, no alert above warning"
abbrev pub Keeps : Doing → Type 0
Keeps (ashore (Shore.receive d random out)) = (length random ≡ 16) × (128 ≤ length out)
Keeps (ashore (Shore.send_data bytes out)) = Unit
Keeps (ashore (Shore.send_alert protected level description answered out)) = Warns level
Keeps (ashore Shore.close) = ⊥
Keeps (ashore Shore.start) = Unit
Keeps (aboard (Ship.hello random macs refresh out)) = Unit
Keeps (aboard (Ship.again out)) = Unit
Keeps (aboard (Ship.receive d out)) = 128 ≤ length out
Keeps (aboard (Ship.send_data bytes out)) = Unit
Keeps (aboard (Ship.send_alert protected level description answered out)) = Warns level
Keeps (aboard Ship.close) = ⊥
Keeps (aboard Ship.start) = Unit

abbrev pub AllKeep : List Doing → Type 0
AllKeep [] = Unit
AllKeep (doing ∷ doings) = Keeps doing × AllKeep doings

-- "no record is right under a started handshake's keys"
abbrev pub NoneBeside : Ends → Doing → Type 0
NoneBeside e (ashore call) = Unreplaced e.shore (acts_in call)
NoneBeside e (aboard call) = Unit

abbrev pub AllNoneBeside : Ends → List Doing → Type 0
AllNoneBeside e [] = Unit
AllNoneBeside e (doing ∷ doings) = NoneBeside e doing × AllNoneBeside (done_by e doing) doings

pub record Premises (k : Keys) (e : Ends) (by_unit by_shore : List (List ℕ)) (doings : List Doing) : Type 0 where
  pub just_open : JustOpen k e by_unit by_shore
  pub calls : AllKeep doings
  pub none_beside : AllNoneBeside e doings
  pub link_to_shore : Linked k FromUnit by_unit (trace_of FromUnit e doings)
  pub link_to_ship : Linked k FromShore by_shore (trace_of FromShore e doings)

-- ---- then

-- neither end closes
abbrev pub StayOpen : Ends → List Doing → Type 0
StayOpen e [] = (e.shore.handshake.state ≡ S.Open) × Up e.unit.state
StayOpen e (doing ∷ doings) = (e.shore.handshake.state ≡ S.Open) × Up e.unit.state × StayOpen (done_by e doing) doings

pub record Reported (k : Keys) (e : Ends) (shore_width : ℕ) (doings : List Doing) : Type 0 where
  -- "The data handed out ashore are then reports that the unit sent, each at most once, and exactly those that arrived at all, .."
  pub to_shore : Delivered k FromUnit shore_width (trace_of FromUnit e doings)
  -- "The same holds for the other course, ship for shore."
  pub to_ship : Delivered k FromShore e.unit.protection.window.width (trace_of FromShore e doings)
  pub stay_open : StayOpen e doings

unfoldable pub BothEnds : Type 0
BothEnds =
    (k : Keys) (e : Ends) (by_unit by_shore : List (List ℕ)) (doings : List Doing)
    → (p : Premises k e by_unit by_shore doings) → Reported k e p.just_open.width doings

-- Every reply that a shore writes, and every flight that a unit writes, is one of the others that the link may bring, whatever the open
-- keys are and whatever keys it was made with.
pub record HandshakesAreOthers : Type 0 where
  pub replies : (k : Keys) (session : Session) (random m : List ℕ) (plan : Plan) → length random ≡ 16 → length session.id ≡ 8
      → OtherFor k FromShore (reply_to session random m plan)
  pub flights : (k made : Keys) (ours : List ℕ) → length ours ≡ 15 → OtherFor k FromUnit (flight_bytes made ours)
