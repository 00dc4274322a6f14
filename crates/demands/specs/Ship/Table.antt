-- The unit's state table (02, P7) as rules from the state and the bytes of a record to its answer and to what it leaves: "the reply's
-- records are checked from the front, each in document 01's order"; 01: "Per record: 7; then place and state (18, 8); then code and
-- window; then content 12, then 13, 14 or 17." 18 has no place here. Each outcome is written out, not left to the unit.
use Rattle.std.specs.Prelude.{◌≡◌, ◌↔◌, ◌⊎◌, ◌≢◌, true, false, List, ℕ, ◌+◌, ◌<◌, length, replicate, eqb, Err, None, Ok, Some}
use Rattle.record.specs.Window.{accept_of, emptied}
use Rattle.record.specs.declared.window.Window.{Window}
use Rattle.record.specs.declared.window.NotNew.TheVariants as A
use Rattle.record.specs.declared.reader.Record.{Record}
use Rattle.message.specs.Agreement.{agreement_of}
use Rattle.message.specs.Alert.{alert_of, description_number}
use Rattle.message.specs.Change.{is_change}
use Rattle.message.specs.Finished.{judged_of}
use Rattle.message.specs.Request.{is_request}
use Rattle.message.specs.declared.acceptance.Plan.{Plan}
use Rattle.message.specs.declared.agreement.Term.{Term}
use Rattle.message.specs.declared.agreement.Disagreed.TheVariants as G
use Rattle.message.specs.declared.alert.Alert.{Alert}
use Rattle.message.specs.declared.alert.Level.TheVariants as L
use Rattle.message.specs.declared.finished.Unverified.TheVariants as F
use Rattle.message.specs.declared.offer.Kinds.TheVariants.{Sha80}
use Rattle.connection.specs.Judge.{fragment_of}
use Rattle.connection.specs.Sent.{matches_of}
use Rattle.connection.specs.declared.refusal.Refusal.TheVariants as X
use Rattle.unit.specs.State.{rule_of}
use Rattle.unit.specs.Protected.{flight_size}
use Rattle.unit.specs.Unit.{with_state, with_window, opened}
use Rattle.unit.specs.Agree.{agreed_with, judged}
use Rattle.unit.specs.Judge.{kind_in, judged_record}
use Rattle.unit.specs.declared.state.State.{State}
use Rattle.unit.specs.declared.state.State.TheVariants.{Idle, Sent, Replied, Spec, Opening, Open, Closed, Barred}
use Rattle.unit.specs.declared.state.Kind.TheVariants as K
use Rattle.unit.specs.declared.state.Rule.{Rule}
use Rattle.unit.specs.declared.state.Rule.TheVariants as T
use Rattle.unit.specs.declared.answer.Answer.{Answer}
use Rattle.unit.specs.declared.answer.Answer.TheVariants as W
use Rattle.unit.specs.declared.agree.Judged.{Judged}
use Rattle.unit.specs.declared.unit.Unit.{Unit as Ship}
use Rattle.demands.specs.Ship.Genuine.{Protected}

-- states by name, where a row is for several of them: in the middle of a handshake; and Opening, Open
abbrev pub Midway : State → Type 0
Midway s = (s ≡ Sent) ⊎ (s ≡ Replied) ⊎ (s ≡ Spec)

abbrev pub Up : State → Type 0
Up s = (s ≡ Opening) ⊎ (s ≡ Open)

-- no handshake on its way
abbrev pub Outside : State → Type 0
Outside s = (s ≡ Idle) ⊎ Up s

-- Closed, Barred: 7
abbrev pub Over : State → Type 0
Over s = (s ≡ Closed) ⊎ (s ≡ Barred)

-- what the table has for a record in the unit's state
abbrev pub Ruled : Ship → List ℕ → Record → Rule → Type 0
Ruled u d r rule = rule_of u.state (kind_in d r) ≡ rule

-- a protected record of an allowed kind whose code is right, and whose number is new: w is the window with its mark
pub record New (u : Ship) (d : List ℕ) (r : Record) (c : List ℕ) (w : Window) : Type 0 where
  pub ruled : Ruled u d r T.Unprotect
  pub coded : Protected u.protection.keys d r c
  pub arrived : ℕ
  pub accepted : accept_of u.protection.window r.number ≡ Ok (w, arrived)

-- The answers that leave the unit as it was.
pub data Stays (u : Ship) (d : List ℕ) (r : Record) : Answer → Type 0 where
  -- 7
  at_end : Ruled u d r T.Ended → Stays u d r (W.Refused X.Ended)
  -- 8; a ServerHello is the first record of its datagram
  not_allowed : Ruled u d r T.NotAllowed → Stays u d r (W.Refused X.NotAllowed)
  not_first : Ruled u d r T.Agree → r.start ≢ 0 → Stays u d r (W.Refused X.NotAllowed)
  -- 9, 10, 11
  forged : Ruled u d r T.Unprotect → ((c : List ℕ) → Protected u.protection.keys d r c → ⊥) → Stays u d r (W.Refused X.Forged)
  too_old : (c : List ℕ) → Ruled u d r T.Unprotect → Protected u.protection.keys d r c
      → accept_of u.protection.window r.number ≡ Err A.TooOld → Stays u d r (W.Refused X.TooOld)
  repeated : (c : List ℕ) → Ruled u d r T.Unprotect → Protected u.protection.keys d r c
      → accept_of u.protection.window r.number ≡ Err A.Repeated → Stays u d r (W.Refused X.Repeated)
  -- 12 of a clear record
  bad_hello : Ruled u d r T.Agree → r.start ≡ 0 → agreement_of (fragment_of d r) u.id u.offer ≡ Err G.Malformed
      → Stays u d r (W.Refused X.Malformed)
  bad_request : Ruled u d r T.Request → is_request (fragment_of d r) ≡ false → Stays u d r (W.Refused X.Malformed)
  bad_change : Ruled u d r T.Change → is_change (fragment_of d r) ≡ false → Stays u d r (W.Refused X.Malformed)
  bad_alert : Ruled u d r T.Hear → alert_of (fragment_of d r) ≡ None → Stays u d r (W.Refused X.Malformed)
  -- 13, 14
  unacceptable : (term : Term) → Ruled u d r T.Agree → r.start ≡ 0
      → agreement_of (fragment_of d r) u.id u.offer ≡ Err (G.Unacceptable term) → Stays u d r (W.Refused X.Unacceptable)
  checksum : (a : Alert) → Ruled u d r T.Hear → alert_of (fragment_of d r) ≡ Some a → matches_of u.sent a.checksum ≡ false
      → Stays u d r (W.Refused X.Checksum)
  -- "A HelloRequest in the middle of a handshake is ignored; otherwise it is reported and changes nothing."
  ignored_request : Ruled u d r T.Request → is_request (fragment_of d r) ≡ true → Midway u.state → Stays u d r W.Ignored
  reported_request : Ruled u d r T.Request → is_request (fragment_of d r) ≡ true → Outside u.state → Stays u d r W.Request
  -- a clear warning
  warning : (a : Alert) → Ruled u d r T.Hear → alert_of (fragment_of d r) ≡ Some a → matches_of u.sent a.checksum ≡ true
      → a.level ≡ L.Warning → Stays u d r (W.Warning a.description)

-- Clear alerts that close: "a clear fatal alert closes only" (01).
pub data Shuts (u : Ship) (d : List ℕ) (r : Record) : Answer → Type 0 where
  critical : (a : Alert) → Ruled u d r T.Hear → alert_of (fragment_of d r) ≡ Some a → matches_of u.sent a.checksum ≡ true
      → a.level ≡ L.Critical → Shuts u d r (W.Critical a.description)
  fatal : (a : Alert) → Ruled u d r T.Hear → alert_of (fragment_of d r) ≡ Some a → matches_of u.sent a.checksum ≡ true
      → a.level ≡ L.Fatal → Shuts u d r (W.Fatal a.description)

-- A genuine new record with the content c: "A genuine new record marks its number even if its content is then refused." Its answer,
-- and the state that it leaves.
pub data Marked (u : Ship) (d : List ℕ) (r : Record) (c : List ℕ) : Answer → State → Type 0 where
  -- 12 under protection
  no_change : kind_in d r ≡ K.ProtectedChange → Marked u d r c (W.Refused X.Malformed) u.state
  no_alert : kind_in d r ≡ K.ProtectedAlert → alert_of c ≡ None → Marked u d r c (W.Refused X.Malformed) u.state
  no_message : kind_in d r ≡ K.ProtectedHandshake → is_request c ≡ false → judged_of c u.expected ≡ Err F.Malformed
      → Marked u d r c (W.Refused X.Malformed) u.state
  no_data : kind_in d r ≡ K.ProtectedData → length c ≡ 0 → Marked u d r c (W.Refused X.Malformed) u.state
  -- data is handed out; "until the first data or the warning on a repeated Finished arrives": Opening becomes Open
  some_data : kind_in d r ≡ K.ProtectedData → 0 < length c
      → Marked u d r c (W.Data r.number (r.start + r.head) (length c)) Open
  -- protected alerts by level; a fatal one: `row_bars`. In Spec no warning is one on a repeated Finished.
  protected_warning : (a : Alert) → kind_in d r ≡ K.ProtectedAlert → alert_of c ≡ Some a → a.level ≡ L.Warning
      → (eqb (description_number a.description) 57 ≡ false) ⊎ (u.state ≡ Spec) → Marked u d r c (W.Warning a.description) u.state
  repeated_finished : (a : Alert) → kind_in d r ≡ K.ProtectedAlert → alert_of c ≡ Some a → a.level ≡ L.Warning
      → eqb (description_number a.description) 57 ≡ true → Up u.state → Marked u d r c (W.Warning a.description) Open
  protected_critical : (a : Alert) → kind_in d r ≡ K.ProtectedAlert → alert_of c ≡ Some a → a.level ≡ L.Critical
      → Marked u d r c (W.Critical a.description) Closed
  -- a HelloRequest under protection: ignored in Spec, reported in Opening and Open, marked like every genuine new record
  protected_ignored : kind_in d r ≡ K.ProtectedHandshake → is_request c ≡ true → u.state ≡ Spec → Marked u d r c W.Ignored u.state
  protected_reported : kind_in d r ≡ K.ProtectedHandshake → is_request c ≡ true → Up u.state → Marked u d r c W.Request u.state
  -- Finished under a new number: `again`, or 17, which closes
  finished_again : kind_in d r ≡ K.ProtectedHandshake → is_request c ≡ false → judged_of c u.expected ≡ Ok tt → Up u.state
      → Marked u d r c W.Again u.state
  wrong_finished : kind_in d r ≡ K.ProtectedHandshake → is_request c ≡ false → judged_of c u.expected ≡ Err F.Wrong
      → Marked u d r c (W.Refused X.WrongFinished) Closed

-- What a barred unit keeps: "required to forget any session identifiers, keys, and secrets" (002 10.2.2). Zeros stand in their place.
abbrev pub forgotten : Ship → Ship
forgotten u =
    record {
      state = Barred;
      id = replicate 8 0;
      offer = record { kinds = Sha80; refresh = 0 };
      expected = replicate 12 0;
      flight = u.flight;
      sent = u.sent;
      protection = record {
        keys = record {
          secret = replicate 20 0;
          server = replicate 16 0;
          client = replicate 16 0;
          mac = u.protection.keys.mac;
          refresh = u.protection.keys.refresh;
        };
        window = u.protection.window;
        protected = u.protection.protected;
        clear = u.protection.clear;
      };
    }

-- The rows: the record r of the datagram d, in the unit u, gives this answer and leaves this unit.
pub data Row (u : Ship) (d : List ℕ) (r : Record) : Judged → Type 0 where
  row_stays : {a : Answer} → Stays u d r a → Row u d r (judged a u)
  row_shuts : {a : Answer} → Shuts u d r a → Row u d r (judged a (with_state u Closed))
  -- a ServerHello that answers the offer
  row_hello : (plan : Plan) → Ruled u d r T.Agree → r.start ≡ 0
      → agreement_of (fragment_of d r) u.id u.offer ≡ Ok plan
      → Row u d r (judged W.Hello (agreed_with u (fragment_of d r) plan))
  -- a clear change cipher spec, in Replied only, empties the window
  row_change : Ruled u d r T.Change → is_change (fragment_of d r) ≡ true
      → Row u d r (judged W.Spec (with_state (with_window u (emptied u.protection.window)) Spec))
  -- a protected record: its number is marked
  row_marked : (c : List ℕ) (w : Window) {a : Answer} {s : State} → New u d r c w → Marked u d r c a s
      → Row u d r (judged a (with_state (with_window u w) s))
  -- Finished with the contents for "server finished" over both hellos: the flight is written
  row_opens : (c : List ℕ) (w : Window) → New u d r c w → u.state ≡ Spec → kind_in d r ≡ K.ProtectedHandshake → is_request c ≡ false
      → judged_of c u.expected ≡ Ok tt
      → Row u d r (judged (W.Open (flight_size u.protection.keys.mac)) (opened (with_window u w)))
  -- "fatal closes it and, if protected, bars the session" (01)
  row_bars : (c : List ℕ) (w : Window) (a : Alert) → New u d r c w → kind_in d r ≡ K.ProtectedAlert → alert_of c ≡ Some a
      → a.level ≡ L.Fatal → Row u d r (judged (W.Barred a.description) (forgotten (with_window u w)))

-- The table holds, and nothing else does: a record is answered so exactly if there is a row that says so.
unfoldable pub TableHolds : Type 0
TableHolds = (u : Ship) (d : List ℕ) (r : Record) (j : Judged) → (judged_record u d r ≡ j) ↔ Row u d r j
