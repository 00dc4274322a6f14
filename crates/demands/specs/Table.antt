-- The state table of 01, "Handshake", and the refusals of a record, "Refusal numbers", of one handshake: each row as a rule
-- from its state and the bytes of a record to its answer and to what it leaves. "Per record: 7; then place and state (8);
-- then code and window; then content 12, then 13, 14 or 17." Which handshake of a connection a record is for: `Asked`.
use Rattle.std.specs.Prelude.{◌≡◌, ◌↔◌, ◌⊎◌, ◌≢◌, true, false, List, ℕ, ◌+◌, ◌<◌, length, get_or, Err, None, Ok, Some}
use Rattle.record.specs.Window.{accept_of, emptied}
use Rattle.record.specs.declared.header.Content.{Content}
use Rattle.record.specs.declared.header.Content.TheVariants as C
use Rattle.record.specs.declared.window.Window.{Window}
use Rattle.record.specs.declared.window.NotNew.TheVariants as A
use Rattle.record.specs.declared.reader.Record.{Record}
use Rattle.message.specs.Acceptance.{heard_of}
use Rattle.message.specs.Alert.{alert_of}
use Rattle.message.specs.Change.{is_change}
use Rattle.message.specs.Finished.{judged_of}
use Rattle.message.specs.declared.acceptance.Plan.{Plan}
use Rattle.message.specs.declared.acceptance.Condition.{Condition}
use Rattle.message.specs.declared.acceptance.Unheard.TheVariants as H
use Rattle.message.specs.declared.hello.Field.{Field}
use Rattle.message.specs.declared.alert.Alert.{Alert}
use Rattle.message.specs.declared.alert.Level.TheVariants as L
use Rattle.message.specs.declared.finished.Unverified.TheVariants as F
use Rattle.connection.specs.Handshake.{with_state, with_window, barred, kept_hello, kept_reply, planted}
use Rattle.connection.specs.Sent.{matches_of}
use Rattle.connection.specs.Answer.{judged, refusing}
use Rattle.connection.specs.Reply.{reply_to, answered_with}
use Rattle.connection.specs.Judge.{judged_record, fragment_of}
use Rattle.connection.specs.declared.state.State.{State}
use Rattle.connection.specs.declared.state.State.TheVariants.{Idle, Replied, Spec, Open, Closed, Barred}
use Rattle.connection.specs.declared.refusal.Refusal.TheVariants as X
use Rattle.connection.specs.declared.answer.Answer.TheVariants as W
use Rattle.connection.specs.declared.answer.Judged.{Judged}
use Rattle.connection.specs.declared.handshake.Handshake.{Handshake}
use Rattle.demands.specs.Seen.{Seen, seen_in}
use Rattle.demands.specs.Genuine.{Protected, keys_of}
use Rattle.connection.specs.declared.sent.SentRecords.{SentRecords}

-- states by name, where a row is for two of them; 7: "Barred, or Closed"
abbrev pub Hears : State → Type 0
Hears s = (s ≡ Replied) ⊎ (s ≡ Spec)

abbrev pub Over : State → Type 0
Over s = (s ≡ Closed) ⊎ (s ≡ Barred)

-- "A clear handshake record that begins with byte 1 counts as a ClientHello."
pub record IsHello (q : Seen) : Type 0 where
  pub clear : q.protected ≡ false
  pub handshake : q.content ≡ C.Handshake
  pub begins : get_or q.fragment 0 0 ≡ 1

-- "In Spec and Open, a protected record of an allowed kind": "in Spec the allowed kinds are handshake and alert; in
-- Open all four"
pub record Guarded (s : State) (q : Seen) : Type 0 where
  pub protection : q.protected ≡ true
  pub kind : ((s ≡ Spec) × ((q.content ≡ C.Alert) ⊎ (q.content ≡ C.Handshake))) ⊎ (s ≡ Open)

-- what the table has a row for: "Idle | clear ClientHello", "Replied, Spec | the same, another ClientHello", "which may stand only
-- first in its datagram"; "Replied | clear change cipher spec"; "Replied, Spec | clear alert"; and the protected records of Spec and
-- Open. "Everything else is refused." An open handshake knows one clear record, the hello that made it: `Returns`.
pub data Allowed (s : State) (q : Seen) : Type 0 where
  hello : (s ≡ Idle) ⊎ Hears s → IsHello q → q.at ≡ 0 → Allowed s q
  change : s ≡ Replied → q.protected ≡ false → q.content ≡ C.ChangeCipherSpec → Allowed s q
  alert : Hears s → q.protected ≡ false → q.content ≡ C.Alert → Allowed s q
  guarded : Guarded s q → Allowed s q

-- 02, P6: "The hello that made the open connection gets its reply bytes again and starts nothing."
pub record Returns (h : Handshake) (q : Seen) : Type 0 where
  pub is_open : h.state ≡ Open
  pub hello : IsHello q
  pub first : q.at ≡ 0
  pub same : q.fragment ≡ kept_hello h

-- a ClientHello first in its datagram that is to be read: "Idle"; "Replied, Spec: another ..", not "the same ClientHello message"
pub record Greets (h : Handshake) (q : Seen) : Type 0 where
  pub hello : IsHello q
  pub first : q.at ≡ 0
  pub another : (h.state ≡ Idle) ⊎ (Hears h.state × (q.fragment ≢ kept_hello h))

-- a protected record of an allowed kind whose code is right, and whose number is new: w is the window with its mark
pub record New (h : Handshake) (d : List ℕ) (r : Record) (c : List ℕ) (w : Window) : Type 0 where
  pub guarded : Guarded h.state (seen_in d r)
  pub coded : Protected (keys_of h) d r c
  pub arrived : ℕ
  pub accepted : accept_of h.protection.window r.number ≡ Ok (w, arrived)

-- 12 under protection: "empty data", an alert or a Finished that is none, "change cipher spec or a message other than
-- Finished under protection"
abbrev pub MalformedAs : Content → List ℕ → List ℕ → Type 0
MalformedAs C.ChangeCipherSpec c expected = Unit
MalformedAs C.Alert c expected = alert_of c ≡ None
MalformedAs C.Handshake c expected = judged_of c expected ≡ Err F.Malformed
MalformedAs C.Data c expected = length c ≡ 0

-- The rows: the record r of the datagram d, in the handshake h, with our random and the records that we sent, gives this
-- answer and leaves this handshake.
pub data Row (h : Handshake) (sent : SentRecords) (random d : List ℕ) (r : Record) : Judged → Type 0 where
  -- 7
  row_ended : Over h.state → Row h sent random d r (refusing X.Ended h)
  -- 8: "record .. not allowed in this state or place"
  row_not_allowed : (Over h.state → ⊥) → (Allowed h.state (seen_in d r) → ⊥) → (Returns h (seen_in d r) → ⊥)
      → Row h sent random d r (refusing X.NotAllowed h)
  -- "Idle | clear ClientHello | reply; Replied" and "Replied, Spec | another acceptable ClientHello | new reply;
  -- Replied"
  row_reply : (plan : Plan) → Greets h (seen_in d r) → heard_of (fragment_of d r) h.id ≡ Ok plan
      → Row h sent random d r
      (judged (W.Reply (length (reply_to (planted h) random (fragment_of d r) plan)))
      (answered_with h random (fragment_of d r) plan))
  -- 12 and 13 of a hello
  row_hello_malformed : (fault : Field) → Greets h (seen_in d r) → heard_of (fragment_of d r) h.id ≡ Err (H.Malformed fault)
      → Row h sent random d r (refusing X.Malformed h)
  row_unacceptable : (condition : Condition) → Greets h (seen_in d r)
      → heard_of (fragment_of d r) h.id ≡ Err (H.Unacceptable condition)
      → Row h sent random d r (refusing X.Unacceptable h)
  -- "Replied, Spec | the same ClientHello message | the same reply bytes; no change"
  row_resent : Hears h.state → IsHello (seen_in d r) → r.start ≡ 0 → fragment_of d r ≡ kept_hello h
      → Row h sent random d r (judged (W.Resent (length (kept_reply h))) h)
  -- Open: "gets its reply bytes again" (02, P6)
  row_returned : Returns h (seen_in d r) → Row h sent random d r (judged (W.Resent (length (kept_reply h))) h)
  -- "Replied | clear change cipher spec (one byte 1) | Spec, window empty"; 12: "clear change cipher spec other than
  -- one byte 1"
  row_change : h.state ≡ Replied → r.protected ≡ false → r.content ≡ C.ChangeCipherSpec
      → is_change (fragment_of d r) ≡ true
      → Row h sent random d r (judged W.Spec (with_state (with_window h (emptied h.protection.window)) Spec))
  row_change_malformed : h.state ≡ Replied → r.protected ≡ false → r.content ≡ C.ChangeCipherSpec
      → is_change (fragment_of d r) ≡ false
      → Row h sent random d r (refusing X.Malformed h)
  -- "Replied, Spec | clear alert | by level"; 12, then 14: "clear alert with another checksum"
  row_clear_malformed : Hears h.state → r.protected ≡ false → r.content ≡ C.Alert
      → alert_of (fragment_of d r) ≡ None
      → Row h sent random d r (refusing X.Malformed h)
  row_checksum : (a : Alert) → Hears h.state → r.protected ≡ false → r.content ≡ C.Alert
      → alert_of (fragment_of d r) ≡ Some a → matches_of sent a.checksum ≡ false
      → Row h sent random d r (refusing X.Checksum h)
  row_clear_warning : (a : Alert) → Hears h.state → r.protected ≡ false → r.content ≡ C.Alert
      → alert_of (fragment_of d r) ≡ Some a → matches_of sent a.checksum ≡ true → a.level ≡ L.Warning
      → Row h sent random d r (judged (W.Warning a.description) h)
  row_clear_critical : (a : Alert) → Hears h.state → r.protected ≡ false → r.content ≡ C.Alert
      → alert_of (fragment_of d r) ≡ Some a → matches_of sent a.checksum ≡ true → a.level ≡ L.Critical
      → Row h sent random d r (judged (W.Critical a.description) (with_state h Closed))
  row_clear_fatal : (a : Alert) → Hears h.state → r.protected ≡ false → r.content ≡ C.Alert
      → alert_of (fragment_of d r) ≡ Some a → matches_of sent a.checksum ≡ true → a.level ≡ L.Fatal
      → Row h sent random d r (judged (W.Fatal a.description) (with_state h Closed))
  -- 9: "code not right"; 10: "too old"; 11: "repeated"
  row_forged : Guarded h.state (seen_in d r) → ((c : List ℕ) → Protected (keys_of h) d r c → ⊥)
      → Row h sent random d r (refusing X.Forged h)
  row_old : (c : List ℕ) → Guarded h.state (seen_in d r) → Protected (keys_of h) d r c
      → accept_of h.protection.window r.number ≡ Err A.TooOld
      → Row h sent random d r (refusing X.TooOld h)
  row_repeated : (c : List ℕ) → Guarded h.state (seen_in d r) → Protected (keys_of h) d r c
      → accept_of h.protection.window r.number ≡ Err A.Repeated
      → Row h sent random d r (refusing X.Repeated h)
  -- "A genuine new record marks its number even if its content is then refused."
  row_malformed : (c : List ℕ) (w : Window) → New h d r c w → MalformedAs r.content c h.expected
      → Row h sent random d r (refusing X.Malformed (with_window h w))
  -- "Open | protected data | handed out, as a part of the datagram"
  row_data : (c : List ℕ) (w : Window) → New h d r c w → r.content ≡ C.Data → 0 < length c
      → Row h sent random d r (judged (W.Data r.number (r.start + r.head) (length c)) (with_window h w))
  -- "Spec, Open | protected alert | by level"
  row_warning : (c : List ℕ) (w : Window) (a : Alert) → New h d r c w → r.content ≡ C.Alert
      → alert_of c ≡ Some a → a.level ≡ L.Warning
      → Row h sent random d r (judged (W.Warning a.description) (with_window h w))
  row_critical : (c : List ℕ) (w : Window) (a : Alert) → New h d r c w → r.content ≡ C.Alert
      → alert_of c ≡ Some a → a.level ≡ L.Critical
      → Row h sent random d r (judged (W.Critical a.description) (with_state (with_window h w) Closed))
  row_barred : (c : List ℕ) (w : Window) (a : Alert) → New h d r c w → r.content ≡ C.Alert
      → alert_of c ≡ Some a → a.level ≡ L.Fatal
      → Row h sent random d r (judged (W.Barred a.description) (barred (with_window h w)))
  -- "Spec | protected Finished, right contents | Open"
  row_open : (c : List ℕ) (w : Window) → New h d r c w → h.state ≡ Spec → r.content ≡ C.Handshake
      → judged_of c h.expected ≡ Ok tt
      → Row h sent random d r (judged W.Open (with_state (with_window h w) Open))
  -- "Open | protected Finished under a new number, right contents | "again", Open kept"
  row_again : (c : List ℕ) (w : Window) → New h d r c w → h.state ≡ Open → r.content ≡ C.Handshake
      → judged_of c h.expected ≡ Ok tt
      → Row h sent random d r (judged W.Again (with_window h w))
  -- 17: "genuine Finished with wrong contents", which also closes
  row_wrong_finished : (c : List ℕ) (w : Window) → New h d r c w → r.content ≡ C.Handshake
      → judged_of c h.expected ≡ Err F.Wrong
      → Row h sent random d r (judged (W.Refused X.WrongFinished) (with_state (with_window h w) Closed))

-- The table holds, and nothing else does: a record is answered so exactly if there is a row that says so.
unfoldable pub TableHolds : Type 0
TableHolds =
    (h : Handshake) (sent : SentRecords) (random d : List ℕ) (r : Record) (j : Judged)
    → (judged_record h sent random d r ≡ j) ↔ Row h sent random d r j
