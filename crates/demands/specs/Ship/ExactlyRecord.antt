-- The refusals of a record at the shipboard end, each exactly when (02, P7: "document 01's numbers; .. each in document 01's order"):
-- "Per record: 7; then place and state (18, 8); then code and window; then content 12, then 13, 14 or 17." 18 has no place here. Said over
-- the bytes of the datagram, the state, the numbers accepted before and the records sent. What the bytes of a record say is said ashore.
use Rattle.std.specs.Prelude.{◌≡◌, ◌↔◌, ◌⊎◌, ◌≢◌, true, false, List, [], ◌∷◌, ℕ, ◌+◌, ◌≤◌, ◌<◌, length, get_or, drop}
use Rattle.digest.specs.Bytes.{word_at}
use Rattle.digest.specs.Hmac.{hmac}
use Rattle.digest.specs.Mac.{size_of}
use Rattle.digest.specs.declared.mac.Mac.TheVariants.{Sha80, Sha}
use Rattle.record.specs.Code.{fragment_by}
use Rattle.record.specs.History.{accepted, highest_of}
use Rattle.record.specs.declared.header.Content.TheVariants as C
use Rattle.record.specs.declared.keys.Keys.{Keys}
use Rattle.record.specs.declared.reader.Record.{Record}
use Rattle.message.specs.Offer.{offers}
use Rattle.message.specs.ServerHello.{ServerValues, server_allowed, server_hello_from}
use Rattle.message.specs.declared.offer.Kinds.{Kinds}
use Rattle.message.specs.declared.offer.Offer.{Offer}
use Rattle.connection.specs.Sent.{matches_of}
use Rattle.connection.specs.declared.refusal.Refusal.{Refusal}
use Rattle.connection.specs.declared.refusal.Refusal.TheVariants as X
use Rattle.unit.specs.Judge.{judged_record}
use Rattle.unit.specs.declared.answer.Answer.TheVariants as W
use Rattle.unit.specs.declared.state.State.{State}
use Rattle.unit.specs.declared.state.State.TheVariants.{Replied, Spec}
use Rattle.unit.specs.declared.unit.Unit.{Unit as Ship}
use Rattle.demands.specs.Genuine.{RecordOf}
use Rattle.demands.specs.Seen.{Seen}
use Rattle.demands.specs.Exactly.Record.{seen_at, IsAlert, IsFinished, Bytes}
use Rattle.demands.specs.Ship.Genuine.{shore_key}
use Rattle.demands.specs.Ship.Table.{Midway, Up, Over}
use Rattle.demands.specs.Ship.Course.{HoldsNumbers}

-- ---- the table

-- a clear handshake record that begins so: a ServerHello with 2, a HelloRequest with 0
pub record Begins (first : ℕ) (q : Seen) : Type 0 where
  pub clear : q.protected ≡ false
  pub handshake : q.content ≡ C.Handshake
  pub begins : get_or q.fragment 0 0 ≡ first

abbrev pub IsHello : Seen → Type 0
IsHello q = Begins 2 q

abbrev pub IsRequest : Seen → Type 0
IsRequest q = Begins 0 q

-- the whole message
abbrev pub request_bytes : List ℕ
request_bytes = 0 ∷ 0 ∷ 0 ∷ []

-- a protected record of an allowed kind: alerts and handshake records in Spec, all four in Opening and Open
pub record GuardedAs (state : State) (q : Seen) : Type 0 where
  pub protection : q.protected ≡ true
  pub kind : ((state ≡ Spec) × ((q.content ≡ C.Alert) ⊎ (q.content ≡ C.Handshake))) ⊎ Up state

-- what is allowed: a ServerHello, first in its datagram, in Sent, Replied and Spec; a HelloRequest in any place and state;
-- a clear change cipher spec in Replied only; a clear alert in Sent, Replied and Spec; and the protected ones
pub data Allowed (state : State) (q : Seen) : Type 0 where
  hello : Midway state → IsHello q → q.at ≡ 0 → Allowed state q
  request : IsRequest q → Allowed state q
  change : state ≡ Replied → q.protected ≡ false → q.content ≡ C.ChangeCipherSpec → Allowed state q
  alert : Midway state → q.protected ≡ false → q.content ≡ C.Alert → Allowed state q
  guarded : GuardedAs state q → Allowed state q

-- ---- code and window

-- the code is right "under the key for its number": the fragment is the content c and its code
abbrev pub CodedAs : Keys → Seen → List ℕ → Type 0
CodedAs k q c = q.fragment ≡ fragment_by (hmac (shore_key k q.number)) (size_of k.mac) q.number q.byte c

-- genuine, not too old and not repeated, with the content c
pub record NewAs (u : Ship) (numbers : List ℕ) (q : Seen) (c : List ℕ) : Type 0 where
  pub guarded : GuardedAs u.state q
  pub coded : CodedAs u.protection.keys q c
  pub recent : highest_of numbers < q.number + u.protection.window.width
  pub unseen : accepted numbers q.number ≡ false

-- ---- content

-- 002 10.5.1.3: the message is what is written of some values that a ServerHello can have
pub record WellFormedHello (m : List ℕ) : Type 0 where
  pub values : ServerValues
  pub can : server_allowed values ≡ true
  pub layout : server_hello_from values ≡ m

-- an offered kind: SHA_80, 2, or SHA, 3
abbrev pub Offered : Kinds → ℕ → Type 0
Offered kinds n = ((n ≡ 2) × (offers kinds Sha80 ≡ true)) ⊎ ((n ≡ 3) × (offers kinds Sha ≡ true))

-- version 1; the session named; client key number 0; null cipher and an offered kind; null compression; explicit; refresh at most the
-- offered
pub record Acceptable (v : ServerValues) (id : List ℕ) (offer : Offer) : Type 0 where
  pub version : v.version ≡ 1
  pub session : v.session ≡ id
  pub key : v.key ≡ 0
  pub cipher : v.cipher ≡ 0
  pub kind : Offered offer.kinds v.mac
  pub compression : v.compression ≡ 0
  pub numbering : v.numbering ≡ 2
  pub refresh : v.refresh ≤ offer.refresh

-- 12, clear and under protection
pub data WhyMalformed (u : Ship) (numbers : List ℕ) (q : Seen) : Type 0 where
  bad_hello : Midway u.state → IsHello q → q.at ≡ 0 → (WellFormedHello q.fragment → ⊥) → WhyMalformed u numbers q
  bad_request : (Over u.state → ⊥) → IsRequest q → q.fragment ≢ request_bytes → WhyMalformed u numbers q
  bad_change : u.state ≡ Replied → q.protected ≡ false → q.content ≡ C.ChangeCipherSpec → q.fragment ≢ 1 ∷ [] → WhyMalformed u numbers q
  bad_alert : Midway u.state → q.protected ≡ false → q.content ≡ C.Alert → (IsAlert q.fragment → ⊥) → WhyMalformed u numbers q
  bad_protected_change : (c : List ℕ) → NewAs u numbers q c → q.content ≡ C.ChangeCipherSpec → WhyMalformed u numbers q
  bad_protected_alert : (c : List ℕ) → NewAs u numbers q c → q.content ≡ C.Alert → (IsAlert c → ⊥) → WhyMalformed u numbers q
  bad_message : (c : List ℕ) → NewAs u numbers q c → q.content ≡ C.Handshake → c ≢ request_bytes → (IsFinished c → ⊥) → WhyMalformed u numbers q
  empty_data : (c : List ℕ) → NewAs u numbers q c → q.content ≡ C.Data → length c ≡ 0 → WhyMalformed u numbers q

-- ---- the reasons

abbrev pub WhyRecord : Ship → List ℕ → Seen → Refusal → Type 0
-- 7: "Barred, or Closed"
WhyRecord u numbers q X.Ended = Over u.state
-- 8: "record or call not allowed in this state or place"
WhyRecord u numbers q X.NotAllowed = (Over u.state → ⊥) × (Allowed u.state q → ⊥)
-- 9: "code not right"
WhyRecord u numbers q X.Forged = GuardedAs u.state q × ((c : List ℕ) → CodedAs u.protection.keys q c → ⊥)
-- 10: "too old": at most the highest number accepted less the width
WhyRecord u numbers q X.TooOld =
    GuardedAs u.state q × ((c : List ℕ) × CodedAs u.protection.keys q c) ×
    (q.number + u.protection.window.width ≤ highest_of numbers)
-- 11: "repeated": a number accepted before
WhyRecord u numbers q X.Repeated =
    GuardedAs u.state q × ((c : List ℕ) × CodedAs u.protection.keys q c) ×
    (highest_of numbers < q.number + u.protection.window.width) × (accepted numbers q.number ≡ true)
-- 12: "malformed content"
WhyRecord u numbers q X.Malformed = WhyMalformed u numbers q
-- 13: "hello well formed, not acceptable"
WhyRecord u numbers q X.Unacceptable =
    Midway u.state × IsHello q × (q.at ≡ 0) ×
    ((w : WellFormedHello q.fragment) × (Acceptable w.values u.id u.offer → ⊥))
-- 14: "clear alert with another checksum"
WhyRecord u numbers q X.Checksum =
    Midway u.state × (q.protected ≡ false) × (q.content ≡ C.Alert) × IsAlert q.fragment ×
    (matches_of u.sent (word_at q.fragment 2) ≡ false)
-- 17: "genuine Finished with wrong contents"
WhyRecord u numbers q X.WrongFinished =
    (c : List ℕ) × NewAs u numbers q c × (q.content ≡ C.Handshake) × IsFinished c × (drop 3 c ≢ u.expected)
-- no other
WhyRecord u numbers q (X.Framing fault) = ⊥
WhyRecord u numbers q X.Room = ⊥
WhyRecord u numbers q X.Spent = ⊥
WhyRecord u numbers q X.Argument = ⊥

-- A record of a soundly framed datagram, in a unit whose window holds the numbers accepted so far (as it does in every run from fresh),
-- is refused so exactly if there is that reason.
unfoldable pub ExactlyRecord : Type 0
ExactlyRecord =
    (u : Ship) (numbers d : List ℕ) (r : Record) → Bytes d → RecordOf d r → HoldsNumbers u numbers → (x : Refusal)
    → ((judged_record u d r).answer ≡ W.Refused x) ↔ WhyRecord u numbers (seen_at d r.start) x
