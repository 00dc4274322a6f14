-- 01, "Refusal numbers", of a record and the handshake that it is for: "Per record: 7; then place and state (8); then code and
-- window; then content 12, then 13, 14 or 17." (02, P6: "18 is not given any more".) Said over the bytes of the datagram, the state,
-- the numbers accepted before and the records sent.
use Rattle.std.specs.Prelude.{◌≡◌, ◌↔◌, ◌⊎◌, ◌≢◌, true, false, List, [], ◌∷◌, ℕ, ◌+◌, ◌%◌, ◌≤◌, ◌<◌, length, get_or, take, drop}
use Rattle.digest.specs.Bytes.{word_at}
use Rattle.record.specs.Header.{bit, content_of}
use Rattle.record.specs.History.{accepted, highest_of, window_of}
use Rattle.record.specs.Reader.{pair_at}
use Rattle.record.specs.declared.header.Content.TheVariants as C
use Rattle.record.specs.declared.reader.Record.{Record}
use Rattle.message.specs.Values.{Values, allowed, hello_of}
use Rattle.connection.specs.Judge.{judged_record}
use Rattle.connection.specs.declared.answer.Answer.TheVariants as W
use Rattle.connection.specs.declared.handshake.Handshake.{Handshake}
use Rattle.connection.specs.declared.refusal.Refusal.{Refusal}
use Rattle.connection.specs.declared.refusal.Refusal.TheVariants as X
use Rattle.connection.specs.declared.state.State.TheVariants.{Replied}
use Rattle.demands.specs.Seen.{Seen, seen_in}
use Rattle.demands.specs.Genuine.{Coded, keys_of, RecordOf}
use Rattle.demands.specs.Table.{Hears, Over, Guarded, Allowed, Returns, Greets}
use Rattle.demands.specs.Exactly.Numbers.{is_among, is_assigned}
use Rattle.demands.specs.Exactly.Whole.{type_at, head_at, size_at}
use Rattle.record.specs.Window.{Held}
use Rattle.connection.specs.Sent.{matches_of}
use Rattle.connection.specs.declared.sent.SentRecords.{SentRecords}

-- ---- what the bytes from `at` on say of a record

abbrev pub seen_at : List ℕ → ℕ → Seen
seen_at d at =
    record {
      byte = type_at d at;
      protected = bit 2 (type_at d at);
      content = content_of (type_at d at % 16);
      number = pair_at d (at + 1);
      fragment = take (size_at d at) (drop (at + head_at d at) d);
      at = at;
    }

-- a record of a soundly framed datagram was read as its bytes say
unfoldable pub SeenInPlace : Type 0
SeenInPlace = (d : List ℕ) (r : Record) → RecordOf d r → seen_in d r ≡ seen_at d r.start

-- ---- code and window, by the numbers accepted before

-- genuine, not too old and not repeated, with the content c
pub record NewAs (h : Handshake) (numbers : List ℕ) (q : Seen) (c : List ℕ) : Type 0 where
  pub guarded : Guarded h.state q
  pub coded : Coded (keys_of h) q c
  pub recent : highest_of numbers < q.number + h.protection.window.width
  pub unseen : accepted numbers q.number ≡ false

-- ---- content

-- 002 10.2: level 1 to 3, an assigned description, a checksum of four bytes
abbrev pub IsAlert : List ℕ → Type 0
IsAlert c = (length c ≡ 6) × (1 ≤ get_or c 0 0) × (get_or c 0 0 ≤ 3) × (is_assigned (get_or c 1 0) ≡ true)

-- 002 10.5.9: type 20, length 12, 12 bytes
abbrev pub IsFinished : List ℕ → Type 0
IsFinished c = (length c ≡ 15) × (get_or c 0 0 ≡ 20) × (pair_at c 1 ≡ 12)

-- 002 10.5.1.2: the message is what is written of some values that a hello can have; 01: "at most 256 bytes"
pub record WellFormedHello (m : List ℕ) : Type 0 where
  pub values : Values
  pub can : allowed values ≡ true
  pub layout : hello_of values ≡ m

-- "a pair of null cipher with SHA_80 or SHA"
unfoldable pub OffersPair : List ℕ → Type 0
OffersPair [] = ⊥
OffersPair (cipher ∷ []) = ⊥
OffersPair (cipher ∷ mac ∷ rest) = ((cipher ≡ 0) × ((mac ≡ 2) ⊎ (mac ≡ 3))) ⊎ OffersPair rest

-- "It is acceptable if it has version 1, the planted session identifier, a pair .., null compression and explicit
-- numbering."
pub record Acceptable (v : Values) (id : List ℕ) : Type 0 where
  pub version : v.version ≡ 1
  pub session : v.session ≡ id
  pub pair : OffersPair v.suites
  pub compression : is_among v.methods 0 ≡ true
  pub numbering : v.numbering ≡ 2

-- 12, clear: a malformed hello, "clear change cipher spec other than one byte 1", "wrong alert length, unassigned
-- alert level or description"; and under protection: "change cipher spec or a message other than Finished", such an
-- alert, "empty data"
pub data WhyMalformed (h : Handshake) (numbers : List ℕ) (q : Seen) : Type 0 where
  bad_hello : Greets h q → (WellFormedHello q.fragment → ⊥) → WhyMalformed h numbers q
  bad_change : h.state ≡ Replied → q.protected ≡ false → q.content ≡ C.ChangeCipherSpec → q.fragment ≢ 1 ∷ []
      → WhyMalformed h numbers q
  bad_alert : Hears h.state → q.protected ≡ false → q.content ≡ C.Alert → (IsAlert q.fragment → ⊥)
      → WhyMalformed h numbers q
  bad_protected_change : (c : List ℕ) → NewAs h numbers q c → q.content ≡ C.ChangeCipherSpec → WhyMalformed h numbers q
  bad_protected_alert : (c : List ℕ) → NewAs h numbers q c → q.content ≡ C.Alert → (IsAlert c → ⊥) → WhyMalformed h numbers q
  bad_message : (c : List ℕ) → NewAs h numbers q c → q.content ≡ C.Handshake → (IsFinished c → ⊥) → WhyMalformed h numbers q
  empty_data : (c : List ℕ) → NewAs h numbers q c → q.content ≡ C.Data → length c ≡ 0 → WhyMalformed h numbers q

-- ---- the reasons

abbrev pub WhyRecord : Handshake → SentRecords → List ℕ → Seen → Refusal → Type 0
-- 7: "Barred, or Closed"
WhyRecord h sent numbers q X.Ended = Over h.state
-- 8: "record not allowed in this state or place"
WhyRecord h sent numbers q X.NotAllowed =
    (Over h.state → ⊥) × (Allowed h.state q → ⊥) × (Returns h q → ⊥)
-- 9: "code not right"
WhyRecord h sent numbers q X.Forged = Guarded h.state q × ((c : List ℕ) → Coded (keys_of h) q c → ⊥)
-- 10: "too old": "with n the highest number accepted, a number at most n - 32", less the width
WhyRecord h sent numbers q X.TooOld =
    Guarded h.state q × ((c : List ℕ) × Coded (keys_of h) q c) × (q.number + h.protection.window.width ≤ highest_of numbers)
-- 11: "repeated": "a number accepted before"
WhyRecord h sent numbers q X.Repeated =
    Guarded h.state q × ((c : List ℕ) × Coded (keys_of h) q c) × (highest_of numbers < q.number + h.protection.window.width) ×
    (accepted numbers q.number ≡ true)
-- 12: "malformed content"
WhyRecord h sent numbers q X.Malformed = WhyMalformed h numbers q
-- 13: "hello well formed, not acceptable"
WhyRecord h sent numbers q X.Unacceptable =
    Greets h q × ((w : WellFormedHello q.fragment) × (Acceptable w.values h.id → ⊥))
-- 14: "clear alert with another checksum"
WhyRecord h sent numbers q X.Checksum =
    Hears h.state × (q.protected ≡ false) × (q.content ≡ C.Alert) × IsAlert q.fragment ×
    (matches_of sent (word_at q.fragment 2) ≡ false)
-- 17: "genuine Finished with wrong contents"
WhyRecord h sent numbers q X.WrongFinished =
    (c : List ℕ) × NewAs h numbers q c × (q.content ≡ C.Handshake) × IsFinished c × (drop 3 c ≢ h.expected)
-- no other
WhyRecord h sent numbers q (X.Framing fault) = ⊥
WhyRecord h sent numbers q X.Room = ⊥
WhyRecord h sent numbers q X.Spent = ⊥
WhyRecord h sent numbers q X.Argument = ⊥

-- the bytes of a datagram are bytes: what a slice of them holds
abbrev pub Bytes : List ℕ → Type 0
Bytes d = (i : ℕ) → get_or d i 0 < 256

-- the window of a handshake, of a width that it may have, holds these numbers
pub record HoldsNumbers (h : Handshake) (numbers : List ℕ) : Type 0 where
  pub held : Held h.protection.window.width
  pub means : h.protection.window ≡ window_of h.protection.window.width numbers

-- A record of a soundly framed datagram, in a handshake whose window holds the numbers accepted so far (as it does in
-- every run from fresh), is refused so exactly if there is that reason.
unfoldable pub ExactlyRecord : Type 0
ExactlyRecord =
    (h : Handshake) (sent : SentRecords) (numbers random d : List ℕ) (r : Record) → Bytes d → RecordOf d r → HoldsNumbers h numbers
    → (x : Refusal)
    → ((judged_record h sent random d r).answer ≡ W.Refused x) ↔ WhyRecord h sent numbers (seen_at d r.start) x
