-- 02, P5, "Why was this report dropped?": what each reason says of the connection, the datagram, the random and the index. A reason of a
-- record says why it is refused (`Exactly.Record.WhyRecord`), in the handshake that it is for and as the records before it left that,
-- and what each of its facts is; a reason of the whole datagram likewise (`Exactly.Whole.WhyFaulty`).
use Rattle.std.specs.Prelude.{◌≡◌, ◌↔◌, ◌⊎◌, ◌≢◌, true, false, List, [], ◌∷◌, ℕ, ◌+◌, ◌/◌, ◌%◌, ◌^◌, ◌≤◌, ◌<◌, length, get_or, take, drop, Err}
use Rattle.digest.specs.Bytes.{word_at}
use Rattle.digest.specs.Mac.{size_of}
use Rattle.record.specs.Datagram.{framed, framing_of, blank}
use Rattle.record.specs.History.{highest_of}
use Rattle.record.specs.Keys.{key_number}
use Rattle.record.specs.Reader.{pair_at}
use Rattle.record.specs.declared.header.Content.{Content}
use Rattle.record.specs.declared.header.Content.TheVariants as C
use Rattle.record.specs.declared.keys.Keys.{Keys}
use Rattle.record.specs.declared.reader.Fault.TheVariants as F
use Rattle.record.specs.declared.reader.Record.{Record}
use Rattle.message.specs.Hello.{read_of}
use Rattle.message.specs.Values.{Values}
use Rattle.message.specs.declared.acceptance.Condition.{Condition}
use Rattle.message.specs.declared.acceptance.Condition.TheVariants as N
use Rattle.message.specs.declared.hello.Field.{Field}
use Rattle.message.specs.declared.hello.Field.TheVariants as L
use Rattle.connection.specs.Asked.{asked_of}
use Rattle.connection.specs.declared.asked.Whom.{Whom}
use Rattle.connection.specs.declared.connection.Connection.{Connection}
use Rattle.connection.specs.declared.refusal.Refusal.{Refusal}
use Rattle.connection.specs.declared.refusal.Refusal.TheVariants as X
use Rattle.connection.specs.declared.state.State.{State}
use Rattle.connection.specs.declared.state.State.TheVariants.{Spec, Open}
use Rattle.why.specs.declared.reason.Reason.{Reason}
use Rattle.why.specs.declared.reason.Reason.TheVariants as R
use Rattle.why.specs.declared.reason.Under.{Under}
use Rattle.why.specs.declared.reason.Under.TheVariants as U
use Rattle.why.specs.declared.reason.Why.{Why}
use Rattle.demands.specs.Seen.{Seen}
use Rattle.demands.specs.Genuine.{Coded, keys_of}
use Rattle.demands.specs.Table.{IsHello, Greets}
use Rattle.demands.specs.Asked.{Asks}
use Rattle.demands.specs.Exactly.Numbers.{is_among}
use Rattle.demands.specs.Exactly.Whole.{type_at, head_at, size_at, WhyFaulty, SoundlyFramed}
use Rattle.demands.specs.Exactly.Record.{HoldsNumbers, WhyRecord, NewAs, IsFinished, WellFormedHello, OffersPair}
use Rattle.demands.specs.Exactly.Answers.{place_of}

-- ---- 16

-- 02, P11: "an unknown edition is 16"
abbrev pub KnownEdition : ℕ → Type 0
KnownEdition edition = (edition ≡ 1) ⊎ (edition ≡ 2)

-- "an index past the last record of a sound datagram"
abbrev pub PastLast : List ℕ → ℕ → Type 0
PastLast d i = (n : ℕ) × SoundlyFramed d n × (n ≤ i)

-- ---- 1 to 5, of the whole datagram

abbrev pub WholeFacts : List ℕ → Reason → Type 0
WholeFacts d (R.Size size) = WhyFaulty d F.Size 0 × (size ≡ length d)
-- what is left from the type byte on, and how much the header needs
WholeFacts d (R.Header at left needs) = WhyFaulty d F.Header at × (at + left ≡ length d) × (needs ≡ head_at d at)
WholeFacts d (R.TypeByte at byte) = WhyFaulty d F.Kind at × (byte ≡ type_at d at)
-- the length stated, or the rest, and what is left behind the header
WholeFacts d (R.Fragment at stated left) = WhyFaulty d F.Fragment at × (stated ≡ size_at d at) × (at + head_at d at + left ≡ length d)
WholeFacts d (R.Ninth at) = WhyFaulty d F.Ninth at
-- no other
WholeFacts d R.NotRefused = ⊥
WholeFacts d R.Argument = ⊥
WholeFacts d R.Ended = ⊥
WholeFacts d R.NotAllowed = ⊥
WholeFacts d (R.Forged number fragment key code) = ⊥
WholeFacts d (R.ForgedTwice number fragment started-key started-code open-key open_code) = ⊥
WholeFacts d (R.TooOld under number highest limit) = ⊥
WholeFacts d (R.Repeated under number highest mark) = ⊥
WholeFacts d (R.BadHello field) = ⊥
WholeFacts d (R.BadClear size first second) = ⊥
WholeFacts d (R.BadProtected under number size first second) = ⊥
WholeFacts d (R.Unacceptable condition from size) = ⊥
WholeFacts d (R.Checksum checksum) = ⊥
WholeFacts d (R.WrongFinished under number from) = ⊥

-- ---- of a record

-- under the keys of the open handshake, or of one whose Finished has not come
abbrev pub IsUnder : State → Under → Type 0
IsUnder s U.Open = s ≡ Open
IsUnder s U.Started = s ≡ Spec

-- 02, P6: "A protected handshake record is tried under the started one first, once its change cipher spec has come, then under the open
-- one"
abbrev pub BothTried : Connection → Seen → Type 0
BothTried c q = (c.handshake.state ≡ Open) × (c.started.state ≡ Spec) × (q.content ≡ C.Handshake)

-- the number that the key was derived for, and the size of the code, of keys that were tried
abbrev pub TriedWith : Keys → ℕ → ℕ → ℕ → Type 0
TriedWith k number key code = (key ≡ key_number k.refresh number) × (code ≡ size_of k.mac)

-- the first field at fault, reading from the front: "at most 256 bytes", then the header, then the fields in their order
abbrev pub FirstAtFault : List ℕ → Field → Type 0
FirstAtFault m field = ((256 < length m) × (field ≡ L.Size)) ⊎ ((length m ≤ 256) × (read_of m ≡ Err field))

-- "the first condition that failed for a hello"
abbrev pub FirstUnmet : Values → List ℕ → Condition → Type 0
FirstUnmet v id N.Version = v.version ≢ 1
FirstUnmet v id N.SessionId = (v.version ≡ 1) × (v.session ≢ id)
FirstUnmet v id N.CipherSuite = (v.version ≡ 1) × (v.session ≡ id) × (OffersPair v.suites → ⊥)
FirstUnmet v id N.Compression =
    (v.version ≡ 1) × (v.session ≡ id) × OffersPair v.suites × (is_among v.methods 0 ≡ false)
FirstUnmet v id N.Numbering =
    (v.version ≡ 1) × (v.session ≡ id) × OffersPair v.suites × (is_among v.methods 0 ≡ true) × (v.numbering ≢ 2)

-- .. with what the hello had
abbrev pub had_there : Values → Condition → List ℕ
had_there v N.Version = v.version ∷ []
had_there v N.SessionId = v.session
had_there v N.CipherSuite = v.suites
had_there v N.Compression = v.methods
had_there v N.Numbering = v.numbering ∷ []

-- what stands in a malformed content: the value of a change cipher spec of one byte, level and description of an alert of six, type and
-- stated length of a handshake message of three or more
abbrev pub StandsIn : Content → List ℕ → ℕ → ℕ → Type 0
StandsIn C.ChangeCipherSpec m first second = length m ≡ 1 → first ≡ get_or m 0 0
StandsIn C.Alert m first second = length m ≡ 6 → (first ≡ get_or m 0 0) × (second ≡ get_or m 1 0)
StandsIn C.Handshake m first second = 3 ≤ length m → (first ≡ get_or m 0 0) × (second ≡ pair_at m 1)
StandsIn C.Data m first second = Unit

-- A record q of the datagram d, in the connection c, for `whom`, who has accepted these numbers.
module _ (c : Connection) (whom : Whom) (numbers d : List ℕ) (q : Seen) where
  abbrev pub WhyHere : Refusal → Type 0
  WhyHere x = WhyRecord (asked_of c whom) c.sent numbers q x

  abbrev pub RecordFacts : Reason → Type 0
  -- no refusal: no reason for one
  RecordFacts R.NotRefused = (x : Refusal) → WhyHere x → ⊥
  RecordFacts R.Ended = WhyHere X.Ended
  RecordFacts R.NotAllowed = WhyHere X.NotAllowed
  RecordFacts (R.Forged number fragment key code) =
      WhyHere X.Forged × (BothTried c q → ⊥) × (number ≡ q.number) × (fragment ≡ length q.fragment)
      × TriedWith (keys_of (asked_of c whom)) number key code
  RecordFacts (R.ForgedTwice number fragment started-key started-code open-key open_code) =
      WhyHere X.Forged × BothTried c q × ((body : List ℕ) → Coded (keys_of c.started) q body → ⊥)
      × (number ≡ q.number) × (fragment ≡ length q.fragment)
      × TriedWith (keys_of c.started) number started-key started-code × TriedWith (keys_of c.handshake) number open-key open_code
  -- "the highest number and the limit for too old"
  RecordFacts (R.TooOld under number highest limit) =
      WhyHere X.TooOld × IsUnder (asked_of c whom).state under × (number ≡ q.number) × (highest ≡ highest_of numbers)
      × (limit + (asked_of c whom).protection.window.width ≡ highest)
  -- "the earlier acceptance for repeated": its mark, which is set
  RecordFacts (R.Repeated under number highest mark) =
      WhyHere X.Repeated × IsUnder (asked_of c whom).state under × (number ≡ q.number) × (highest ≡ highest_of numbers)
      × (number + mark ≡ highest) × ((asked_of c whom).protection.window.marks / 2 ^ mark % 2 ≡ 1)
  RecordFacts (R.BadHello field) = Greets (asked_of c whom) q × (WellFormedHello q.fragment → ⊥) × FirstAtFault q.fragment field
  RecordFacts (R.BadClear size first second) =
      WhyHere X.Malformed × (q.protected ≡ false) × (IsHello q → ⊥) × (size ≡ length q.fragment)
      × StandsIn q.content q.fragment first second
  RecordFacts (R.BadProtected under number size first second) =
      WhyHere X.Malformed × IsUnder (asked_of c whom).state under × (number ≡ q.number)
      × ((body : List ℕ) × NewAs (asked_of c whom) numbers q body × (size ≡ length body) × StandsIn q.content body first second)
  RecordFacts (R.Unacceptable condition from size) =
      Greets (asked_of c whom) q
      × ((w : WellFormedHello q.fragment) × FirstUnmet w.values (asked_of c whom).id condition
      × (take size (drop from d) ≡ had_there w.values condition))
  RecordFacts (R.Checksum checksum) = WhyHere X.Checksum × (checksum ≡ word_at q.fragment 2)
  -- the twelve bytes found
  RecordFacts (R.WrongFinished under number from) =
      IsUnder (asked_of c whom).state under × (number ≡ q.number)
      × ((body : List ℕ) × NewAs (asked_of c whom) numbers q body × (q.content ≡ C.Handshake) × IsFinished body
      × (drop 3 body ≢ (asked_of c whom).expected) × (take 12 (drop from d) ≡ drop 3 body))
  -- of no record
  RecordFacts R.Argument = ⊥
  RecordFacts (R.Size size) = ⊥
  RecordFacts (R.Header at left needs) = ⊥
  RecordFacts (R.TypeByte at byte) = ⊥
  RecordFacts (R.Fragment at stated left) = ⊥
  RecordFacts (R.Ninth at) = ⊥

  -- "the state, the record's kind and its place", and the checksums that a clear alert is compared with
  pub record ShownWith (i : ℕ) (w : Why) : Type 0 where
    pub state : w.state ≡ c.handshake.state
    pub started : w.started ≡ c.started.state
    pub content : w.content ≡ q.content
    pub protected : w.protected ≡ q.protected
    pub hello : (w.hello ≡ true) ↔ IsHello q
    pub place : w.place ≡ i
    pub sent : w.sent ≡ c.sent

-- record i of a soundly framed datagram: whom it is for, in the connection that the records before it left, and numbers that this one's
-- window holds
pub record Place (c : Connection) (d random : List ℕ) (i : ℕ) : Type 0 where
  pub records : List Record
  pub framing : framing_of d ≡ framed records
  pub inside : i < length records
  pub whom : Whom
  pub asks : Asks (place_of c random d records i) d (get_or records i blank) whom
  pub numbers : List ℕ
  pub holds : HoldsNumbers (asked_of (place_of c random d records i) whom) numbers
