-- 01, "Refusal numbers", of a datagram as a whole: "Receive: 16, 6, 1, then framing from the front (per record 5, 3,
-- 2, 4), then one answer per record. 1 to 5 refuse the whole datagram and give the offset of the record at fault (0
-- for 1)." Said over the bytes.
use Rattle.std.specs.Prelude.{◌≡◌, ◌↔◌, ◌⊎◌, ◌≢◌, Bool, true, false, List, [], ℕ, zero, suc, ◌+◌, ◌-◌, ◌%◌, ◌≤◌, ◌<◌, length, get_or, Err, Ok}
use Rattle.digest.specs.Pick.{pick}
use Rattle.record.specs.Header.{bit}
use Rattle.record.specs.Reader.{pair_at}
use Rattle.record.specs.declared.reader.Fault.{Fault}
use Rattle.record.specs.declared.reader.Fault.TheVariants as F
use Rattle.connection.specs.Receive.{slots_of}
use Rattle.connection.specs.declared.answer.Slot.{Slot}
use Rattle.connection.specs.declared.connection.Connection.{Connection}
use Rattle.connection.specs.declared.receive.Untaken.TheVariants as T
use Rattle.connection.specs.declared.refusal.Refusal.{Refusal}
use Rattle.connection.specs.declared.refusal.Refusal.TheVariants as X
use Rattle.demands.specs.Runs.{receive, received, Gateway}

-- ---- the record that begins at `at`, byte by byte

-- "Type byte: bit 0 length present, bit 1 sequence number present, bit 2 protected, bit 3 reserved, bits 4 to 7
-- content"
abbrev pub type_at : List ℕ → ℕ → ℕ
type_at d at = get_or d at 0

abbrev pub long_at : List ℕ → ℕ → Bool
long_at d at = bit 0 (type_at d at)

abbrev pub numbered_at : List ℕ → ℕ → Bool
numbered_at d at = bit 1 (type_at d at)

abbrev pub reserved_at : List ℕ → ℕ → Bool
reserved_at d at = bit 3 (type_at d at)

abbrev pub content_at : List ℕ → ℕ → ℕ
content_at d at = type_at d at % 16

-- 3: "reserved bit set, no sequence number, content not 1 to 4"
abbrev pub WrongType : List ℕ → ℕ → Type 0
WrongType d at = (reserved_at d at ≡ true) ⊎ (numbered_at d at ≡ false) ⊎ (content_at d at ≡ 0) ⊎ (4 < content_at d at)

abbrev pub RightType : List ℕ → ℕ → Type 0
RightType d at = (reserved_at d at ≡ false) × (numbered_at d at ≡ true) × (1 ≤ content_at d at) × (content_at d at ≤ 4)

-- the header's fields: type byte, "then the sequence number (2 bytes), the length (2 bytes, if present)"
abbrev pub head_at : List ℕ → ℕ → ℕ
head_at d at = pick (long_at d at) 5 3

-- the fragment's length as stated. "Without a length the fragment is the rest of the datagram."
abbrev pub size_at : List ℕ → ℕ → ℕ
size_at d at = pick (long_at d at) (pair_at d (at + 3)) (length d - (at + 3))

-- 2: "the header's fields pass the end"
abbrev pub HeaderPasses : List ℕ → ℕ → Type 0
HeaderPasses d at = length d < at + head_at d at

-- 4: "length past the end, or empty fragment"
abbrev pub WrongFragment : List ℕ → ℕ → Type 0
WrongFragment d at = (size_at d at ≡ 0) ⊎ (length d < at + head_at d at + size_at d at)

-- none of these
pub record SoundAt (d : List ℕ) (at : ℕ) : Type 0 where
  pub begins : at < length d
  pub right : RightType d at
  pub head : at + head_at d at ≤ length d
  pub some : 0 < size_at d at
  pub inside : at + head_at d at + size_at d at ≤ length d

-- "from the front": where record n begins, the first one at 0 and each later one where the one before it ends
unfoldable pub start_of : List ℕ → ℕ → ℕ
start_of d zero = 0
start_of d (suc n) = start_of d n + head_at d (start_of d n) + size_at d (start_of d n)

-- the first n records are sound
unfoldable pub SoundBefore : List ℕ → ℕ → Type 0
SoundBefore d zero = Unit
SoundBefore d (suc n) = SoundBefore d n × SoundAt d (start_of d n)

-- ---- the datagram

-- "a datagram is 1 to 1,400 bytes"
abbrev pub SizeFits : List ℕ → Type 0
SizeFits d = (1 ≤ length d) × (length d ≤ 1400)

-- n records are sound, and behind them, at `at`, another one begins
pub record Reached (d : List ℕ) (n at : ℕ) : Type 0 where
  pub fits : SizeFits d
  pub sound : SoundBefore d n
  pub here : at ≡ start_of d n
  pub begins : at < length d

-- why a datagram is refused for its framing, with the offset; "per record 5, 3, 2, 4"
abbrev pub WhyFaulty : List ℕ → Fault → ℕ → Type 0
-- 1: "datagram of 0 or over 1,400 bytes"
WhyFaulty d F.Size at = (at ≡ 0) × ((length d ≡ 0) ⊎ (1400 < length d))
-- 5: "a ninth record begins"
WhyFaulty d F.Ninth at = Reached d 8 at
-- 3, 2, 4, of one of the first eight
WhyFaulty d F.Kind at = (n : ℕ) × (n < 8) × Reached d n at × WrongType d at
WhyFaulty d F.Header at = (n : ℕ) × (n < 8) × Reached d n at × RightType d at × HeaderPasses d at
WhyFaulty d F.Fragment at = (n : ℕ) × (n < 8) × Reached d n at × RightType d at ×
    (at + head_at d at ≤ length d) × WrongFragment d at

-- 1 to 5 are the only ones that have an offset
abbrev pub WhyMisframed : List ℕ → Refusal → ℕ → Type 0
WhyMisframed d (X.Framing fault) at = WhyFaulty d fault at
WhyMisframed d X.Room at = ⊥
WhyMisframed d X.Ended at = ⊥
WhyMisframed d X.NotAllowed at = ⊥
WhyMisframed d X.Forged at = ⊥
WhyMisframed d X.TooOld at = ⊥
WhyMisframed d X.Repeated at = ⊥
WhyMisframed d X.Malformed at = ⊥
WhyMisframed d X.Unacceptable at = ⊥
WhyMisframed d X.Checksum at = ⊥
WhyMisframed d X.Spent at = ⊥
WhyMisframed d X.Argument at = ⊥
WhyMisframed d X.WrongFinished at = ⊥

-- 16: "random not 16"; 6: "output buffer too short: under 128 for receive"
abbrev pub WhyWhole : ℕ → ℕ → Refusal → Type 0
WhyWhole random room X.Argument = random ≢ 16
WhyWhole random room X.Room = (random ≡ 16) × (room < 128)
WhyWhole random room (X.Framing fault) = ⊥
WhyWhole random room X.Ended = ⊥
WhyWhole random room X.NotAllowed = ⊥
WhyWhole random room X.Forged = ⊥
WhyWhole random room X.TooOld = ⊥
WhyWhole random room X.Repeated = ⊥
WhyWhole random room X.Malformed = ⊥
WhyWhole random room X.Unacceptable = ⊥
WhyWhole random room X.Checksum = ⊥
WhyWhole random room X.Spent = ⊥
WhyWhole random room X.WrongFinished = ⊥

-- neither 16 nor 6
abbrev pub CallFits : ℕ → ℕ → Type 0
CallFits random room = (random ≡ 16) × (128 ≤ room)

-- "A datagram is 1 to 1,400 bytes and 1 to 8 records": n sound records, and nothing behind them
pub record SoundlyFramed (d : List ℕ) (n : ℕ) : Type 0 where
  pub fits : SizeFits d
  pub some : 1 ≤ n
  pub few : n ≤ 8
  pub sound : SoundBefore d n
  pub whole : start_of d n ≡ length d

pub record ExactlyReceive (g : Gateway) : Type 0 where
  -- 16 and 6, without an offset
  pub refused : (c : Connection) (d random out : List ℕ) (x : Refusal)
      → ((g c (receive d random out)).result ≡ received (Err (T.Refused x)) (slots_of []) 0)
      ↔ WhyWhole (length random) (length out) x
  -- 1 to 5, with it
  pub misframed : (c : Connection) (d random out : List ℕ) (x : Refusal) (at : ℕ)
      → ((g c (receive d random out)).result ≡ received (Err (T.Misframed x at)) (slots_of []) 0)
      ↔ (CallFits (length random) (length out) × WhyMisframed d x at)
  -- taken, with its n records
  pub taken : (c : Connection) (d random out : List ℕ) (n : ℕ)
      → ((answers : List Slot) × (written : ℕ) ×
      ((g c (receive d random out)).result ≡ received (Ok n) answers written))
      ↔ (CallFits (length random) (length out) × SoundlyFramed d n)
