-- A connection in 940 lent bytes. Every value of a connection has its bytes, and one string of bytes only; which
-- strings are a saved connection is `is_saved`. Numbers have the most significant byte first.
--
--     place  bytes
--         0      4  the mark: "WTG", and 4, the number of this layout
--         4      4  how many records that we sent are kept
--         8     32  the checksums of these records, four bytes each, the newest first
--        40    450  the handshake: the open one, or the only one
--       490    450  the one that was started beside it; in state 0 where there is none
--
-- and a handshake:
--
--     place  bytes
--         0      1  the state: 0 Idle, 1 Replied, 2 Spec, 3 Open, 4 Closed, 5 Barred
--         1      8  the session's identifier
--         9     20  the session's master secret
--        29     16  the server random
--        45     16  the client random
--        61      1  the MAC kind, by its number in 002 appendix A: 2 SHA_80, 3 SHA
--        62      1  the key refresh
--        63     12  the contents that the unit's Finished must have
--        75    256  the kept hello, at the front of its place
--       331      8  its size
--       339     84  the kept reply, at the front of its place
--       423      8  its size
--       431      1  the window: its width
--       432      2  the window: the highest number accepted
--       434      8  the window: the marks
--       442      4  the next protected number
--       446      4  the next clear number
use Rattle.std.specs.Prelude.{Bool, true, false, List, [], ◌∷◌, ◌++◌, ◌≡◌, ℕ, ◌<◌, length, get_or, eqb, ltb}
use Rattle.digest.specs.Pick.{pick}
use Rattle.digest.specs.Bytes.{bytes2, bytes4, bytes8, word_at, laid_over}
use Rattle.digest.specs.Mac.{number_of}
use Rattle.digest.specs.declared.mac.Mac.{Mac}
use Rattle.digest.specs.declared.mac.Mac.TheVariants.{Sha80, Sha}
use Rattle.record.specs.declared.keys.Keys.{Keys}
use Rattle.record.specs.declared.protection.Protection.{Protection}
use Rattle.record.specs.declared.window.Window.{Window}
use Rattle.connection.specs.Handshake.{planted, blank_handshake}
use Rattle.connection.specs.Connection.{alone}
use Rattle.connection.specs.Sent.{no_records}
use Rattle.connection.specs.declared.state.State.{State}
use Rattle.connection.specs.declared.state.State.TheVariants.{Idle, Replied, Spec, Open, Closed, Barred}
use Rattle.connection.specs.declared.handshake.Session.{Session}
use Rattle.connection.specs.declared.handshake.Kept.{Kept}
use Rattle.connection.specs.declared.handshake.Handshake.{Handshake}
use Rattle.connection.specs.declared.sent.SentRecords.{SentRecords}
use Rattle.connection.specs.declared.connection.Connection.{Connection}
use Rattle.lent.specs.Fields.{joined, bytes_in, two_in, eight_in}

-- how many bytes hold a connection, and how many of them a handshake
abbrev pub state_size : ℕ
state_size = 940

abbrev pub handshake_size : ℕ
handshake_size = 450

-- where the two handshakes stand
abbrev pub handshake_place : ℕ
handshake_place = 40

abbrev pub started_place : ℕ
started_place = 490

-- "WTG", 4
abbrev pub mark : ℕ
mark = 0x57544704

-- the number of a state
abbrev pub state_number : State → ℕ
state_number Idle = 0
state_number Replied = 1
state_number Spec = 2
state_number Open = 3
state_number Closed = 4
state_number Barred = 5

-- The fields of a handshake, in their order.
abbrev pub session_fields : State → Session → List (List ℕ)
session_fields state session = (state_number state ∷ []) ∷ session.id ∷ session.secret ∷ []

abbrev pub agreed_fields : Keys → List ℕ → List (List ℕ)
agreed_fields keys expected =
    keys.server ∷ keys.client ∷ (number_of keys.mac ∷ []) ∷ (keys.refresh ∷ []) ∷ expected ∷ []

abbrev pub kept_fields : Kept → List (List ℕ)
kept_fields kept = kept.hello ∷ bytes8 kept.heard ∷ kept.reply ∷ bytes8 kept.size ∷ []

abbrev pub window_fields : Window → List (List ℕ)
window_fields window = (window.width ∷ []) ∷ bytes2 window.highest ∷ bytes8 window.marks ∷ []

abbrev pub sending_fields : Protection → List (List ℕ)
sending_fields p = bytes4 p.protected ∷ bytes4 p.clear ∷ []

abbrev pub handshake_fields : Handshake → List (List ℕ)
handshake_fields h =
    session_fields h.state (planted h)
    ++ agreed_fields h.protection.keys h.expected
    ++ kept_fields h.kept
    ++ window_fields h.protection.window
    ++ sending_fields h.protection

-- eight checksums, each in four bytes
abbrev pub sum_fields : List ℕ → List (List ℕ)
sum_fields sums =
    bytes4 (get_or sums 0 0) ∷ bytes4 (get_or sums 1 0) ∷ bytes4 (get_or sums 2 0) ∷ bytes4 (get_or sums 3 0)
    ∷ bytes4 (get_or sums 4 0) ∷ bytes4 (get_or sums 5 0) ∷ bytes4 (get_or sums 6 0) ∷ bytes4 (get_or sums 7 0) ∷ []

-- the records sent, laid over bytes of any size behind a mark of four, where all of them fit
abbrev pub sent_fields : SentRecords → List (List ℕ)
sent_fields sent = bytes4 sent.count ∷ sum_fields sent.checksums

unfoldable pub sent_laid : List ℕ → SentRecords → List ℕ
sent_laid d sent = pick (ltb (length d) 40) d (laid_over d 4 (joined (sent_fields sent)))

-- the mark, and how many records sent are kept
abbrev pub head_fields : ℕ → List (List ℕ)
head_fields count = bytes4 mark ∷ bytes4 count ∷ []

-- the bytes of a handshake, and those of a connection
unfoldable pub saved_handshake : Handshake → List ℕ
saved_handshake h = joined (handshake_fields h)

unfoldable pub saved_of : Connection → List ℕ
saved_of c =
    joined
    (head_fields c.sent.count
    ++ sum_fields c.sent.checksums
    ++ (saved_handshake c.handshake ∷ saved_handshake c.started ∷ []))

-- which bytes are a saved handshake: a state and a MAC kind
unfoldable pub is_handshake : List ℕ → Bool
is_handshake s =
    pick (ltb 5 (get_or s 0 0)) false (pick (eqb (get_or s 61 0) 2) true (eqb (get_or s 61 0) 3))

-- which bytes are a saved connection: the size, the mark, and two handshakes
unfoldable pub is_saved : List ℕ → Bool
is_saved b =
    pick (eqb (length b) state_size)
    (pick (eqb (word_at b 0) mark)
    (pick (is_handshake (bytes_in b handshake_place handshake_size)) (is_handshake (bytes_in b started_place handshake_size)) false)
    false)
    false

-- The connection of bytes, read from the same places.
unfoldable pub state_numbered : ℕ → State
state_numbered n =
    pick (eqb n 0) Idle
    (pick (eqb n 1) Replied (pick (eqb n 2) Spec (pick (eqb n 3) Open (pick (eqb n 4) Closed Barred))))

unfoldable pub mac_numbered : ℕ → Mac
mac_numbered n = pick (eqb n 2) Sha80 Sha

-- The parts that a handshake and a saved unit have alike, each in bytes of its own: the keys, the window, and the protection of its
-- keys and of what stands of it.
unfoldable pub keys_of : List ℕ → Keys
keys_of k =
    record {
      secret = bytes_in k 0 20;
      server = bytes_in k 20 16;
      client = bytes_in k 36 16;
      mac = mac_numbered (get_or k 52 0);
      refresh = get_or k 53 0;
    }

unfoldable pub window_of : List ℕ → Window
window_of w = record { width = get_or w 0 0; highest = two_in w 1; marks = eight_in w 3 }

unfoldable pub protection_of : List ℕ → List ℕ → Protection
protection_of k s =
    record { keys = keys_of k; window = window_of (bytes_in s 0 11); protected = word_at s 11; clear = word_at s 15 }

-- A handshake of its bytes.
unfoldable pub keys_in : List ℕ → Keys
keys_in s =
    record {
      secret = bytes_in s 9 20;
      server = bytes_in s 29 16;
      client = bytes_in s 45 16;
      mac = mac_numbered (get_or s 61 0);
      refresh = get_or s 62 0;
    }

unfoldable pub kept_in : List ℕ → Kept
kept_in s =
    record { hello = bytes_in s 75 256; heard = eight_in s 331; reply = bytes_in s 339 84; size = eight_in s 423 }

unfoldable pub window_in : List ℕ → Window
window_in s = record { width = get_or s 431 0; highest = two_in s 432; marks = eight_in s 434 }

unfoldable pub protection_in : List ℕ → Protection
protection_in s = record { keys = keys_in s; window = window_in s; protected = word_at s 442; clear = word_at s 446 }

unfoldable pub handshake_in : List ℕ → Handshake
handshake_in s =
    record {
      state = state_numbered (get_or s 0 0);
      id = bytes_in s 1 8;
      expected = bytes_in s 63 12;
      kept = kept_in s;
      protection = protection_in s;
    }

unfoldable pub sent_in : List ℕ → SentRecords
sent_in b =
    record {
      count = word_at b 4;
      checksums =
          word_at b 8 ∷ word_at b 12 ∷ word_at b 16 ∷ word_at b 20 ∷ word_at b 24 ∷ word_at b 28 ∷ word_at b 32 ∷ word_at b 36 ∷ [];
    }

-- those of bytes of any size: none where they do not all stand there
unfoldable pub sent_within : List ℕ → SentRecords
sent_within b = pick (ltb (length b) 40) no_records (sent_in b)

abbrev pub connection_in : List ℕ → Connection
connection_in b =
    record {
      handshake = handshake_in (bytes_in b handshake_place handshake_size);
      started = handshake_in (bytes_in b started_place handshake_size);
      sent = sent_in b;
    }

-- that of bytes of any size: a blank one where they are not as many
unfoldable pub connection_within : List ℕ → Connection
connection_within b = pick (eqb (length b) state_size) (connection_in b) (alone blank_handshake)

-- what bytes load as: a connection, or none
pub data Loaded : Type 0 where
  Is : Connection → Loaded
  No : Loaded

unfoldable pub loaded : List ℕ → Loaded
loaded b = pick (is_saved b) (Is (connection_in b)) No

-- A handshake and a connection are what their types say: arrays of their sizes, numbers in their ranges.
pub record RangedHandshake (h : Handshake) : Type 0 where
  pub id : length h.id ≡ 8
  pub secret : length h.protection.keys.secret ≡ 20
  pub server : length h.protection.keys.server ≡ 16
  pub client : length h.protection.keys.client ≡ 16
  pub expected : length h.expected ≡ 12
  pub hello : length h.kept.hello ≡ 256
  pub heard : h.kept.heard < 18446744073709551616
  pub reply : length h.kept.reply ≡ 84
  pub size : h.kept.size < 18446744073709551616
  pub highest : h.protection.window.highest < 65536
  pub marks : h.protection.window.marks < 18446744073709551616
  pub protected : h.protection.protected < 4294967296
  pub clear : h.protection.clear < 4294967296

pub record SentRanged (s : SentRecords) : Type 0 where
  pub count : s.count < 4294967296
  pub sums : length s.checksums ≡ 8
  pub sum : (i : ℕ) → get_or s.checksums i 0 < 4294967296

pub record Ranged (c : Connection) : Type 0 where
  pub handshake : RangedHandshake c.handshake
  pub started : RangedHandshake c.started
  pub count : c.sent.count < 4294967296
  pub sums : length c.sent.checksums ≡ 8
  pub sum : (i : ℕ) → get_or c.sent.checksums i 0 < 4294967296

-- bytes are below 256
abbrev pub Bytes : List ℕ → Type 0
Bytes b = (i : ℕ) → get_or b i 0 < 256
