-- Small cases of demand 3 that are easy to get wrong. A genuine record refused 12 is accepted all the same; two
-- records of one number in one datagram; a closing record in the midst of a datagram. Each from the Open connection
-- of a worked handshake, with any acceptable hello.
use Rattle.std.specs.Prelude.{◌≡◌, true, false, List, [], ◌∷◌, ◌++◌, ℕ, ◌≤◌, ◌<◌, length, Ok}
use Rattle.digest.specs.Hmac.{hmac}
use Rattle.digest.specs.Mac.{size_of}
use Rattle.record.specs.Code.{protected_by}
use Rattle.record.specs.declared.header.Content.{Content}
use Rattle.record.specs.declared.header.Content.TheVariants as C
use Rattle.message.specs.Alert.{alert_bytes}
use Rattle.message.specs.declared.alert.Description.{Description}
use Rattle.message.specs.declared.alert.Level.TheVariants.{Critical}
use Rattle.connection.specs.Receive.{slots_of}
use Rattle.connection.specs.declared.state.State.TheVariants.{Open}
use Rattle.connection.specs.declared.answer.Answer.TheVariants as W
use Rattle.connection.specs.declared.refusal.Refusal.TheVariants as X
use Rattle.connection.specs.declared.connection.Connection.{Connection}
use Rattle.connection.specs.declared.receive.Untaken.TheVariants as T
use Rattle.demands.specs.Runs.{receive, received, Gateway}
use Rattle.record.specs.declared.keys.Keys.{Keys}
use Rattle.demands.specs.Genuine.{unit_key, keys_of}
use Rattle.record.specs.Window.{Held}
use Rattle.record.specs.History.{window_of}

-- a protected record of the unit with a length, so that another may stand behind it; and one without
abbrev pub long_protected : Keys → Content → ℕ → List ℕ → List ℕ
long_protected k content s body = protected_by (hmac (unit_key k s)) (size_of k.mac) true content s body

abbrev pub last_protected : Keys → Content → ℕ → List ℕ → List ℕ
last_protected k content s body = protected_by (hmac (unit_key k s)) (size_of k.mac) false content s body

-- an Open connection of any width behind the unit's Finished, whose number was 0
pub record JustOpen (c : Connection) : Type 0 where
  pub is_open : c.handshake.state ≡ Open
  pub width : ℕ
  pub held : Held width
  pub window_is : c.handshake.protection.window ≡ window_of width (0 ∷ [])

-- empty data 7, then data 7: 12, 11
unfoldable pub EmptyThenData : Gateway → Type 0
EmptyThenData g =
    (c : Connection) → JustOpen c → (random out bytes : List ℕ) → length random ≡ 16 → 128 ≤ length out
    → length bytes ≤ 1300
    → ((g c (receive (last_protected (keys_of c.handshake) C.Data 7 []) random out)).result
    ≡ received (Ok 1) (slots_of (W.Refused X.Malformed ∷ [])) 0)
    × ((g (g c (receive (last_protected (keys_of c.handshake) C.Data 7 []) random out)).connection
    (receive (last_protected (keys_of c.handshake) C.Data 7 bytes) random out)).result
    ≡ received (Ok 1) (slots_of (W.Refused X.Repeated ∷ [])) 0)

-- two records of one number in one datagram: data, 11
abbrev pub twice : Keys → List ℕ → List ℕ → List ℕ
twice k one two = long_protected k C.Data 7 one ++ last_protected k C.Data 7 two

unfoldable pub TwiceInOne : Gateway → Type 0
TwiceInOne g =
    (c : Connection) → JustOpen c → (random out one two : List ℕ) → length random ≡ 16 → 128 ≤ length out
    → 1 ≤ length one → length one ≤ 600
    → length two ≤ 600
    → (g c (receive (twice (keys_of c.handshake) one two) random out)).result
    ≡ received (Ok 2) (slots_of (W.Data 7 5 (length one) ∷ W.Refused X.Repeated ∷ [])) 0

-- data, critical, data in one datagram: data, critical, 7
abbrev pub with_alert : Keys → List ℕ → List ℕ → List ℕ → List ℕ
with_alert k one alert two = long_protected k C.Data 7 one ++ (long_protected k C.Alert 8 alert ++ last_protected k C.Data 9 two)

unfoldable pub ClosedBetween : Gateway → Type 0
ClosedBetween g =
    (c : Connection) → JustOpen c → (random out one two : List ℕ) (description : Description) (checksum : ℕ)
    → length random ≡ 16 → 128 ≤ length out
    → 1 ≤ length one → length one ≤ 600 → length two ≤ 600 → checksum < 4294967296
    → (g c
    (receive (with_alert (keys_of c.handshake) one (alert_bytes Critical description checksum) two) random out)).result
    ≡ received (Ok 3) (slots_of (W.Data 7 5 (length one) ∷ W.Critical description ∷ W.Refused X.Ended ∷ [])) 0
