-- What we send. 01: "After each new reply our data and protected alerts count on from 1, clear alerts from 2, each as
-- a datagram of one record without a length." "Sending never passes 65,535."
use Rattle.std.specs.Prelude.{◌≡◌, Bool, true, false, List, [], ℕ, ◌≤◌, length, take, drop, Ok, Some}
use Rattle.digest.specs.Hmac.{hmac}
use Rattle.digest.specs.Mac.{size_of}
use Rattle.record.specs.Reader.{read_of}
use Rattle.record.specs.Keys.{secret_for}
use Rattle.record.specs.declared.keys.Sense.TheVariants.{FromShore}
use Rattle.record.specs.Code.{fragment_by}
use Rattle.record.specs.declared.reader.Record.{Record}
use Rattle.record.specs.declared.header.Content.{Content}
use Rattle.record.specs.declared.header.Content.TheVariants as C
use Rattle.connection.specs.Calls.{session_of}
use Rattle.connection.specs.Send.{data_sent, data_output, alert_sent, alert_output, alert_body}
use Rattle.message.specs.Alert.{level_of, sorted_of}
use Rattle.message.specs.declared.alert.Level.{Level}
use Rattle.message.specs.declared.alert.Description.{Description}
use Rattle.record.specs.declared.keys.Keys.{Keys}
use Rattle.demands.specs.Events.{Happened, history}
use Rattle.demands.specs.Acts.{Act, SoundActs, behind}
use Rattle.demands.specs.Lives.{no_lives, lives_of, sender_life}
use Rattle.demands.specs.Past.{keys_in, protected_next, next_clear_number}
use Rattle.record.specs.Window.{Held}
use Rattle.demands.specs.Runs.{fresh_with, fresh_one}

-- our MAC secret for number s
abbrev pub our_key : Keys → ℕ → List ℕ
our_key k s = secret_for k FromShore s

-- the bytes are one record without a length that reads back: its number, its content, and a right code under our key
-- for the number
pub record ProtectedRecord (k : Keys) (content : Content) (s : ℕ) (body bytes : List ℕ) : Type 0 where
  pub r : Record
  pub reads : read_of bytes ≡ Ok r
  pub protection : r.protected ≡ true
  pub content_is : r.content ≡ content
  pub number_is : r.number ≡ s
  pub short : r.head ≡ 3
  pub whole : r.used ≡ length bytes
  pub in_range : s ≤ 65535
  pub coded : take r.size (drop r.head bytes) ≡ fragment_by (hmac (our_key k s)) (size_of k.mac) s r.byte body

pub record ClearRecord (s : ℕ) (body bytes : List ℕ) : Type 0 where
  pub r : Record
  pub reads : read_of bytes ≡ Ok r
  pub protection : r.protected ≡ false
  pub content_is : r.content ≡ C.Alert
  pub number_is : r.number ≡ s
  pub short : r.head ≡ 3
  pub whole : r.used ≡ length bytes
  pub in_range : s ≤ 65535
  pub body_is : take r.size (drop r.head bytes) ≡ body

-- in any run from fresh, what a send writes at the front of the output: data, by the life of the open handshake
unfoldable pub DataSentRight : Type 0
DataSentRight =
    (id secret : List ℕ) (width : ℕ) → Held width → (acts : List Act) → SoundActs acts → (bytes out : List ℕ)
    → let c = behind (fresh_one id secret width) acts in
    let past = history (fresh_with id secret width) (lives_of (fresh_one id secret width) no_lives acts).own [] in
    (data_sent c bytes (length out)).outcome ≡ Ok tt
    → ProtectedRecord (keys_in (session_of id secret) past) C.Data (protected_next past) bytes
    (take (data_sent c bytes (length out)).written (data_output c bytes out))

-- an alert: clear or protected, by the life of the handshake that sends it (02, P6: "each by its own sending numbers")
abbrev pub AlertRecord : Bool → Keys → List Happened → List ℕ → List ℕ → Type 0
AlertRecord true k past body bytes = ProtectedRecord k C.Alert (protected_next past) body bytes
AlertRecord false k past body bytes = ClearRecord (next_clear_number past) body bytes

unfoldable pub AlertSentRight : Type 0
AlertSentRight =
    (id secret : List ℕ) (width : ℕ) → Held width → (acts : List Act) → SoundActs acts
    → (protected : Bool) (level description : ℕ) (l : Level) (k : Description) (answered out : List ℕ)
    → level_of level ≡ Some l → sorted_of description ≡ Some k
    → let c = behind (fresh_one id secret width) acts in
    let lives = lives_of (fresh_one id secret width) no_lives acts in
    let past = history (fresh_with id secret width) (sender_life lives protected c.handshake.state) [] in
    (alert_sent c protected level description answered (length out)).outcome ≡ Ok tt
    → AlertRecord protected (keys_in (session_of id secret) past) past (alert_body l k answered)
    (take (alert_sent c protected level description answered (length out)).written
    (alert_output c protected level description answered out))
