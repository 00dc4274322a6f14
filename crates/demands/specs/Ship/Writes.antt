-- What a successful call writes at the shipboard end. 01: "A success writes the counted bytes at the front and no others." 02, P7: "a
-- call gives the same datagram again".
use Rattle.std.specs.Prelude.{◌≡◌, Bool, true, false, List, ℕ, ◌≤◌, length, take, drop, Err, Ok, Some}
use Rattle.digest.specs.Bytes.{laid_over}
use Rattle.digest.specs.Hmac.{hmac}
use Rattle.digest.specs.Mac.{size_of}
use Rattle.record.specs.Code.{fragment_by}
use Rattle.record.specs.Keys.{secret_for}
use Rattle.record.specs.Reader.{read_of}
use Rattle.record.specs.Written.{record_of}
use Rattle.record.specs.declared.header.Content.{Content}
use Rattle.record.specs.declared.header.Content.TheVariants as C
use Rattle.record.specs.declared.keys.Keys.{Keys}
use Rattle.record.specs.declared.keys.Sense.TheVariants.{FromUnit}
use Rattle.record.specs.declared.reader.Record.{Record}
use Rattle.message.specs.Alert.{level_of, sorted_of}
use Rattle.message.specs.Offer.{kinds_named, offer_hello}
use Rattle.message.specs.declared.alert.Level.{Level}
use Rattle.message.specs.declared.alert.Description.{Description}
use Rattle.message.specs.declared.offer.Kinds.{Kinds}
use Rattle.connection.specs.Send.{alert_body}
use Rattle.unit.specs.Hello.{hello_said, offer_of}
use Rattle.unit.specs.Unit.{flight_of}
use Rattle.unit.specs.declared.answer.Answer.TheVariants.{Open}
use Rattle.unit.specs.declared.state.State.TheVariants.{Opening}
use Rattle.unit.specs.declared.unit.Unit.{Unit as Ship}
use Rattle.demands.specs.Sends.{ClearRecord}
use Rattle.demands.specs.Ship.Table.{Midway}
use Rattle.demands.specs.Ship.Runs.{hello, again, receive, send_data, send_alert, Returned, received, sent, called, Step, Shipboard}
use Rattle.demands.specs.Ship.Refusals.{written_by}
use Rattle.demands.specs.Ship.ExactlyReceive.{answer_given}

-- a call that is done
abbrev pub IsDone : Returned → Type 0
IsDone (received taken answers written) = ⊥
IsDone (sent (Ok tt) written) = Unit
IsDone (sent (Err x) written) = ⊥
IsDone (called outcome) = ⊥

-- done: these bytes at the front of the output and no others, and this unit
abbrev pub wrote_step : List ℕ → List ℕ → Ship → Step
wrote_step out bytes u = record { result = sent (Ok tt) (length bytes); output = laid_over out 0 bytes; unit = u }

-- what is said again: the hello's datagram in the middle of a handshake, the flight in Opening
pub record AgainGives (g : Shipboard) : Type 0 where
  pub the_hello : (u : Ship) (out : List ℕ) → Midway u.state → length (hello_said u) ≤ length out
      → g u (again out) ≡ wrote_step out (hello_said u) u
  pub the_flight : (u : Ship) (out : List ℕ) → u.state ≡ Opening → length (flight_of u) ≤ length out
      → g u (again out) ≡ wrote_step out (flight_of u) u

-- A hello that is done: the ClientHello of its arguments in a clear record of its own, number 0, without a length; and this is what is
-- said again next.
pub record HelloWrote (g : Shipboard) (u : Ship) (random macs : List ℕ) (refresh : ℕ) (out : List ℕ) : Type 0 where
  pub kinds : Kinds
  pub named : kinds_named macs ≡ Some kinds
  pub bytes : List ℕ
  pub bytes_are : bytes ≡ record_of false false C.Handshake 0 (offer_hello random u.id (offer_of kinds refresh))
  pub left : Ship
  pub wrote : g u (hello random macs refresh out) ≡ wrote_step out bytes left
  pub said_next : (more : List ℕ) → length bytes ≤ length more → g left (again more) ≡ wrote_step more bytes left

unfoldable pub HelloSaidNext : Shipboard → Type 0
HelloSaidNext g =
    (u : Ship) (random macs : List ℕ) (refresh : ℕ) (out : List ℕ) → IsDone (g u (hello random macs refresh out)).result
    → HelloWrote g u random macs refresh out

-- a receive where no record opened writes nothing
unfoldable pub NothingWithoutOpen : Shipboard → Type 0
NothingWithoutOpen g =
    (u : Ship) (d out : List ℕ) → ((i size : ℕ) → answer_given (g u (receive d out)).result i ≡ Open size → ⊥)
    → ((g u (receive d out)).output ≡ out) × (written_by (g u (receive d out)).result ≡ 0)

-- the bytes are one record without a length that reads back: its number, its content, and a right code under our key for the number
pub record OurRecord (k : Keys) (content : Content) (s : ℕ) (body bytes : List ℕ) : Type 0 where
  pub r : Record
  pub reads : read_of bytes ≡ Ok r
  pub protection : r.protected ≡ true
  pub content_is : r.content ≡ content
  pub number_is : r.number ≡ s
  pub short : r.head ≡ 3
  pub whole : r.used ≡ length bytes
  pub in_range : s ≤ 65535
  pub coded : take r.size (drop r.head bytes) ≡ fragment_by (hmac (secret_for k FromUnit s)) (size_of k.mac) s r.byte body

-- bytes of this kind, at the front of the output and counted
abbrev pub Lays : Step → List ℕ → (List ℕ → Type 0) → Type 0
Lays s out Kind = (bytes : List ℕ) × Kind bytes × (s.output ≡ laid_over out 0 bytes) × (written_by s.result ≡ length bytes)

unfoldable pub DataWritten : Shipboard → Type 0
DataWritten g =
    (u : Ship) (bytes out : List ℕ) → IsDone (g u (send_data bytes out)).result
    → Lays (g u (send_data bytes out)) out (OurRecord u.protection.keys C.Data u.protection.protected bytes)

-- an alert, protected or clear, of the level and the description that the numbers name
abbrev pub AlertIs : Ship → Bool → List ℕ → List ℕ → Type 0
AlertIs u true body bytes = OurRecord u.protection.keys C.Alert u.protection.protected body bytes
AlertIs u false body bytes = ClearRecord u.protection.clear body bytes

unfoldable pub AlertWritten : Shipboard → Type 0
AlertWritten g =
    (u : Ship) (protected : Bool) (level description : ℕ) (answered out : List ℕ)
    → IsDone (g u (send_alert protected level description answered out)).result
    → (l : Level) × (k : Description) × (level_of level ≡ Some l) × (sorted_of description ≡ Some k)
    × Lays (g u (send_alert protected level description answered out)) out (AlertIs u protected (alert_body l k answered))
