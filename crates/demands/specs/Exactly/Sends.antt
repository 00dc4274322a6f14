-- 01, "Refusal numbers", of the sends: "Send: 16, 7, 8, 15, 6. Data is sent only in Open, protected alerts in
-- Replied, Spec and Open, clear ones in Replied and Spec."
use Rattle.std.specs.Prelude.{◌≡◌, ◌↔◌, ◌⊎◌, Bool, true, false, List, ℕ, ◌+◌, ◌≤◌, ◌<◌, length, Err, Ok}
use Rattle.digest.specs.Mac.{size_of}
use Rattle.connection.specs.declared.connection.Connection.{Connection}
use Rattle.connection.specs.declared.handshake.Handshake.{Handshake}
use Rattle.connection.specs.declared.refusal.Refusal.{Refusal}
use Rattle.connection.specs.declared.refusal.Refusal.TheVariants as X
use Rattle.connection.specs.declared.state.State.{State}
use Rattle.connection.specs.declared.state.State.TheVariants.{Idle, Replied, Spec, Open}
use Rattle.demands.specs.Runs.{send_data, send_alert, sent, Gateway}
use Rattle.demands.specs.Table.{Over}
use Rattle.demands.specs.Exactly.Numbers.{is_assigned}
use Rattle.connection.specs.Send.{sender_of}

-- ---- send data: `size` bytes, our next protected number, the size of our code, and the room lent

-- 16: "data not 1 to 1,300"
abbrev pub DataFits : ℕ → Type 0
DataFits size = (1 ≤ size) × (size ≤ 1300)

-- each refusal after those before it
abbrev pub WhyData : State → ℕ → ℕ → ℕ → ℕ → Refusal → Type 0
-- 16: "data not 1 to 1,300"
WhyData state size number code room X.Argument = (size ≡ 0) ⊎ (1300 < size)
-- 7: "Barred, or Closed"
WhyData state size number code room X.Ended = DataFits size × Over state
-- 8: "call not allowed in this state": "data is sent only in Open"
WhyData state size number code room X.NotAllowed = DataFits size × ((state ≡ Idle) ⊎ (state ≡ Replied) ⊎ (state ≡ Spec))
-- 15: "sending number spent": "sending never passes 65,535"
WhyData state size number code room X.Spent = DataFits size × (state ≡ Open) × (65535 < number)
-- 6: "output buffer too short: under the record's size for send"
WhyData state size number code room X.Room = DataFits size × (state ≡ Open) × (number ≤ 65535) ×
    (room < 3 + size + code)
-- no other
WhyData state size number code room (X.Framing fault) = ⊥
WhyData state size number code room X.Forged = ⊥
WhyData state size number code room X.TooOld = ⊥
WhyData state size number code room X.Repeated = ⊥
WhyData state size number code room X.Malformed = ⊥
WhyData state size number code room X.Unacceptable = ⊥
WhyData state size number code room X.Checksum = ⊥
WhyData state size number code room X.WrongFinished = ⊥

-- where none of these holds
abbrev pub DataGoes : State → ℕ → ℕ → ℕ → ℕ → Type 0
DataGoes state size number code room =
    DataFits size × (state ≡ Open) × (number ≤ 65535) × (3 + size + code ≤ room)

pub record ExactlyData (g : Gateway) : Type 0 where
  pub refused : (c : Connection) (bytes out : List ℕ) (x : Refusal)
      → ((g c (send_data bytes out)).result ≡ sent (Err x) 0)
      ↔ WhyData c.handshake.state (length bytes) c.handshake.protection.protected
      (size_of c.handshake.protection.keys.mac) (length out) x
  pub goes : (c : Connection) (bytes out : List ℕ)
      → ((g c (send_data bytes out)).result ≡ sent (Ok tt) (3 + length bytes + size_of c.handshake.protection.keys.mac))
      ↔ DataGoes c.handshake.state (length bytes) c.handshake.protection.protected
      (size_of c.handshake.protection.keys.mac) (length out)

-- ---- send an alert, protected or clear: a level, a description, and the record of `lent` bytes that it answers. An
-- alert is six bytes.

-- "level or description unknown, record lent for an alert over 1,400"
abbrev pub AlertFits : ℕ → ℕ → ℕ → Type 0
AlertFits level description lent = (1 ≤ level) × (level ≤ 3) × (is_assigned description ≡ true) × (lent ≤ 1400)

-- "protected alerts in Replied, Spec and Open, clear ones in Replied and Spec"
abbrev pub AlertMay : Bool → State → Type 0
AlertMay true state = (state ≡ Replied) ⊎ (state ≡ Spec) ⊎ (state ≡ Open)
AlertMay false state = (state ≡ Replied) ⊎ (state ≡ Spec)

abbrev pub AlertMayNot : Bool → State → Type 0
AlertMayNot true state = state ≡ Idle
AlertMayNot false state = (state ≡ Idle) ⊎ (state ≡ Open)

-- the numbers of protected and of clear records are counted apart; a clear record has no code
abbrev pub alert_number_of : Bool → Handshake → ℕ
alert_number_of true h = h.protection.protected
alert_number_of false h = h.protection.clear

abbrev pub alert_code_of : Bool → Handshake → ℕ
alert_code_of true h = size_of h.protection.keys.mac
alert_code_of false h = 0

abbrev pub WhyAlert : Bool → State → ℕ → ℕ → ℕ → ℕ → ℕ → ℕ → Refusal → Type 0
-- 16: "level or description unknown, record lent for an alert over 1,400"
WhyAlert protected state level description lent number code room X.Argument =
    (level ≡ 0) ⊎ (3 < level) ⊎ (is_assigned description ≡ false) ⊎ (1400 < lent)
-- 7: "Barred, or Closed"
WhyAlert protected state level description lent number code room X.Ended = AlertFits level description lent × Over state
-- 8: "call not allowed in this state"
WhyAlert protected state level description lent number code room X.NotAllowed
    = AlertFits level description lent × AlertMayNot protected state
-- 15: "sending number spent"
WhyAlert protected state level description lent number code room X.Spent =
    AlertFits level description lent × AlertMay protected state × (65535 < number)
-- 6: "output buffer too short: under the record's size for send"
WhyAlert protected state level description lent number code room X.Room =
    AlertFits level description lent × AlertMay protected state × (number ≤ 65535) × (room < 9 + code)
-- no other
WhyAlert protected state level description lent number code room (X.Framing fault) = ⊥
WhyAlert protected state level description lent number code room X.Forged = ⊥
WhyAlert protected state level description lent number code room X.TooOld = ⊥
WhyAlert protected state level description lent number code room X.Repeated = ⊥
WhyAlert protected state level description lent number code room X.Malformed = ⊥
WhyAlert protected state level description lent number code room X.Unacceptable = ⊥
WhyAlert protected state level description lent number code room X.Checksum = ⊥
WhyAlert protected state level description lent number code room X.WrongFinished = ⊥

abbrev pub AlertGoes : Bool → State → ℕ → ℕ → ℕ → ℕ → ℕ → ℕ → Type 0
AlertGoes protected state level description lent number code room =
    AlertFits level description lent × AlertMay protected state × (number ≤ 65535) × (9 + code ≤ room)

-- of the handshake that sends: "clear alerts on the started one, each by its own sending numbers" (02, P6)
pub record ExactlyAlert (g : Gateway) : Type 0 where
  pub refused : (c : Connection) (protected : Bool) (level description : ℕ) (answered out : List ℕ) (x : Refusal)
      → ((g c (send_alert protected level description answered out)).result ≡ sent (Err x) 0)
      ↔ WhyAlert protected (sender_of protected c).state level description (length answered)
      (alert_number_of protected (sender_of protected c))
      (alert_code_of protected (sender_of protected c)) (length out) x
  pub goes : (c : Connection) (protected : Bool) (level description : ℕ) (answered out : List ℕ)
      → ((g c (send_alert protected level description answered out)).result ≡ sent (Ok tt)
      (9 + alert_code_of protected (sender_of protected c)))
      ↔ AlertGoes protected (sender_of protected c).state level description (length answered)
      (alert_number_of protected (sender_of protected c))
      (alert_code_of protected (sender_of protected c)) (length out)
