-- The refusals of the unit's calls, each exactly when (02, P7; 01, "Refusal numbers"). A refusal that is not listed is never given.
use Rattle.std.specs.Prelude.{◌≡◌, ◌↔◌, ◌⊎◌, ◌≢◌, Bool, true, false, List, [], ◌∷◌, ℕ, ◌+◌, ◌≤◌, ◌<◌, length, Err, Ok}
use Rattle.digest.specs.Mac.{size_of}
use Rattle.record.specs.Window.{Held}
use Rattle.connection.specs.declared.refusal.Refusal.{Refusal}
use Rattle.connection.specs.declared.refusal.Refusal.TheVariants as X
use Rattle.unit.specs.Calls.{fresh_of}
use Rattle.unit.specs.Hello.{hello_said}
use Rattle.unit.specs.Unit.{flight_of}
use Rattle.unit.specs.declared.state.State.{State}
use Rattle.unit.specs.declared.state.State.TheVariants.{Idle, Sent, Replied, Spec, Opening, Open, Closed, Barred}
use Rattle.unit.specs.declared.unit.Unit.{Unit as Ship}
use Rattle.demands.specs.Exactly.Sends.{DataFits, AlertFits}
use Rattle.demands.specs.Ship.Table.{Midway, Up, Over}
use Rattle.demands.specs.Ship.Runs.{hello, again, send_data, send_alert, close, start, sent, called, Shipboard}

-- before a handshake is up
abbrev pub Down : State → Type 0
Down s = (s ≡ Idle) ⊎ Midway s

-- ---- fresh: "16 only": "identifier not 8, secret not 20", "width outside 32 to 64" (02, P1)

pub data WhyFresh (id secret width : ℕ) : Refusal → Type 0 where
  fresh_16 : (id ≢ 8) ⊎ (secret ≢ 20) ⊎ (width < 32) ⊎ (64 < width) → WhyFresh id secret width X.Argument

pub record ExactlyFresh : Type 0 where
  pub refused : (id secret : List ℕ) (width : ℕ) (x : Refusal)
      → ((fresh_of id secret width).outcome ≡ Err x) ↔ WhyFresh (length id) (length secret) width x
  pub goes : (id secret : List ℕ) (width : ℕ)
      → ((fresh_of id secret width).outcome ≡ Ok tt) ↔ ((length id ≡ 8) × (length secret ≡ 20) × Held width)

-- ---- hello: in Idle only (7, 8). Arguments: client random (16 bytes), MAC kinds in order (one or both of 2, 3, no repetition), refresh
-- 0 to 255; else 16. Then 7, 8, 6.

abbrev pub Kinds : List ℕ → Type 0
Kinds macs = (macs ≡ 2 ∷ []) ⊎ (macs ≡ 3 ∷ []) ⊎ (macs ≡ 2 ∷ 3 ∷ []) ⊎ (macs ≡ 3 ∷ 2 ∷ [])

abbrev pub HelloFits : ℕ → List ℕ → ℕ → Type 0
HelloFits random macs refresh = (random ≡ 16) × (refresh ≤ 255) × Kinds macs

-- 43 bytes with one kind, 45 with two
abbrev pub hello_size : List ℕ → ℕ
hello_size macs = 41 + (length macs + length macs)

pub data WhyHello (state : State) (random : ℕ) (macs : List ℕ) (refresh room : ℕ) : Refusal → Type 0 where
  hello_16 : (HelloFits random macs refresh → ⊥) → WhyHello state random macs refresh room X.Argument
  hello_7 : HelloFits random macs refresh → Over state → WhyHello state random macs refresh room X.Ended
  hello_8 : HelloFits random macs refresh → Midway state ⊎ Up state → WhyHello state random macs refresh room X.NotAllowed
  hello_6 : HelloFits random macs refresh → state ≡ Idle → room < hello_size macs → WhyHello state random macs refresh room X.Room

-- of a unit whose session identifier has its 8 bytes
pub record ExactlyHello (g : Shipboard) : Type 0 where
  pub refused : (u : Ship) → length u.id ≡ 8 → (random macs : List ℕ) (refresh : ℕ) (out : List ℕ) (x : Refusal)
      → ((g u (hello random macs refresh out)).result ≡ sent (Err x) 0)
      ↔ WhyHello u.state (length random) macs refresh (length out) x
  pub goes : (u : Ship) → length u.id ≡ 8 → (random macs : List ℕ) (refresh : ℕ) (out : List ℕ)
      → ((g u (hello random macs refresh out)).result ≡ sent (Ok tt) (hello_size macs))
      ↔ (HelloFits (length random) macs refresh × (u.state ≡ Idle) × (hello_size macs ≤ length out))

-- ---- again: Sent, Replied, Spec: the hello datagram; Opening: the flight; Idle and Open 8; Closed, Barred 7; then 6

-- the datagram that is said again in a state: the hello's, or the flight's
abbrev pub again_bytes : Ship → State → List ℕ
again_bytes u Idle = []
again_bytes u Sent = hello_said u
again_bytes u Replied = hello_said u
again_bytes u Spec = hello_said u
again_bytes u Opening = flight_of u
again_bytes u Open = []
again_bytes u Closed = []
again_bytes u Barred = []

abbrev pub MayAgain : State → Type 0
MayAgain s = Midway s ⊎ (s ≡ Opening)

pub data WhyAgain (state : State) (size room : ℕ) : Refusal → Type 0 where
  again_7 : Over state → WhyAgain state size room X.Ended
  again_8 : (state ≡ Idle) ⊎ (state ≡ Open) → WhyAgain state size room X.NotAllowed
  again_6 : MayAgain state → room < size → WhyAgain state size room X.Room

pub record ExactlyAgain (g : Shipboard) : Type 0 where
  pub refused : (u : Ship) (out : List ℕ) (x : Refusal)
      → ((g u (again out)).result ≡ sent (Err x) 0) ↔ WhyAgain u.state (length (again_bytes u u.state)) (length out) x
  pub goes : (u : Ship) (out : List ℕ)
      → ((g u (again out)).result ≡ sent (Ok tt) (length (again_bytes u u.state)))
      ↔ (MayAgain u.state × (length (again_bytes u u.state) ≤ length out))

-- ---- send data: "Send: 16, 7, 8, 15, 6" in Opening and Open: `size` bytes, our next protected number, the size of our code, the room

pub data WhyData (state : State) (size number code room : ℕ) : Refusal → Type 0 where
  data_16 : (size ≡ 0) ⊎ (1300 < size) → WhyData state size number code room X.Argument
  data_7 : DataFits size → Over state → WhyData state size number code room X.Ended
  data_8 : DataFits size → Down state → WhyData state size number code room X.NotAllowed
  data_15 : DataFits size → Up state → 65535 < number → WhyData state size number code room X.Spent
  data_6 : DataFits size → Up state → number ≤ 65535 → room < 3 + size + code → WhyData state size number code room X.Room

pub record ExactlyData (g : Shipboard) : Type 0 where
  pub refused : (u : Ship) (bytes out : List ℕ) (x : Refusal)
      → ((g u (send_data bytes out)).result ≡ sent (Err x) 0)
      ↔ WhyData u.state (length bytes) u.protection.protected (size_of u.protection.keys.mac) (length out) x
  pub goes : (u : Ship) (bytes out : List ℕ)
      → ((g u (send_data bytes out)).result ≡ sent (Ok tt) (3 + length bytes + size_of u.protection.keys.mac))
      ↔ (DataFits (length bytes) × Up u.state × (u.protection.protected ≤ 65535)
      × (3 + length bytes + size_of u.protection.keys.mac ≤ length out))

-- ---- send an alert: data and protected alerts in Opening and Open, clear alerts in Sent, Replied and Spec. An alert is six bytes.

abbrev pub AlertMay : Bool → State → Type 0
AlertMay true state = Up state
AlertMay false state = Midway state

abbrev pub AlertMayNot : Bool → State → Type 0
AlertMayNot true state = Down state
AlertMayNot false state = (state ≡ Idle) ⊎ Up state

-- the numbers of protected and of clear records are counted apart; a clear record has no code
abbrev pub alert_number_of : Bool → Ship → ℕ
alert_number_of true u = u.protection.protected
alert_number_of false u = u.protection.clear

abbrev pub alert_code_of : Bool → Ship → ℕ
alert_code_of true u = size_of u.protection.keys.mac
alert_code_of false u = 0

pub data WhyAlert (protected : Bool) (state : State) (level description lent number code room : ℕ) : Refusal → Type 0 where
  alert_16 : (AlertFits level description lent → ⊥) → WhyAlert protected state level description lent number code room X.Argument
  alert_7 : AlertFits level description lent → Over state → WhyAlert protected state level description lent number code room X.Ended
  alert_8 : AlertFits level description lent → AlertMayNot protected state
      → WhyAlert protected state level description lent number code room X.NotAllowed
  alert_15 : AlertFits level description lent → AlertMay protected state → 65535 < number
      → WhyAlert protected state level description lent number code room X.Spent
  alert_6 : AlertFits level description lent → AlertMay protected state → number ≤ 65535 → room < 9 + code
      → WhyAlert protected state level description lent number code room X.Room

pub record ExactlyAlert (g : Shipboard) : Type 0 where
  pub refused : (u : Ship) (protected : Bool) (level description : ℕ) (answered out : List ℕ) (x : Refusal)
      → ((g u (send_alert protected level description answered out)).result ≡ sent (Err x) 0)
      ↔ WhyAlert protected u.state level description (length answered) (alert_number_of protected u) (alert_code_of protected u)
      (length out) x
  pub goes : (u : Ship) (protected : Bool) (level description : ℕ) (answered out : List ℕ)
      → ((g u (send_alert protected level description answered out)).result ≡ sent (Ok tt) (9 + alert_code_of protected u))
      ↔ (AlertFits level description (length answered) × AlertMay protected u.state × (alert_number_of protected u ≤ 65535)
      × (9 + alert_code_of protected u ≤ length out))

-- ---- close: 7; start again: "7, then 8 unless Closed"

pub data WhyClose (state : State) : Refusal → Type 0 where
  close_7 : state ≡ Barred → WhyClose state X.Ended

pub record ExactlyClose (g : Shipboard) : Type 0 where
  pub refused : (u : Ship) (x : Refusal) → ((g u close).result ≡ called (Err x)) ↔ WhyClose u.state x
  pub goes : (u : Ship) → ((g u close).result ≡ called (Ok tt)) ↔ (u.state ≢ Barred)

pub data WhyStart (state : State) : Refusal → Type 0 where
  start_7 : state ≡ Barred → WhyStart state X.Ended
  start_8 : Down state ⊎ Up state → WhyStart state X.NotAllowed

pub record ExactlyStart (g : Shipboard) : Type 0 where
  pub refused : (u : Ship) (x : Refusal) → ((g u start).result ≡ called (Err x)) ↔ WhyStart u.state x
  pub goes : (u : Ship) → ((g u start).result ≡ called (Ok tt)) ↔ (u.state ≡ Closed)
