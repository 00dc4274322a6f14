-- 01, "Refusal numbers", of the calls without an output: "Start again: 7, then 8 unless Closed. Close: 7. Fresh
-- connection: 16 only."
use Rattle.std.specs.Prelude.{◌≡◌, ◌↔◌, ◌⊎◌, ◌≢◌, List, ℕ, ◌<◌, length, Err, Ok}
use Rattle.record.specs.Window.{Held}
use Rattle.connection.specs.Calls.{fresh_of}
use Rattle.connection.specs.declared.connection.Connection.{Connection}
use Rattle.connection.specs.declared.refusal.Refusal.{Refusal}
use Rattle.connection.specs.declared.refusal.Refusal.TheVariants as X
use Rattle.connection.specs.declared.state.State.{State}
use Rattle.connection.specs.declared.state.State.TheVariants.{Idle, Replied, Spec, Open, Closed, Barred}
use Rattle.demands.specs.Runs.{close, start, called, Gateway}

-- start again: 7 where Barred, "then 8 unless Closed"
abbrev pub WhyStart : State → Refusal → Type 0
WhyStart state X.Ended = state ≡ Barred
WhyStart state X.NotAllowed = (state ≡ Idle) ⊎ (state ≡ Replied) ⊎ (state ≡ Spec) ⊎ (state ≡ Open)
WhyStart state (X.Framing fault) = ⊥
WhyStart state X.Room = ⊥
WhyStart state X.Forged = ⊥
WhyStart state X.TooOld = ⊥
WhyStart state X.Repeated = ⊥
WhyStart state X.Malformed = ⊥
WhyStart state X.Unacceptable = ⊥
WhyStart state X.Checksum = ⊥
WhyStart state X.Spent = ⊥
WhyStart state X.Argument = ⊥
WhyStart state X.WrongFinished = ⊥

pub record ExactlyStart (g : Gateway) : Type 0 where
  pub refused : (c : Connection) (x : Refusal) → ((g c start).result ≡ called (Err x))
      ↔ WhyStart c.handshake.state x
  pub goes : (c : Connection) → ((g c start).result ≡ called (Ok tt)) ↔ (c.handshake.state ≡ Closed)

-- close: 7 where Barred. "Close leads anywhere but Barred to Closed."
abbrev pub WhyClose : State → Refusal → Type 0
WhyClose state X.Ended = state ≡ Barred
WhyClose state (X.Framing fault) = ⊥
WhyClose state X.Room = ⊥
WhyClose state X.NotAllowed = ⊥
WhyClose state X.Forged = ⊥
WhyClose state X.TooOld = ⊥
WhyClose state X.Repeated = ⊥
WhyClose state X.Malformed = ⊥
WhyClose state X.Unacceptable = ⊥
WhyClose state X.Checksum = ⊥
WhyClose state X.Spent = ⊥
WhyClose state X.Argument = ⊥
WhyClose state X.WrongFinished = ⊥

pub record ExactlyClose (g : Gateway) : Type 0 where
  pub refused : (c : Connection) (x : Refusal) → ((g c close).result ≡ called (Err x))
      ↔ WhyClose c.handshake.state x
  pub goes : (c : Connection) → ((g c close).result ≡ called (Ok tt)) ↔ (c.handshake.state ≢ Barred)

-- fresh connection, 16 only: "identifier not 8, secret not 20", "width outside 32 to 64" (02, P1)
abbrev pub WhyFresh : ℕ → ℕ → ℕ → Refusal → Type 0
WhyFresh id secret width X.Argument = (id ≢ 8) ⊎ (secret ≢ 20) ⊎ (width < 32) ⊎ (64 < width)
WhyFresh id secret width (X.Framing fault) = ⊥
WhyFresh id secret width X.Room = ⊥
WhyFresh id secret width X.Ended = ⊥
WhyFresh id secret width X.NotAllowed = ⊥
WhyFresh id secret width X.Forged = ⊥
WhyFresh id secret width X.TooOld = ⊥
WhyFresh id secret width X.Repeated = ⊥
WhyFresh id secret width X.Malformed = ⊥
WhyFresh id secret width X.Unacceptable = ⊥
WhyFresh id secret width X.Checksum = ⊥
WhyFresh id secret width X.Spent = ⊥
WhyFresh id secret width X.WrongFinished = ⊥

pub record ExactlyFresh : Type 0 where
  pub refused : (id secret : List ℕ) (width : ℕ) (x : Refusal) → ((fresh_of id secret width).outcome ≡ Err x)
      ↔ WhyFresh (length id) (length secret) width x
  pub goes : (id secret : List ℕ) (width : ℕ) → ((fresh_of id secret width).outcome ≡ Ok tt)
      ↔ ((length id ≡ 8) × (length secret ≡ 20) × Held width)
