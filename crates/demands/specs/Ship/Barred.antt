-- Demand 2 at the shipboard end: "A fatal alert accepted under its authentication code bars that connection's session from being
-- resumed." 01: "Barred holds for this connection and all its starts."
use Rattle.std.specs.Prelude.{◌≡◌, ◌≢◌, List, ℕ, replicate, Some}
use Rattle.record.specs.declared.header.Content.TheVariants as C
use Rattle.record.specs.declared.reader.Record.{Record}
use Rattle.message.specs.Alert.{alert_of}
use Rattle.message.specs.declared.alert.Alert.{Alert}
use Rattle.message.specs.declared.alert.Level.TheVariants as L
use Rattle.unit.specs.declared.state.State.TheVariants.{Barred}
use Rattle.unit.specs.declared.unit.Unit.{Unit as Ship}
use Rattle.record.specs.declared.window.Window.{Window}
use Rattle.demands.specs.Ship.Table.{New}
use Rattle.demands.specs.Ship.Runs.{Call, step_of, final_of}
use Rattle.demands.specs.Ship.Refusals.{lent_by, written_by}
use Rattle.demands.specs.Ship.Events.{Event, took, next}

-- a protected fatal alert, of a kind that the state allows: its code right, its number new, and well formed
pub record FatalUnderCode (u : Ship) (e : Event) : Type 0 where
  pub d : List ℕ
  pub r : Record
  pub event : e ≡ took d r
  pub c : List ℕ
  pub w : Window
  pub new : New u d r c w
  pub alert : r.content ≡ C.Alert
  pub a : Alert
  pub well_formed : alert_of c ≡ Some a
  pub fatal : a.level ≡ L.Fatal

-- barred, and the session's identifier, its secret, both randoms and what Finished is to hold are zeros: "required to forget any session
-- identifiers, keys, and secrets" (002 10.2.2)
pub record Forgot (u : Ship) : Type 0 where
  pub state_is : u.state ≡ Barred
  pub id_is : u.id ≡ replicate 8 0
  pub secret_is : u.protection.keys.secret ≡ replicate 20 0
  pub server_is : u.protection.keys.server ≡ replicate 16 0
  pub client_is : u.protection.keys.client ≡ replicate 16 0
  pub expected_is : u.expected ≡ replicate 12 0

-- a genuine, new, well-formed fatal alert bars
unfoldable pub FatalBars : Type 0
FatalBars = (u : Ship) (e : Event) → FatalUnderCode u e → Forgot (next u e)

-- Barred is reached by a genuine, new fatal alert only
unfoldable pub BarredOnlyByFatal : Type 0
BarredOnlyByFatal = (u : Ship) (e : Event) → u.state ≢ Barred → (next u e).state ≡ Barred → FatalUnderCode u e

-- from then on, in any run, the value does not change and nothing is written
unfoldable pub BarredForGood : Type 0
BarredForGood =
    (u : Ship) → u.state ≡ Barred
    → ((calls : List Call) → final_of step_of u calls ≡ u)
    × ((call : Call) → ((step_of u call).output ≡ lent_by call) × (written_by (step_of u call).result ≡ 0))
