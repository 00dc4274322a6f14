-- What a call changes of the unit, and nothing else of it.
use Rattle.std.specs.Prelude.{◌≡◌, Bool, List, ℕ}
use Rattle.unit.specs.Hello.{again_sent}
use Rattle.unit.specs.Send.{data_sent, alert_sent}
use Rattle.unit.specs.declared.unit.Unit.{Unit as Ship}

-- state, session, offer, expected contents, flight, keys and window are the same: only our sending numbers and the list of the records
-- that we sent may differ
pub record Alike (u x : Ship) : Type 0 where
  pub state_same : x.state ≡ u.state
  pub id_same : x.id ≡ u.id
  pub offer_same : x.offer ≡ u.offer
  pub expected_same : x.expected ≡ u.expected
  pub flight_same : x.flight ≡ u.flight
  pub keys_same : x.protection.keys ≡ u.protection.keys
  pub window_same : x.protection.window ≡ u.protection.window

unfoldable pub SendsChangeOnly : Type 0
SendsChangeOnly =
    ((u : Ship) (bytes : List ℕ) (room : ℕ) → Alike u (data_sent u bytes room).unit)
    × ((u : Ship) (protected : Bool) (level description : ℕ) (answered : List ℕ) (room : ℕ)
    → Alike u (alert_sent u protected level description answered room).unit)

-- what is said again changes nothing and is not counted as sent
unfoldable pub AgainChangesNothing : Type 0
AgainChangesNothing = (u : Ship) (room : ℕ) → (again_sent u room).unit ≡ u
