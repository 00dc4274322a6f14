-- Demand 3 at the shipboard end, the first half: "Leave out every datagram without a genuine record: the data handed out, its order and
-- the connection are the same." Record by record, from Opening or Open, up to a start again that takes effect.
use Rattle.std.specs.Prelude.{◌≡◌, ◌≢◌, List, [], ◌∷◌, ◌++◌, ℕ}
use Rattle.digest.specs.Pick.{pick}
use Rattle.record.specs.declared.keys.Keys.{Keys}
use Rattle.record.specs.declared.reader.Record.{Record}
use Rattle.unit.specs.Answer.{as_ashore}
use Rattle.unit.specs.Judge.{judged_record}
use Rattle.unit.specs.declared.state.State.TheVariants.{Closed}
use Rattle.unit.specs.declared.unit.Unit.{Unit as Ship}
use Rattle.demands.specs.Genuine.{RecordOf}
use Rattle.demands.specs.Past.{is_data}
use Rattle.demands.specs.Ship.Genuine.{Genuine}
use Rattle.demands.specs.Ship.Table.{Up}
use Rattle.demands.specs.Ship.Events.{Event, took, greeting, repeating, sending, alerting, closing, starting, next, after}
use Rattle.demands.specs.Ship.HandedOut.{handed_by}

-- no start again that takes effect, which is one in Closed
abbrev pub GoesOn : Ship → Event → Type 0
GoesOn u (took d r) = Unit
GoesOn u (greeting random macs refresh out) = Unit
GoesOn u (repeating out) = Unit
GoesOn u (sending bytes out) = Unit
GoesOn u (alerting protected level description answered out) = Unit
GoesOn u closing = Unit
GoesOn u starting = u.state ≢ Closed

-- the second list is the first with some records left out, each not genuine under the keys k
pub data Without (k : Keys) : Ship → List Event → List Event → Type 0 where
  ends : {u : Ship} → Without k u [] []
  both : {u : Ship} {e : Event} {es fs : List Event} → GoesOn u e → Without k (next u e) es fs → Without k u (e ∷ es) (e ∷ fs)
  but : {u : Ship} {d : List ℕ} {r : Record} {es fs : List Event} → RecordOf d r → ((x : List ℕ) → Genuine k d r x → ⊥)
      → Without k (next u (took d r)) es fs → Without k u (took d r ∷ es) fs

-- the byte strings that a run hands out, in order
abbrev pub handed_at : Ship → Event → List (List ℕ)
handed_at u (took d r) =
    pick (is_data (as_ashore (judged_record u d r).answer)) (handed_by d (judged_record u d r).answer ∷ []) []
handed_at u (greeting random macs refresh out) = []
handed_at u (repeating out) = []
handed_at u (sending bytes out) = []
handed_at u (alerting protected level description answered out) = []
handed_at u closing = []
handed_at u starting = []

unfoldable pub handed_over : Ship → List Event → List (List ℕ)
handed_over u [] = []
handed_over u (e ∷ es) = handed_at u e ++ handed_over (next u e) es

unfoldable pub LeavesOutRecords : Type 0
LeavesOutRecords =
    (u : Ship) → Up u.state → (es fs : List Event) → Without u.protection.keys u es fs
    → (after u es ≡ after u fs) × (handed_over u es ≡ handed_over u fs)
