-- 02, P7: "a call gives the same datagram again until the first data or the warning on a repeated Finished arrives": the hello's, as it
-- was written, until the shore's Finished is verified; then the flight's, as it was written, until Opening is left.
use Rattle.std.specs.Prelude.{◌≡◌, List, ℕ}
use Rattle.record.specs.declared.reader.Record.{Record}
use Rattle.unit.specs.Hello.{hello_said}
use Rattle.unit.specs.Judge.{judged_record}
use Rattle.unit.specs.Unit.{flight_of}
use Rattle.unit.specs.declared.state.State.TheVariants.{Opening}
use Rattle.unit.specs.declared.unit.Unit.{Unit as Ship}
use Rattle.demands.specs.Ship.Table.{Midway}

pub record AgainSame : Type 0 where
  -- no event of a handshake changes the hello that is said again ..
  pub hello_kept : (u : Ship) (d : List ℕ) (r : Record) → Midway u.state → Midway (judged_record u d r).unit.state
      → hello_said (judged_record u d r).unit ≡ hello_said u
  -- .. nor the flight while Opening lasts
  pub flight_kept : (u : Ship) (d : List ℕ) (r : Record) → u.state ≡ Opening → (judged_record u d r).unit.state ≡ Opening
      → flight_of (judged_record u d r).unit ≡ flight_of u
