-- A run of calls is a run of events: a receive is its records, one after the other, and the answer of each stands in its place. So what
-- is said over events holds of runs of calls.
use Rattle.std.specs.Prelude.{◌≡◌, List, ◌∷◌, ◌++◌, map, ℕ, ◌≤◌, length}
use Rattle.record.specs.Datagram.{framed, framing_of}
use Rattle.record.specs.declared.reader.Record.{Record}
use Rattle.unit.specs.Judge.{judged_record}
use Rattle.unit.specs.declared.unit.Unit.{Unit as Ship}
use Rattle.demands.specs.Ship.Runs.{Call, receive, step_of, final_of}
use Rattle.demands.specs.Ship.Events.{took, AllSound, events_of, after}
use Rattle.demands.specs.Ship.ExactlyReceive.{answer_given}

-- the unit behind a run of calls is the one behind its events, and each record of them is one of a soundly framed datagram
unfoldable pub RunsAreEvents : Type 0
RunsAreEvents =
    (u : Ship) (calls : List Call) → (final_of step_of u calls ≡ after u (events_of calls)) × AllSound (events_of calls)

-- "one answer per record, each in the state the earlier ones left": behind any run of calls, the answer to the record behind `before`
-- is that of its event, in the unit that the events of the run and the records before it left
unfoldable pub AnswersInPlace : Type 0
AnswersInPlace =
    (u : Ship) (calls : List Call) (d out : List ℕ) (before : List Record) (r : Record) (behind : List Record)
    → 128 ≤ length out → framing_of d ≡ framed (before ++ (r ∷ behind))
    → answer_given (step_of (final_of step_of u calls) (receive d out)).result (length before)
    ≡ (judged_record (after u (events_of calls ++ map (took d) before)) d r).answer
