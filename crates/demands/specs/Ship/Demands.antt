-- The three demands at the shipboard end, each sentence with the statements that render it. `proofs/Ship/Demands.antt` has all of them
-- at once.
use Rattle.demands.specs.Ship.Runs.{step_of}
use Rattle.demands.specs.Ship.Table.{TableHolds}
use Rattle.demands.specs.Ship.ExactlyReceive.{GivenExactlyWhen}
use Rattle.demands.specs.Ship.Refusals.{RefusedCallChangesNothing, RefusedRecordChangesNothing}
use Rattle.demands.specs.Ship.Changes.{SendsChangeOnly, AgainChangesNothing}
use Rattle.demands.specs.Ship.Again.{AgainSame}
use Rattle.demands.specs.Ship.Kept.{WindowIsWhatHappened}
use Rattle.demands.specs.Ship.Finished.{OnlyAfterFinished}
use Rattle.demands.specs.Ship.Barred.{FatalBars, BarredOnlyByFatal, BarredForGood}
use Rattle.demands.specs.Ship.LeftOut.{LeavesOutRecords}
use Rattle.demands.specs.Ship.HandedOut.{GoesAlong, HandedOut, HandedOnce}
use Rattle.demands.specs.Ship.InCalls.{RunsAreEvents, AnswersInPlace}
use Rattle.demands.specs.Ship.Writes.{AgainGives, HelloSaidNext, NothingWithoutOpen, DataWritten, AlertWritten}
use Rattle.demands.specs.Ship.Opens.{OpenWrites}
use Rattle.demands.specs.Ship.Counts.{CountsRight}

-- "Bad input is refused with a number from the list. A refused call writes nothing into the output we lend, and the connection is as
-- before, except where the list names the change."
pub record First : Type 0 where
  pub exactly_when : GivenExactlyWhen step_of
  pub refused_call : RefusedCallChangesNothing step_of
  pub refused_record : RefusedRecordChangesNothing

-- "read and written exactly as WAP-261 WTLS of 6 April 2001 defines them"
pub record Second : Type 0 where
  pub table : TableHolds
  pub sends_change : SendsChangeOnly
  pub again_changes : AgainChangesNothing
  pub again_same : AgainSame
  -- "A success writes the counted bytes at the front and no others."
  pub again_gives : AgainGives step_of
  pub hello_said : HelloSaidNext step_of
  pub open_writes : OpenWrites step_of
  pub unwritten : NothingWithoutOpen step_of
  pub data_written : DataWritten step_of
  pub alert_written : AlertWritten step_of
  pub window : WindowIsWhatHappened
  -- "Data is handed out only after .. Finished has been verified": the shore's
  pub only_after_finished : OnlyAfterFinished
  -- "A fatal alert accepted under its authentication code bars that connection's session from being resumed."
  pub fatal_bars : FatalBars
  pub only_by_fatal : BarredOnlyByFatal
  pub for_good : BarredForGood

pub record Third : Type 0 where
  -- "Leave out every datagram without a genuine record: the data handed out, its order and the connection are the same."
  pub left_out_records : LeavesOutRecords
  -- "Each genuine data record of at least one byte, whose number was not accepted before and is above the highest accepted less" the
  -- width, "is handed out by that very call, once, as sent."
  pub goes_along : GoesAlong
  pub handed_out : HandedOut
  pub handed_once : HandedOnce
  -- what is said of events is said of runs of calls
  pub runs_are_events : RunsAreEvents
  pub answers_in_place : AnswersInPlace

pub record Demands : Type 0 where
  pub first : First
  pub second : Second
  pub third : Third
  -- the tally
  pub counts : CountsRight
