-- The three demands, each sentence with the statements that render it. `proofs/Demands.antt` has all of them at once.
use Rattle.message.specs.Said.{ListsAsWritten, HellosAsWritten, HeardAsSaid}
use Rattle.demands.specs.Runs.{step_of}
use Rattle.demands.specs.Table.{TableHolds}
use Rattle.demands.specs.Calls.{CallsHold, FreshHolds}
use Rattle.demands.specs.Exactly.All.{GivenExactlyWhen}
use Rattle.demands.specs.Exactly.Record.{SeenInPlace}
use Rattle.demands.specs.Refusals.{RefusedByTheList, RefusedCallChangesNothing, RefusedRecordChangesNothing, RefusedRecordInConnection, NothingWrittenWithoutReply}
use Rattle.demands.specs.Changes.{RecordChangesOnly, DataChangesOnly, AlertChangesOnly, CloseChangesOnly, StartChangesOnly}
use Rattle.demands.specs.Kept.{KeptIsWhatHappened}
use Rattle.demands.specs.Finished.{OnlyAfterFinished}
use Rattle.demands.specs.InRuns.{ProtectedInRuns, WrongFinishedInRuns, LeavesOutOfRuns}
use Rattle.demands.specs.Asked.{AskedHolds, LeftHolds, ConnectionTable}
use Rattle.demands.specs.Lives.{LivesHold, LivesSound, AnswersByLives, OnlyAfterFinishedOfOpen, SentIsWhatHappened, ChecksumInRuns}
use Rattle.demands.specs.Replaced.{ReplacedExactly}
use Rattle.demands.specs.Replies.{RepliesRight}
use Rattle.demands.specs.Barred.{BarredOnlyByFatal, BarredForGood}
use Rattle.demands.specs.Fatal.{FatalInRuns}
use Rattle.demands.specs.Sends.{DataSentRight, AlertSentRight}
use Rattle.demands.specs.Written.{ReadAsWritten}
use Rattle.demands.specs.Sets.{Sets}
use Rattle.demands.specs.LeftOut.{LeavesOutRecords, OpenKept, LeavesOut, tallied_in}
use Rattle.demands.specs.HandedOut.{HandedOut, HandedOnce}
use Rattle.demands.specs.Traps.{EmptyThenData, TwiceInOne, ClosedBetween}
use Rattle.demands.specs.Counts.{CountsRight}
use Rattle.demands.specs.Works.{Works, Reboots}
use Rattle.demands.specs.Places.{RunsAreActs, AnswersInPlace}
use Rattle.demands.specs.Gateways.{Demand2, Demand3, Demand2IsTable, Demand2Settles, FiveFail}
use Rattle.demands.specs.Instances.{Instances}
use Rattle.demands.specs.Cases.{Cases}
use Rattle.demands.specs.Why.{WhyAnswers}
use Rattle.demands.specs.Named.{NamedCases}

-- "The gateway takes every datagram, of any content, and every order of calls, and always comes back. Bad input is
-- refused with a number from the list. A refused call writes nothing into the output we lend, and the connection is as
-- before, except where the list names the change."
pub record First : Type 0 where
  pub each_call : CallsHold
  pub fresh : FreshHolds
  pub exactly_when : GivenExactlyWhen step_of
  pub from_the_list : RefusedByTheList
  pub refused_call : RefusedCallChangesNothing step_of
  pub refused_record : RefusedRecordChangesNothing
  pub refused_in_connection : RefusedRecordInConnection
  pub unwritten : NothingWrittenWithoutReply

-- "Records, alerts, hellos, key changes and Finished are read and written exactly as WAP-261 WTLS of 6 April 2001
-- defines them, within the stated profile."
pub record Second : Type 0 where
  pub table : TableHolds
  -- .. over records that were read as their bytes say
  pub seen : SeenInPlace
  -- 02, P6, "A unit that rebooted": for whom a record is, and what is left of both handshakes
  pub asked : AskedHolds
  pub left : LeftHolds
  pub connection_table : ConnectionTable
  pub replaced : ReplacedExactly
  -- what is said of every life is said of both handshakes of a connection
  pub lives : LivesHold
  pub lives_sound : LivesSound
  pub answers_by_lives : AnswersByLives
  pub written : ReadAsWritten
  -- key lists and hellos are those that are written of values, each field where it was written; and what is heard of a
  -- hello is what its values say: "the first such pair is chosen", "its key refresh is repeated back"
  pub lists_as_written : ListsAsWritten
  pub hellos_as_written : HellosAsWritten
  pub heard_as_said : HeardAsSaid
  pub sets : Sets
  pub record_changes : RecordChangesOnly
  pub data_changes : DataChangesOnly
  pub alert_changes : AlertChangesOnly
  pub close_changes : CloseChangesOnly
  pub start_changes : StartChangesOnly
  pub kept : KeptIsWhatHappened
  pub protected_in_runs : ProtectedInRuns
  pub sent : SentIsWhatHappened
  pub checksum_in_runs : ChecksumInRuns
  pub wrong_finished_in_runs : WrongFinishedInRuns
  pub replies : RepliesRight
  pub data_sent_lem : DataSentRight
  pub alert_sent_lem : AlertSentRight
  -- "Data is handed out only after the unit's Finished has been verified."
  pub only_after_finished : OnlyAfterFinished
  pub only_after_finished_of_open : OnlyAfterFinishedOfOpen
  -- "A fatal alert accepted under its authentication code bars that connection's session from being resumed."
  pub fatal_in_runs : FatalInRuns
  pub only_by_fatal : BarredOnlyByFatal
  pub for_good : BarredForGood

pub record Third : Type 0 where
  -- "Leave out every datagram without a genuine record: the data handed out, its order and the connection are the
  -- same."
  pub left_out_records : LeavesOutRecords
  pub left_out : LeavesOut step_of
  pub left_out_of_runs : LeavesOutOfRuns
  -- 02, P6: "The open one goes on until the new Finished is verified"
  pub open_kept : OpenKept
  -- "Each genuine data record of at least one byte, whose number was not accepted before and is above the highest
  -- accepted less 32, is handed out by that very call, once, as sent." 02, P1: "Demand 3 reads 'less the width'".
  pub handed_out : HandedOut
  pub handed_once : HandedOnce
  pub empty_then_data : EmptyThenData step_of
  pub twice_in_one : TwiceInOne step_of
  pub closed_between : ClosedBetween step_of

pub record Demands : Type 0 where
  pub first : First
  pub second : Second
  pub third : Third
  -- 01, the tally: "Each count equals the number of such answers since the tally was fresh, up to that stop"
  pub counts : CountsRight step_of tallied_in
  -- no premise is empty, and a run of calls is a run of acts
  pub works : Works step_of
  pub reboots : Reboots step_of
  pub instances : Instances
  pub cases : Cases
  pub runs_are_acts : RunsAreActs
  pub answers_in_place : AnswersInPlace
  -- 02, P5: the tool that names the reason of a refusal
  pub why : WhyAnswers step_of
  pub named : NamedCases
  -- demands 2 and 3 of any gateway; 01: "These must not pass"
  pub meets_2 : Demand2 step_of
  pub meets_3 : Demand3 step_of
  pub rows_are_table : Demand2IsTable
  pub rows_settle : Demand2Settles
  pub five_fail : FiveFail
