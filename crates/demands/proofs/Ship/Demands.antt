-- The three demands at the shipboard end, all at once.
use Rattle.demands.specs.Ship.Demands.{Demands}
use Rattle.demands.proofs.Ship.Table.{table_holds}
use Rattle.demands.proofs.Ship.ExactlyReceive.{given-exactly-when}
use Rattle.demands.proofs.Ship.Refusals.{refused_call, refused_record}
use Rattle.demands.proofs.Ship.Changes.{sends-change-only, again-changes-nothing}
use Rattle.demands.proofs.Ship.Again.{again-same-datagram}
use Rattle.demands.proofs.Ship.Kept.{window-is-what-happened}
use Rattle.demands.proofs.Ship.Finished.{only_after_finished}
use Rattle.demands.proofs.Ship.Barred.{fatal_bars, barred_only_by_fatal, barred_for_good}
use Rattle.demands.proofs.Ship.LeftOut.{leaves_out}
use Rattle.demands.proofs.Ship.HandedOut.{goes_along, handed_out, handed_once}
use Rattle.demands.proofs.Ship.InCalls.{runs_are_events, answers_in_place}
use Rattle.demands.proofs.Ship.Writes.{again_gives, hello-said-next, nothing-without-open, data_written, alert_written}
use Rattle.demands.proofs.Ship.Opens.{open_writes}
use Rattle.demands.proofs.Ship.Counts.{counts_right}

pub demands : Demands
demands =
    record {
      first = record { exactly_when = given-exactly-when; refused_call = refused_call; refused_record = refused_record };
      second = record {
        table = table_holds;
        sends_change = sends-change-only;
        again_changes = again-changes-nothing;
        again_same = again-same-datagram;
        again_gives = again_gives;
        hello_said = hello-said-next;
        open_writes = open_writes;
        unwritten = nothing-without-open;
        data_written = data_written;
        alert_written = alert_written;
        window = window-is-what-happened;
        only_after_finished = only_after_finished;
        fatal_bars = fatal_bars;
        only_by_fatal = barred_only_by_fatal;
        for_good = barred_for_good;
      };
      third = record {
        left_out_records = leaves_out;
        goes_along = goes_along;
        handed_out = handed_out;
        handed_once = handed_once;
        runs_are_events = runs_are_events;
        answers_in_place = answers_in_place;
      };
      counts = counts_right;
    }
