-- The three demands hold.
use Rattle.message.proofs.Written.{lists_as_written, hellos_as_written}
use Rattle.message.proofs.Saying.{heard_as_said}
use Rattle.demands.specs.Demands.{First, Second, Third, Demands}
use Rattle.demands.proofs.Exactly.Record.{seen-in-place}
use Rattle.demands.proofs.Table.{table_holds}
use Rattle.demands.proofs.Why.{why_answers}
use Rattle.demands.proofs.Named.{named_cases}
use Rattle.demands.proofs.RefusedRecords.{refused_record_in}
use Rattle.demands.proofs.Changes.{record_changes_only, refused_record, close_changes_only, start_changes_only}
use Rattle.demands.proofs.Calls.{calls_hold, fresh_holds}
use Rattle.demands.proofs.Exactly.Answers.{given-exactly-when}
use Rattle.demands.proofs.Refusals.{refused_call, nothing_written, data_changes_only, alert_changes_only, refused_by_the_list}
use Rattle.demands.proofs.Kept.{kept_is_what_happened}
use Rattle.demands.proofs.Finished.{only_after_finished}
use Rattle.demands.proofs.InRuns.{protected_in_runs, wrong_finished_in_runs, leaves_out_of_runs}
use Rattle.demands.proofs.Asked.{asked_holds, left_holds, connection_table}
use Rattle.demands.proofs.Lives.{lives_hold, lives_sound, answers_by_lives, only_after_finished_of_open}
use Rattle.demands.proofs.SentHistory.{sent_is_what_happened, checksum_in_runs}
use Rattle.demands.proofs.Replaced.{replaced_exactly}
use Rattle.demands.proofs.Replies.{replies_right}
use Rattle.demands.proofs.Barred.{barred_only_by_fatal, barred_for_good}
use Rattle.demands.proofs.Fatal.{fatal_in_runs}
use Rattle.demands.proofs.Sends.{data_sent_right, alert_sent_right}
use Rattle.demands.proofs.Written.{read_as_written}
use Rattle.demands.proofs.Sets.{sets}
use Rattle.demands.proofs.LeftOut.{leaves_out_records, open_kept, leaves_out}
use Rattle.demands.proofs.HandedOut.{handed_out, handed_once}
use Rattle.demands.proofs.Traps.{empty_then_data, twice_in_one, closed_between}
use Rattle.demands.proofs.Counts.{counts_right}
use Rattle.demands.proofs.Works.{it_works, reboots}
use Rattle.demands.proofs.Instances.{instances}
use Rattle.demands.proofs.Cases.{cases}
use Rattle.demands.proofs.Places.{runs_are_acts, answers_in_place}
use Rattle.demands.proofs.Gateways.{meets_2, meets_3, demand_2_table, demand_2_settles, five_fail}

pub first : First
first =
    record {
      each_call = calls_hold;
      fresh = fresh_holds;
      exactly_when = given-exactly-when;
      from_the_list = refused_by_the_list;
      refused_call = refused_call;
      refused_record = refused_record;
      refused_in_connection = refused_record_in;
      unwritten = nothing_written;
    }

pub second : Second
second =
    record {
      table = table_holds;
      seen = seen-in-place;
      asked = asked_holds;
      left = left_holds;
      connection_table = connection_table;
      replaced = replaced_exactly;
      lives = lives_hold;
      lives_sound = lives_sound;
      answers_by_lives = answers_by_lives;
      written = read_as_written;
      lists_as_written = lists_as_written;
      hellos_as_written = hellos_as_written;
      heard_as_said = heard_as_said;
      sets = sets;
      record_changes = record_changes_only;
      data_changes = data_changes_only;
      alert_changes = alert_changes_only;
      close_changes = close_changes_only;
      start_changes = start_changes_only;
      kept = kept_is_what_happened;
      protected_in_runs = protected_in_runs;
      sent = sent_is_what_happened;
      checksum_in_runs = checksum_in_runs;
      wrong_finished_in_runs = wrong_finished_in_runs;
      replies = replies_right;
      data_sent_lem = data_sent_right;
      alert_sent_lem = alert_sent_right;
      only_after_finished = only_after_finished;
      only_after_finished_of_open = only_after_finished_of_open;
      fatal_in_runs = fatal_in_runs;
      only_by_fatal = barred_only_by_fatal;
      for_good = barred_for_good;
    }

pub third : Third
third =
    record {
      left_out_records = leaves_out_records;
      left_out = leaves_out;
      left_out_of_runs = leaves_out_of_runs;
      open_kept = open_kept;
      handed_out = handed_out;
      handed_once = handed_once;
      empty_then_data = empty_then_data;
      twice_in_one = twice_in_one;
      closed_between = closed_between;
    }

pub demands : Demands
demands =
    record {
      first = first;
      second = second;
      third = third;
      counts = counts_right;
      works = it_works;
      reboots = reboots;
      instances = instances;
      cases = cases;
      runs_are_acts = runs_are_acts;
      answers_in_place = answers_in_place;
      why = why_answers;
      named = named_cases;
      meets_2 = meets_2;
      meets_3 = meets_3;
      rows_are_table = demand_2_table;
      rows_settle = demand_2_settles;
      five_fail = five_fail;
    }
