-- 01, "Refusal numbers | Given exactly when", as one statement over a gateway.
use Rattle.demands.specs.Runs.{Gateway}
use Rattle.demands.specs.Exactly.Numbers.{Numbered, ContentsNumbered}
use Rattle.demands.specs.Exactly.Sends.{ExactlyData, ExactlyAlert}
use Rattle.demands.specs.Exactly.Calls.{ExactlyStart, ExactlyClose, ExactlyFresh}
use Rattle.demands.specs.Exactly.Whole.{ExactlyReceive}
use Rattle.demands.specs.Exactly.Record.{ExactlyRecord}
use Rattle.demands.specs.Exactly.Answers.{ExactlyAnswers}

pub record GivenExactlyWhen (g : Gateway) : Type 0 where
  pub numbers : Numbered
  pub contents : ContentsNumbered
  -- fresh connection: 16
  pub fresh_connection : ExactlyFresh
  -- receive: 16, 6, 1, then framing 5, 3, 2, 4 with the offset
  pub receive_whole : ExactlyReceive g
  -- then for each record 7, 8, 9, 10, 11, 12, then 13, 14 or 17
  pub receive_each : ExactlyAnswers g
  pub each_record : ExactlyRecord
  -- sends: 16, 7, 8, 15, 6
  pub sends_data : ExactlyData g
  pub sends_alert : ExactlyAlert g
  -- close: 7; start again: 7, 8
  pub closes : ExactlyClose g
  pub starts_again : ExactlyStart g
