-- What C links: runs of the exported calls on lent bytes. Each call is the one of its name in layer 4, on the connection
-- that the lent bytes hold, or is refused 16 before it and leaves every lent byte as it was. So a run of exported calls
-- is a run of layer 4, and the three demands and the count, which are about layer 4's runs, hold of it.
use Rattle.std.specs.Prelude.{◌≡◌, List, [], ◌∷◌, ◌++◌, ℕ, length}
use Rattle.digest.specs.Pick.{pick}
use Rattle.record.specs.Window.{Held}
use Rattle.connection.specs.declared.connection.Connection.{Connection}
use Rattle.lent.specs.Saved.{state_size, is_saved, Loaded, Is, loaded}
use Rattle.lent.specs.Counts.{tally_in, TallyRanged}
use Rattle.lent.specs.Report.{report_of}
use Rattle.lent.specs.Calls.{result_of, not_taken, refusal_in, sense, lent_for, taken_result, where_taken}
use Rattle.lent.specs.Calls.{fresh_state, fresh_loads, close_result, close_state, close_loads, start_result, start_state, start_loads}
use Rattle.lent.specs.Calls.{data_result, data_state, data_loads, data_out, alert_result, alert_state, alert_loads, alert_out}
use Rattle.lent.specs.Calls.{receive_result, receive_state, receive_loads, receive_tally, receive_answers, receive_out}
use Rattle.demands.specs.Runs as R
use Rattle.demands.specs.Runs.{Call, Returned, Step, step_of, steps_of, final_of, fresh_one}
use Rattle.demands.specs.LeftOut.{tallied_by}

-- an exported call on a connection: its arguments, and the bytes that are lent beside those of the connection and of the
-- tally
pub data Exported : Type 0 where
  receive : (datagram random out answers : List ℕ) → Exported
  send_data : (bytes out : List ℕ) → Exported
  send_alert : (protected level description : ℕ) (answered out : List ℕ) → Exported
  close : Exported
  start : Exported

-- ---- what a call gives and leaves, by its contract

abbrev pub result_after : List ℕ → List ℕ → Exported → ℕ
result_after state tally (receive d random out answers) = receive_result state tally answers d random (length out)
result_after state tally (send_data bytes out) = data_result state bytes (length out)
result_after state tally (send_alert protected level description answered out) =
    alert_result state protected level description answered (length out)
result_after state tally close = close_result state
result_after state tally start = start_result state

abbrev pub state_after : List ℕ → List ℕ → Exported → List ℕ
state_after state tally (receive d random out answers) = receive_state state tally answers d random (length out)
state_after state tally (send_data bytes out) = data_state state bytes (length out)
state_after state tally (send_alert protected level description answered out) =
    alert_state state protected level description answered (length out)
state_after state tally close = close_state state
state_after state tally start = start_state state

-- the clause `loads` of its contract
abbrev pub loads_after : List ℕ → List ℕ → Exported → Loaded
loads_after state tally (receive d random out answers) = receive_loads state tally answers d random (length out)
loads_after state tally (send_data bytes out) = data_loads state bytes (length out)
loads_after state tally (send_alert protected level description answered out) =
    alert_loads state protected level description answered (length out)
loads_after state tally close = close_loads state
loads_after state tally start = start_loads state

abbrev pub tally_after : List ℕ → List ℕ → Exported → List ℕ
tally_after state tally (receive d random out answers) = receive_tally state tally answers d random (length out)
tally_after state tally (send_data bytes out) = tally
tally_after state tally (send_alert protected level description answered out) = tally
tally_after state tally close = tally
tally_after state tally start = tally

abbrev pub out_after : List ℕ → List ℕ → Exported → List ℕ
out_after state tally (receive d random out answers) = receive_out state tally answers d random out
out_after state tally (send_data bytes out) = data_out state bytes out
out_after state tally (send_alert protected level description answered out) =
    alert_out state protected level description answered out
out_after state tally close = []
out_after state tally start = []

abbrev pub answers_after : List ℕ → List ℕ → Exported → List ℕ
answers_after state tally (receive d random out answers) = receive_answers state tally answers d random (length out)
answers_after state tally (send_data bytes out) = []
answers_after state tally (send_alert protected level description answered out) = []
answers_after state tally close = []
answers_after state tally start = []

-- ---- the call of layer 4 that it is

-- "16: argument out of range" comes first, and is no call of layer 4: the bytes are no saved connection, the tally has not
-- 16 bytes or the answers not 192, or an alert is neither clear (0) nor protected (1)
abbrev pub calls_in : List ℕ → List ℕ → Exported → List Call
calls_in state tally (receive d random out answers) =
    pick (lent_for state (length tally) (length answers)) (R.receive d random out ∷ []) []
calls_in state tally (send_data bytes out) = pick (is_saved state) (R.send_data bytes out ∷ []) []
calls_in state tally (send_alert protected level description answered out) =
    pick (is_saved state) (sense protected (λ is_protected. R.send_alert is_protected level description answered out ∷ []) []) []
calls_in state tally close = pick (is_saved state) (R.close ∷ []) []
calls_in state tally start = pick (is_saved state) (R.start ∷ []) []

-- what layer 4's result is as a number, and in the answers
abbrev pub number_of : Returned → ℕ
number_of (R.received taken answers written) = taken_result written taken
number_of (R.sent outcome written) = result_of (refusal_in outcome) written 0
number_of (R.called outcome) = result_of (refusal_in outcome) 0 0

abbrev pub answers_of : List ℕ → Returned → List ℕ
answers_of lent (R.received taken answers written) = where_taken taken (report_of answers) lent
answers_of lent (R.sent outcome written) = lent
answers_of lent (R.called outcome) = lent

-- of no step: 16, and what was lent is as it was
abbrev pub number_in : List Step → ℕ
number_in [] = not_taken
number_in (s ∷ steps) = number_of s.result

abbrev pub out_in : List ℕ → List Step → List ℕ
out_in lent [] = lent
out_in lent (s ∷ steps) = s.output

abbrev pub answers_in : List ℕ → List Step → List ℕ
answers_in lent [] = lent
answers_in lent (s ∷ steps) = answers_of lent s.result

abbrev pub lent_out : Exported → List ℕ
lent_out (receive d random out answers) = out
lent_out (send_data bytes out) = out
lent_out (send_alert protected level description answered out) = out
lent_out close = []
lent_out start = []

abbrev pub lent_answers : Exported → List ℕ
lent_answers (receive d random out answers) = answers
lent_answers (send_data bytes out) = []
lent_answers (send_alert protected level description answered out) = []
lent_answers close = []
lent_answers start = []

-- An exported call on bytes that hold the connection c is that call on c, or 16.
pub record IsLayer4 (c : Connection) (state tally : List ℕ) (call : Exported) : Type 0 where
  pub connection : loaded (state_after state tally call) ≡ Is (final_of step_of c (calls_in state tally call))
  pub result : result_after state tally call ≡ number_in (steps_of step_of c (calls_in state tally call))
  pub output : out_after state tally call ≡ out_in (lent_out call) (steps_of step_of c (calls_in state tally call))
  pub answers : answers_after state tally call ≡ answers_in (lent_answers call) (steps_of step_of c (calls_in state tally call))
  pub counted : tally_in (tally_after state tally call) ≡ tallied_by step_of (tally_in tally) c (calls_in state tally call)

unfoldable pub EachIsLayer4 : Type 0
EachIsLayer4 =
    (state tally : List ℕ) (c : Connection) (call : Exported) → loaded state ≡ Is c → TallyRanged (tally_in tally)
    → loaded (state_after state tally call) ≡ loads_after state tally call
    → IsLayer4 c state tally call

-- ---- runs

-- the bytes at the end of a run, and the calls of layer 4 in it
unfoldable pub final_state : List ℕ → List ℕ → List Exported → List ℕ
final_state state tally [] = state
final_state state tally (call ∷ calls) = final_state (state_after state tally call) (tally_after state tally call) calls

unfoldable pub final_tally : List ℕ → List ℕ → List Exported → List ℕ
final_tally state tally [] = tally
final_tally state tally (call ∷ calls) = final_tally (state_after state tally call) (tally_after state tally call) calls

unfoldable pub calls_of : List ℕ → List ℕ → List Exported → List Call
calls_of state tally [] = []
calls_of state tally (call ∷ calls) =
    calls_in state tally call ++ calls_of (state_after state tally call) (tally_after state tally call) calls

-- each call keeps the clause `loads` of its contract, as it is proved to do
abbrev pub AllKept : List ℕ → List ℕ → List Exported → Type 0
AllKept state tally [] = Unit
AllKept state tally (call ∷ calls) =
    (loaded (state_after state tally call) ≡ loads_after state tally call)
    × AllKept (state_after state tally call) (tally_after state tally call) calls

-- each call of a run is layer 4's, on the connection that those before it left
abbrev pub AllLayer4 : Connection → List ℕ → List ℕ → List Exported → Type 0
AllLayer4 c state tally [] = Unit
AllLayer4 c state tally (call ∷ calls) =
    IsLayer4 c state tally call
    × AllLayer4 (final_of step_of c (calls_in state tally call)) (state_after state tally call) (tally_after state tally call) calls

-- A run of exported calls from bytes that hold c is a run of layer 4 from c: each call gives what it gives there, in the
-- end the bytes hold what it leaves, and the tally is the one that it counts.
unfoldable pub RunsAreLayer4 : Type 0
RunsAreLayer4 =
    (calls : List Exported) (state tally : List ℕ) (c : Connection) → loaded state ≡ Is c → TallyRanged (tally_in tally)
    → AllKept state tally calls
    → (loaded (final_state state tally calls) ≡ Is (final_of step_of c (calls_of state tally calls)))
    × (tally_in (final_tally state tally calls) ≡ tallied_by step_of (tally_in tally) c (calls_of state tally calls))
    × AllLayer4 c state tally calls

-- a fresh connection in lent bytes is layer 4's, from which its runs begin
unfoldable pub FreshIsLayer4 : Type 0
FreshIsLayer4 =
    (id secret : List ℕ) (width : ℕ) (state : List ℕ) → length state ≡ state_size → length id ≡ 8 → length secret ≡ 20
    → Held width → loaded (fresh_state id secret width state) ≡ fresh_loads id secret width state
    → loaded (fresh_state id secret width state) ≡ Is (fresh_one id secret width)

-- 16 before layer 4's call: every lent byte is as it was.
pub record Refused16 (state tally : List ℕ) (call : Exported) : Type 0 where
  pub result : result_after state tally call ≡ not_taken
  pub state_same : state_after state tally call ≡ state
  pub tally_same : tally_after state tally call ≡ tally
  pub out_same : out_after state tally call ≡ lent_out call
  pub answers_same : answers_after state tally call ≡ lent_answers call

unfoldable pub SixteenFirst : Type 0
SixteenFirst =
    (state tally : List ℕ) (call : Exported) → calls_in state tally call ≡ [] → Refused16 state tally call

pub record ExportedHolds : Type 0 where
  pub sixteen : SixteenFirst
  pub fresh : FreshIsLayer4
  pub each : EachIsLayer4
  pub runs : RunsAreLayer4
