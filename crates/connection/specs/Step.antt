-- A record that makes no new reply, as a small step: its answer, the window that it leaves, and where it leads. Made of it: the
-- handshake that the record leaves.
use Rattle.std.specs.Prelude.{Bool, true, false}
use Rattle.record.specs.declared.window.Window.{Window}
use Rattle.connection.specs.Handshake.{with_state, with_window, barred}
use Rattle.connection.specs.Answer.{judged}
use Rattle.connection.specs.declared.state.State.TheVariants as S
use Rattle.connection.specs.declared.refusal.Refusal.{Refusal}
use Rattle.connection.specs.declared.answer.Answer.{Answer}
use Rattle.connection.specs.declared.answer.Answer.TheVariants.{Refused}
use Rattle.connection.specs.declared.answer.Judged.{Judged}
use Rattle.connection.specs.declared.handshake.Handshake.{Handshake}
use Rattle.connection.specs.declared.step.Move.{Move}
use Rattle.connection.specs.declared.step.Move.TheVariants as M
use Rattle.connection.specs.declared.step.Step.{Step}

abbrev pub step : Answer → Window → Move → Step
step answer window next = record { answer = answer; window = window; next = next }

-- a refusal leaves the state alone
abbrev pub refusing_step : Window → Refusal → Step
refusing_step window refusal = step (Refused refusal) window M.Stay

-- the handshake that a step leaves
abbrev pub led_by : Handshake → Window → Move → Handshake
led_by h window M.Stay = with_window h window
led_by h window M.Change = with_state (with_window h window) S.Spec
led_by h window M.Open = with_state (with_window h window) S.Open
led_by h window M.Close = with_state (with_window h window) S.Closed
led_by h window M.Bar = barred (with_window h window)

abbrev pub stepped_by : Handshake → Step → Judged
stepped_by h s = judged s.answer (led_by h s.window s.next)

abbrev pub is_stay : Move → Bool
is_stay M.Stay = true
is_stay M.Change = false
is_stay M.Open = false
is_stay M.Close = false
is_stay M.Bar = false
