-- What a record does: its answer, the window that it leaves, and where it leads.
use Rattle.record.specs.declared.window.Window.{Window}
use Rattle.connection.specs.declared.refusal.Refusal.{Refusal}
use Rattle.unit.specs.declared.answer.Answer.{Answer}
use Rattle.unit.specs.declared.answer.Answer.TheVariants.{Refused}
use Rattle.unit.specs.declared.step.Move.{Move}
use Rattle.unit.specs.declared.step.Move.TheVariants.{Stay}
use Rattle.unit.specs.declared.step.Step.{Step}

abbrev pub step : Answer → Window → Move → Step
step answer window next = record { answer = answer; window = window; next = next }

-- a refusal leaves the state alone
abbrev pub refusing : Window → Refusal → Step
refusing window refusal = step (Refused refusal) window Stay
