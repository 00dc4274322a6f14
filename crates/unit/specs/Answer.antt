-- What an answer stands for (02, P7).
use Rattle.std.specs.Prelude.{List, [], ◌∷◌, ℕ}
use Rattle.connection.specs.declared.answer.Answer.{Answer as Ashore}
use Rattle.connection.specs.declared.answer.Answer.TheVariants as A
use Rattle.unit.specs.declared.answer.Answer.{Answer}
use Rattle.unit.specs.declared.answer.Answer.TheVariants.{Nothing, Hello, Spec, Open, Again, Data, Request, Ignored, Warning, Critical, Fatal, Barred, Refused}
use Rattle.unit.specs.declared.answer.Slot.{Slot}

-- the answer as the shore gives it: what is handed out, what is counted and what a refusal's number is are said there once
abbrev pub as_ashore : Answer → Ashore
as_ashore Nothing = A.Nothing
as_ashore Hello = A.Nothing
as_ashore Spec = A.Spec
as_ashore (Open size) = A.Open
as_ashore Again = A.Again
as_ashore (Data number start size) = A.Data number start size
as_ashore Request = A.Nothing
as_ashore Ignored = A.Nothing
as_ashore (Warning description) = A.Warning description
as_ashore (Critical description) = A.Critical description
as_ashore (Fatal description) = A.Fatal description
as_ashore (Barred description) = A.Barred description
as_ashore (Refused refusal) = A.Refused refusal

-- how many bytes of the flight are written: those of the answer that opened
abbrev pub opens_by : ℕ → Answer → ℕ
opens_by written Nothing = written
opens_by written Hello = written
opens_by written Spec = written
opens_by written (Open size) = size
opens_by written Again = written
opens_by written (Data number start size) = written
opens_by written Request = written
opens_by written Ignored = written
opens_by written (Warning description) = written
opens_by written (Critical description) = written
opens_by written (Fatal description) = written
opens_by written (Barred description) = written
opens_by written (Refused refusal) = written

unfoldable pub opens_to : ℕ → List Answer → ℕ
opens_to written [] = written
opens_to written (answer ∷ more) = opens_to (opens_by written answer) more

-- an answer in its place
abbrev pub slot : Answer → Slot
slot answer = record { answer = answer }
