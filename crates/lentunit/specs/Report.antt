-- The answers of a receive in 192 lent bytes, laid out as ashore (`lent`'s Report). The kinds that both ends have go by the shore's
-- numbers.
use Rattle.std.specs.Prelude.{List, [], ◌∷◌, ◌++◌, ℕ, zero, suc, get_or}
use Rattle.message.specs.Alert.{description_number}
use Rattle.connection.specs.Refusal.{refusal_number}
use Rattle.lent.specs.Fields.{joined}
use Rattle.lent.specs.Report.{entry, entry_bytes}
use Rattle.lent.specs.declared.report.Entry.{Entry}
use Rattle.unit.specs.Answer.{slot}
use Rattle.unit.specs.declared.answer.Answer.{Answer}
use Rattle.unit.specs.declared.answer.Answer.TheVariants.{Nothing, Hello, Spec, Open, Again, Data, Request, Ignored, Warning, Critical, Fatal, Barred, Refused}
use Rattle.unit.specs.declared.answer.Slot.{Slot}

-- the numbers of an answer; the size of one that opened is that of the flight which was written
abbrev pub entry_of : Answer → Entry
entry_of Nothing = entry 0 0 0 0 0 0
entry_of Hello = entry 1 0 0 0 0 0
entry_of Spec = entry 3 0 0 0 0 0
entry_of (Open size) = entry 4 0 0 0 0 size
entry_of Again = entry 5 0 0 0 0 0
entry_of (Data number start size) = entry 6 0 0 number start size
entry_of (Warning description) = entry 7 0 (description_number description) 0 0 0
entry_of (Critical description) = entry 8 0 (description_number description) 0 0 0
entry_of (Fatal description) = entry 9 0 (description_number description) 0 0 0
entry_of (Barred description) = entry 10 0 (description_number description) 0 0 0
entry_of (Refused refusal) = entry 11 (refusal_number refusal) 0 0 0 0
entry_of Request = entry 12 0 0 0 0 0
entry_of Ignored = entry 13 0 0 0 0 0

-- the bytes of the first n of the answers of a receive, one behind the other
unfoldable pub report_first : List Slot → ℕ → List (List ℕ)
report_first answers zero = []
report_first answers (suc n) =
    report_first answers n ++ (entry_bytes (entry_of (get_or answers n (slot Nothing)).answer) ∷ [])

-- all eight places
unfoldable pub report_of : List Slot → List ℕ
report_of answers = joined (report_first answers 8)
