-- The answers of a receive in 192 lent bytes: eight answers of 24 bytes, one for each record in order, and "nothing"
-- behind them. Numbers have the most significant byte first.
--
--     place  bytes
--         0      1  the kind of the answer
--         1      1  the refusal's number in 01's list; 0 where the answer is no refusal
--         2      1  the alert's description, by its number in 002 10.2; 0 where the answer is no alert
--         3      1  0
--         4      4  the record's number, of data handed out; else 0
--         8      8  where in the datagram the data handed out begins; else 0
--        16      8  the size of the data handed out, or of the reply that was written; else 0
use Rattle.std.specs.Prelude.{List, [], ◌∷◌, ◌++◌, ℕ, zero, suc, ◌+◌, length, get_or, ltb}
use Rattle.digest.specs.Pick.{pick}
use Rattle.digest.specs.Bytes.{bytes4, bytes8, laid_over}
use Rattle.message.specs.Alert.{description_number}
use Rattle.connection.specs.Refusal.{refusal_number}
use Rattle.connection.specs.Receive.{slot}
use Rattle.connection.specs.declared.answer.Answer.{Answer}
use Rattle.connection.specs.declared.answer.Answer.TheVariants.{Nothing, Reply, Resent, Spec, Open, Again, Data, Warning, Critical, Fatal, Barred, Refused}
use Rattle.connection.specs.declared.answer.Slot.{Slot}
use Rattle.lent.specs.Fields.{joined}
use Rattle.lent.specs.declared.report.Entry.{Entry}

-- the numbers of an answer
abbrev pub entry : ℕ → ℕ → ℕ → ℕ → ℕ → ℕ → Entry
entry kind refusal description number start size =
    record { kind = kind; refusal = refusal; description = description; number = number; start = start; size = size }

abbrev pub entry_of : Answer → Entry
entry_of Nothing = entry 0 0 0 0 0 0
entry_of (Reply size) = entry 1 0 0 0 0 size
entry_of (Resent size) = entry 2 0 0 0 0 size
entry_of Spec = entry 3 0 0 0 0 0
entry_of Open = entry 4 0 0 0 0 0
entry_of Again = entry 5 0 0 0 0 0
entry_of (Data number start size) = entry 6 0 0 number start size
entry_of (Warning description) = entry 7 0 (description_number description) 0 0 0
entry_of (Critical description) = entry 8 0 (description_number description) 0 0 0
entry_of (Fatal description) = entry 9 0 (description_number description) 0 0 0
entry_of (Barred description) = entry 10 0 (description_number description) 0 0 0
entry_of (Refused refusal) = entry 11 (refusal_number refusal) 0 0 0 0

-- the bytes of an answer
abbrev pub entry_fields : Entry → List (List ℕ)
entry_fields e =
    (e.kind ∷ e.refusal ∷ e.description ∷ 0 ∷ []) ∷ bytes4 e.number ∷ bytes8 e.start ∷ bytes8 e.size ∷ []

unfoldable pub entry_bytes : Entry → List ℕ
entry_bytes e = joined (entry_fields e)

-- an answer laid over bytes of any size, where it fits
unfoldable pub entry_laid : List ℕ → ℕ → Entry → List ℕ
entry_laid d at e = pick (ltb (length d) (at + 24)) d (laid_over d at (entry_bytes e))

-- the bytes of the first n of the answers of a receive, one behind the other
unfoldable pub report_first : List Slot → ℕ → List (List ℕ)
report_first answers zero = []
report_first answers (suc n) =
    report_first answers n ++ (entry_bytes (entry_of (get_or answers n (slot Nothing)).answer) ∷ [])

-- all eight places
unfoldable pub report_of : List Slot → List ℕ
report_of answers = joined (report_first answers 8)
