-- A run of calls is a run of acts: a receive is its records, one after the other, and the answer of each stands in
-- its place.
use Rattle.std.specs.Prelude.{◌≡◌, List, ◌∷◌, ◌++◌, map, ℕ, ◌≤◌, length, get_or}
use Rattle.record.specs.Datagram.{framed, framing_of}
use Rattle.record.specs.declared.reader.Record.{Record}
use Rattle.connection.specs.Told.{told_record}
use Rattle.connection.specs.Receive.{slot}
use Rattle.connection.specs.declared.answer.Answer.{Answer}
use Rattle.connection.specs.declared.answer.Answer.TheVariants.{Nothing}
use Rattle.connection.specs.declared.connection.Connection.{Connection}
use Rattle.demands.specs.Runs.{Call, receive, Gateway, step_of, final_of}
use Rattle.demands.specs.Acts as Q
use Rattle.demands.specs.Acts.{comes, SoundActs, acts_of}
use Rattle.demands.specs.LeftOut.{answers_in}

unfoldable pub RunsAreActs : Type 0
RunsAreActs =
    (c : Connection) (calls : List Call) → (final_of step_of c calls ≡ Q.behind c (acts_of calls)) × SoundActs (acts_of calls)

-- the answer that a gateway gives to the record behind `before` in its datagram
abbrev pub answer_of : Gateway → Connection → List ℕ → List ℕ → List ℕ → List Record → Answer
answer_of g c d random out before =
    (get_or (answers_in (g c (receive d random out)).result) (length before) (slot Nothing)).answer

-- "one answer per record": each in its place, in the state that the records before it left
unfoldable pub AnswersInPlace : Type 0
AnswersInPlace =
    (c : Connection) (d random out : List ℕ) (before : List Record) (r : Record) (behind : List Record)
    → length random ≡ 16 → 128 ≤ length out
    → framing_of d ≡ framed (before ++ (r ∷ behind))
    → answer_of step_of c d random out before
    ≡ (told_record (Q.behind c (map (comes random d) before)) random d r).answer
