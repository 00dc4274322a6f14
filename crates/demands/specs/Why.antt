-- 02, P5, "Why was this report dropped?": the tool "names a refusal exactly when receiving would give it, the facts shown are true, and
-- they are enough to bring that refusal about. Asking changes nothing."
use Rattle.std.specs.Prelude.{◌≡◌, ◌↔◌, ◌⊎◌, ◌≢◌, List, [], ◌∷◌, ℕ, ◌<◌, length, Err, Ok, Result}
use Rattle.connection.specs.declared.receive.Untaken.{Untaken}
use Rattle.record.specs.Window.{Held}
use Rattle.connection.specs.Answer.{answer_number}
use Rattle.connection.specs.Receive.{taken_number}
use Rattle.connection.specs.declared.connection.Connection.{Connection}
use Rattle.connection.specs.declared.receive.Untaken.TheVariants as T
use Rattle.record.specs.declared.reader.Fault.{Fault}
use Rattle.why.specs.Reason.{reason_number}
use Rattle.why.specs.Why.{why_of}
use Rattle.why.specs.declared.reason.Reason.{Reason}
use Rattle.why.specs.declared.reason.Why.{Why}
use Rattle.demands.specs.Runs.{Call, receive, Returned, received, sent, called, Step, Gateway, steps_of, fresh_one}
use Rattle.demands.specs.Acts.{Act, behind}
use Rattle.demands.specs.Exactly.Whole.{CallFits, WhyFaulty, SoundlyFramed, start_of}
use Rattle.demands.specs.Exactly.Record.{Bytes, seen_at}
use Rattle.demands.specs.Exactly.Answers.{answer_given, place_of}
use Rattle.demands.specs.Facts.{KnownEdition, PastLast, WholeFacts, RecordFacts, ShownWith, Place}

-- the number that a receive gives at an index: of the whole datagram, or of that answer; 0 where it is no refusal
abbrev pub number_at : Result ℕ Untaken → ℕ → ℕ
number_at (Ok count) own = own
number_at (Err (T.Refused refusal)) own = taken_number (Err (T.Refused refusal))
number_at (Err (T.Misframed refusal at)) own = taken_number (Err (T.Misframed refusal at))

abbrev pub number_given : Returned → ℕ → ℕ
number_given (received taken answers written) i = number_at taken (answer_number (answer_given (received taken answers written) i))
number_given (sent outcome written) i = 0
number_given (called outcome) i = 0

pub record NamesExactly (g : Gateway) : Type 0 where
  -- of a receive with room as listed
  pub names : (edition : ℕ) (c : Connection) (d random out : List ℕ) (i : ℕ)
      → KnownEdition edition → CallFits (length random) (length out) → (PastLast d i → ⊥)
      → reason_number (why_of edition c d random i).reason ≡ number_given (g c (receive d random out)).result i
  -- "16 for random not 16, then for an index past the last record of a sound datagram"
  pub argument : (edition : ℕ) (c : Connection) (d random : List ℕ) (i : ℕ)
      → (reason_number (why_of edition c d random i).reason ≡ 16)
      ↔ ((length random ≢ 16) ⊎ (KnownEdition edition → ⊥) ⊎ PastLast d i)
  -- "A framing fault is the reason at every index."
  pub every_index : (edition : ℕ) (c : Connection) (d random : List ℕ) (i j : ℕ) → ((n : ℕ) → SoundlyFramed d n → ⊥)
      → why_of edition c d random i ≡ why_of edition c d random j

-- "the facts shown are true"
pub record FactsTrue : Type 0 where
  pub whole : (edition : ℕ) (c : Connection) (d random : List ℕ) (i : ℕ) → KnownEdition edition → length random ≡ 16
      → (fault : Fault) (at : ℕ) → WhyFaulty d fault at → WholeFacts d (why_of edition c d random i).reason
  pub of_record : (edition : ℕ) (c : Connection) (d random : List ℕ) (i : ℕ) → KnownEdition edition → length random ≡ 16 → Bytes d
      → (p : Place c d random i)
      → RecordFacts (place_of c random d p.records i) p.whom p.numbers d (seen_at d (start_of d i))
      (why_of edition c d random i).reason
      × ShownWith (place_of c random d p.records i) p.whom p.numbers d (seen_at d (start_of d i)) i (why_of edition c d random i)

-- "they are enough to bring that refusal about": whoever has facts of a reason gets its refusal
pub record FactsEnough (g : Gateway) : Type 0 where
  pub whole : (c : Connection) (d random out : List ℕ) (i : ℕ) → CallFits (length random) (length out)
      → (reason : Reason) → WholeFacts d reason → number_given (g c (receive d random out)).result i ≡ reason_number reason
  pub of_record : (c : Connection) (d random out : List ℕ) (i : ℕ) → CallFits (length random) (length out) → Bytes d
      → (p : Place c d random i) (reason : Reason)
      → RecordFacts (place_of c random d p.records i) p.whom p.numbers d (seen_at d (start_of d i)) reason
      → number_given (g c (receive d random out)).result i ≡ reason_number reason

-- every record that can come in a run from fresh has its place
unfoldable pub PlacesInRuns : Type 0
PlacesInRuns =
    (id secret : List ℕ) (width : ℕ) → Held width → (acts : List Act) (d random : List ℕ) (n i : ℕ) → SoundlyFramed d n → i < n
    → Place (behind (fresh_one id secret width) acts) d random i

-- "Asking changes nothing": runs in which it is asked in between, of the connection as it is there
pub data Turn : Type 0 where
  calls : Call → Turn
  asks : (edition : ℕ) (d random : List ℕ) (i : ℕ) → Turn

pub data Turned : Type 0 where
  came : Step → Turned
  told : Why → Turned

unfoldable pub turns_of : Gateway → Connection → List Turn → List Turned
turns_of g c [] = []
turns_of g c (calls call ∷ turns) = came (g c call) ∷ turns_of g (g c call).connection turns
turns_of g c (asks edition d random i ∷ turns) = told (why_of edition c d random i) ∷ turns_of g c turns

abbrev pub calls_in : List Turn → List Call
calls_in [] = []
calls_in (calls call ∷ turns) = call ∷ calls_in turns
calls_in (asks edition d random i ∷ turns) = calls_in turns

abbrev pub steps_in : List Turned → List Step
steps_in [] = []
steps_in (came step ∷ turned) = step ∷ steps_in turned
steps_in (told why ∷ turned) = steps_in turned

-- every call gives what it gives where nothing is asked: its result, the output and the connection
unfoldable pub AskingChangesNothing : Gateway → Type 0
AskingChangesNothing g = (c : Connection) (turns : List Turn) → steps_in (turns_of g c turns) ≡ steps_of g c (calls_in turns)

pub record WhyAnswers (g : Gateway) : Type 0 where
  pub exactly : NamesExactly g
  pub true_facts : FactsTrue
  pub enough : FactsEnough g
  pub in_runs : PlacesInRuns
  pub unchanged : AskingChangesNothing g
