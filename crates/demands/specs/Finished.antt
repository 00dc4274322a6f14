-- Demand 2: "Data is handed out only after the unit's Finished has been verified."
use Rattle.std.specs.Prelude.{◌≡◌, true, false, List, [], ◌∷◌, ◌++◌, ℕ, Ok}
use Rattle.message.specs.Acceptance.{heard_of}
use Rattle.message.specs.Finished.{finished_of}
use Rattle.message.specs.declared.acceptance.Plan.{Plan}
use Rattle.record.specs.declared.reader.Record.{Record}
use Rattle.record.specs.declared.header.Content.TheVariants as C
use Rattle.connection.specs.Calls.{session_of}
use Rattle.connection.specs.Judge.{judged_record}
use Rattle.connection.specs.Reply.{expected_of}
use Rattle.connection.specs.declared.answer.Answer.TheVariants.{Open}
use Rattle.connection.specs.declared.handshake.Session.{Session}
use Rattle.demands.specs.Genuine.{Genuine}
use Rattle.demands.specs.Events.{Event, took, Sound, AllSound, Happened, answered, wrote, closed, started, refused, after, history}
use Rattle.demands.specs.Past.{greeting, last_reply, is_reply, is_data, shuts, keys_in}
use Rattle.record.specs.Window.{Held}
use Rattle.demands.specs.Runs.{fresh_with}
use Rattle.connection.specs.declared.sent.SentRecords.{SentRecords}

-- no new reply, no closing and no start
abbrev pub Quiet : List Happened → Type 0
Quiet [] = Unit
Quiet (answered random d r a ∷ past) = (is_reply a ≡ false) × (shuts a ≡ false) × Quiet past
Quiet (wrote protected bytes ∷ past) = Quiet past
Quiet (closed ∷ past) = ⊥
Quiet (started ∷ past) = ⊥
Quiet (refused ∷ past) = Quiet past

-- The unit's Finished was verified: an answer Open, to a record that is genuine under the keys of the last new reply
-- before it, whose message holds the PRF of the very messages of this run: the hello that came in, our hello, our
-- Finished.
pub record Verified (session : Session) (past : List Happened) : Type 0 where
  pub between : List Happened
  pub random : List ℕ
  pub d : List ℕ
  pub r : Record
  pub before : List Happened
  pub split : past ≡ between ++ (answered random d r Open ∷ before)
  pub quiet : Quiet between
  pub hello : List ℕ
  pub ours : List ℕ
  pub plan : Plan
  pub replied : last_reply before ≡ greeting hello ours
  pub heard : heard_of hello session.id ≡ Ok plan
  pub handshake : r.content ≡ C.Handshake
  pub genuine : Genuine (keys_in session before) d r (finished_of (expected_of session ours hello plan))

unfoldable pub OnlyAfterFinished : Type 0
OnlyAfterFinished =
    (id secret : List ℕ) (width : ℕ) → Held width → (es : List Event) → AllSound es
    → (sent : SentRecords) (random d : List ℕ) (r : Record) → Sound (took sent random d r)
    → is_data (judged_record (after (fresh_with id secret width) es) sent random d r).answer ≡ true
    → Verified (session_of id secret) (history (fresh_with id secret width) es [])
