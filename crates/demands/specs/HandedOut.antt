-- Demand 3: "Each genuine data record of at least one byte, whose number was not accepted before and is above the
-- highest accepted less 32, is handed out by that very call, once, as sent." Since 02, P1: "less the width".
use Rattle.std.specs.Prelude.{◌≡◌, ◌↔◌, ◌≢◌, true, false, List, [], ◌∷◌, ◌++◌, map, ℕ}
use Rattle.record.specs.Window.{Held}
use Rattle.record.specs.declared.reader.Record.{Record}
use Rattle.connection.specs.Answer.{handed_of}
use Rattle.connection.specs.Calls.{session_of}
use Rattle.connection.specs.Told.{told_record}
use Rattle.connection.specs.declared.state.State.TheVariants.{Open}
use Rattle.connection.specs.declared.handshake.Session.{Session}
use Rattle.demands.specs.Genuine.{RecordOf}
use Rattle.demands.specs.Events.{Event, Happened, history}
use Rattle.demands.specs.Acts.{Act, comes, SoundActs, event_of, behind}
use Rattle.demands.specs.Lives.{no_lives, lives_of}
use Rattle.demands.specs.LeftOut.{Unreplaced}
use Rattle.demands.specs.Past.{is_data, keys_in, expected_in, accepted_in}
use Rattle.demands.specs.Course.{Course, course_of, Ongoing, Due}
use Rattle.demands.specs.Runs.{fresh_with, fresh_one}

-- the course from a place of a run on: the width, the numbers accepted up to there, and nothing closed
abbrev pub course_at : ℕ → List Happened → Course
course_at width past = record { width = width; numbers = accepted_in past; shut = false }

abbrev pub course_from : Session → ℕ → List Happened → List Event → Course
course_from session width past es = course_of (keys_in session past) (expected_in session past) (course_at width past) es

abbrev pub OngoingFrom : Session → ℕ → List Happened → List Event → Type 0
OngoingFrom session width past es = Ongoing (keys_in session past) (expected_in session past) (course_at width past) es

-- what happened in the life of the open handshake of a run from fresh
abbrev pub past_of : List ℕ → List ℕ → ℕ → List Act → List Happened
past_of id secret width acts =
    history (fresh_with id secret width) (lives_of (fresh_one id secret width) no_lives acts).own []

-- From any place where a run from fresh is Open, and any later acts up to a start again that takes effect, or a record that is right
-- under the started keys (02, P6): a record is answered with data exactly if it is due, and what is handed out is its content.
unfoldable pub HandedOut : Type 0
HandedOut =
    (id secret : List ℕ) (width : ℕ) → Held width → (acts : List Act) → SoundActs acts
    → (behind (fresh_one id secret width) acts).handshake.state ≡ Open
    → (later : List Act) → Unreplaced (behind (fresh_one id secret width) acts) later
    → OngoingFrom (session_of id secret) width (past_of id secret width acts) (map event_of later)
    → (random d : List ℕ) (r : Record) → RecordOf d r
    → let past = past_of id secret width acts in
    let session = session_of id secret in
    let course = course_from session width past (map event_of later) in
    let answer = (told_record (behind (behind (fresh_one id secret width) acts) later) random d r).answer in
    ((is_data answer ≡ true) ↔ ((c : List ℕ) × Due (keys_in session past) course d r c))
    × ((c : List ℕ) → Due (keys_in session past) course d r c → handed_of d answer ≡ c)

-- "once": two records that are both handed out have different numbers
unfoldable pub HandedOnce : Type 0
HandedOnce =
    (id secret : List ℕ) (width : ℕ) → Held width → (acts : List Act) → SoundActs acts
    → (behind (fresh_one id secret width) acts).handshake.state ≡ Open
    → (later between : List Act) (random d : List ℕ) (r : Record) (random' d' : List ℕ) (r' : Record) → RecordOf d r → RecordOf d' r'
    → Unreplaced (behind (fresh_one id secret width) acts) (later ++ (comes random d r ∷ between))
    → OngoingFrom (session_of id secret) width (past_of id secret width acts) (map event_of (later ++ (comes random d r ∷ between)))
    → is_data (told_record (behind (behind (fresh_one id secret width) acts) later) random d r).answer ≡ true
    → is_data (told_record (behind (behind (fresh_one id secret width) acts) (later ++ (comes random d r ∷ between))) random' d' r').answer
    ≡ true
    → r.number ≢ r'.number
