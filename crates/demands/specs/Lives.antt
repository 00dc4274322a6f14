-- 02, P6: a connection holds an open handshake and at most one started one. Each act of a run is handed to one of them. So each has a
-- life of its own, the events that it was given, and is what that life leaves of a fresh handshake; what is said of every life
-- (`Kept`, `Finished`, `InRuns`, `Fatal`) is said of both.
use Rattle.std.specs.Prelude.{◌≡◌, ◌↔◌, ◌⊎◌, ◌≢◌, Bool, true, false, List, [], ◌∷◌, ◌++◌, map, ℕ, length, take, Some}
use Rattle.record.specs.Window.{Held}
use Rattle.record.specs.declared.header.Content.TheVariants as C
use Rattle.record.specs.declared.reader.Record.{Record}
use Rattle.message.specs.Alert.{alert_of}
use Rattle.message.specs.declared.alert.Alert.{Alert}
use Rattle.connection.specs.Calls.{session_of}
use Rattle.connection.specs.Handshake.{none_started}
use Rattle.connection.specs.Asked.{under_way, whom_of}
use Rattle.connection.specs.Judge.{judged_record, fragment_of}
use Rattle.connection.specs.Sent.{records_kept, sum_of, sums_of}
use Rattle.connection.specs.Told.{judged_in, told_record}
use Rattle.connection.specs.declared.state.State.{State}
use Rattle.connection.specs.declared.state.State.TheVariants as S
use Rattle.connection.specs.declared.asked.Whom.{Whom}
use Rattle.connection.specs.declared.asked.Whom.TheVariants as A
use Rattle.connection.specs.declared.answer.Answer.TheVariants.{Refused}
use Rattle.connection.specs.declared.refusal.Refusal.TheVariants as X
use Rattle.connection.specs.declared.handshake.Handshake.{Handshake}
use Rattle.connection.specs.declared.connection.Connection.{Connection}
use Rattle.demands.specs.Runs.{fresh_with, fresh_one}
use Rattle.demands.specs.Table.{Hears}
use Rattle.demands.specs.Events.{Event, took, sending, alerting, closing, starting, AllSound, after, history}
use Rattle.demands.specs.Acts.{Act, comes, sends, alerts, closes, starts, SoundActs, leaves, behind, history_of}
use Rattle.demands.specs.Past.{sent_since, MatchesNone, is_data}
use Rattle.demands.specs.Finished.{Verified}

-- the life of the open handshake, or of the only one, and that of the started one beside it: empty where there is none
pub record Lives : Type 0 where
  pub own : List Event
  pub beside : List Event

abbrev pub no_lives : Lives
no_lives = record { own = []; beside = [] }

abbrev pub more : List Event → Event → List Event
more es e = es ++ (e ∷ [])

-- a record, by whom it was asked of and the state that it left that one in
abbrev pub open_lives : Lives → Event → State → Lives
open_lives l e S.Idle = record { own = more l.own e; beside = [] }
open_lives l e S.Replied = record { own = more l.own e; beside = [] }
open_lives l e S.Spec = record { own = more l.own e; beside = [] }
open_lives l e S.Open = record { own = more l.own e; beside = l.beside }
open_lives l e S.Closed = record { own = more l.own e; beside = [] }
open_lives l e S.Barred = record { own = more l.own e; beside = [] }

-- "The open one goes on until the new Finished is verified, and is then replaced": its life is then that of the started one
abbrev pub started_lives : Lives → Event → State → Lives
started_lives l e S.Idle = record { own = l.own; beside = more l.beside e }
started_lives l e S.Replied = record { own = l.own; beside = more l.beside e }
started_lives l e S.Spec = record { own = l.own; beside = more l.beside e }
started_lives l e S.Open = record { own = more l.beside e; beside = [] }
started_lives l e S.Closed = record { own = l.own; beside = [] }
started_lives l e S.Barred = record { own = l.own; beside = [] }

abbrev pub new_lives : Lives → Event → Bool → Lives
new_lives l e true = record { own = l.own; beside = e ∷ [] }
new_lives l e false = l

abbrev pub told_lives : Lives → Event → Whom → State → Lives
told_lives l e A.Only s = record { own = more l.own e; beside = l.beside }
told_lives l e A.Open s = open_lives l e s
told_lives l e A.Started s = started_lives l e s
told_lives l e A.Newcomer s = new_lives l e (under_way s)

-- "Data and protected alerts go out on the open one, clear alerts on the started one"
abbrev pub more_beside : List Event → Event → List Event
more_beside [] e = []
more_beside (x ∷ es) e = more (x ∷ es) e

abbrev pub clear_lives : Lives → Event → State → Lives
clear_lives l e S.Idle = record { own = more l.own e; beside = l.beside }
clear_lives l e S.Replied = record { own = more l.own e; beside = l.beside }
clear_lives l e S.Spec = record { own = more l.own e; beside = l.beside }
clear_lives l e S.Open = record { own = l.own; beside = more_beside l.beside e }
clear_lives l e S.Closed = record { own = more l.own e; beside = l.beside }
clear_lives l e S.Barred = record { own = more l.own e; beside = l.beside }

abbrev pub lives_at : Connection → Lives → Act → Lives
lives_at c l (comes random d r) =
    told_lives l (took c.sent random d r) (whom_of c d r) (judged_in c random d r).handshake.state
lives_at c l (sends bytes out) = record { own = more l.own (sending bytes out); beside = l.beside }
lives_at c l (alerts true level description lent out) =
    record { own = more l.own (alerting true level description lent out); beside = l.beside }
lives_at c l (alerts false level description lent out) =
    clear_lives l (alerting false level description lent out) c.handshake.state
lives_at c l closes = record { own = more l.own closing; beside = [] }
lives_at c l starts = record { own = more l.own starting; beside = l.beside }

unfoldable pub lives_of : Connection → Lives → List Act → Lives
lives_of c l [] = l
lives_of c l (a ∷ acts) = lives_of (leaves c a) (lives_at c l a) acts

-- what such lives leave
abbrev pub beside_of : Handshake → List Event → Handshake
beside_of fresh [] = none_started
beside_of fresh (e ∷ es) = after fresh (e ∷ es)

pub record Lived (fresh : Handshake) (l : Lives) (c : Connection) : Type 0 where
  pub own_life : c.handshake ≡ after fresh l.own
  pub beside_life : c.started ≡ beside_of fresh l.beside
  -- a handshake is started only beside an open one, and is in Replied or Spec
  pub only_open : c.handshake.state ≢ S.Open → l.beside ≡ []
  pub under_way_lem : (l.beside ≡ []) ⊎ Hears c.started.state

-- after any run of a connection from fresh
unfoldable pub LivesHold : Type 0
LivesHold =
    (id secret : List ℕ) (width : ℕ) → Held width → (acts : List Act)
    → Lived (fresh_with id secret width) (lives_of (fresh_one id secret width) no_lives acts) (behind (fresh_one id secret width) acts)

unfoldable pub LivesSound : Type 0
LivesSound =
    (id secret : List ℕ) (width : ℕ) (acts : List Act) → SoundActs acts
    → AllSound (lives_of (fresh_one id secret width) no_lives acts).own × AllSound (lives_of (fresh_one id secret width) no_lives acts).beside

-- the life of whoever is asked
abbrev pub life_of : Lives → Whom → List Event
life_of l A.Only = l.own
life_of l A.Open = l.own
life_of l A.Started = l.beside
life_of l A.Newcomer = []

-- the life of whoever sends a protected record, or a clear one, by the state of the open handshake
abbrev pub clear_sender_life : Lives → State → List Event
clear_sender_life l S.Idle = l.own
clear_sender_life l S.Replied = l.own
clear_sender_life l S.Spec = l.own
clear_sender_life l S.Open = l.beside
clear_sender_life l S.Closed = l.own
clear_sender_life l S.Barred = l.own

abbrev pub sender_life : Lives → Bool → State → List Event
sender_life l true s = l.own
sender_life l false s = clear_sender_life l s

-- Every answer in every run is one that a life from fresh gives, of the handshake that is asked.
unfoldable pub AnswersByLives : Type 0
AnswersByLives =
    (id secret : List ℕ) (width : ℕ) → Held width → (acts : List Act) (random d : List ℕ) (r : Record)
    → let c = behind (fresh_one id secret width) acts in
    let l = lives_of (fresh_one id secret width) no_lives acts in
    (told_record c random d r).answer
    ≡ (judged_record (after (fresh_with id secret width) (life_of l (whom_of c d r))) c.sent random d r).answer

-- Demand 2, of a connection: "Data is handed out only after the unit's Finished has been verified", of the handshake that is open.
unfoldable pub OnlyAfterFinishedOfOpen : Type 0
OnlyAfterFinishedOfOpen =
    (id secret : List ℕ) (width : ℕ) → Held width → (acts : List Act) → SoundActs acts → (random d : List ℕ) (r : Record)
    → let c = behind (fresh_one id secret width) acts in
    let l = lives_of (fresh_one id secret width) no_lives acts in
    is_data (told_record c random d r).answer ≡ true
    → (c.handshake.state ≡ S.Open) × Verified (session_of id secret) (history (fresh_with id secret width) l.own [])

-- ---- the records that we sent

-- the checksums of "the last eight records that we sent since the last start, fewer if fewer were sent", by both handshakes
unfoldable pub SentIsWhatHappened : Type 0
SentIsWhatHappened =
    (id secret : List ℕ) (width : ℕ) → length id ≡ 8 → Held width → (acts : List Act) → SoundActs acts
    → sums_of (behind (fresh_one id secret width) acts).sent
    ≡ map sum_of (take records_kept (sent_since (session_of id secret) (history_of (fresh_one id secret width) acts [])))

-- 14: a clear alert is good "if it matches any of the last eight records that we sent since the last start, fewer if fewer
-- were sent" (02, P3), whichever handshake sent them
unfoldable pub ChecksumInRuns : Type 0
ChecksumInRuns =
    (id secret : List ℕ) (width : ℕ) → length id ≡ 8 → Held width → (acts : List Act) → SoundActs acts
    → (h : Handshake) → Hears h.state → (random d : List ℕ) (r : Record) (a : Alert)
    → r.protected ≡ false → r.content ≡ C.Alert → alert_of (fragment_of d r) ≡ Some a
    → ((judged_record h (behind (fresh_one id secret width) acts).sent random d r).answer ≡ Refused X.Checksum)
    ↔ MatchesNone a.checksum (sent_since (session_of id secret) (history_of (fresh_one id secret width) acts []))
