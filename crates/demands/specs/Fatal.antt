-- Demand 2, over runs and their history: "A fatal alert accepted under its authentication code bars that connection's
-- session from being resumed." A genuine, new, well-formed fatal alert bars, and nothing else does: genuine under the
-- keys of the last new reply, new by the numbers accepted since the last change cipher spec that was taken.
use Rattle.std.specs.Prelude.{◌≡◌, ◌⊎◌, ◌≢◌, true, false, List, [], ℕ, ◌+◌, ◌<◌, Some}
use Rattle.record.specs.History.{accepted}
use Rattle.record.specs.Window.{Held}
use Rattle.record.specs.declared.header.Content.TheVariants as C
use Rattle.record.specs.declared.reader.Record.{Record}
use Rattle.message.specs.Alert.{alert_of}
use Rattle.message.specs.declared.alert.Alert.{Alert}
use Rattle.message.specs.declared.alert.Level.TheVariants as L
use Rattle.connection.specs.Calls.{session_of}
use Rattle.connection.specs.Judge.{judged_record}
use Rattle.connection.specs.declared.answer.Answer.TheVariants as W
use Rattle.connection.specs.declared.state.State.{State}
use Rattle.connection.specs.declared.state.State.TheVariants.{Spec, Open, Barred}
use Rattle.connection.specs.declared.handshake.Handshake.{Handshake}
use Rattle.connection.specs.declared.handshake.Session.{Session}
use Rattle.demands.specs.Runs.{fresh_with}
use Rattle.demands.specs.Genuine.{Genuine, RecordOf}
use Rattle.demands.specs.Events.{Event, took, AllSound, Happened, next, after, history}
use Rattle.demands.specs.Past.{keys_in, accepted_in}
use Rattle.connection.specs.declared.sent.SentRecords.{SentRecords}

-- "Spec, Open | protected alert | by level"
abbrev pub Alerted : State → Type 0
Alerted s = (s ≡ Spec) ⊎ (s ≡ Open)

-- a fatal alert at a place of a run, by what happened before it; its content is c
pub record FatalAt (width : ℕ) (session : Session) (past : List Happened) (d : List ℕ) (r : Record) (c : List ℕ)
    (a : Alert) : Type 0 where
  pub genuine : Genuine (keys_in session past) d r c
  pub alert : r.content ≡ C.Alert
  pub well_formed : alert_of c ≡ Some a
  pub fatal : a.level ≡ L.Fatal
  -- "whose number was not accepted before and is above the highest accepted less 32": less the width
  pub not_before : accepted (accepted_in past) r.number ≡ false
  pub recent : (n : ℕ) → accepted (accepted_in past) n ≡ true → n < r.number + width

-- at a record of a handshake h with this past
pub record FatalExactly (width : ℕ) (session : Session) (past : List Happened) (h : Handshake)
    (sent : SentRecords) (random d : List ℕ) (r : Record) : Type 0 where
  pub bars : Alerted h.state → (c : List ℕ) (a : Alert) → FatalAt width session past d r c a
      → ((judged_record h sent random d r).answer ≡ W.Barred a.description) × ((next h (took sent random d r)).state ≡ Barred)
  pub only : h.state ≢ Barred → (next h (took sent random d r)).state ≡ Barred
      → Alerted h.state × ((c : List ℕ) × (a : Alert) × FatalAt width session past d r c a)

unfoldable pub FatalInRuns : Type 0
FatalInRuns =
    (id secret : List ℕ) (width : ℕ) → Held width → (es : List Event) → AllSound es → (sent : SentRecords) (random d : List ℕ) (r : Record)
    → RecordOf d r
    → FatalExactly width (session_of id secret) (history (fresh_with id secret width) es [])
    (after (fresh_with id secret width) es) sent random d r
