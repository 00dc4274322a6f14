-- Refusals that turn on what happened before, in a life from fresh, by its history alone: 9 by the keys of the last new
-- reply, 10 and 11 by the numbers accepted since the last change cipher spec that was taken, 17 by the very messages of the life.
-- (14, by the records that the connection sent: `Lives.ChecksumInRuns`.) With `Table.TableHolds` and `Kept.KeptIsWhatHappened` behind it.
use Rattle.std.specs.Prelude.{◌≡◌, ◌↔◌, true, List, [], ℕ, ◌+◌, ◌≤◌, ◌<◌, Err}
use Rattle.record.specs.History.{accepted}
use Rattle.record.specs.declared.header.Content.TheVariants as C
use Rattle.record.specs.declared.reader.Record.{Record}
use Rattle.message.specs.Finished.{judged_of}
use Rattle.message.specs.declared.finished.Unverified.TheVariants as F
use Rattle.connection.specs.Calls.{session_of}
use Rattle.connection.specs.Judge.{judged_record}
use Rattle.connection.specs.declared.state.State.TheVariants.{Open}
use Rattle.connection.specs.declared.refusal.Refusal.TheVariants as X
use Rattle.connection.specs.declared.answer.Answer.{Answer}
use Rattle.connection.specs.declared.answer.Answer.TheVariants.{Refused}
use Rattle.connection.specs.declared.handshake.Session.{Session}
use Rattle.demands.specs.Runs.{fresh_with, fresh_one}
use Rattle.demands.specs.Genuine.{Genuine, RecordOf}
use Rattle.demands.specs.Seen.{seen_in}
use Rattle.demands.specs.Table.{Guarded}
use Rattle.demands.specs.Events.{Event, AllSound, Happened, after, history}
use Rattle.demands.specs.Past.{keys_in, expected_in, accepted_in}
use Rattle.demands.specs.LeftOut.{Without, SameOpen, handed_over}
use Rattle.demands.specs.Acts.{Act, SoundActs, behind}
use Rattle.demands.specs.Lives.{no_lives, lives_of}
use Rattle.record.specs.Window.{Held}
use Rattle.connection.specs.declared.sent.SentRecords.{SentRecords}

-- "a number at most n - 32 is too old", with n an accepted number: less the width (02, P1)
pub record TooOldFor (width : ℕ) (numbers : List ℕ) (s : ℕ) : Type 0 where
  pub n : ℕ
  pub was_accepted : accepted numbers n ≡ true
  pub far : s + width ≤ n

-- "A number accepted before is repeated", unless it is too old
pub record RepeatedIn (width : ℕ) (numbers : List ℕ) (s : ℕ) : Type 0 where
  pub was_accepted : accepted numbers s ≡ true
  pub recent : (n : ℕ) → accepted numbers n ≡ true → n < s + width

-- a protected record of an allowed kind, by its history
pub record ProtectedExactly (session : Session) (width : ℕ) (past : List Happened) (d : List ℕ) (r : Record)
    (answer : Answer) : Type 0 where
  pub exactly_9 : (answer ≡ Refused X.Forged) ↔ ((c : List ℕ) → Genuine (keys_in session past) d r c → ⊥)
  pub exactly_10 : (answer ≡ Refused X.TooOld)
      ↔ (((c : List ℕ) × Genuine (keys_in session past) d r c) × TooOldFor width (accepted_in past) r.number)
  pub exactly_11 : (answer ≡ Refused X.Repeated)
      ↔ (((c : List ℕ) × Genuine (keys_in session past) d r c) × RepeatedIn width (accepted_in past) r.number)

unfoldable pub ProtectedInRuns : Type 0
ProtectedInRuns =
    (id secret : List ℕ) (width : ℕ) → Held width → (es : List Event) → AllSound es
    → (sent : SentRecords) (random d : List ℕ) (r : Record) → RecordOf d r
    → Guarded (after (fresh_with id secret width) es).state (seen_in d r)
    → ProtectedExactly (session_of id secret) width (history (fresh_with id secret width) es []) d r
    (judged_record (after (fresh_with id secret width) es) sent random d r).answer

-- 17: a genuine Finished that is answered so has other contents than the PRF over the messages of this run
unfoldable pub WrongFinishedInRuns : Type 0
WrongFinishedInRuns =
    (id secret : List ℕ) (width : ℕ) → Held width → (es : List Event) → AllSound es
    → (sent : SentRecords) (random d : List ℕ) (r : Record) → RecordOf d r
    → (judged_record (after (fresh_with id secret width) es) sent random d r).answer ≡ Refused X.WrongFinished
    → (c : List ℕ) × Genuine (keys_in (session_of id secret) (history (fresh_with id secret width) es [])) d r c
    × (r.content ≡ C.Handshake)
    × (judged_of c (expected_in (session_of id secret) (history (fresh_with id secret width) es [])) ≡ Err F.Wrong)

-- demand 3, first half, from an open place of a run: genuine under the keys of the last new reply in the life of the open one
unfoldable pub LeavesOutOfRuns : Type 0
LeavesOutOfRuns =
    (id secret : List ℕ) (width : ℕ) → Held width → (acts : List Act) → SoundActs acts
    → (behind (fresh_one id secret width) acts).handshake.state ≡ Open → (xs ys : List Act)
    → let c = behind (fresh_one id secret width) acts in
    let past = history (fresh_with id secret width) (lives_of (fresh_one id secret width) no_lives acts).own [] in
    Without (keys_in (session_of id secret) past) c c xs ys
    → SameOpen (behind c xs) (behind c ys) × (handed_over c xs ≡ handed_over c ys)
