-- Demands 2 and 3 of any gateway: a step from connection and call to result. Ours meets them; the five of 01 do not:
-- "These must not pass: a gateway that refuses everything (the state table, demand 2, and the handing out in demand
-- 3); one that answers each record alike (the table); one that does nothing (Finished must open); one that acts on
-- the first record of a datagram and only acknowledges the rest (one answer per record, demand 2); an invented tally
-- (the history rule)."
use Rattle.std.specs.Prelude.{◌≡◌, ◌↔◌, ◌≢◌, true, List, [], ◌∷◌, ◌++◌, map, ℕ, ◌≤◌, length, take, Ok}
use Rattle.digest.specs.Bytes.{laid_over}
use Rattle.record.specs.Datagram.{framed, framing_of}
use Rattle.record.specs.declared.reader.Record.{Record}
use Rattle.connection.specs.Answer.{handed_of}
use Rattle.connection.specs.Calls.{session_of}
use Rattle.connection.specs.Receive.{slots_of}
use Rattle.connection.specs.Tally.{fresh_tally}
use Rattle.connection.specs.declared.state.State.TheVariants.{Open}
use Rattle.connection.specs.declared.refusal.Refusal.{Refusal}
use Rattle.connection.specs.declared.answer.Answer.{Answer}
use Rattle.connection.specs.declared.answer.Answer.TheVariants.{Refused}
use Rattle.connection.specs.declared.connection.Connection.{Connection}
use Rattle.connection.specs.declared.receive.Untaken.TheVariants as T
use Rattle.connection.specs.declared.tally.Tally.{Tally}
use Rattle.demands.specs.Runs.{Call, receive, Returned, received, Gateway, step_of, final_of}
use Rattle.demands.specs.Calls.{Chain, FirstSends, CallRow}
use Rattle.demands.specs.Refusals.{IsRefused}
use Rattle.demands.specs.Acts.{Act, comes, SoundActs, acts_of, event_of, behind}
use Rattle.demands.specs.Past.{is_data, keys_in}
use Rattle.record.specs.Window.{Held}
use Rattle.demands.specs.Runs.{fresh_one}
use Rattle.demands.specs.LeftOut.{LeavesOut, answers_in, tallied_in, Unreplaced}
use Rattle.demands.specs.Course.{Due}
use Rattle.demands.specs.HandedOut.{past_of, course_from, OngoingFrom}
use Rattle.demands.specs.Places.{answer_of}
use Rattle.demands.specs.Counts.{OnConnection, Counting, tally_after, CountsRight}

-- Demand 2: "one answer per record", each by the table, in the state that the records before it left; the connection
-- is what the last one leaves; the output holds what the first one sends at its front, counted, and nothing else new
unfoldable pub AnswersByTable : Gateway → Type 0
AnswersByTable g =
    (c : Connection) (d random out : List ℕ) (rs : List Record) → length random ≡ 16 → 128 ≤ length out
    → framing_of d ≡ framed rs
    → (answers : List Answer) × (reply : List ℕ)
    × ((g c (receive d random out)).result ≡ received (Ok (length rs)) (slots_of answers) (length reply))
    × Chain random d c rs answers (g c (receive d random out)).connection
    × ((g c (receive d random out)).output ≡ laid_over out 0 reply)
    × FirstSends c random d rs answers reply

-- every call by its row; then its receives answer by the table
unfoldable pub Demand2 : Gateway → Type 0
Demand2 g = (c : Connection) (call : Call) → CallRow c call (g c call)

unfoldable pub Demand2IsTable : Type 0
Demand2IsTable = (g : Gateway) → Demand2 g → AnswersByTable g

-- a gateway that meets it gives what ours gives: two outcomes that the rows allow coincide
unfoldable pub Demand2Settles : Type 0
Demand2Settles = (g : Gateway) → Demand2 g → (c : Connection) (call : Call) → g c call ≡ step_of c call

-- Demand 3, the handing out: from an open connection, with the past of its open handshake, by the calls of the gateway itself, up to
-- a record that is right under the started keys
unfoldable pub HandsOut : Gateway → Type 0
HandsOut g =
    (id secret : List ℕ) (width : ℕ) → Held width → (acts : List Act) → SoundActs acts
    → (behind (fresh_one id secret width) acts).handshake.state ≡ Open → (calls : List Call)
    → (d random out : List ℕ) (before : List Record) (r : Record) (after : List Record) → length random ≡ 16
    → 128 ≤ length out
    → framing_of d ≡ framed (before ++ (r ∷ after))
    → Unreplaced (behind (fresh_one id secret width) acts) (acts_of calls ++ map (comes random d) before)
    → OngoingFrom (session_of id secret) width (past_of id secret width acts) (map event_of (acts_of calls ++ map (comes random d) before))
    → let past = past_of id secret width acts in
    let session = session_of id secret in
    let course = course_from session width past (map event_of (acts_of calls ++ map (comes random d) before)) in
    let answer = answer_of g (final_of g (behind (fresh_one id secret width) acts) calls) d random out before in
    ((is_data answer ≡ true) ↔ ((c : List ℕ) × Due (keys_in session past) course d r c))
    × ((c : List ℕ) → Due (keys_in session past) course d r c → handed_of d answer ≡ c)

-- "once": one answer for each record, and nothing in the places behind them
unfoldable pub OneEach : Gateway → Type 0
OneEach g =
    (c : Connection) (d random out : List ℕ) (rs : List Record) → length random ≡ 16 → 128 ≤ length out → framing_of d ≡ framed rs
    → (answers : List Answer) × (length answers ≡ length rs) × (answers_in (g c (receive d random out)).result ≡ slots_of answers)

unfoldable pub Demand3 : Gateway → Type 0
Demand3 g = LeavesOut g × HandsOut g × OneEach g

-- ---- the five wrong gateways: a class for each

-- any that refuses everything: each call as a whole, without an answer
pub record RefusesCalls (g : Gateway) : Type 0 where
  pub refused : (c : Connection) (call : Call) → IsRefused (g c call).result
  pub no_answers : (c : Connection) (d random out : List ℕ)
      → answers_in (g c (receive d random out)).result ≡ slots_of []

-- or each record
unfoldable pub RefusesRecords : Gateway → Type 0
RefusesRecords g =
    (c : Connection) (d random out : List ℕ) (before : List Record) (r : Record) (behind : List Record)
    → framing_of d ≡ framed (before ++ (r ∷ behind))
    → (x : Refusal) × (answer_of g c d random out before ≡ Refused x)

-- any that answers each record alike: on one connection, its answers do not depend on the record
unfoldable pub AnswersAlike : Gateway → Type 0
AnswersAlike g =
    (c : Connection) (d e random out : List ℕ) (r q : Record) → framing_of d ≡ framed (r ∷ []) → framing_of e ≡ framed (q ∷ [])
    → answer_of g c d random out [] ≡ answer_of g c e random out []

-- any that does nothing: whatever it answers, it never changes the connection
unfoldable pub NeverChanges : Gateway → Type 0
NeverChanges g = (c : Connection) (call : Call) → (g c call).connection ≡ c

-- any that acts on the first record of a datagram and only acknowledges the rest: whatever it answers, a datagram leaves
-- what its first record alone leaves
unfoldable pub FirstOnly : Gateway → Type 0
FirstOnly g =
    (c : Connection) (d random out : List ℕ) (r : Record) (rs : List Record) → framing_of d ≡ framed (r ∷ rs)
    → framing_of (take r.used d) ≡ framed (r ∷ [])
    → (g c (receive d random out)).connection ≡ (g c (receive (take r.used d) random out)).connection

-- any invented tally: whatever came back, it goes on alike
unfoldable pub Invented : Counting → Type 0
Invented counting = (t : Tally) (x y : Returned) → counting t x ≡ counting t y

-- None of them passes. 01 names for each what it fails: the table, the handing out, one answer per record, the
-- history rule.
pub record FiveFail : Type 0 where
  pub refuses_calls_table : (g : Gateway) → RefusesCalls g → AnswersByTable g → ⊥
  pub refuses_calls_hands : (g : Gateway) → RefusesCalls g → HandsOut g → ⊥
  pub refuses_records_table : (g : Gateway) → RefusesRecords g → AnswersByTable g → ⊥
  pub refuses_records_hands : (g : Gateway) → RefusesRecords g → HandsOut g → ⊥
  pub answers_alike_table : (g : Gateway) → AnswersAlike g → AnswersByTable g → ⊥
  pub does_nothing_table : (g : Gateway) → NeverChanges g → AnswersByTable g → ⊥
  pub first_only_table : (g : Gateway) → FirstOnly g → AnswersByTable g → ⊥
  pub invented_tally : (counting : Counting) → Invented counting → CountsRight step_of counting → ⊥
  -- and any tally that is not the count, after whatever calls it is not
  pub other_tally : (counting : Counting) (os : List OnConnection)
      → tally_after step_of counting fresh_tally os ≢ tally_after step_of tallied_in fresh_tally os
      → CountsRight step_of counting → ⊥
