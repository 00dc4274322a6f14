-- 02, P6, "A unit that rebooted": "Hold the started handshake beside the open connection, by the rows of Idle, Replied and Spec.
-- The open one goes on until the new Finished is verified, and is then replaced." For which handshake of a connection a record is,
-- and what its judgement leaves of both: the Open rows, beside those of 01 (`Table`), which each handshake follows for itself.
use Rattle.std.specs.Prelude.{◌≡◌, ◌↔◌, ◌≢◌, true, false, List, ℕ}
use Rattle.record.specs.declared.header.Content.TheVariants as C
use Rattle.record.specs.declared.reader.Record.{Record}
use Rattle.connection.specs.Handshake.{kept_hello, none_started}
use Rattle.connection.specs.Connection.{connection_of}
use Rattle.connection.specs.Judge.{fragment_of}
use Rattle.connection.specs.Asked.{whom_of, asked_of}
use Rattle.connection.specs.Told.{sent_after, left_by, is_beside, told_record}
use Rattle.connection.specs.declared.state.State.TheVariants.{Open, Spec}
use Rattle.connection.specs.declared.asked.Whom.{Whom}
use Rattle.connection.specs.declared.asked.Whom.TheVariants as A
use Rattle.connection.specs.declared.answer.Judged.{Judged}
use Rattle.connection.specs.declared.sent.SentRecords.{SentRecords}
use Rattle.connection.specs.declared.connection.Connection.{Connection}
use Rattle.connection.specs.declared.told.Told.{Told}
use Rattle.demands.specs.Genuine.{Protected, keys_of}
use Rattle.demands.specs.Seen.{seen_in}
use Rattle.demands.specs.Table.{Row, Hears, Over, IsHello}

-- a record that is right under the started keys: "a protected handshake record", the started one's "change cipher spec has come",
-- and its code is right there
pub record RightBeside (c : Connection) (d : List ℕ) (r : Record) : Type 0 where
  pub is_open : c.handshake.state ≡ Open
  pub in_spec : c.started.state ≡ Spec
  pub handshake : r.content ≡ C.Handshake
  pub content : List ℕ
  pub coded : Protected (keys_of c.started) d r content

-- not a ClientHello first in its datagram
abbrev pub NotGreeting : List ℕ → Record → Type 0
NotGreeting d r = IsHello (seen_in d r) → r.start ≢ 0

-- not the hello of a started handshake
abbrev pub NotItsHello : Connection → List ℕ → Record → Type 0
NotItsHello c d r = Hears c.started.state → fragment_of d r ≢ kept_hello c.started

-- For whom a record is. There is a started handshake where its state is Replied or Spec (`Hears`); where there is none, a newcomer
-- in Idle answers.
pub data Asks (c : Connection) (d : List ℕ) (r : Record) : Whom → Type 0 where
  -- without an open one all is as in 01
  asks_only : c.handshake.state ≢ Open → Asks c d r A.Only
  -- "by the rows of .. Replied and Spec": the same ClientHello, the same reply bytes
  asks_its_hello : c.handshake.state ≡ Open → IsHello (seen_in d r) → r.start ≡ 0 → Hears c.started.state
      → fragment_of d r ≡ kept_hello c.started → Asks c d r A.Started
  -- "The hello that made the open connection gets its reply bytes again and starts nothing."
  asks_open_hello : c.handshake.state ≡ Open → IsHello (seen_in d r) → r.start ≡ 0 → NotItsHello c d r
      → fragment_of d r ≡ kept_hello c.handshake → Asks c d r A.Open
  -- any other ClientHello that is first: a newcomer greets
  asks_new_hello : c.handshake.state ≡ Open → IsHello (seen_in d r) → r.start ≡ 0 → NotItsHello c d r
      → fragment_of d r ≢ kept_hello c.handshake → Asks c d r A.Newcomer
  -- "Clear alerts touch the started one only", and so do the other clear records
  asks_clear : c.handshake.state ≡ Open → r.protected ≡ false → NotGreeting d r → Hears c.started.state → Asks c d r A.Started
  asks_clear_alone : c.handshake.state ≡ Open → r.protected ≡ false → NotGreeting d r → (Hears c.started.state → ⊥)
      → Asks c d r A.Newcomer
  -- "A protected handshake record is tried under the started one first, once its change cipher spec has come, then under the open
  -- one; other protected records go to the open one."
  asks_right : RightBeside c d r → Asks c d r A.Started
  asks_protected : c.handshake.state ≡ Open → r.protected ≡ true → (RightBeside c d r → ⊥) → Asks c d r A.Open

unfoldable pub AskedHolds : Type 0
AskedHolds = (c : Connection) (d : List ℕ) (r : Record) (w : Whom) → (whom_of c d r ≡ w) ↔ Asks c d r w

-- what is left, of a judgement j by the handshake that was asked
abbrev pub sent_with : Connection → Judged → SentRecords
sent_with c j = sent_after c.sent j.handshake.kept j.answer

pub data Left (c : Connection) (j : Judged) : Whom → Connection → Type 0 where
  left_only : Left c j A.Only (connection_of j.handshake c.started (sent_with c j))
  left_open : j.handshake.state ≡ Open → Left c j A.Open (connection_of j.handshake c.started (sent_with c j))
  -- "What closes or bars the open one drops the started one too."
  left_ended : j.handshake.state ≢ Open → Left c j A.Open (connection_of j.handshake none_started (sent_with c j))
  -- "The open one goes on until the new Finished is verified, and is then replaced."
  left_started : j.handshake.state ≢ Open → (Over j.handshake.state → ⊥)
      → Left c j A.Started (connection_of c.handshake j.handshake (sent_with c j))
  left_replaced : j.handshake.state ≡ Open → Left c j A.Started (connection_of j.handshake none_started (sent_with c j))
  -- "closing by one of them, or by 17 under the started keys, drops just that"
  left_dropped : Over j.handshake.state → Left c j A.Started (connection_of c.handshake none_started (sent_with c j))
  -- a newcomer with a new reply becomes the started one, in place of any earlier
  left_greeted : Hears j.handshake.state → Left c j A.Newcomer (connection_of c.handshake j.handshake (sent_with c j))
  left_unchanged : (Hears j.handshake.state → ⊥) → Left c j A.Newcomer (connection_of c.handshake c.started (sent_with c j))

unfoldable pub LeftHolds : Type 0
LeftHolds = (c : Connection) (j : Judged) (w : Whom) (then : Connection) → (left_by c w j ≡ then) ↔ Left c j w then

-- The table of a connection: the handshake that is asked answers by its own row, and the connection is what that leaves.
pub data Tells (c : Connection) (random d : List ℕ) (r : Record) : Told → Type 0 where
  tells : {w : Whom} {j : Judged} {then : Connection} → Asks c d r w → Row (asked_of c w) c.sent random d r j → Left c j w then
      → Tells c random d r (record { answer = j.answer; connection = then; beside = is_beside w })

unfoldable pub ConnectionTable : Type 0
ConnectionTable =
    (c : Connection) (random d : List ℕ) (r : Record) (t : Told) → (told_record c random d r ≡ t) ↔ Tells c random d r t
