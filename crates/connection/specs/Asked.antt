-- Which handshake of a connection is asked about a record (02, "A unit that rebooted"). Idle, Replied and Spec without an open one
-- are as in 01.
use Rattle.std.specs.Prelude.{Bool, true, false, List, ℕ, eqb}
use Rattle.digest.specs.Pick.{pick}
use Rattle.record.specs.Protection.{genuine_under}
use Rattle.record.specs.declared.keys.Sense.TheVariants.{FromUnit}
use Rattle.record.specs.declared.reader.Record.{Record}
use Rattle.connection.specs.Handshake.{newcomer_to}
use Rattle.connection.specs.Clear.{is_kept}
use Rattle.connection.specs.Judge.{fragment_of, kind_in}
use Rattle.connection.specs.declared.state.State.{State}
use Rattle.connection.specs.declared.state.State.TheVariants as S
use Rattle.connection.specs.declared.state.Kind.{Kind}
use Rattle.connection.specs.declared.state.Kind.TheVariants.{ClearHello, ClearChange, ClearAlert, OtherClear, ProtectedChange, ProtectedAlert, ProtectedHandshake, ProtectedData}
use Rattle.connection.specs.declared.asked.Whom.{Whom}
use Rattle.connection.specs.declared.asked.Whom.TheVariants.{Only, Open, Started, Newcomer}
use Rattle.connection.specs.declared.handshake.Handshake.{Handshake}
use Rattle.connection.specs.declared.connection.Connection.{Connection}

-- whether a handshake is under way, its reply sent and its Finished not come; and whether "its change cipher spec has come"
abbrev pub under_way : State → Bool
under_way S.Idle = false
under_way S.Replied = true
under_way S.Spec = true
under_way S.Open = false
under_way S.Closed = false
under_way S.Barred = false

abbrev pub is_spec : State → Bool
is_spec S.Idle = false
is_spec S.Replied = false
is_spec S.Spec = true
is_spec S.Open = false
is_spec S.Closed = false
is_spec S.Barred = false

-- "by the rows of Idle, Replied and Spec": the started one, or in Idle a newcomer
abbrev pub beside_to : Connection → Whom
beside_to c = pick (under_way c.started.state) Started Newcomer

-- "The hello that made the open connection gets its reply bytes again and starts nothing"; another is a newcomer's, for a new reply
abbrev pub hello_to : Connection → List ℕ → Whom
hello_to c m = pick (is_kept c.handshake.kept m) Open Newcomer

-- the started one's own hello gets the started one's reply again
abbrev pub greeting_to : Connection → List ℕ → Whom
greeting_to c m = pick (under_way c.started.state) (pick (is_kept c.started.kept m) Started (hello_to c m)) (hello_to c m)

-- a record that is right under the keys of a handshake: its code
abbrev pub right_under : Handshake → Record → List ℕ → Bool
right_under h r fragment = genuine_under h.protection.keys FromUnit r.number r.byte fragment

-- "A protected handshake record is tried under the started one first, once its change cipher spec has come, then under the open one"
abbrev pub finished_of : Handshake → Record → List ℕ → Whom
finished_of started r fragment = pick (is_spec started.state) (pick (right_under started r fragment) Started Open) Open

abbrev pub finished_to : Connection → Record → List ℕ → Whom
finished_to c r fragment = finished_of c.started r fragment

-- The Open rows. A ClientHello first in its datagram; in a later place, and every other clear record: "Clear alerts touch the
-- started one only". "other protected records go to the open one".
abbrev pub open_to : Connection → Record → List ℕ → Kind → Whom
open_to c r fragment ClearHello = pick (eqb r.start 0) (greeting_to c fragment) (beside_to c)
open_to c r fragment ClearChange = beside_to c
open_to c r fragment ClearAlert = beside_to c
open_to c r fragment OtherClear = beside_to c
open_to c r fragment ProtectedChange = Open
open_to c r fragment ProtectedAlert = Open
open_to c r fragment ProtectedHandshake = finished_to c r fragment
open_to c r fragment ProtectedData = Open

-- whom, by the state of the open handshake or the only one
abbrev pub whom_in : Connection → List ℕ → Record → State → Whom
whom_in c d r S.Idle = Only
whom_in c d r S.Replied = Only
whom_in c d r S.Spec = Only
whom_in c d r S.Open = open_to c r (fragment_of d r) (kind_in d r)
whom_in c d r S.Closed = Only
whom_in c d r S.Barred = Only

unfoldable pub whom_of : Connection → List ℕ → Record → Whom
whom_of c d r = whom_in c d r c.handshake.state

-- the handshake that is asked
abbrev pub asked_of : Connection → Whom → Handshake
asked_of c Only = c.handshake
asked_of c Open = c.handshake
asked_of c Started = c.started
asked_of c Newcomer = newcomer_to c.handshake
