-- A record that is no ClientHello first in its datagram: no new reply is made to it. Its judgement, and the connection that it leaves
-- where the state of whoever was asked stays.
use Rattle.std.specs.Prelude.{Bool, true, false, List, [], ℕ, ◌+◌, length, drop, Err, Ok, Result}
use Rattle.record.specs.declared.reader.Fault.{Fault}
use Rattle.digest.specs.Pick.{pick}
use Rattle.record.specs.Reader.{read_of}
use Rattle.record.specs.Datagram.{placed_at, blank}
use Rattle.record.specs.declared.window.Window.{Window}
use Rattle.record.specs.declared.reader.Record.{Record}
use Rattle.connection.specs.State.{rule_of}
use Rattle.connection.specs.Handshake.{with_window}
use Rattle.connection.specs.Connection.{connection_of}
use Rattle.connection.specs.Answer.{refusing}
use Rattle.connection.specs.Clear.{changed_by, heard_alert}
use Rattle.connection.specs.Protected.{opened_record}
use Rattle.connection.specs.Judge.{fragment_of, kind_in}
use Rattle.connection.specs.Told.{told_record}
use Rattle.connection.specs.Receive.{sent_by}
use Rattle.connection.specs.declared.state.Kind.{Kind}
use Rattle.connection.specs.declared.state.Kind.TheVariants.{ClearHello, ClearChange, ClearAlert, OtherClear, ProtectedChange, ProtectedAlert, ProtectedHandshake, ProtectedData}
use Rattle.connection.specs.declared.state.Rule.{Rule}
use Rattle.connection.specs.declared.state.Rule.TheVariants as T
use Rattle.connection.specs.declared.refusal.Refusal.TheVariants.{Ended, NotAllowed}
use Rattle.connection.specs.declared.answer.Answer.TheVariants.{Nothing}
use Rattle.connection.specs.declared.answer.Judged.{Judged}
use Rattle.connection.specs.declared.asked.Whom.{Whom}
use Rattle.connection.specs.declared.asked.Whom.TheVariants as A
use Rattle.connection.specs.declared.sent.SentRecords.{SentRecords}
use Rattle.connection.specs.declared.handshake.Handshake.{Handshake}
use Rattle.connection.specs.declared.connection.Connection.{Connection}
use Rattle.connection.specs.declared.told.Told.{Told}
use Rattle.connection.specs.declared.receive.Begun.{Begun}

-- whether a record that begins its datagram is a ClientHello
abbrev pub is_hello : Kind → Bool
is_hello ClearHello = true
is_hello ClearChange = false
is_hello ClearAlert = false
is_hello OtherClear = false
is_hello ProtectedChange = false
is_hello ProtectedAlert = false
is_hello ProtectedHandshake = false
is_hello ProtectedData = false

-- What a rule of the table does with any other record. A ClientHello "may stand only first in its datagram".
unfoldable pub ruled_else : Handshake → SentRecords → Rule → Kind → Record → List ℕ → Judged
ruled_else h sent T.Ended kind r fragment = refusing Ended h
ruled_else h sent T.NotAllowed kind r fragment = refusing NotAllowed h
ruled_else h sent T.Resend kind r fragment = refusing NotAllowed h
ruled_else h sent T.Greet kind r fragment = refusing NotAllowed h
ruled_else h sent T.GreetAgain kind r fragment = refusing NotAllowed h
ruled_else h sent T.Change kind r fragment = changed_by h fragment
ruled_else h sent T.Hear kind r fragment = heard_alert h sent fragment
ruled_else h sent T.OpenRecord kind r fragment = opened_record h kind r.byte r.number (r.start + r.head) fragment

unfoldable pub judged_else : Handshake → SentRecords → List ℕ → Record → Judged
judged_else h sent d r = ruled_else h sent (rule_of h.state (kind_in d r)) (kind_in d r) r (fragment_of d r)

-- the windows of both handshakes, where whoever was asked has a new one
abbrev pub open_window : Whom → Window → Window → Window
open_window A.Only old new = new
open_window A.Open old new = new
open_window A.Started old new = old
open_window A.Newcomer old new = old

abbrev pub started_window : Whom → Window → Window → Window
started_window A.Only old new = old
started_window A.Open old new = old
started_window A.Started old new = new
started_window A.Newcomer old new = old

abbrev pub windowed_by : Connection → Whom → Window → Connection
windowed_by c whom new =
    connection_of (with_window c.handshake (open_window whom c.handshake.protection.window new))
    (with_window c.started (started_window whom c.started.protection.window new)) c.sent

-- the record that is read at a place of the datagram
abbrev pub record_in : ℕ → Result Record Fault → Record
record_in at (Ok r) = placed_at r at
record_in at (Err fault) = blank

abbrev pub record_at : List ℕ → ℕ → Record
record_at d at = record_in at (read_of (drop at d))

-- a datagram begun: its first record answered, where that is a ClientHello; else nothing yet
abbrev pub begun_by : Told → ℕ → Begun
begun_by t used = record { answer = t.answer; written = length (sent_by t); connection = t.connection; done = 1; at = used }

abbrev pub not_begun : Connection → Begun
not_begun c = record { answer = Nothing; written = 0; connection = c; done = 0; at = 0 }

unfoldable pub begun_of : Connection → List ℕ → List ℕ → Record → Begun
begun_of c random d r = pick (is_hello (kind_in d r)) (begun_by (told_record c random d r) r.used) (not_begun c)

unfoldable pub begun_sent : Connection → List ℕ → List ℕ → Record → List ℕ
begun_sent c random d r = pick (is_hello (kind_in d r)) (sent_by (told_record c random d r)) []
