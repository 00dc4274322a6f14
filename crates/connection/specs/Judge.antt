-- The judgement of one record by one handshake (01, "Refusal numbers": "Per record: 7; then place and state; then code and window;
-- then content").
use Rattle.std.specs.Prelude.{List, ℕ, ◌+◌, take, drop, get_or, eqb}
use Rattle.digest.specs.Pick.{pick}
use Rattle.record.specs.declared.reader.Record.{Record}
use Rattle.connection.specs.State.{kind_of, rule_of}
use Rattle.connection.specs.Answer.{refusing}
use Rattle.connection.specs.Clear.{greeted_by, greeted_again, resent_by, changed_by, heard_alert}
use Rattle.connection.specs.Protected.{opened_record}
use Rattle.connection.specs.declared.state.Kind.{Kind}
use Rattle.connection.specs.declared.state.Rule.{Rule}
use Rattle.connection.specs.declared.state.Rule.TheVariants as T
use Rattle.connection.specs.declared.refusal.Refusal.TheVariants.{Ended, NotAllowed}
use Rattle.connection.specs.declared.answer.Judged.{Judged}
use Rattle.connection.specs.declared.sent.SentRecords.{SentRecords}
use Rattle.connection.specs.declared.handshake.Handshake.{Handshake}

-- What a rule of the table does with the fragment of a record. A ClientHello "may stand only first in its datagram".
unfoldable pub ruled_by : Handshake → SentRecords → List ℕ → Rule → Kind → Record → List ℕ → Judged
ruled_by h sent random T.Ended kind r fragment = refusing Ended h
ruled_by h sent random T.NotAllowed kind r fragment = refusing NotAllowed h
ruled_by h sent random T.Resend kind r fragment = pick (eqb r.start 0) (resent_by h fragment) (refusing NotAllowed h)
ruled_by h sent random T.Greet kind r fragment = pick (eqb r.start 0) (greeted_by h random fragment) (refusing NotAllowed h)
ruled_by h sent random T.GreetAgain kind r fragment = pick (eqb r.start 0) (greeted_again h random fragment) (refusing NotAllowed h)
ruled_by h sent random T.Change kind r fragment = changed_by h fragment
ruled_by h sent random T.Hear kind r fragment = heard_alert h sent fragment
ruled_by h sent random T.OpenRecord kind r fragment = opened_record h kind r.byte r.number (r.start + r.head) fragment

-- the fragment of a record of the datagram d
abbrev pub fragment_of : List ℕ → Record → List ℕ
fragment_of d r = take r.size (drop (r.start + r.head) d)

-- what a record is
abbrev pub kind_in : List ℕ → Record → Kind
kind_in d r = kind_of r.content r.protected (get_or (fragment_of d r) 0 0)

-- the answer of a handshake to a record and the handshake that it leaves; `sent` are the records that we sent
unfoldable pub judged_record : Handshake → SentRecords → List ℕ → List ℕ → Record → Judged
judged_record h sent random d r = ruled_by h sent random (rule_of h.state (kind_in d r)) (kind_in d r) r (fragment_of d r)
