-- Send data and send an alert (01, "Refusal numbers": "Send: 16, 7, 8, 15, 6. Data is sent only in Open, protected alerts in
-- Replied, Spec and Open, clear ones in Replied and Spec.").
use Rattle.std.specs.Prelude.{Bool, true, false, List, ℕ, ◌+◌, length, eqb, ltb, Err, None, Ok, Option, Result, Some, ⊤}
use Rattle.digest.specs.Pick.{pick}
use Rattle.digest.specs.Bytes.{word_at, laid_over}
use Rattle.digest.specs.Mac.{size_of}
use Rattle.record.specs.Checksum.{checksum_of}
use Rattle.record.specs.Written.{record_of}
use Rattle.record.specs.Protection.{next_record, counted_on}
use Rattle.record.specs.declared.keys.Sense.TheVariants.{FromShore}
use Rattle.record.specs.declared.protection.Protection.{Protection}
use Rattle.record.specs.declared.header.Content.{Content}
use Rattle.record.specs.declared.header.Content.TheVariants as C
use Rattle.message.specs.Alert.{level_of, sorted_of, alert_bytes}
use Rattle.message.specs.declared.alert.Level.{Level}
use Rattle.message.specs.declared.alert.Description.{Description}
use Rattle.connection.specs.Handshake.{with_protection}
use Rattle.connection.specs.Sent.{sum_of, with_record}
use Rattle.connection.specs.Connection.{connection_of}
use Rattle.connection.specs.declared.state.State.{State}
use Rattle.connection.specs.declared.state.State.TheVariants as S
use Rattle.connection.specs.declared.refusal.Refusal.{Refusal}
use Rattle.connection.specs.declared.refusal.Refusal.TheVariants.{Room, Ended, NotAllowed, Spent, Argument}
use Rattle.connection.specs.declared.sent.SentRecords.{SentRecords}
use Rattle.connection.specs.declared.handshake.Handshake.{Handshake}
use Rattle.connection.specs.declared.connection.Connection.{Connection}
use Rattle.connection.specs.declared.send.Sent.{Sent}

-- the first refusal, or the next test
abbrev pub and_then : Result ⊤ Refusal → Result ⊤ Refusal → Result ⊤ Refusal
and_then (Ok tt) next = next
and_then (Err refusal) next = Err refusal

-- 7 and 8, by the state
abbrev pub may_data : State → Result ⊤ Refusal
may_data S.Idle = Err NotAllowed
may_data S.Replied = Err NotAllowed
may_data S.Spec = Err NotAllowed
may_data S.Open = Ok tt
may_data S.Closed = Err Ended
may_data S.Barred = Err Ended

abbrev pub may_protect : State → Result ⊤ Refusal
may_protect S.Idle = Err NotAllowed
may_protect S.Replied = Ok tt
may_protect S.Spec = Ok tt
may_protect S.Open = Ok tt
may_protect S.Closed = Err Ended
may_protect S.Barred = Err Ended

abbrev pub may_clear : State → Result ⊤ Refusal
may_clear S.Idle = Err NotAllowed
may_clear S.Replied = Ok tt
may_clear S.Spec = Ok tt
may_clear S.Open = Err NotAllowed
may_clear S.Closed = Err Ended
may_clear S.Barred = Err Ended

-- 15, "sending number spent": "sending never passes 65,535"; then 6, "under the record's size for send"
unfoldable pub numbered_by : ℕ → ℕ → ℕ → Result ⊤ Refusal
numbered_by number size room = pick (ltb 65535 number) (Err Spent) (pick (ltb room size) (Err Room) (Ok tt))

-- 16: "data not 1 to 1,300"; 7, 8; 15; 6
unfoldable pub data_refused : State → ℕ → ℕ → ℕ → ℕ → Result ⊤ Refusal
data_refused state size number code room =
    pick (eqb size 0) (Err Argument)
    (pick (ltb 1300 size) (Err Argument)
    (and_then (may_data state) (numbered_by number (3 + size + code) room)))

-- 16: "record lent for an alert over 1,400"; 7, 8; 15; 6. An alert is six bytes.
unfoldable pub alert_refused : Result ⊤ Refusal → ℕ → ℕ → ℕ → ℕ → Result ⊤ Refusal
alert_refused may lent number code room =
    pick (ltb 1400 lent) (Err Argument) (and_then may (numbered_by number (9 + code) room))

-- "A refusal changes neither buffer nor connection"
abbrev pub unsent : Connection → Refusal → Sent
unsent c refusal = record { outcome = Err refusal; written = 0; connection = c }

abbrev pub done_with : ℕ → Connection → Sent
done_with written c = record { outcome = (Ok tt); written = written; connection = c }

-- "A success writes the counted bytes at the front"
abbrev pub done : List ℕ → Connection → Sent
done bytes c = done_with (length bytes) c

-- the next record of ours: protected, with the key of its own number; or clear. Each "as a datagram of one record without a
-- length".
unfoldable pub next_protected : Handshake → Content → List ℕ → List ℕ
next_protected h content body =
    next_record h.protection FromShore content body

unfoldable pub next_clear : Handshake → List ℕ → List ℕ
next_clear h body = record_of false false C.Alert h.protection.clear body

-- one clear number more
abbrev pub clear_on : Protection → Protection
clear_on p = record { keys = p.keys; window = p.window; protected = p.protected; clear = p.clear + 1 }

-- Sending "changes only our number and our last sent record": one number more of the handshake that sends, ..
abbrev pub after_protected : Handshake → Handshake
after_protected h = with_protection h (counted_on h.protection)

abbrev pub after_clear : Handshake → Handshake
after_clear h = with_protection h (clear_on h.protection)

abbrev pub after_alert : Bool → Handshake → Handshake
after_alert true h = after_protected h
after_alert false h = after_clear h

-- "Data and protected alerts go out on the open one, clear alerts on the started one, each by its own sending numbers" (02, "A unit
-- that rebooted"): the handshake that sends a protected record, or a clear one; and the connection with another in its place
abbrev pub clear_sender : Connection → State → Handshake
clear_sender c S.Idle = c.handshake
clear_sender c S.Replied = c.handshake
clear_sender c S.Spec = c.handshake
clear_sender c S.Open = c.started
clear_sender c S.Closed = c.handshake
clear_sender c S.Barred = c.handshake

abbrev pub sender_of : Bool → Connection → Handshake
sender_of true c = c.handshake
sender_of false c = clear_sender c c.handshake.state

abbrev pub clear_back : Connection → Handshake → SentRecords → State → Connection
clear_back c h sent S.Idle = connection_of h c.started sent
clear_back c h sent S.Replied = connection_of h c.started sent
clear_back c h sent S.Spec = connection_of h c.started sent
clear_back c h sent S.Open = connection_of c.handshake h sent
clear_back c h sent S.Closed = connection_of h c.started sent
clear_back c h sent S.Barred = connection_of h c.started sent

abbrev pub put_back : Bool → Connection → Handshake → SentRecords → Connection
put_back true c h sent = connection_of h c.started sent
put_back false c h sent = clear_back c h sent c.handshake.state

-- .. and the record is added to those that we sent
abbrev pub after_send : Bool → Connection → List ℕ → Connection
after_send protected c bytes = put_back protected c (after_alert protected (sender_of protected c)) (with_record c.sent (sum_of bytes))

-- a send that is refused, or its outcome; and what the output then holds
abbrev pub sent_to : Connection → Sent → Result ⊤ Refusal → Sent
sent_to c success (Ok tt) = success
sent_to c success (Err refusal) = unsent c refusal

abbrev pub output_to : List ℕ → List ℕ → Result ⊤ Refusal → List ℕ
output_to out bytes (Ok tt) = laid_over out 0 bytes
output_to out bytes (Err refusal) = out

-- send data
abbrev pub data_outcome : Handshake → ℕ → ℕ → Result ⊤ Refusal
data_outcome h size room = data_refused h.state size h.protection.protected (size_of h.protection.keys.mac) room

unfoldable pub data_sent : Connection → List ℕ → ℕ → Sent
data_sent c bytes room =
    let next = next_protected c.handshake C.Data bytes in
    sent_to c (done next (after_send true c next)) (data_outcome c.handshake (length bytes) room)

unfoldable pub data_output : Connection → List ℕ → List ℕ → List ℕ
data_output c bytes out =
    output_to out (next_protected c.handshake C.Data bytes) (data_outcome c.handshake (length bytes) (length out))

-- send an alert: "the caller says whether an alert goes out clear or protected, and lends the record that it answers"
abbrev pub alert_body : Level → Description → List ℕ → List ℕ
alert_body level description answered = alert_bytes level description (word_at (checksum_of answered) 0)

abbrev pub alert_outcome : Bool → Handshake → ℕ → ℕ → Result ⊤ Refusal
alert_outcome true h lent room = alert_refused (may_protect h.state) lent h.protection.protected (size_of h.protection.keys.mac) room
alert_outcome false h lent room = alert_refused (may_clear h.state) lent h.protection.clear 0 room

abbrev pub next_alert : Bool → Handshake → List ℕ → List ℕ
next_alert true h body = next_protected h C.Alert body
next_alert false h body = next_clear h body

-- 16: "level or description unknown"
abbrev pub alert_sent_as : Connection → Bool → List ℕ → ℕ → Option Level → Option Description → Sent
alert_sent_as c protected answered room (Some level) (Some description) =
    let next = next_alert protected (sender_of protected c) (alert_body level description answered) in
    sent_to c (done next (after_send protected c next)) (alert_outcome protected (sender_of protected c) (length answered) room)
alert_sent_as c protected answered room (Some level) None = unsent c Argument
alert_sent_as c protected answered room None (Some description) = unsent c Argument
alert_sent_as c protected answered room None None = unsent c Argument

unfoldable pub alert_sent : Connection → Bool → ℕ → ℕ → List ℕ → ℕ → Sent
alert_sent c protected level description answered room =
    alert_sent_as c protected answered room (level_of level) (sorted_of description)

abbrev pub alert_output_as : Connection → Bool → List ℕ → List ℕ → Option Level → Option Description → List ℕ
alert_output_as c protected answered out (Some level) (Some description) =
    output_to out (next_alert protected (sender_of protected c) (alert_body level description answered))
    (alert_outcome protected (sender_of protected c) (length answered) (length out))
alert_output_as c protected answered out (Some level) None = out
alert_output_as c protected answered out None (Some description) = out
alert_output_as c protected answered out None None = out

unfoldable pub alert_output : Connection → Bool → ℕ → ℕ → List ℕ → List ℕ → List ℕ
alert_output c protected level description answered out =
    alert_output_as c protected answered out (level_of level) (sorted_of description)
