-- Send data and send an alert (02, P7; 01, "Refusal numbers": "Send: 16, 7, 8, 15, 6").
use Rattle.std.specs.Prelude.{Bool, true, false, List, ℕ, length, eqb, ltb, leb, Err, None, Ok, Option, Result, Some, ⊤}
use Rattle.message.specs.declared.alert.Description.{Description}
use Rattle.message.specs.declared.alert.Level.{Level}
use Rattle.record.specs.declared.protection.Unwritten.{Unwritten}
use Rattle.digest.specs.Pick.{pick}
use Rattle.record.specs.Written.{record_of, written_of}
use Rattle.record.specs.Protection.{next_record, wrote_by, output_by}
use Rattle.record.specs.declared.keys.Sense.TheVariants.{FromUnit}
use Rattle.record.specs.declared.protection.Protection.{Protection}
use Rattle.connection.specs.Refusal.{unwritten_as}
use Rattle.record.specs.declared.header.Content.{Content}
use Rattle.record.specs.declared.header.Content.TheVariants as C
use Rattle.message.specs.Alert.{level_of, sorted_of}
use Rattle.connection.specs.Send.{alert_body, clear_on}
use Rattle.connection.specs.Sent.{sum_of}
use Rattle.connection.specs.declared.refusal.Refusal.{Refusal}
use Rattle.connection.specs.declared.refusal.Refusal.TheVariants.{Room, Ended, NotAllowed, Spent, Argument}
use Rattle.unit.specs.Unit.{with_sent}
use Rattle.unit.specs.declared.state.State.{State}
use Rattle.unit.specs.declared.state.State.TheVariants as S
use Rattle.unit.specs.declared.send.Sent.{Sent}
use Rattle.unit.specs.declared.unit.Unit.{Unit}

-- 7 and 8, by the state: data and protected alerts in Opening and in Open
abbrev pub may_protect : State → Result ⊤ Refusal
may_protect S.Idle = Err NotAllowed
may_protect S.Sent = Err NotAllowed
may_protect S.Replied = Err NotAllowed
may_protect S.Spec = Err NotAllowed
may_protect S.Opening = Ok tt
may_protect S.Open = Ok tt
may_protect S.Closed = Err Ended
may_protect S.Barred = Err Ended

-- clear alerts in Sent, Replied and Spec
abbrev pub may_clear : State → Result ⊤ Refusal
may_clear S.Idle = Err NotAllowed
may_clear S.Sent = Ok tt
may_clear S.Replied = Ok tt
may_clear S.Spec = Ok tt
may_clear S.Opening = Err NotAllowed
may_clear S.Open = Err NotAllowed
may_clear S.Closed = Err Ended
may_clear S.Barred = Err Ended

-- "A refusal changes neither buffer nor connection"
abbrev pub unsent : Unit → Refusal → Sent
unsent u refusal = record { outcome = Err refusal; written = 0; unit = u }

abbrev pub done_with : ℕ → Unit → Sent
done_with written u = record { outcome = (Ok tt); written = written; unit = u }

-- refused by the state, or what follows; and what the output then holds
abbrev pub sent_if : Unit → Result ⊤ Refusal → Sent → Sent
sent_if u (Ok tt) success = success
sent_if u (Err refusal) success = unsent u refusal

abbrev pub output_if : List ℕ → Result ⊤ Refusal → List ℕ → List ℕ
output_if out (Ok tt) success = success
output_if out (Err refusal) success = out

-- the next protected record of ours: 15, "sending never passes 65,535", then 6; else it is added to those that we sent
abbrev pub wrote_to : Unit → List ℕ → Protection → Result ℕ Unwritten → Sent
wrote_to u bytes p (Err why) = unsent u (unwritten_as why)
wrote_to u bytes p (Ok size) = done_with size (with_sent u p (sum_of bytes))

unfoldable pub protected_sent : Unit → Content → List ℕ → ℕ → Sent
protected_sent u content body room =
    let writing = wrote_by u.protection FromUnit content body room in
    wrote_to u (next_record u.protection FromUnit content body) writing.protection writing.wrote

-- the next clear one, an alert
abbrev pub next_clear : Unit → List ℕ → List ℕ
next_clear u body = record_of false false C.Alert u.protection.clear body

unfoldable pub clear_sent : Unit → List ℕ → ℕ → Sent
clear_sent u body room =
    pick (ltb 65535 u.protection.clear) (unsent u Spent)
    (pick (leb (length (next_clear u body)) room)
    (done_with (length (next_clear u body)) (with_sent u (clear_on u.protection) (sum_of (next_clear u body))))
    (unsent u Room))

unfoldable pub clear_output : Unit → List ℕ → List ℕ → List ℕ
clear_output u body out = pick (ltb 65535 u.protection.clear) out (written_of out (next_clear u body))

-- send data. 16: "data not 1 to 1,300"
unfoldable pub data_sent : Unit → List ℕ → ℕ → Sent
data_sent u bytes room =
    pick (eqb (length bytes) 0) (unsent u Argument)
    (pick (ltb 1300 (length bytes)) (unsent u Argument)
    (sent_if u (may_protect u.state) (protected_sent u C.Data bytes room)))

unfoldable pub data_output : Unit → List ℕ → List ℕ → List ℕ
data_output u bytes out =
    pick (eqb (length bytes) 0) out
    (pick (ltb 1300 (length bytes)) out
    (output_if out (may_protect u.state) (output_by u.protection FromUnit C.Data bytes out)))

-- send an alert: the bytes of it, protected or clear
unfoldable pub alert_sent_by : Unit → Bool → List ℕ → ℕ → Sent
alert_sent_by u true body room = sent_if u (may_protect u.state) (protected_sent u C.Alert body room)
alert_sent_by u false body room = sent_if u (may_clear u.state) (clear_sent u body room)

unfoldable pub alert_output_by : Unit → Bool → List ℕ → List ℕ → List ℕ
alert_output_by u true body out = output_if out (may_protect u.state) (output_by u.protection FromUnit C.Alert body out)
alert_output_by u false body out = output_if out (may_clear u.state) (clear_output u body out)

-- 16: "level or description unknown, record lent for an alert over 1,400"
abbrev pub alert_sent_as : Unit → Bool → List ℕ → ℕ → Option Level → Option Description → Sent
alert_sent_as u protected answered room (Some level) (Some description) =
    pick (ltb 1400 (length answered)) (unsent u Argument)
    (alert_sent_by u protected (alert_body level description answered) room)
alert_sent_as u protected answered room (Some level) None = unsent u Argument
alert_sent_as u protected answered room None (Some description) = unsent u Argument
alert_sent_as u protected answered room None None = unsent u Argument

unfoldable pub alert_sent : Unit → Bool → ℕ → ℕ → List ℕ → ℕ → Sent
alert_sent u protected level description answered room =
    alert_sent_as u protected answered room (level_of level) (sorted_of description)

abbrev pub alert_output_as : Unit → Bool → List ℕ → List ℕ → Option Level → Option Description → List ℕ
alert_output_as u protected answered out (Some level) (Some description) =
    pick (ltb 1400 (length answered)) out (alert_output_by u protected (alert_body level description answered) out)
alert_output_as u protected answered out (Some level) None = out
alert_output_as u protected answered out None (Some description) = out
alert_output_as u protected answered out None None = out

unfoldable pub alert_output : Unit → Bool → ℕ → ℕ → List ℕ → List ℕ → List ℕ
alert_output u protected level description answered out =
    alert_output_as u protected answered out (level_of level) (sorted_of description)
