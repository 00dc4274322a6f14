-- Protected records (01, "Handshake", "Alerts" and "The record on the wire"): "checked in this order: code, too old,
-- repeated, content". The first three are layer 2's, where a record is opened.
use Rattle.std.specs.Prelude.{List, ℕ, length, take, eqb, Err, None, Ok, Option, Result, Some, ⊤}
use Rattle.message.specs.declared.alert.Alert.{Alert}
use Rattle.message.specs.declared.finished.Unverified.{Unverified}
use Rattle.record.specs.declared.protection.Unopened.{Unopened}
use Rattle.digest.specs.Pick.{pick}
use Rattle.record.specs.Protection.{opened_by}
use Rattle.record.specs.declared.keys.Sense.TheVariants.{FromUnit}
use Rattle.record.specs.declared.protection.Protection.{Protection}
use Rattle.connection.specs.Refusal.{unopened_as}
use Rattle.message.specs.Alert.{alert_of}
use Rattle.message.specs.Finished.{judged_of}
use Rattle.message.specs.declared.alert.Level.{Level}
use Rattle.message.specs.declared.alert.Level.TheVariants as L
use Rattle.message.specs.declared.alert.Description.{Description}
use Rattle.message.specs.declared.finished.Unverified.TheVariants as F
use Rattle.connection.specs.Handshake.{with_state, with_protection, barred}
use Rattle.connection.specs.Answer.{judged, refusing}
use Rattle.connection.specs.declared.state.State.{State}
use Rattle.connection.specs.declared.state.State.TheVariants as S
use Rattle.connection.specs.declared.state.Kind.{Kind}
use Rattle.connection.specs.declared.state.Kind.TheVariants.{ClearHello, ClearChange, ClearAlert, OtherClear, ProtectedChange, ProtectedAlert, ProtectedHandshake, ProtectedData}
use Rattle.connection.specs.declared.refusal.Refusal.TheVariants.{Ended, NotAllowed, Malformed, WrongFinished}
use Rattle.connection.specs.declared.answer.Answer.TheVariants as W
use Rattle.connection.specs.declared.answer.Judged.{Judged}
use Rattle.connection.specs.declared.handshake.Handshake.{Handshake}

-- a Finished with the right contents: "Spec: Open"; "Open: again, Open kept". The table sends no record here in another
-- state, where it is refused: 7, 8.
abbrev pub opening : Handshake → Judged
opening h = judged W.Open (with_state h S.Open)

abbrev pub finished_in : Handshake → State → Judged
finished_in h S.Idle = refusing NotAllowed h
finished_in h S.Replied = refusing NotAllowed h
finished_in h S.Spec = opening h
finished_in h S.Open = judged W.Again h
finished_in h S.Closed = refusing Ended h
finished_in h S.Barred = refusing Ended h

-- 12: "a message other than Finished under protection"; 17: "genuine Finished with wrong contents", which also closes
abbrev pub verified_to : Handshake → Result ⊤ Unverified → Judged
verified_to h (Ok tt) = finished_in h h.state
verified_to h (Err F.Wrong) = judged (W.Refused WrongFinished) (with_state h S.Closed)
verified_to h (Err F.Malformed) = refusing Malformed h

unfoldable pub verified_by : Handshake → List ℕ → Judged
verified_by h content = verified_to h (judged_of content h.expected)

-- "warning changes nothing beyond the mark of a protected one's number, critical closes the connection, fatal closes it
-- and, if protected, bars the session"
abbrev pub protected_level : Handshake → Level → Description → Judged
protected_level h L.Warning description = judged (W.Warning description) h
protected_level h L.Critical description = judged (W.Critical description) (with_state h S.Closed)
protected_level h L.Fatal description = judged (W.Barred description) (barred h)

abbrev pub alerted_to : Handshake → Option Alert → Judged
alerted_to h None = refusing Malformed h
alerted_to h (Some a) = protected_level h a.level a.description

unfoldable pub alerted_by : Handshake → List ℕ → Judged
alerted_by h content = alerted_to h (alert_of content)

-- 12: "empty data", and change cipher spec under protection; the content stands at `at` in the datagram. The table sends no clear
-- record here, where it is refused: 8.
unfoldable pub content_by : Handshake → Kind → ℕ → ℕ → List ℕ → Judged
content_by h ProtectedData number at content =
    pick (eqb (length content) 0) (refusing Malformed h) (judged (W.Data number at (length content)) h)
content_by h ProtectedAlert number at content = alerted_by h content
content_by h ProtectedHandshake number at content = verified_by h content
content_by h ProtectedChange number at content = refusing Malformed h
content_by h ClearHello number at content = refusing NotAllowed h
content_by h ClearChange number at content = refusing NotAllowed h
content_by h ClearAlert number at content = refusing NotAllowed h
content_by h OtherClear number at content = refusing NotAllowed h

-- "A genuine new record marks its number even if its content is then refused." The content is the front of the fragment.
abbrev pub opened_as : Handshake → Kind → ℕ → ℕ → List ℕ → Protection → Result ℕ Unopened → Judged
opened_as h kind number at fragment p (Err why) = refusing (unopened_as why) h
opened_as h kind number at fragment p (Ok size) = content_by (with_protection h p) kind number at (take size fragment)

-- the unit's records
unfoldable pub opened_record : Handshake → Kind → ℕ → ℕ → ℕ → List ℕ → Judged
opened_record h kind byte number at fragment =
    let opening = opened_by h.protection FromUnit number byte fragment in
    opened_as h kind number at fragment opening.protection opening.opened
