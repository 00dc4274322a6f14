-- Protected records (02, P7: "verify our Finished", "receive data and alerts under the same window rules"): "checked in this order:
-- code, too old, repeated, content" (01). The first three are layer 2's, where a record is opened.
use Rattle.std.specs.Prelude.{List, ℕ, ◌+◌, length, take, eqb, Err, None, Ok, Option, Result, Some, ⊤}
use Rattle.message.specs.declared.alert.Alert.{Alert}
use Rattle.message.specs.declared.finished.Unverified.{Unverified}
use Rattle.record.specs.declared.protection.Unopened.{Unopened}
use Rattle.digest.specs.Pick.{pick}
use Rattle.digest.specs.Mac.{size_of}
use Rattle.digest.specs.declared.mac.Mac.{Mac}
use Rattle.record.specs.Protection.{opened_by}
use Rattle.record.specs.declared.keys.Sense.TheVariants.{FromShore}
use Rattle.record.specs.declared.window.Window.{Window}
use Rattle.record.specs.declared.protection.Protection.{Protection}
use Rattle.connection.specs.Refusal.{unopened_as}
use Rattle.message.specs.Alert.{alert_of, description_number}
use Rattle.message.specs.Finished.{judged_of}
use Rattle.message.specs.Request.{is_request}
use Rattle.message.specs.declared.alert.Level.{Level}
use Rattle.message.specs.declared.alert.Level.TheVariants as L
use Rattle.message.specs.declared.alert.Description.{Description}
use Rattle.message.specs.declared.finished.Unverified.TheVariants as F
use Rattle.connection.specs.declared.refusal.Refusal.TheVariants.{Ended, NotAllowed, Forged, TooOld, Repeated, Malformed, WrongFinished}
use Rattle.unit.specs.Step.{step, refusing}
use Rattle.unit.specs.Clear.{requested_by}
use Rattle.unit.specs.declared.state.State.{State}
use Rattle.unit.specs.declared.state.State.TheVariants as S
use Rattle.unit.specs.declared.state.Kind.{Kind}
use Rattle.unit.specs.declared.state.Kind.TheVariants.{ClearHello, ClearRequest, ClearChange, ClearAlert, OtherClear, ProtectedChange, ProtectedAlert, ProtectedHandshake, ProtectedData}
use Rattle.unit.specs.declared.answer.Answer.TheVariants as W
use Rattle.unit.specs.declared.step.Move.{Move}
use Rattle.unit.specs.declared.step.Move.TheVariants.{Stay, Finish, Settle, Close, Bar}
use Rattle.unit.specs.declared.step.Step.{Step}

-- the size of our flight: change cipher spec of 6 bytes; a Finished of 15 behind a header of 3, and its code
abbrev pub flight_size : Mac → ℕ
flight_size mac = 24 + size_of mac

-- a Finished with the right contents: "write change cipher spec and Finished"; under a new number later: "again". The table sends
-- no record here in another state, where it is refused: 7, 8.
abbrev pub finished_in : Window → Mac → State → Step
finished_in window mac S.Idle = refusing window NotAllowed
finished_in window mac S.Sent = refusing window NotAllowed
finished_in window mac S.Replied = refusing window NotAllowed
finished_in window mac S.Spec = step (W.Open (flight_size mac)) window Finish
finished_in window mac S.Opening = step W.Again window Stay
finished_in window mac S.Open = step W.Again window Stay
finished_in window mac S.Closed = refusing window Ended
finished_in window mac S.Barred = refusing window Ended

-- 12: another message under protection; 17: "genuine Finished with wrong contents", which also closes
abbrev pub verified_to : Window → Mac → State → Result ⊤ Unverified → Step
verified_to window mac state (Ok tt) = finished_in window mac state
verified_to window mac state (Err F.Wrong) = step (W.Refused WrongFinished) window Close
verified_to window mac state (Err F.Malformed) = refusing window Malformed

unfoldable pub verified_by : Window → Mac → List ℕ → State → List ℕ → Step
verified_by window mac expected state content = verified_to window mac state (judged_of content expected)

-- a HelloRequest, or the Finished
unfoldable pub handshake_by : Window → Mac → List ℕ → State → List ℕ → Step
handshake_by window mac expected state content =
    pick (is_request content) (requested_by state window content) (verified_by window mac expected state content)

-- "the warning on a repeated Finished": duplicate_finished_received(57)
unfoldable pub warned : Description → Move
warned description = pick (eqb (description_number description) 57) Settle Stay

-- "warning changes nothing beyond the mark of a protected one's number, critical closes the connection, fatal closes it and, if
-- protected, bars the session" (01)
abbrev pub protected_level : Window → Level → Description → Step
protected_level window L.Warning description = step (W.Warning description) window (warned description)
protected_level window L.Critical description = step (W.Critical description) window Close
protected_level window L.Fatal description = step (W.Barred description) window Bar

abbrev pub alerted_to : Window → Option Alert → Step
alerted_to window None = refusing window Malformed
alerted_to window (Some a) = protected_level window a.level a.description

unfoldable pub alerted_by : Window → List ℕ → Step
alerted_by window content = alerted_to window (alert_of content)

-- 12: "empty data", and change cipher spec under protection; the content stands at `at` in the datagram. The first data leads to
-- Open. The table sends no clear record here, where it is refused: 8.
unfoldable pub content_by : Window → Mac → List ℕ → State → Kind → ℕ → ℕ → List ℕ → Step
content_by window mac expected state ProtectedData number at content =
    pick (eqb (length content) 0) (refusing window Malformed) (step (W.Data number at (length content)) window Settle)
content_by window mac expected state ProtectedAlert number at content = alerted_by window content
content_by window mac expected state ProtectedHandshake number at content = handshake_by window mac expected state content
content_by window mac expected state ProtectedChange number at content = refusing window Malformed
content_by window mac expected state ClearHello number at content = refusing window NotAllowed
content_by window mac expected state ClearRequest number at content = refusing window NotAllowed
content_by window mac expected state ClearChange number at content = refusing window NotAllowed
content_by window mac expected state ClearAlert number at content = refusing window NotAllowed
content_by window mac expected state OtherClear number at content = refusing window NotAllowed

-- "A genuine new record marks its number even if its content is then refused." The content is the front of the fragment.
abbrev pub unprotected_to : Protection → List ℕ → State → Kind → ℕ → ℕ → List ℕ → Protection → Result ℕ Unopened → Step
unprotected_to p expected state kind number at fragment left (Err why) = refusing p.window (unopened_as why)
unprotected_to p expected state kind number at fragment left (Ok size) =
    content_by left.window p.keys.mac expected state kind number at (take size fragment)

-- the shore's records
unfoldable pub unprotected_by : Protection → List ℕ → State → Kind → ℕ → ℕ → ℕ → List ℕ → Step
unprotected_by p expected state kind byte number at fragment =
    let opening = opened_by p FromShore number byte fragment in
    unprotected_to p expected state kind number at fragment opening.protection opening.opened
