-- Clear records but the ServerHello (02, P7).
use Rattle.std.specs.Prelude.{List, ℕ, None, Option, Some}
use Rattle.message.specs.declared.alert.Alert.{Alert}
use Rattle.digest.specs.Pick.{pick}
use Rattle.record.specs.Window.{emptied}
use Rattle.record.specs.declared.window.Window.{Window}
use Rattle.message.specs.Alert.{alert_of}
use Rattle.message.specs.Change.{is_change}
use Rattle.message.specs.Request.{is_request}
use Rattle.message.specs.declared.alert.Level.{Level}
use Rattle.message.specs.declared.alert.Level.TheVariants as L
use Rattle.message.specs.declared.alert.Description.{Description}
use Rattle.connection.specs.Sent.{matches_of}
use Rattle.connection.specs.declared.sent.SentRecords.{SentRecords}
use Rattle.connection.specs.declared.refusal.Refusal.TheVariants.{Ended, Malformed, Checksum}
use Rattle.unit.specs.Step.{step, refusing}
use Rattle.unit.specs.declared.state.State.{State}
use Rattle.unit.specs.declared.state.State.TheVariants as S
use Rattle.unit.specs.declared.answer.Answer.{Answer}
use Rattle.unit.specs.declared.answer.Answer.TheVariants.{Spec, Request, Ignored, Warning, Critical, Fatal, Refused}
use Rattle.unit.specs.declared.step.Move.TheVariants.{Stay, Change, Close}
use Rattle.unit.specs.declared.step.Step.{Step}

-- clear change cipher spec (one byte 1): Spec, window empty; else 12
unfoldable pub changed_by : Window → List ℕ → Step
changed_by window fragment = pick (is_change fragment) (step Spec (emptied window) Change) (refusing window Malformed)

-- "Level alone decides": warning changes nothing, critical closes the connection, "a clear fatal alert closes only" (01)
abbrev pub by_level : Window → Level → Description → Step
by_level window L.Warning description = step (Warning description) window Stay
by_level window L.Critical description = step (Critical description) window Close
by_level window L.Fatal description = step (Fatal description) window Close

-- 12, then 14: a clear alert is "good if it matches any of the last eight records that we sent since the last start" (02, P3)
abbrev pub heard_by : SentRecords → Window → Option Alert → Step
heard_by sent window None = refusing window Malformed
heard_by sent window (Some a) =
    pick (matches_of sent a.checksum) (by_level window a.level a.description) (refusing window Checksum)

unfoldable pub heard_alert : SentRecords → Window → List ℕ → Step
heard_alert sent window fragment = heard_by sent window (alert_of fragment)

-- "A HelloRequest in the middle of a handshake is ignored; otherwise it is reported and changes nothing."
abbrev pub request_in : State → Answer
request_in S.Idle = Request
request_in S.Sent = Ignored
request_in S.Replied = Ignored
request_in S.Spec = Ignored
request_in S.Opening = Request
request_in S.Open = Request
request_in S.Closed = Refused Ended
request_in S.Barred = Refused Ended

-- 12 for a message that begins like one and is none
unfoldable pub requested_by : State → Window → List ℕ → Step
requested_by state window m = pick (is_request m) (step (request_in state) window Stay) (refusing window Malformed)
