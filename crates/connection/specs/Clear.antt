-- Clear records (01, "Handshake" and "Alerts").
use Rattle.std.specs.Prelude.{Bool, List, ℕ, length, take, Err, None, Ok, Option, Result, Some}
use Rattle.message.specs.declared.acceptance.Plan.{Plan}
use Rattle.message.specs.declared.acceptance.Unheard.{Unheard}
use Rattle.message.specs.declared.alert.Alert.{Alert}
use Rattle.digest.specs.Pick.{pick}
use Rattle.digest.specs.Mac.{same_bytes}
use Rattle.record.specs.Window.{emptied}
use Rattle.message.specs.Acceptance.{heard_of}
use Rattle.message.specs.Alert.{alert_of}
use Rattle.message.specs.Change.{is_change}
use Rattle.message.specs.declared.acceptance.Unheard.TheVariants as H
use Rattle.message.specs.declared.alert.Level.{Level}
use Rattle.message.specs.declared.alert.Level.TheVariants as L
use Rattle.message.specs.declared.alert.Description.{Description}
use Rattle.connection.specs.Handshake.{planted, with_state, with_window}
use Rattle.connection.specs.Sent.{matches_of}
use Rattle.connection.specs.Answer.{judged, refusing}
use Rattle.connection.specs.Reply.{reply_to, answered_with}
use Rattle.connection.specs.declared.state.State.TheVariants as S
use Rattle.connection.specs.declared.refusal.Refusal.TheVariants.{NotAllowed, Malformed, Unacceptable, Checksum}
use Rattle.connection.specs.declared.answer.Answer.TheVariants.{Reply, Resent, Spec, Warning, Critical, Fatal}
use Rattle.connection.specs.declared.answer.Judged.{Judged}
use Rattle.connection.specs.declared.handshake.Handshake.{Handshake}
use Rattle.connection.specs.declared.handshake.Kept.{Kept}
use Rattle.connection.specs.declared.sent.SentRecords.{SentRecords}

-- "Idle, clear ClientHello: reply; Replied". A hello that is malformed is 12, one that is not acceptable 13.
abbrev pub heard_to : Handshake → List ℕ → List ℕ → Result Plan Unheard → Judged
heard_to h random m (Ok plan) = judged (Reply (length (reply_to (planted h) random m plan))) (answered_with h random m plan)
heard_to h random m (Err (H.Unacceptable condition)) = refusing Unacceptable h
heard_to h random m (Err (H.Malformed fault)) = refusing Malformed h

unfoldable pub greeted_by : Handshake → List ℕ → List ℕ → Judged
greeted_by h random m = heard_to h random m (heard_of m h.id)

-- "Replied, Spec: the same ClientHello message: the same reply bytes; no change"
abbrev pub is_kept : Kept → List ℕ → Bool
is_kept kept m = same_bytes m (take kept.heard kept.hello)

abbrev pub kept_size : Kept → ℕ
kept_size kept = length (take kept.size kept.reply)

-- ".. another acceptable ClientHello: new reply; Replied"
unfoldable pub greeted_again : Handshake → List ℕ → List ℕ → Judged
greeted_again h random m = pick (is_kept h.kept m) (judged (Resent (kept_size h.kept)) h) (greeted_by h random m)

-- Open: "The hello that made the open connection gets its reply bytes again and starts nothing." (02, "A unit that rebooted")
unfoldable pub resent_by : Handshake → List ℕ → Judged
resent_by h m = pick (is_kept h.kept m) (judged (Resent (kept_size h.kept)) h) (refusing NotAllowed h)

-- "Replied: clear change cipher spec (one byte 1): Spec, window empty"
unfoldable pub changed_by : Handshake → List ℕ → Judged
changed_by h fragment =
    pick (is_change fragment) (judged Spec (with_state (with_window h (emptied h.protection.window)) S.Spec)) (refusing Malformed h)

-- "Level alone decides": "warning changes nothing beyond the mark of a protected one's number, critical closes the connection". "A
-- clear fatal alert closes only" (house rules)
abbrev pub by_level : Handshake → Level → Description → Judged
by_level h L.Warning description = judged (Warning description) h
by_level h L.Critical description = judged (Critical description) (with_state h S.Closed)
by_level h L.Fatal description = judged (Fatal description) (with_state h S.Closed)

-- 12, then 14: a clear alert "is now good if it matches any of the last eight records that we sent since the last start" (02)
abbrev pub heard_by : Handshake → SentRecords → Option Alert → Judged
heard_by h sent None = refusing Malformed h
heard_by h sent (Some a) =
    pick (matches_of sent a.checksum) (by_level h a.level a.description) (refusing Checksum h)

unfoldable pub heard_alert : Handshake → SentRecords → List ℕ → Judged
heard_alert h sent fragment = heard_by h sent (alert_of fragment)
