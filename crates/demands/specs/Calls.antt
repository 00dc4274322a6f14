-- The calls: what each gives, and exactly when each refusal is given (01, "Refusal numbers"). "Receive: 16, 6, 1,
-- then framing from the front (per record 5, 3, 2, 4), then one answer per record." "Send: 16, 7, 8, 15, 6. Data is
-- sent only in Open, protected alerts in Replied, Spec and Open, clear ones in Replied and Spec. Start again: 7, then
-- 8 unless Closed. Close: 7."
use Rattle.std.specs.Prelude.{◌≡◌, ◌↔◌, ◌⊎◌, ◌≢◌, Bool, true, false, List, [], ◌∷◌, ℕ, ◌+◌, ◌≤◌, ◌<◌, length, Err, None, Ok, Result, Some}
use Rattle.connection.specs.declared.receive.Untaken.{Untaken}
use Rattle.digest.specs.Bytes.{laid_over}
use Rattle.digest.specs.Mac.{size_of}
use Rattle.record.specs.Datagram.{framed, faulty, framing_of}
use Rattle.record.specs.Window.{Held}
use Rattle.record.specs.declared.header.Content.TheVariants as C
use Rattle.record.specs.declared.reader.Fault.{Fault}
use Rattle.record.specs.declared.reader.Record.{Record}
use Rattle.message.specs.Acceptance.{heard_of}
use Rattle.message.specs.Alert.{level_of, sorted_of}
use Rattle.message.specs.declared.acceptance.Plan.{Plan}
use Rattle.message.specs.declared.acceptance.Unheard.TheVariants as H
use Rattle.message.specs.declared.alert.Level.{Level}
use Rattle.message.specs.declared.alert.Description.{Description}
use Rattle.connection.specs.Calls.{fresh_of, leaving}
use Rattle.connection.specs.Handshake.{planted, kept_reply}
use Rattle.connection.specs.Connection as I
use Rattle.connection.specs.Asked.{asked_of}
use Rattle.connection.specs.Judge.{fragment_of}
use Rattle.connection.specs.Receive.{slots_of}
use Rattle.connection.specs.Reply.{reply_to}
use Rattle.connection.specs.Send.{next_protected, next_alert, sender_of, after_send, alert_body}
use Rattle.connection.specs.declared.state.State.{State}
use Rattle.connection.specs.declared.state.State.TheVariants.{Idle, Replied, Spec, Open, Closed, Barred}
use Rattle.connection.specs.declared.refusal.Refusal.{Refusal}
use Rattle.connection.specs.declared.refusal.Refusal.TheVariants as X
use Rattle.connection.specs.declared.answer.Answer.{Answer}
use Rattle.connection.specs.declared.answer.Answer.TheVariants as W
use Rattle.connection.specs.declared.connection.Connection.{Connection}
use Rattle.connection.specs.declared.calls.Called.{Called}
use Rattle.connection.specs.declared.receive.Untaken.TheVariants as T
use Rattle.connection.specs.declared.handshake.Handshake.{Handshake}
use Rattle.demands.specs.Runs.{Call, receive, send_data, send_alert, close, start, received, sent, called, Step, step_of, fresh_one}
use Rattle.connection.specs.declared.asked.Whom.{Whom}
use Rattle.connection.specs.declared.told.Told.{Told}
use Rattle.demands.specs.Table.{Over}
use Rattle.demands.specs.Asked.{Asks, Tells}

-- Records one after the other, each in the connection that those before it left: an answer for each, and what the last
-- one leaves. "One answer per record."
pub data Chain (random d : List ℕ) : Connection → List Record → List Answer → Connection → Type 0 where
  chain_end : {c : Connection} → Chain random d c [] [] c
  chain_more : {c : Connection} {r : Record} {rs : List Record} {t : Told} {answers : List Answer} {left : Connection}
      → Tells c random d r t
      → Chain random d t.connection rs answers left → Chain random d c (r ∷ rs) (t.answer ∷ answers) left

-- What a record sends, by the answer of the handshake h that is asked: a new reply is that of the session to this hello with our
-- random; "the same reply bytes" are those that are kept; nothing else sends.
abbrev pub SendsBy : Handshake → List ℕ → List ℕ → Answer → List ℕ → Type 0
SendsBy h random m W.Nothing bytes = bytes ≡ []
SendsBy h random m (W.Reply size) bytes =
    (plan : Plan) × (heard_of m h.id ≡ Ok plan) × (bytes ≡ reply_to (planted h) random m plan)
SendsBy h random m (W.Resent size) bytes = bytes ≡ kept_reply h
SendsBy h random m W.Spec bytes = bytes ≡ []
SendsBy h random m W.Open bytes = bytes ≡ []
SendsBy h random m W.Again bytes = bytes ≡ []
SendsBy h random m (W.Data number place size) bytes = bytes ≡ []
SendsBy h random m (W.Warning description) bytes = bytes ≡ []
SendsBy h random m (W.Critical description) bytes = bytes ≡ []
SendsBy h random m (W.Fatal description) bytes = bytes ≡ []
SendsBy h random m (W.Barred description) bytes = bytes ≡ []
SendsBy h random m (W.Refused refusal) bytes = bytes ≡ []

-- What a datagram sends: what its first record sends. (A ClientHello "may stand only first in its datagram".)
abbrev pub FirstSends : Connection → List ℕ → List ℕ → List Record → List Answer → List ℕ → Type 0
FirstSends c random d [] answers bytes = bytes ≡ []
FirstSends c random d (r ∷ rs) [] bytes = ⊥
FirstSends c random d (r ∷ rs) (a ∷ answers) bytes =
    (w : Whom) × Asks c d r w × SendsBy (asked_of c w) random (fragment_of d r) a bytes

-- refused as a whole: "a refusal changes neither buffer nor connection"
abbrev pub not_taken : Connection → List ℕ → Result ℕ Untaken → Step
not_taken c out taken = record { result = received taken (slots_of []) 0; output = out; connection = c }

abbrev pub not_sent : Connection → List ℕ → Refusal → Step
not_sent c out refusal = record { result = sent (Err refusal) 0; output = out; connection = c }

abbrev pub not_called : Connection → Refusal → Step
not_called c refusal = record { result = called (Err refusal); output = []; connection = c }

-- "A success writes the counted bytes at the front and no others."
abbrev pub taken : List ℕ → List Record → List Answer → List ℕ → Connection → Step
taken out rs answers reply left =
    record {
      result = received (Ok (length rs)) (slots_of answers) (length reply);
      output = laid_over out 0 reply;
      connection = left;
    }

abbrev pub was_sent : List ℕ → List ℕ → Connection → Step
was_sent out bytes left =
    record { result = sent (Ok tt) (length bytes); output = laid_over out 0 bytes; connection = left }

abbrev pub was_called : Connection → Step
was_called left = record { result = called (Ok tt); output = []; connection = left }

-- "protected alerts in Replied, Spec and Open, clear ones in Replied and Spec"
abbrev pub may_alert : Bool → State → Bool
may_alert protected Idle = false
may_alert protected Replied = true
may_alert protected Spec = true
may_alert protected Open = protected
may_alert protected Closed = false
may_alert protected Barred = false

-- the number that a send would carry, and the size of its code
abbrev pub number_for : Bool → Handshake → ℕ
number_for true h = h.protection.protected
number_for false h = h.protection.clear

abbrev pub code_for : Bool → Handshake → ℕ
code_for true h = size_of h.protection.keys.mac
code_for false h = 0

-- 16: "data not 1 to 1,300"; "level or description unknown, record lent for an alert over 1,400"
abbrev pub BadData : List ℕ → Type 0
BadData bytes = (length bytes ≡ 0) ⊎ (1300 < length bytes)

abbrev pub BadAlert : ℕ → ℕ → List ℕ → Type 0
BadAlert level description answered =
    (level_of level ≡ None) ⊎ ((sorted_of description ≡ None) ⊎ (1400 < length answered))

pub record GoodData (bytes : List ℕ) : Type 0 where
  pub some : 1 ≤ length bytes
  pub most : length bytes ≤ 1300

pub record GoodAlert (level description : ℕ) (answered : List ℕ) (l : Level) (k : Description) : Type 0 where
  pub level_is : level_of level ≡ Some l
  pub description_is : sorted_of description ≡ Some k
  pub lent_most : length answered ≤ 1400

pub data CallRow (c : Connection) : Call → Step → Type 0 where
  -- receive
  receive_16 : {d random out : List ℕ} → length random ≢ 16
      → CallRow c (receive d random out) (not_taken c out (Err (T.Refused X.Argument)))
  receive_6 : {d random out : List ℕ} → length random ≡ 16 → length out < 128
      → CallRow c (receive d random out) (not_taken c out (Err (T.Refused X.Room)))
  receive_framing : {d random out : List ℕ} {fault : Fault} {at : ℕ} → length random ≡ 16 → 128 ≤ length out
      → framing_of d ≡ faulty fault at
      → CallRow c (receive d random out) (not_taken c out (Err (T.Misframed (X.Framing fault) at)))
  receive_records : {d random out : List ℕ} {rs : List Record} {answers : List Answer} {left : Connection} (reply : List ℕ)
      → length random ≡ 16 → 128 ≤ length out
      → framing_of d ≡ framed rs → Chain random d c rs answers left
      → FirstSends c random d rs answers reply
      → CallRow c (receive d random out) (taken out rs answers reply left)
  -- send data
  data_16 : {bytes out : List ℕ} → BadData bytes → CallRow c (send_data bytes out) (not_sent c out X.Argument)
  data_7 : {bytes out : List ℕ} → GoodData bytes → Over c.handshake.state
      → CallRow c (send_data bytes out) (not_sent c out X.Ended)
  data_8 : {bytes out : List ℕ} → GoodData bytes → (Over c.handshake.state → ⊥) → c.handshake.state ≢ Open
      → CallRow c (send_data bytes out) (not_sent c out X.NotAllowed)
  data_15 : {bytes out : List ℕ} → GoodData bytes → c.handshake.state ≡ Open → 65535 < number_for true c.handshake
      → CallRow c (send_data bytes out) (not_sent c out X.Spent)
  data_6 : {bytes out : List ℕ} → GoodData bytes → c.handshake.state ≡ Open → number_for true c.handshake ≤ 65535
      → length out < 3 + length bytes + code_for true c.handshake
      → CallRow c (send_data bytes out) (not_sent c out X.Room)
  data_sent_lem : {bytes out : List ℕ} → GoodData bytes → c.handshake.state ≡ Open → number_for true c.handshake ≤ 65535
      → 3 + length bytes + code_for true c.handshake ≤ length out
      → CallRow c (send_data bytes out)
      (was_sent out (next_protected c.handshake C.Data bytes)
      (after_send true c (next_protected c.handshake C.Data bytes)))
  -- send an alert, from the handshake that sends it: "clear alerts on the started one, each by its own sending numbers" (02, P6)
  alert_16 : {protected : Bool} {level description : ℕ} {answered out : List ℕ} → BadAlert level description answered
      → CallRow c (send_alert protected level description answered out) (not_sent c out X.Argument)
  alert_7 : {protected : Bool} {level description : ℕ} {answered out : List ℕ} {l : Level} {k : Description}
      → GoodAlert level description answered l k
      → Over (sender_of protected c).state
      → CallRow c (send_alert protected level description answered out) (not_sent c out X.Ended)
  alert_8 : {protected : Bool} {level description : ℕ} {answered out : List ℕ} {l : Level} {k : Description}
      → GoodAlert level description answered l k
      → (Over (sender_of protected c).state → ⊥) → may_alert protected (sender_of protected c).state ≡ false
      → CallRow c (send_alert protected level description answered out) (not_sent c out X.NotAllowed)
  alert_15 : {protected : Bool} {level description : ℕ} {answered out : List ℕ} {l : Level} {k : Description}
      → GoodAlert level description answered l k
      → may_alert protected (sender_of protected c).state ≡ true → 65535 < number_for protected (sender_of protected c)
      → CallRow c (send_alert protected level description answered out) (not_sent c out X.Spent)
  alert_6 : {protected : Bool} {level description : ℕ} {answered out : List ℕ} {l : Level} {k : Description}
      → GoodAlert level description answered l k
      → may_alert protected (sender_of protected c).state ≡ true → number_for protected (sender_of protected c) ≤ 65535
      → length out < 9 + code_for protected (sender_of protected c)
      → CallRow c (send_alert protected level description answered out) (not_sent c out X.Room)
  alert_sent_lem : {protected : Bool} {level description : ℕ} {answered out : List ℕ} {l : Level} {k : Description}
      → GoodAlert level description answered l k
      → may_alert protected (sender_of protected c).state ≡ true → number_for protected (sender_of protected c) ≤ 65535
      → 9 + code_for protected (sender_of protected c) ≤ length out
      → CallRow c (send_alert protected level description answered out)
      (was_sent out (next_alert protected (sender_of protected c) (alert_body l k answered))
      (after_send protected c (next_alert protected (sender_of protected c) (alert_body l k answered))))
  -- close, and start again
  close_7 : c.handshake.state ≡ Barred → CallRow c close (not_called c X.Ended)
  close_done : c.handshake.state ≢ Barred → CallRow c close (was_called (I.ended c))
  start_7 : c.handshake.state ≡ Barred → CallRow c start (not_called c X.Ended)
  start_8 : c.handshake.state ≢ Barred → c.handshake.state ≢ Closed → CallRow c start (not_called c X.NotAllowed)
  start_done : c.handshake.state ≡ Closed → CallRow c start (was_called (I.restarted c))

-- "Fresh connection: 16 only": "identifier not 8, secret not 20", and 02, P1: "width outside 32 to 64". What stands
-- beside the refusal is blank and Barred.
pub data FreshRow (id secret : List ℕ) (width : ℕ) : Called → Type 0 where
  fresh_16 : (length id ≢ 8) ⊎ (length secret ≢ 20) ⊎ (width < 32) ⊎ (64 < width)
      → FreshRow id secret width (leaving (Err X.Argument) I.blank_connection)
  fresh_done : length id ≡ 8 → length secret ≡ 20 → Held width
      → FreshRow id secret width (leaving (Ok tt) (fresh_one id secret width))

unfoldable pub FreshHolds : Type 0
FreshHolds = (id secret : List ℕ) (width : ℕ) (s : Called) → (fresh_of id secret width ≡ s) ↔ FreshRow id secret width s

-- a call gives this exactly if there is a row that says so
unfoldable pub CallsHold : Type 0
CallsHold = (c : Connection) (call : Call) (s : Step) → (step_of c call ≡ s) ↔ CallRow c call s
