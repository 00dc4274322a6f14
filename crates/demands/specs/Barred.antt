-- Demand 2: "A fatal alert accepted under its authentication code bars that connection's session from being resumed."
-- 01: "Barred holds for this connection and all its starts."
use Rattle.std.specs.Prelude.{◌≡◌, ◌≢◌, Bool, List, map, ℕ, ◌≤◌, length, Err, Ok, Some}
use Rattle.record.specs.Datagram.{framed, framing_of}
use Rattle.record.specs.declared.reader.Record.{Record}
use Rattle.record.specs.declared.header.Content.TheVariants as C
use Rattle.record.specs.Window.{accept_of}
use Rattle.record.specs.declared.window.Window.{Window}
use Rattle.record.specs.declared.window.NotNew.TheVariants as A
use Rattle.message.specs.Alert.{alert_of, level_of, sorted_of}
use Rattle.message.specs.declared.alert.Alert.{Alert}
use Rattle.message.specs.declared.alert.Level.{Level}
use Rattle.message.specs.declared.alert.Level.TheVariants as L
use Rattle.message.specs.declared.alert.Description.{Description}
use Rattle.connection.specs.Receive.{slots_of}
use Rattle.connection.specs.declared.state.State.TheVariants.{Barred}
use Rattle.connection.specs.declared.refusal.Refusal.TheVariants as X
use Rattle.connection.specs.declared.answer.Answer.{Answer}
use Rattle.connection.specs.declared.answer.Answer.TheVariants as W
use Rattle.connection.specs.declared.connection.Connection.{Connection}
use Rattle.connection.specs.declared.receive.Untaken.TheVariants as T
use Rattle.connection.specs.declared.handshake.Handshake.{Handshake}
use Rattle.demands.specs.Runs.{Call, receive, send_data, send_alert, close, start, received, sent, called, Gateway, step_of, final_of}
use Rattle.demands.specs.Genuine.{Genuine, keys_of}
use Rattle.demands.specs.Seen.{seen_in}
use Rattle.demands.specs.Table.{Guarded}
use Rattle.demands.specs.Events.{Event, took, Sound, next}
use Rattle.demands.specs.Refusals.{lent_by}
use Rattle.connection.specs.declared.sent.SentRecords.{SentRecords}

-- a protected fatal alert, of a kind that the state allows: genuine, its number new to the window, and well formed
pub record FatalUnderCode (h : Handshake) (e : Event) : Type 0 where
  pub records : SentRecords
  pub random : List ℕ
  pub d : List ℕ
  pub r : Record
  pub c : List ℕ
  pub a : Alert
  pub event : e ≡ took records random d r
  pub taken : Guarded h.state (seen_in d r)
  pub genuine : Genuine (keys_of h) d r c
  pub w : Window
  pub arrived : ℕ
  pub new : accept_of h.protection.window r.number ≡ Ok (w, arrived)
  pub alert : r.content ≡ C.Alert
  pub well_formed : alert_of c ≡ Some a
  pub fatal : a.level ≡ L.Fatal

-- Barred is reached by a genuine, new fatal alert only
unfoldable pub BarredOnlyByFatal : Type 0
BarredOnlyByFatal =
    (h : Handshake) (e : Event) → Sound e → h.state ≢ Barred → (next h e).state ≡ Barred → FatalUnderCode h e

abbrev pub refused_all : List Record → List Answer
refused_all rs = map (λ r. W.Refused X.Ended) rs

-- what a barred connection gives: 7, where 16, 6 and 1 to 5 do not come first
unfoldable pub AnswersSeven : Gateway → Connection → Type 0
AnswersSeven g c =
    ((d random out : List ℕ) (rs : List Record) → length random ≡ 16 → 128 ≤ length out → framing_of d ≡ framed rs
    → (g c (receive d random out)).result ≡ received (Ok (length rs)) (slots_of (refused_all rs)) 0)
    × ((bytes out : List ℕ) → 1 ≤ length bytes → length bytes ≤ 1300
    → (g c (send_data bytes out)).result ≡ sent (Err X.Ended) 0)
    × ((protected : Bool) (level description : ℕ) (l : Level) (k : Description) (answered out : List ℕ)
    → level_of level ≡ Some l → sorted_of description ≡ Some k → length answered ≤ 1400
    → (g c (send_alert protected level description answered out)).result ≡ sent (Err X.Ended) 0)
    × ((g c close).result ≡ called (Err X.Ended)) × ((g c start).result ≡ called (Err X.Ended))

-- from then on, in any run, the value does not change, nothing is written, and the calls are refused
unfoldable pub BarredForGood : Type 0
BarredForGood =
    (c : Connection) → c.handshake.state ≡ Barred
    → ((calls : List Call) → final_of step_of c calls ≡ c) × ((call : Call) → (step_of c call).output ≡ lent_by call)
    × AnswersSeven step_of c
