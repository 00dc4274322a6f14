-- It works: for every session, width, acceptable hello and random there is the reply; then change cipher spec, the Finished
-- that the definitions give, and data of at least one byte are answered spec, open, data. So that no premise of the
-- other statements is empty.
use Rattle.std.specs.Prelude.{◌≡◌, ◌≢◌, false, List, [], ◌∷◌, ℕ, ◌≤◌, length, Ok}
use Rattle.digest.specs.Bytes.{laid_over}
use Rattle.digest.specs.Hmac.{hmac}
use Rattle.digest.specs.Mac.{size_of}
use Rattle.record.specs.Written.{record_of}
use Rattle.record.specs.Code.{protected_by}
use Rattle.record.specs.declared.header.Content.{Content}
use Rattle.record.specs.declared.header.Content.TheVariants as C
use Rattle.message.specs.Acceptance.{heard_of}
use Rattle.message.specs.Change.{change_bytes}
use Rattle.message.specs.Finished.{finished_of}
use Rattle.message.specs.declared.acceptance.Plan.{Plan}
use Rattle.connection.specs.Answer.{handed_of}
use Rattle.connection.specs.Calls.{session_of}
use Rattle.connection.specs.Receive.{slots_of}
use Rattle.connection.specs.Reply.{reply_to, expected_of, client_random}
use Rattle.connection.specs.declared.answer.Answer.{Answer}
use Rattle.connection.specs.declared.answer.Answer.TheVariants as W
use Rattle.connection.specs.declared.connection.Connection.{Connection}
use Rattle.connection.specs.declared.receive.Untaken.TheVariants as T
use Rattle.demands.specs.Runs.{receive, send_alert, Returned, received, sent, Gateway}
use Rattle.record.specs.declared.keys.Keys.{Keys}
use Rattle.demands.specs.Genuine.{unit_key, keys_of}
use Rattle.demands.specs.Runs.{fresh_with}
use Rattle.record.specs.Window.{Held}
use Rattle.connection.specs.Connection.{alone, connection_of}
use Rattle.connection.specs.declared.refusal.Refusal.TheVariants as X
use Rattle.connection.specs.Handshake.{planted, kept_hello, kept_reply, none_started}
use Rattle.connection.specs.declared.state.State.TheVariants.{Open}
use Rattle.connection.specs.declared.handshake.Session.{Session}
use Rattle.demands.specs.Table.{Hears}

-- what the unit sends: each a datagram of one record without a length
abbrev pub clear_datagram : Content → ℕ → List ℕ → List ℕ
clear_datagram content s fragment = record_of false false content s fragment

abbrev pub protected_datagram : Keys → Content → ℕ → List ℕ → List ℕ
protected_datagram k content s body = protected_by (hmac (unit_key k s)) (size_of k.mac) false content s body

abbrev pub keys_after : List ℕ → List ℕ → List ℕ → Plan → Keys
keys_after secret random m plan =
    record { secret = secret; mac = plan.mac; refresh = plan.refresh; server = random; client = client_random m }

-- one record, one answer, so many bytes written
abbrev pub one_answer : Answer → ℕ → Returned
one_answer a written = received (Ok 1) (slots_of (a ∷ [])) written

pub record Worked (g : Gateway) (id secret : List ℕ) (width : ℕ) (m random out bytes : List ℕ) (plan : Plan) : Type 0 where
  pub c₁ : Connection
  pub c₂ : Connection
  pub c₃ : Connection
  pub c₄ : Connection
  pub replied : g (alone (fresh_with id secret width)) (receive (clear_datagram C.Handshake 0 m) random out)
      ≡ record {
        result = one_answer (W.Reply (length (reply_to (session_of id secret) random m plan)))
            (length (reply_to (session_of id secret) random m plan));
        output = laid_over out 0 (reply_to (session_of id secret) random m plan);
        connection = c₁;
      }
  pub changed : g c₁ (receive (clear_datagram C.ChangeCipherSpec 1 change_bytes) random out)
      ≡ record { result = one_answer W.Spec 0; output = out; connection = c₂ }
  pub opened : g c₂
      (receive (protected_datagram (keys_after secret random m plan) C.Handshake 0
      (finished_of (expected_of (session_of id secret) random m plan))) random out)
      ≡ record { result = one_answer W.Open 0; output = out; connection = c₃ }
  pub handed : g c₃ (receive (protected_datagram (keys_after secret random m plan) C.Data 1 bytes) random out)
      ≡ record { result = one_answer (W.Data 1 3 (length bytes)) 0; output = out; connection = c₄ }
  pub as_sent : handed_of (protected_datagram (keys_after secret random m plan) C.Data 1 bytes) (W.Data 1 3 (length bytes))
      ≡ bytes

unfoldable pub Works : Gateway → Type 0
Works g =
    (id secret : List ℕ) (width : ℕ) → Held width → (m random out bytes : List ℕ) (plan : Plan) → length random ≡ 16 → 128 ≤ length out
    → heard_of m id ≡ Ok plan → 1 ≤ length bytes → length bytes ≤ 1300
    → Worked g id secret width m random out bytes plan

-- A unit that rebooted (02, P6): on every open connection of a session, another acceptable hello gets its reply, and then change cipher
-- spec, Finished and data under the new keys are answered spec, open, data. Until the Finished the open handshake is what it was;
-- then it is the one that was started, and none is started.
pub record Rebooted (g : Gateway) (secret : List ℕ) (c : Connection) (session : Session) (m random out bytes : List ℕ)
    (plan : Plan) : Type 0 where
  pub c₁ : Connection
  pub c₂ : Connection
  pub c₃ : Connection
  pub c₄ : Connection
  pub replied : g c (receive (clear_datagram C.Handshake 0 m) random out)
      ≡ record {
        result = one_answer (W.Reply (length (reply_to session random m plan))) (length (reply_to session random m plan));
        output = laid_over out 0 (reply_to session random m plan);
        connection = c₁;
      }
  pub changed : g c₁ (receive (clear_datagram C.ChangeCipherSpec 1 change_bytes) random out)
      ≡ record { result = one_answer W.Spec 0; output = out; connection = c₂ }
  pub opened : g c₂
      (receive (protected_datagram (keys_after secret random m plan) C.Handshake 0
      (finished_of (expected_of session random m plan))) random out)
      ≡ record { result = one_answer W.Open 0; output = out; connection = c₃ }
  pub handed : g c₃ (receive (protected_datagram (keys_after secret random m plan) C.Data 1 bytes) random out)
      ≡ record { result = one_answer (W.Data 1 3 (length bytes)) 0; output = out; connection = c₄ }
  pub open_kept : (c₁.handshake ≡ c.handshake) × (c₂.handshake ≡ c.handshake)
  -- meanwhile, in Open: "clear alerts on the started one"
  pub alert_goes : (g c₁ (send_alert false 1 0 [] out)).result ≡ sent (Ok tt) 9
  -- "17 under the started keys, drops just that"
  pub wrong_drops : (wrong : List ℕ) → length wrong ≡ 12 → wrong ≢ expected_of session random m plan
      → g c₂ (receive (protected_datagram (keys_after secret random m plan) C.Handshake 0 (finished_of wrong)) random out)
      ≡ record {
        result = one_answer (W.Refused X.WrongFinished) 0;
        output = out;
        connection = connection_of c.handshake none_started c₂.sent;
      }
  pub replaced : (keys_of c₃.handshake ≡ keys_after secret random m plan) × (kept_hello c₃.handshake ≡ m)
      × (kept_reply c₃.handshake ≡ reply_to session random m plan) × (c₃.started ≡ none_started)

unfoldable pub Reboots : Gateway → Type 0
Reboots g =
    (id secret : List ℕ) (width : ℕ) → Held width → (c : Connection) → c.handshake.state ≡ Open
    → planted c.handshake ≡ session_of id secret → c.handshake.protection.window.width ≡ width
    → (m random out bytes : List ℕ) (plan : Plan) → length random ≡ 16 → 128 ≤ length out
    → m ≢ kept_hello c.handshake → (Hears c.started.state → m ≢ kept_hello c.started)
    → heard_of m id ≡ Ok plan → 1 ≤ length bytes → length bytes ≤ 1300
    → Rebooted g secret c (session_of id secret) m random out bytes plan
