-- What a call answers can be taken apart again, and a call that is refused touches nothing: by whether the bytes are a saved
-- connection, and by the outcome of the connection's call.
use mathlib.Core.Path.{◌≡◌, refl, sym, ◌∙◌, ap}
use mathlib.Core.Bool.{Bool, true, false}
use mathlib.Core.List.{List}
use Prim.Native.Nat.{ℕ, ◌+◌, ◌*◌, ◌/◌, ◌%◌, ◌<◌}
use native.Mathlib.Omega.{arith}
use lib.ListN.{length}
use lib.Dec.{eqb, ltb}
use Rattle.digest.specs.Pick.{pick}
use Rattle.digest.specs.Bytes.{laid_over}
use Rattle.record.specs.Datagram.{Framing, framed, faulty, framing_of}
use Rattle.message.specs.Alert.{level_of, sorted_of}
use Rattle.record.specs.declared.header.Content.TheVariants as C
use Rattle.connection.specs.Calls.{fresh_of, closed_of, started_of}
use Rattle.connection.specs.Receive.{received_of, output_of, framed_to, sent_of, whole_of, run_of}
use Rattle.connection.specs.Send.{data_sent, data_output, data_outcome, alert_sent, alert_output, alert_sent_as, alert_output_as, alert_outcome, alert_body, next_alert, sender_of, sent_to, output_to, done, next_protected, after_send}
use Rattle.connection.specs.Tally.{counted_of}
use Rattle.connection.specs.declared.refusal.Refusal.TheVariants.{Room, Argument}
use Rattle.connection.specs.declared.connection.Connection.{Connection}
use Rattle.connection.specs.declared.calls.Called.{Called}
use Rattle.connection.specs.declared.receive.Untaken.TheVariants as T
use Rattle.connection.proofs.Running.{laid_nothing}
use Rattle.lent.specs.Saved.{state_size, is_saved, connection_in, saved_of}
use Rattle.lent.specs.Report.{report_of}
use Rattle.lent.specs.Counts.{tally_bytes, tally_in}
use Rattle.lent.specs.Calls.{result_of, refusal_part, written_part, count_part, not_taken, refusal_in, left_in, fresh_result, fresh_state, called_result, called_state, close_result, close_state, start_result, start_state, sent_result, sent_state, data_result, data_state, data_out, alert_result, alert_state, alert_out, lent_for, taken_result, where_taken, got, receive_result, receive_state, receive_tally, receive_answers, receive_out}
use Rattle.std.specs.Prelude.{Err, None, Ok, Option, Result, Some, ⊤}
use Rattle.connection.specs.declared.receive.Untaken.{Untaken}
use Rattle.connection.specs.declared.refusal.Refusal.{Refusal}
use Rattle.message.specs.declared.alert.Description.{Description}
use Rattle.message.specs.declared.alert.Level.{Level}

-- The parts of an answer.
high_of : (f w c : ℕ) → ((f * 65536 + w % 65536) * 65536 + c % 65536) / 65536 ≡ f * 65536 + w % 65536
high_of f w c = quotient (f * 65536 + w % 65536) (c % 65536) (omega arith)
  where
    quotient : (m r : ℕ) → r < 65536 → (m * 65536 + r) / 65536 ≡ m
    quotient m r h = omega arith

pub refusal_part_lem : (f w c : ℕ) → refusal_part (result_of f w c) ≡ f
unfolding result_of
refusal_part_lem f w c = ap (λ x. x / 65536) (high_of f w c) ∙ quotient f (w % 65536) (omega arith)
  where
    quotient : (m r : ℕ) → r < 65536 → (m * 65536 + r) / 65536 ≡ m
    quotient m r h = omega arith

pub written_part_lem : (f w c : ℕ) → w < 65536 → written_part (result_of f w c) ≡ w
unfolding result_of
written_part_lem f w c h = ap (λ x. x % 65536) (high_of f w c) ∙ remainder f w h
  where
    remainder : (m r : ℕ) → r < 65536 → (m * 65536 + r % 65536) % 65536 ≡ r
    remainder m r h = omega arith

pub count_part_lem : (f w c : ℕ) → c < 65536 → count_part (result_of f w c) ≡ c
unfolding result_of
count_part_lem f w c h = remainder (f * 65536 + w % 65536) c h
  where
    remainder : (m r : ℕ) → r < 65536 → (m * 65536 + r % 65536) % 65536 ≡ r
    remainder m r h = omega arith

-- Refused: the refusal's number is not 0.
abbrev pub IsRefused : ℕ → Type 0
IsRefused result = refusal_part result ≡ 0 → ⊥

left_alone : (t : Bool) (o : Result ⊤ Refusal) (c : Connection) (b : List ℕ) (w : ℕ) → IsRefused (pick t (result_of (refusal_in o) w 0) not_taken) → pick t (left_in b c o) b ≡ b
left_alone true (Ok tt) c b w h = absurd (h (refusal_part_lem 0 w 0))
left_alone true (Err r) c b w h = refl
left_alone false o c b w h = refl

-- ---- a refused call touches nothing

pub fresh_refused : (id secret : List ℕ) (width : ℕ) (state : List ℕ) → IsRefused (fresh_result id secret width (length state))
    → fresh_state id secret width state ≡ state
unfolding fresh_result fresh_state
fresh_refused id secret width state h =
    left_alone (eqb (length state) state_size) (fresh_of id secret width).outcome (fresh_of id secret width).connection state 0 h

called_refused : (call : Connection → Called) (state : List ℕ) → IsRefused (called_result call state) → called_state call state ≡ state
called_refused call state h =
    left_alone (is_saved state) (call (connection_in state)).outcome (call (connection_in state)).connection state 0 h

pub close_refused : (state : List ℕ) → IsRefused (close_result state) → close_state state ≡ state
unfolding close_result close_state
close_refused state h = called_refused closed_of state h

pub start_refused : (state : List ℕ) → IsRefused (start_result state) → start_state state ≡ state
unfolding start_result start_state
start_refused state h = called_refused started_of state h

-- a send, by its outcome
sent_alone : (t : Bool) (o : Result ⊤ Refusal) (c : Connection) (next : List ℕ) (after : Connection) (state out : List ℕ)
    → IsRefused (pick t (sent_result (sent_to c (done next after) o)) not_taken)
    → (pick t (sent_state state (sent_to c (done next after) o)) state ≡ state) × (pick t (output_to out next o) out ≡ out)
sent_alone true (Ok tt) c next after state out h = absurd (h (refusal_part_lem 0 (length next) 0))
sent_alone true (Err r) c next after state out h = (refl, refl)
sent_alone false o c next after state out h = (refl, refl)

pub data_refused_lem : (state bytes out : List ℕ) → IsRefused (data_result state bytes (length out))
    → (data_state state bytes (length out) ≡ state) × (data_out state bytes out ≡ out)
unfolding data_result data_state data_out data_sent data_output
data_refused_lem state bytes out h =
    let k = (connection_in state).handshake in
    let next = next_protected k C.Data bytes in
    sent_alone (is_saved state) (data_outcome k (length bytes) (length out)) (connection_in state) next (after_send true (connection_in state) next) state out h

alert_alone : (t : Bool) (state : List ℕ) (c : Connection) (protected : Bool) (answered out : List ℕ) (g : Option Level) (d : Option Description)
    → IsRefused (pick t (sent_result (alert_sent_as c protected answered (length out) g d)) not_taken)
    → (pick t (sent_state state (alert_sent_as c protected answered (length out) g d)) state ≡ state) × (pick t (alert_output_as c protected answered out g d) out ≡ out)
alert_alone t state c protected answered out (Some level) (Some description) h =
    let k = sender_of protected c in
    let next = next_alert protected k (alert_body level description answered) in
    sent_alone t (alert_outcome protected k (length answered) (length out)) c next (after_send protected c next) state out h
alert_alone true state c protected answered out (Some level) None h = (refl, refl)
alert_alone false state c protected answered out (Some level) None h = (refl, refl)
alert_alone true state c protected answered out None (Some description) h = (refl, refl)
alert_alone false state c protected answered out None (Some description) h = (refl, refl)
alert_alone true state c protected answered out None None h = (refl, refl)
alert_alone false state c protected answered out None None h = (refl, refl)

pub alert_refused_lem : (state : List ℕ) (protected level description : ℕ) (answered out : List ℕ)
    → IsRefused (alert_result state protected level description answered (length out))
    → (alert_state state protected level description answered (length out) ≡ state) × (alert_out state protected level description answered out ≡ out)
unfolding alert_result alert_state alert_out alert_sent alert_output
alert_refused_lem state protected level description answered out h =
    told (is_saved state) (eqb protected 0) (eqb protected 1) h
  where
    told : (t clear protect : Bool)
        → IsRefused (pick t (pick clear (sent_result (alert_sent_as (connection_in state) false answered (length out) (level_of level) (sorted_of description))) (pick protect (sent_result (alert_sent_as (connection_in state) true answered (length out) (level_of level) (sorted_of description))) not_taken)) not_taken)
        → (pick t (pick clear (sent_state state (alert_sent_as (connection_in state) false answered (length out) (level_of level) (sorted_of description))) (pick protect (sent_state state (alert_sent_as (connection_in state) true answered (length out) (level_of level) (sorted_of description))) state)) state ≡ state)
        × (pick t (pick clear (alert_output_as (connection_in state) false answered out (level_of level) (sorted_of description)) (pick protect (alert_output_as (connection_in state) true answered out (level_of level) (sorted_of description)) out)) out ≡ out)
    told true true protect h = alert_alone true state (connection_in state) false answered out (level_of level) (sorted_of description) h
    told true false true h = alert_alone true state (connection_in state) true answered out (level_of level) (sorted_of description) h
    told true false false h = (refl, refl)
    told false clear protect h = (refl, refl)

-- receive, by how the datagram was taken
pub record ReceiveAlone (state tally answers d random out : List ℕ) : Type 0 where
  pub state_alone : receive_state state tally answers d random (length out) ≡ state
  pub tally_alone : receive_tally state tally answers d random (length out) ≡ tally
  pub answers_alone : receive_answers state tally answers d random (length out) ≡ answers
  pub out_alone : receive_out state tally answers d random out ≡ out

taken_alone : {A : Type 0} (t : Bool) (taken : Result ℕ Untaken) (written : ℕ) (after before : A) → IsRefused (pick t (taken_result written taken) not_taken)
    → pick t (where_taken taken after before) before ≡ before
taken_alone true (Ok count) written after before h = absurd (h (refusal_part_lem 0 written count))
taken_alone true (Err (T.Refused r)) written after before h = refl
taken_alone true (Err (T.Misframed r at)) written after before h = refl
taken_alone false taken written after before h = refl

out_untouched : (t size room : Bool) (c : Connection) (random d out : List ℕ) (f : Framing)
    → IsRefused (pick t (taken_result (pick size (pick room (whole_of c (Err (T.Refused Room))) (framed_to c random d f)) (whole_of c (Err (T.Refused Argument)))).written (pick size (pick room (whole_of c (Err (T.Refused Room))) (framed_to c random d f)) (whole_of c (Err (T.Refused Argument)))).taken) not_taken)
    → pick t (pick size (pick room out (laid_over out 0 (sent_of c random d f))) out) out ≡ out
unfolding whole_of run_of
out_untouched true true true c random d out f h = refl
out_untouched true true false c random d out (framed rs) h = absurd (h (refusal_part_lem 0 _ _))
out_untouched true true false c random d out (faulty fault at) h = sym (laid_nothing out)
out_untouched true false room c random d out f h = refl
out_untouched false size room c random d out f h = refl

pub receive_refused : (state tally answers d random out : List ℕ) → IsRefused (receive_result state tally answers d random (length out))
    → ReceiveAlone state tally answers d random out
unfolding receive_result receive_state receive_tally receive_answers receive_out received_of output_of
receive_refused state tally answers d random out h =
    let t = lent_for state (length tally) (length answers) in
    let r = got state d random (length out) in
    record {
      state_alone = taken_alone t r.taken r.written (saved_of r.connection) state h;
      tally_alone = taken_alone t r.taken r.written (tally_bytes (counted_of (tally_in tally) r.answers)) tally h;
      answers_alone = taken_alone t r.taken r.written (report_of r.answers) answers h;
      out_alone = out_untouched t (eqb (length random) 16) (ltb (length out) 128) (connection_in state) random d out (framing_of d) h;
    }
