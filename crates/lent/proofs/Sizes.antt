-- The parts of an answer lose nothing: a reply has at most 84 bytes, a datagram at most 8 records, a record at fault begins inside its
-- 1,400 bytes, and what is sent has at most 1,323 bytes. Each is far below the 65,536 that a part can hold.
use mathlib.Core.Path.{◌≡◌, refl, sym, ◌∙◌, ap, subst}
use mathlib.Core.Bool.{Bool, true, false}
use mathlib.Core.List.{List, [], ◌∷◌}
use Prim.Native.Nat.{ℕ, zero, suc, ◌+◌, ◌≤◌}
use native.Mathlib.Omega.{arith}
use lib.ListN.{length, take, drop, length-drop, length-replicate}
use lib.Dec.{eqb, ltb}
use borrow.Author.Tests.{eqb-true, ltb-false}
use Rattle.digest.specs.Pick.{pick}
use Rattle.digest.specs.Mac.{size_of}
use Rattle.record.specs.Reader.{read_of}
use Rattle.record.specs.Datagram.{Framing, framed, faulty, after, ahead, placed_at, framing_from, framing_of}
use Rattle.record.specs.Window.{accept_of}
use Rattle.record.specs.declared.reader.Record.{Record}
use Rattle.record.specs.declared.reader.Fault.TheVariants as F
use Rattle.record.specs.declared.window.NotNew.TheVariants as N
use Rattle.record.specs.declared.header.Content.TheVariants as C
use Rattle.record.proofs.Standing.{takes}
use Rattle.record.proofs.Covering.{covers}
use Rattle.record.proofs.ProtectedBytes.{size_most}
use Rattle.message.specs.Acceptance.{heard_of}
use Rattle.message.specs.Alert.{alert_of, level_of, sorted_of}
use Rattle.message.specs.Change.{is_change}
use Rattle.message.specs.Finished.{judged_of}
use Rattle.message.specs.declared.acceptance.Unheard.TheVariants as H
use Rattle.message.specs.declared.alert.Level.{Level}
use Rattle.message.specs.declared.alert.Level.TheVariants as L
use Rattle.message.specs.declared.alert.Description.{Description}
use Rattle.message.specs.declared.finished.Unverified.TheVariants as Fin
use Rattle.connection.specs.Handshake.{with_state, with_window, planted, nothing_kept}
use Rattle.connection.specs.Sent.{matches_of}
use Rattle.connection.specs.Asked.{whom_of, asked_of}
use Rattle.connection.specs.Told.{judged_in, told_record, kept_by}
use Rattle.connection.specs.State.{rule_of}
use Rattle.connection.specs.Answer.{reply_size, judged, refusing}
use Rattle.connection.specs.Clear.{heard_to, greeted_by, is_kept, kept_size, greeted_again, resent_by, changed_by, by_level, heard_by, heard_alert}
use Rattle.connection.specs.Protected.{finished_in, verified_to, verified_by, protected_level, alerted_to, alerted_by, content_by, opened_record}
use Rattle.connection.proofs.OpeningRecords.{windowed_to, genuine_in, content_in, opened_record_is}
use Rattle.connection.specs.Judge.{ruled_by, fragment_of, kind_in, judged_record}
use Rattle.connection.specs.Receive.{received_of, framed_to, first_reply, run_of, whole_of}
use Rattle.connection.specs.Send.{data_sent, data_outcome, data_refused, and_then, may_data, numbered_by, alert_sent, alert_sent_as, alert_outcome, alert_body, next_alert, sender_of, after_send, sent_to, done, next_protected}
use Rattle.connection.specs.declared.state.State.{State}
use Rattle.connection.specs.declared.state.State.TheVariants as S
use Rattle.connection.specs.declared.state.Kind.{Kind}
use Rattle.connection.specs.declared.state.Kind.TheVariants as K
use Rattle.connection.specs.declared.state.Rule.{Rule}
use Rattle.connection.specs.declared.state.Rule.TheVariants as U
use Rattle.connection.specs.declared.refusal.Refusal.{Refusal}
use Rattle.connection.specs.declared.refusal.Refusal.TheVariants.{Forged, Malformed, NotAllowed, Checksum, Room, Argument}
use Rattle.connection.specs.declared.answer.Answer.TheVariants as W
use Rattle.connection.specs.declared.answer.Judged.{Judged}
use Rattle.connection.specs.declared.asked.Whom.{Whom}
use Rattle.connection.specs.declared.asked.Whom.TheVariants as A
use Rattle.connection.specs.declared.sent.SentRecords.{SentRecords}
use Rattle.connection.specs.declared.handshake.Handshake.{Handshake}
use Rattle.connection.specs.declared.connection.Connection.{Connection}
use Rattle.connection.specs.declared.receive.Untaken.TheVariants as T
use Rattle.connection.specs.declared.send.Sent.{Sent}
use Rattle.connection.proofs.Replying.{reply_size_lem}
use Rattle.connection.proofs.Sending.{next_size, clear_size}
use Rattle.lent.specs.Fields.{bytes_in}
use Rattle.lent.specs.Saved.{state_size, handshake_size, is_saved, connection_in, handshake_in, kept_in}
use Rattle.lent.specs.Calls.{written_part, count_part, not_taken, refusal_in, sent_result, data_result, alert_result, lent_for, taken_result, got, receive_result}
use Rattle.lent.proofs.Reading.{part_length}
use Rattle.lent.proofs.Calling.{lent_sizes, sense_in}
use Rattle.lent.proofs.Results.{written_part_lem, count_part_lem}
use Rattle.std.specs.Prelude.{Err, None, Ok, Option, Result, Some, ⊤}
use Rattle.connection.specs.declared.receive.Untaken.{Untaken}
use Rattle.message.specs.declared.acceptance.Plan.{Plan}
use Rattle.message.specs.declared.acceptance.Unheard.{Unheard}
use Rattle.message.specs.declared.alert.Alert.{Alert}
use Rattle.message.specs.declared.finished.Unverified.{Unverified}
use Rattle.record.specs.declared.reader.Fault.{Fault}
use Rattle.record.specs.declared.window.NotNew.{NotNew}
use Rattle.record.specs.declared.window.Window.{Window}

take_most : (n : ℕ) (l : List ℕ) → length (take n l) ≤ n
take_most zero l = omega arith
take_most (suc n) [] = omega arith
take_most (suc n) (x ∷ l) = omega (arith, take_most n l)

take_within : (n : ℕ) (l : List ℕ) → length (take n l) ≤ length l
take_within zero l = omega arith
take_within (suc n) [] = omega arith
take_within (suc n) (x ∷ l) = omega (arith, take_within n l)

-- ---- the reply

Small : Judged → Type 0
Small j = reply_size j.answer ≤ 84

module _ where
  small_pick : (b : Bool) (x y : Judged) → Small x → Small y → Small (pick b x y)
  small_pick true x y p q = p
  small_pick false x y p q = q

  small_refusing : (r : Refusal) (h : Handshake) → Small (refusing r h)
  unfolding Small
  small_refusing r h = omega arith

  small_finished : (h : Handshake) (s : State) → Small (finished_in h s)
  unfolding Small
  small_finished h S.Idle = omega arith
  small_finished h S.Replied = omega arith
  small_finished h S.Spec = omega arith
  small_finished h S.Open = omega arith
  small_finished h S.Closed = omega arith
  small_finished h S.Barred = omega arith

  small_verified : (h : Handshake) (v : Result ⊤ Unverified) → Small (verified_to h v)
  unfolding Small
  small_verified h (Ok tt) = small_finished h h.state
  small_verified h (Err Fin.Wrong) = omega arith
  small_verified h (Err Fin.Malformed) = omega arith

  small_protected : (h : Handshake) (l : Level) (d : Description) → Small (protected_level h l d)
  unfolding Small
  small_protected h L.Warning d = omega arith
  small_protected h L.Critical d = omega arith
  small_protected h L.Fatal d = omega arith

  small_alerted : (h : Handshake) (a : Option Alert) → Small (alerted_to h a)
  unfolding Small
  small_alerted h None = omega arith
  small_alerted h (Some a) = small_protected h a.level a.description

  small_content : (h : Handshake) (kind : Kind) (number at : ℕ) (content : List ℕ) → Small (content_by h kind number at content)
  unfolding content_by alerted_by verified_by Small
  small_content h K.ProtectedData number at content =
      small_pick (eqb (length content) 0) (refusing Malformed h) (judged (W.Data number at (length content)) h) (omega arith) (omega arith)
  small_content h K.ProtectedAlert number at content = small_alerted h (alert_of content)
  small_content h K.ProtectedHandshake number at content = small_verified h (judged_of content h.expected)
  small_content h K.ProtectedChange number at content = omega arith
  small_content h K.ClearHello number at content = omega arith
  small_content h K.ClearChange number at content = omega arith
  small_content h K.ClearAlert number at content = omega arith
  small_content h K.OtherClear number at content = omega arith

  small_windowed : (h : Handshake) (kind : Kind) (number at : ℕ) (content : List ℕ) (a : Result (Window × ℕ) NotNew) → Small (windowed_to h kind number at content a)
  unfolding Small
  small_windowed h kind number at content (Err N.TooOld) = omega arith
  small_windowed h kind number at content (Err N.Repeated) = omega arith
  small_windowed h kind number at content (Ok (window, arrived)) = small_content (with_window h window) kind number at content

  small_opened_record : (h : Handshake) (kind : Kind) (byte number at : ℕ) (fragment : List ℕ) → Small (opened_record h kind byte number at fragment)
  small_opened_record h kind byte number at fragment =
      subst Small (sym (opened_record_is h kind byte number at fragment))
      (small_pick (genuine_in h byte number fragment) (windowed_to h kind number at (content_in h fragment) (accept_of h.protection.window number)) (refusing Forged h)
      (small_windowed h kind number at (content_in h fragment) (accept_of h.protection.window number))
      (small_refusing Forged h))

  small_level : (h : Handshake) (l : Level) (d : Description) → Small (by_level h l d)
  unfolding Small
  small_level h L.Warning d = omega arith
  small_level h L.Critical d = omega arith
  small_level h L.Fatal d = omega arith

  small_heard : (h : Handshake) (sent : SentRecords) (a : Option Alert) → Small (heard_by h sent a)
  small_heard h sent None = small_refusing Malformed h
  small_heard h sent (Some a) =
      small_pick (matches_of sent a.checksum) (by_level h a.level a.description) (refusing Checksum h)
      (small_level h a.level a.description)
      (small_refusing Checksum h)

  small_changed : (h : Handshake) (fragment : List ℕ) → Small (changed_by h fragment)
  unfolding changed_by Small
  small_changed h fragment =
      small_pick (is_change fragment) (judged W.Spec (with_state (with_window h _) S.Spec)) (refusing Malformed h) (omega arith) (omega arith)

  -- what a hello gives: 74 or 84 bytes
  module _ (h : Handshake) (random : List ℕ) (lr : length random ≡ 16) (li : length h.id ≡ 8) (lk : length h.kept.reply ≤ 84) where
    small_to : (m : List ℕ) (heard : Result Plan Unheard) → Small (heard_to h random m heard)
    unfolding Small
    small_to m (Ok plan) = omega (arith, reply_size_lem (planted h) random m plan lr li, size_most plan.mac)
    small_to m (Err (H.Unacceptable condition)) = omega arith
    small_to m (Err (H.Malformed fault)) = omega arith

    small_greeted : (m : List ℕ) → Small (greeted_by h random m)
    unfolding greeted_by
    small_greeted m = small_to m (heard_of m h.id)

    small_again : (m : List ℕ) → Small (greeted_again h random m)
    unfolding greeted_again Small
    small_again m =
        small_pick (is_kept h.kept m) (judged (W.Resent (kept_size h.kept)) h) (greeted_by h random m) kept (small_greeted m)
      where
        kept : Small (judged (W.Resent (kept_size h.kept)) h)
        kept = omega (arith, take_within h.kept.size h.kept.reply)

    small_resent : (m : List ℕ) → Small (resent_by h m)
    unfolding resent_by Small
    small_resent m = small_pick (is_kept h.kept m) (judged (W.Resent (kept_size h.kept)) h) (refusing NotAllowed h) kept (omega arith)
      where
        kept : Small (judged (W.Resent (kept_size h.kept)) h)
        kept = omega (arith, take_within h.kept.size h.kept.reply)

    small_ruled : (sent : SentRecords) (rule : Rule) (kind : Kind) (r : Record) (fragment : List ℕ) → Small (ruled_by h sent random rule kind r fragment)
    unfolding ruled_by heard_alert Small
    small_ruled sent U.Ended kind r fragment = omega arith
    small_ruled sent U.NotAllowed kind r fragment = omega arith
    small_ruled sent U.Greet kind r fragment =
        small_pick (eqb r.start 0) (greeted_by h random fragment) (refusing NotAllowed h) (small_greeted fragment) (omega arith)
    small_ruled sent U.GreetAgain kind r fragment =
        small_pick (eqb r.start 0) (greeted_again h random fragment) (refusing NotAllowed h) (small_again fragment) (omega arith)
    small_ruled sent U.Resend kind r fragment =
        small_pick (eqb r.start 0) (resent_by h fragment) (refusing NotAllowed h) (small_resent fragment) (omega arith)
    small_ruled sent U.Change kind r fragment = small_changed h fragment
    small_ruled sent U.Hear kind r fragment = small_heard h sent (alert_of fragment)
    small_ruled sent U.OpenRecord kind r fragment = small_opened_record h kind r.byte r.number (r.start + r.head) fragment

    small_record : (sent : SentRecords) (d : List ℕ) (r : Record) → Small (judged_record h sent random d r)
    unfolding judged_record
    small_record sent d r = small_ruled sent (rule_of h.state (kind_in d r)) (kind_in d r) r (fragment_of d r)

-- an identifier and a kept reply of their sizes
record Fitting (h : Handshake) : Type 0 where
  id : length h.id ≡ 8
  reply : length h.kept.reply ≤ 84

-- whoever is asked
asked_fits : (c : Connection) (whom : Whom) → Fitting c.handshake → Fitting c.started → Fitting (asked_of c whom)
unfolding nothing_kept
asked_fits c A.Only f g = f
asked_fits c A.Open f g = f
asked_fits c A.Started f g = g
asked_fits c A.Newcomer f g = record { id = f.id; reply = omega (arith, length-replicate {A = ℕ} 84 0) }

small_reply : (c : Connection) (random d : List ℕ) (rs : List Record) → length random ≡ 16 → Fitting c.handshake → Fitting c.started
    → length (first_reply c random d rs) ≤ 84
unfolding first_reply told_record judged_in Small
small_reply c random d [] lr f g = omega arith
small_reply c random d (r ∷ rs) lr f g =
    let fits = asked_fits c (whom_of c d r) f g in
    let kept = kept_by (told_record c random d r).beside (told_record c random d r).connection in
    omega (arith, small_record (asked_of c (whom_of c d r)) random lr fits.id fits.reply c.sent d r, take_most (reply_size (told_record c random d r).answer) kept.reply)

-- ---- the offset of a record at fault

offset_in : Framing → ℕ
offset_in (framed rs) = 0
offset_in (faulty f at) = at

offset_after : (rs : List Record) (f : Framing) → offset_in (after rs f) ≡ offset_in f
unfolding offset_in
offset_after rs (framed more) = refl
offset_after rs (faulty f at) = refl

offset_from : (room at : ℕ) (s : List ℕ) → offset_in (framing_from room at s) ≤ at + length s
unfolding framing_from offset_in
offset_from zero at s = told (eqb (length s) 0)
  where
    told : (b : Bool) → offset_in (pick b (framed []) (faulty F.Ninth at)) ≤ at + length s
    told true = omega arith
    told false = omega arith
offset_from (suc room) at s = told (eqb (length s) 0) (read_of s) refl (λ r. offset_from room (at + r.used) (drop r.used s))
  where
    told : (b : Bool) (x : Result Record Fault) → read_of s ≡ x
        → ((r : Record) → offset_in (framing_from room (at + r.used) (drop r.used s)) ≤ at + r.used + length (drop r.used s))
        → offset_in (pick b (framed []) (ahead at x (λ r. framing_from room (at + r.used) (drop r.used s)))) ≤ at + length s
    told true x e rest = omega arith
    told false (Err f) e rest = omega arith
    told false (Ok r) e rest =
        omega (arith, offset_after (placed_at r at ∷ []) (framing_from room (at + r.used) (drop r.used s)), rest r, length-drop r.used s, takes s r e)

offset_most : (d : List ℕ) → offset_in (framing_of d) ≤ 1400
unfolding framing_of offset_in
offset_most d = told (eqb (length d) 0) (ltb 1400 (length d)) refl
  where
    told : (b c : Bool) → ltb 1400 (length d) ≡ c → offset_in (pick b (faulty F.Size 0) (pick c (faulty F.Size 0) (framing_from 8 0 d))) ≤ 1400
    told true c e = omega arith
    told false true e = omega arith
    told false false e = omega (arith, offset_from 8 0 d, ltb-false 1400 (length d) e)

-- ---- receive: the count is the number of records, or the offset; what is written is counted whole

abbrev pub count_in : Result ℕ Untaken → ℕ
count_in (Ok count) = count
count_in (Err (T.Refused refusal)) = 0
count_in (Err (T.Misframed refusal at)) = at

exact_framed : (c : Connection) (random d : List ℕ) (f : Framing) → framing_of d ≡ f → length random ≡ 16 → Fitting c.handshake → Fitting c.started
    → ((framed_to c random d f).written ≤ 84) × (count_in (framed_to c random d f).taken ≤ 1400)
unfolding run_of whole_of offset_in
exact_framed c random d (framed rs) e lr f g =
    (small_reply c random d rs lr f g, omega (arith, (covers d rs e).4))
exact_framed c random d (faulty fault at) e lr f g =
    (omega arith, omega (arith, offset_most d, ap offset_in e))

exact_received : (c : Connection) (d random : List ℕ) (room : ℕ) → Fitting c.handshake → Fitting c.started
    → ((received_of c d random room).written ≤ 84) × (count_in (received_of c d random room).taken ≤ 1400)
unfolding received_of whole_of
exact_received c d random room f g = told (eqb (length random) 16) (ltb room 128) refl
  where
    told : (t u : Bool) → eqb (length random) 16 ≡ t
        → ((pick t (pick u (whole_of c (Err (T.Refused Room))) (framed_to c random d (framing_of d))) (whole_of c (Err (T.Refused Argument)))).written ≤ 84)
        × (count_in (pick t (pick u (whole_of c (Err (T.Refused Room))) (framed_to c random d (framing_of d))) (whole_of c (Err (T.Refused Argument)))).taken ≤ 1400)
    told true true e = (omega arith, omega arith)
    told true false e = exact_framed c random d (framing_of d) refl (eqb-true (length random) 16 e) f g
    told false u e = (omega arith, omega arith)

handshake_fits : (s : List ℕ) → length s ≡ handshake_size → Fitting (handshake_in s)
unfolding handshake_in kept_in
handshake_fits s l = record { id = part_length s 1 8 (omega arith); reply = take_most 84 (drop 339 s) }

lent_exact : (state d random : List ℕ) (room : ℕ) → length state ≡ state_size
    → ((got state d random room).written ≤ 84) × (count_in (got state d random room).taken ≤ 1400)
lent_exact state d random room l =
    exact_received (connection_in state) d random room
    (handshake_fits (bytes_in state 40 450) (part_length state 40 450 (omega arith)))
    (handshake_fits (bytes_in state 490 450) (part_length state 490 450 (omega arith)))

taken_parts : (written : ℕ) (taken : Result ℕ Untaken) → written ≤ 84 → count_in taken ≤ 1400 → count_part (taken_result written taken) ≡ count_in taken
taken_parts written (Ok count) hw hc = count_part_lem 0 written count (omega arith)
taken_parts written (Err (T.Refused r)) hw hc = count_part_lem _ 0 0 (omega arith)
taken_parts written (Err (T.Misframed r at)) hw hc = count_part_lem _ 0 at (omega arith)

-- The count of a receive that is lent what it needs: so many records, or the offset of the record at fault.
pub receive_count : (state tally answers d random : List ℕ) (room : ℕ) → lent_for state (length tally) (length answers) ≡ true
    → count_part (receive_result state tally answers d random room) ≡ count_in (got state d random room).taken
unfolding receive_result
receive_count state tally answers d random room lent =
    let e = lent_exact state d random room (lent_sizes state (length tally) (length answers) lent).0 in
    rw lent (taken_parts (got state d random room).written (got state d random room).taken e.0 e.1)

-- What a receive that takes a datagram has written: as many bytes as the layer below says.
pub receive_written : (state tally answers d random : List ℕ) (room count : ℕ) → lent_for state (length tally) (length answers) ≡ true
    → (got state d random room).taken ≡ Ok count
    → written_part (receive_result state tally answers d random room) ≡ (got state d random room).written
unfolding receive_result
receive_written state tally answers d random room count lent taken =
    let e = lent_exact state d random room (lent_sizes state (length tally) (length answers) lent).0 in
    rw lent (ap (λ t. written_part (taken_result (got state d random room).written t)) taken ∙ written_part_lem 0 (got state d random room).written count (omega (arith, e.0)))

-- ---- sends: what is written is counted whole

sent_most : (t : Bool) (o : Result ⊤ Refusal) (c : Connection) (next : List ℕ) (left : Connection) → (o ≡ Ok tt → length next ≤ 1323) → (sent_to c (done next left) o).written ≤ 1323
sent_most t (Ok tt) c next left most = most refl
sent_most t (Err r) c next left most = omega arith

past_test : (b : Bool) (r : Refusal) (o : Result ⊤ Refusal) → pick b (Err r) o ≡ Ok tt → b ≡ false
past_test true r o e = let z : ◌≡◌ {A = ℕ} 0 1 = cc in absurd (omega arith)
past_test false r o e = refl

next_test : (b : Bool) (r : Refusal) (o : Result ⊤ Refusal) → pick b (Err r) o ≡ Ok tt → o ≡ Ok tt
next_test true r o e = let z : ◌≡◌ {A = ℕ} 0 1 = cc in absurd (omega arith)
next_test false r o e = e

most : (state : State) (n number code room : ℕ) → data_refused state n number code room ≡ Ok tt → n ≤ 1300
unfolding data_refused
most state n number code room e =
    let rest = next_test (eqb n 0) Argument (pick (ltb 1300 n) (Err Argument) (and_then (may_data state) (numbered_by number (3 + n + code) room))) e in
    ltb-false 1300 n (past_test (ltb 1300 n) Argument (and_then (may_data state) (numbered_by number (3 + n + code) room)) rest)

data_most : (c : Connection) (bytes : List ℕ) (room : ℕ) → (data_sent c bytes room).written ≤ 1323
unfolding data_sent
data_most c bytes room =
    let h = c.handshake in
    let next = next_protected h C.Data bytes in
    sent_most true (data_outcome h (length bytes) room) c next (after_send true c next)
    (λ e. omega (arith, size h (length bytes) room e, next_size h C.Data bytes, size_most h.protection.keys.mac))
  where
    size : (h : Handshake) (n room : ℕ) → data_outcome h n room ≡ Ok tt → n ≤ 1300
    size h n room e = most h.state n h.protection.protected (size_of h.protection.keys.mac) room e

alert_most : (c : Connection) (protected : Bool) (answered : List ℕ) (room : ℕ) (g : Option Level) (d : Option Description) → (alert_sent_as c protected answered room g d).written ≤ 1323
alert_most c true answered room (Some level) (Some description) =
    let h = c.handshake in
    let body = alert_body level description answered in
    sent_most true (alert_outcome true h (length answered) room) c (next_alert true h body) (after_send true c (next_alert true h body))
    (λ e. omega (arith, next_size h C.Alert body, size_most h.protection.keys.mac))
alert_most c false answered room (Some level) (Some description) =
    let h = sender_of false c in
    let body = alert_body level description answered in
    sent_most true (alert_outcome false h (length answered) room) c (next_alert false h body) (after_send false c (next_alert false h body))
    (λ e. omega (arith, clear_size h body))
alert_most c protected answered room (Some level) None = omega arith
alert_most c protected answered room None (Some description) = omega arith
alert_most c protected answered room None None = omega arith

pub data_written : (state bytes : List ℕ) (room : ℕ) → is_saved state ≡ true
    → written_part (data_result state bytes room) ≡ (data_sent (connection_in state) bytes room).written
unfolding data_result
data_written state bytes room saved =
    rw saved (written_part_lem (refusal_in (data_sent (connection_in state) bytes room).outcome) (data_sent (connection_in state) bytes room).written 0 (omega (arith, data_most (connection_in state) bytes room)))

pub alert_written : (state : List ℕ) (is_protected : Bool) (protected level description : ℕ) (answered : List ℕ) (room : ℕ) → is_saved state ≡ true
    → protected ≤ 1 → is_protected ≡ eqb protected 1
    → written_part (alert_result state protected level description answered room) ≡ (alert_sent (connection_in state) is_protected level description answered room).written
unfolding alert_result alert_sent
alert_written state is_protected protected level description answered room saved h e =
    let sent : Bool → Sent = λ b. alert_sent (connection_in state) b level description answered room in
    rw saved
    (sym (ap written_part (sense_in protected (λ b. sent_result (sent b)) not_taken h))
    ∙ ap (λ b. written_part (sent_result (sent b))) (sym e)
    ∙ written_part_lem (refusal_in (sent is_protected).outcome) (sent is_protected).written 0 (omega (arith, alert_most (connection_in state) is_protected answered room (level_of level) (sorted_of description))))
