-- Barred is reached by one row alone; and an ended connection answers every record and call with 7 and stays as it is.
use mathlib.Core.Path.{◌≡◌, refl, sym, ◌∙◌, ap}
use mathlib.Core.Logic.{inr, ◌≢◌}
use mathlib.Core.Bool.{Bool, true, false}
use mathlib.Core.List.{List, [], ◌∷◌}
use Prim.Native.Nat.{ℕ, ◌≤◌}
use native.Mathlib.Omega.{arith}
use lib.ListN.{length}
use Rattle.digest.specs.Bytes.{laid_over}
use Rattle.record.specs.Datagram.{framed, framing_of}
use Rattle.record.specs.declared.reader.Record.{Record}
use Rattle.record.specs.declared.header.Content.TheVariants as C
use Rattle.record.specs.declared.window.Window.{Window}
use Rattle.message.specs.Alert.{alert_of}
use Rattle.message.specs.declared.acceptance.Plan.{Plan}
use Rattle.message.specs.declared.alert.Alert.{Alert}
use Rattle.message.specs.declared.alert.Level.TheVariants as L
use Rattle.connection.specs.Answer.{reply_size}
use Rattle.connection.specs.Judge.{fragment_of}
use Rattle.connection.specs.Receive.{first_reply, slots_of}
use Rattle.connection.specs.Reply.{answered_with}
use Rattle.connection.specs.Send.{after_alert, next_alert, alert_body}
use Rattle.connection.specs.declared.state.State.{State}
use Rattle.connection.specs.declared.state.State.TheVariants as S
use Rattle.connection.specs.declared.answer.Judged.{Judged}
use Rattle.connection.specs.declared.connection.Connection.{Connection}
use Rattle.connection.specs.declared.receive.Untaken.TheVariants as T
use Rattle.connection.specs.declared.handshake.Handshake.{Handshake}
use Rattle.demands.specs.Runs.{Call, receive, send_data, send_alert, close, start, received, Step, step_of, final_of}
use Rattle.demands.specs.Genuine.{RecordOf}
use Rattle.demands.specs.Table.{Row, New}
use Rattle.demands.specs.Table.{row_ended, row_returned, row_not_allowed, row_reply, row_hello_malformed, row_unacceptable, row_resent, row_change, row_change_malformed, row_clear_malformed, row_checksum, row_clear_warning, row_clear_critical, row_clear_fatal, row_forged, row_old, row_repeated, row_malformed, row_data, row_warning, row_critical, row_barred, row_open, row_again, row_wrong_finished}
use Rattle.demands.specs.Calls.{Chain, chain_end, chain_more, CallRow, receive_16, receive_6, receive_framing, receive_records, data_16, data_7, data_8, data_15, data_6, data_sent_lem, alert_16, alert_7, alert_8, alert_15, alert_6, alert_sent_lem, close_7, close_done, start_7, start_8, start_done, may_alert}
use Rattle.demands.specs.Refusals.{lent_by}
use Rattle.demands.specs.Events.{took, sending, alerting, closing, starting}
use Rattle.demands.specs.Barred.{FatalUnderCode, BarredOnlyByFatal, refused_all, AnswersSeven, BarredForGood}
use Rattle.demands.proofs.States.{ended}
use Rattle.demands.proofs.Genuine.{true_false}
use Rattle.demands.proofs.Table.{row_of}
use Rattle.demands.proofs.Asked.{tells_is, tells_seven}
use Rattle.demands.proofs.First.{first_is}
use Rattle.demands.proofs.Calls.{by_chain, call_of, call_is, chain_is, sent_alone}
use Rattle.demands.proofs.Refusals.{laid_nothing, no_reply}
use Rattle.connection.specs.declared.sent.SentRecords.{SentRecords}
use Rattle.connection.specs.Connection.{alone}
use Rattle.connection.specs.Send.{sender_of, clear_sender}
use Rattle.std.specs.Prelude.{Ok, Some}

-- ---- Barred by a fatal alert only

-- what the row that bars is about
pub record FatalRow (h : Handshake) (d : List ℕ) (r : Record) : Type 0 where
  pub c : List ℕ
  pub w : Window
  pub a : Alert
  pub new : New h d r c w
  pub alert : r.content ≡ C.Alert
  pub well_formed : alert_of c ≡ Some a
  pub fatal : a.level ≡ L.Fatal

module _ (h : Handshake) (sent : SentRecords) (random d : List ℕ) (r : Record) (nb : h.state ≢ S.Barred) where
  replied_not : {P : Type 0} (plan : Plan) → (answered_with h random (fragment_of d r) plan).state ≡ S.Barred → P
  unfolding answered_with
  replied_not plan z = let v : ◌≡◌ {A = ℕ} 0 1 = cc in absurd (omega arith)

  pub by_fatal : {j : Judged} → Row h sent random d r j → j.handshake.state ≡ S.Barred → FatalRow h d r
  by_fatal (row_ended e) z = absurd (nb z)
  by_fatal (row_returned q) z = absurd (nb z)
  by_fatal (row_not_allowed e b n) z = absurd (nb z)
  by_fatal (row_reply plan g e) z = replied_not plan z
  by_fatal (row_hello_malformed fault g e) z = absurd (nb z)
  by_fatal (row_unacceptable condition g e) z = absurd (nb z)
  by_fatal (row_resent s i y e) z = absurd (nb z)
  by_fatal (row_change s q c e) z = let v : ◌≡◌ {A = ℕ} 0 1 = cc in absurd (omega arith)
  by_fatal (row_change_malformed s q c e) z = absurd (nb z)
  by_fatal (row_clear_malformed s q c e) z = absurd (nb z)
  by_fatal (row_checksum b s q c e n) z = absurd (nb z)
  by_fatal (row_clear_warning b s q c e m l) z = absurd (nb z)
  by_fatal (row_clear_critical b s q c e m l) z = let v : ◌≡◌ {A = ℕ} 0 1 = cc in absurd (omega arith)
  by_fatal (row_clear_fatal b s q c e m l) z = let v : ◌≡◌ {A = ℕ} 0 1 = cc in absurd (omega arith)
  by_fatal (row_forged g f) z = absurd (nb z)
  by_fatal (row_old c g s e) z = absurd (nb z)
  by_fatal (row_repeated c g s e) z = absurd (nb z)
  by_fatal (row_malformed c w n m) z = absurd (nb z)
  by_fatal (row_data c w n e m) z = absurd (nb z)
  by_fatal (row_warning c w b n e m l) z = absurd (nb z)
  by_fatal (row_critical c w b n e m l) z = let v : ◌≡◌ {A = ℕ} 0 1 = cc in absurd (omega arith)
  by_fatal (row_barred c w b n e m l) z = record { c = c; w = w; a = b; new = n; alert = e; well_formed = m; fatal = l }
  by_fatal (row_open c w n s e m) z = let v : ◌≡◌ {A = ℕ} 0 1 = cc in absurd (omega arith)
  by_fatal (row_again c w n s e m) z = absurd (nb z)
  by_fatal (row_wrong_finished c w n e m) z = let v : ◌≡◌ {A = ℕ} 0 1 = cc in absurd (omega arith)

module _ (h : Handshake) (nb : h.state ≢ S.Barred) where
  by_data : {P : Type 0} (bytes out : List ℕ) {s : Step} → CallRow (alone h) (send_data bytes out) s → s.connection.handshake.state ≡ S.Barred → P
  by_data bytes out (data_16 b) z = absurd (nb z)
  by_data bytes out (data_7 g e) z = absurd (nb z)
  by_data bytes out (data_8 g e n) z = absurd (nb z)
  by_data bytes out (data_15 g e n) z = absurd (nb z)
  by_data bytes out (data_6 g e n l) z = absurd (nb z)
  by_data bytes out (data_sent_lem g e n l) z = absurd (nb z)

  alert_state_lem : {P : Type 0} (protected : Bool) → (after_alert protected h).state ≡ S.Barred → P
  alert_state_lem true z = absurd (nb z)
  alert_state_lem false z = absurd (nb z)

  by_alert : {P : Type 0} (protected : Bool) (level description : ℕ) (lent out : List ℕ) {s : Step} → CallRow (alone h) (send_alert protected level description lent out) s
      → s.connection.handshake.state ≡ S.Barred → P
  by_alert protected level description lent out (alert_16 b) z = absurd (nb z)
  by_alert protected level description lent out (alert_7 g e) z = absurd (nb z)
  by_alert protected level description lent out (alert_8 g e f) z = absurd (nb z)
  by_alert protected level description lent out (alert_15 g e n) z = absurd (nb z)
  by_alert protected level description lent out (alert_6 g e n l) z = absurd (nb z)
  by_alert protected level description lent out (alert_sent_lem {l = v} {k = m} g e n l) z =
      alert_state_lem protected (sym (ap (λ x. x.state) (sent_alone h protected e (next_alert protected (sender_of protected (alone h)) (alert_body v m lent)))) ∙ z)

  by_close : {P : Type 0} {s : Step} → CallRow (alone h) close s → s.connection.handshake.state ≡ S.Barred → P
  by_close (close_7 e) z = absurd (nb z)
  by_close (close_done n) z = let v : ◌≡◌ {A = ℕ} 0 1 = cc in absurd (omega arith)

  by_start : {P : Type 0} {s : Step} → CallRow (alone h) start s → s.connection.handshake.state ≡ S.Barred → P
  by_start (start_7 e) z = absurd (nb z)
  by_start (start_8 n m) z = absurd (nb z)
  by_start (start_done e) z = let v : ◌≡◌ {A = ℕ} 0 1 = cc in absurd (omega arith)

under_code : (h : Handshake) (sent : SentRecords) (random d : List ℕ) (r : Record) → RecordOf d r → FatalRow h d r → FatalUnderCode h (took sent random d r)
under_code h sent random d r at f =
    record {
      records = sent;
      random = random;
      d = d;
      r = r;
      c = f.c;
      a = f.a;
      event = refl;
      taken = f.new.guarded;
      genuine = record { in_place = at; protected_as = f.new.coded };
      w = f.w;
      arrived = f.new.arrived;
      new = f.new.accepted;
      alert = f.alert;
      well_formed = f.well_formed;
      fatal = f.fatal;
    }

pub barred_only_by_fatal : BarredOnlyByFatal
unfolding BarredOnlyByFatal step_of
barred_only_by_fatal h (took sent random d r) sound nb z = under_code h sent random d r sound.1 (by_fatal h sent random d r nb (row_of h sent random d r) z)
barred_only_by_fatal h (sending bytes out) sound nb z = by_data h nb bytes out (call_of (alone h) (send_data bytes out)) z
barred_only_by_fatal h (alerting protected level description lent out) sound nb z =
    by_alert h nb protected level description lent out (call_of (alone h) (send_alert protected level description lent out)) z
barred_only_by_fatal h closing sound nb z = by_close h nb (call_of (alone h) close) z
barred_only_by_fatal h starting sound nb z = by_start h nb (call_of (alone h) start) z

-- ---- an ended connection

pub chain_seven : (random d : List ℕ) (c : Connection) → ended c.handshake.state ≡ true → (rs : List Record) → Chain random d c rs (refused_all rs) c
chain_seven random d c e [] = chain_end
chain_seven random d c e (r ∷ rs) = chain_more (tells_seven c random d r e) (chain_seven random d c e rs)

no_reply_ended : (c : Connection) (random d : List ℕ) → ended c.handshake.state ≡ true → (rs : List Record) → first_reply c random d rs ≡ []
unfolding first_reply
no_reply_ended c random d e [] = refl
no_reply_ended c random d e (r ∷ rs) =
    no_reply c random d r rs (ap (λ t. reply_size t.answer) (tells_is c random d r (tells_seven c random d r e)))

module _ (c : Connection) (b : c.handshake.state ≡ S.Barred) where
  is_over : ended c.handshake.state ≡ true
  is_over = ap ended b

  no_state : {P : Type 0} (s : State) → c.handshake.state ≡ s → (S.Barred ≡ s → ⊥) → P
  no_state s e n = absurd (n (sym b ∙ e))

  sender_is : (protected : Bool) → sender_of protected c ≡ c.handshake
  sender_is true = refl
  sender_is false = ap (clear_sender c) b

  not_may : {P : Type 0} (protected : Bool) → may_alert protected (sender_of protected c).state ≡ true → P
  not_may protected m = true_false false (sym (ap (λ x. may_alert protected x.state) (sender_is protected) ∙ ap (may_alert protected) b) ∙ m) refl

  stays : {call : Call} {s : Step} → CallRow c call s → (s.connection ≡ c) × (s.output ≡ lent_by call)
  stays (receive_16 n) = (refl, refl)
  stays (receive_6 e l) = (refl, refl)
  stays (receive_framing e l f) = (refl, refl)
  stays (receive_records {d = d} {random = random} {out = out} {rs = rs} {answers = answers} {left = last} reply e l f more sends) =
      let same : c ≡ last = sym (chain_is random d (chain_seven random d c is_over rs)).1 ∙ (chain_is random d more).1 in
      (sym same, ap (laid_over out 0) (sym (first_is random d more reply sends) ∙ no_reply_ended c random d is_over rs) ∙ laid_nothing out)
  stays (data_16 x) = (refl, refl)
  stays (data_7 g e) = (refl, refl)
  stays (data_8 g e n) = (refl, refl)
  stays (data_15 g e n) = (refl, refl)
  stays (data_6 g e n l) = (refl, refl)
  stays (data_sent_lem g e n l) = no_state S.Open e (λ z. let v : ◌≡◌ {A = ℕ} 0 1 = cc in omega arith)
  stays (alert_16 x) = (refl, refl)
  stays (alert_7 g e) = (refl, refl)
  stays (alert_8 g e f) = (refl, refl)
  stays (alert_15 g e n) = (refl, refl)
  stays (alert_6 g e n l) = (refl, refl)
  stays (alert_sent_lem {protected = protected} g e n l) = not_may protected e
  stays (close_7 e) = (refl, refl)
  stays (close_done n) = absurd (n b)
  stays (start_7 e) = (refl, refl)
  stays (start_8 n m) = (refl, refl)
  stays (start_done e) = no_state S.Closed e (λ z. let v : ◌≡◌ {A = ℕ} 0 1 = cc in omega arith)

  same_always : (calls : List Call) → final_of step_of c calls ≡ c
  unfolding final_of
  same_always [] = refl
  same_always (call ∷ calls) = ap (λ x. final_of step_of x calls) (stays (call_of c call)).0 ∙ same_always calls

  received_seven : (d random out : List ℕ) (rs : List Record) → length random ≡ 16 → 128 ≤ length out → framing_of d ≡ framed rs
      → (step_of c (receive d random out)).result ≡ received (Ok (length rs)) (slots_of (refused_all rs)) 0
  received_seven d random out rs e l f =
      ap (λ s. s.result) (call_is c (by_chain c {out = out} e l f (chain_seven random d c is_over rs)))
      ∙ ap (λ reply. received (Ok (length rs)) (slots_of (refused_all rs)) (length reply)) (no_reply_ended c random d is_over rs)

  answers_seven : AnswersSeven step_of c
  unfolding AnswersSeven
  answers_seven = (
    received_seven,
    λ bytes out some most. ap (λ s. s.result) (call_is c (data_7 {out = out} (record { some = some; most = most }) (inr b))),
    λ protected level description l k answered out el ek m.
        ap (λ s. s.result) (call_is c (alert_7 {protected = protected} {out = out} (record { level_is = el; description_is = ek; lent_most = m }) (inr (ap (λ x. x.state) (sender_is protected) ∙ b)))),
    ap (λ s. s.result) (call_is c (close_7 b)),
    ap (λ s. s.result) (call_is c (start_7 b)),
  )

pub barred_for_good : BarredForGood
unfolding BarredForGood
barred_for_good c b = (same_always c b, λ call. (stays c b (call_of c call)).1, answers_seven c b)
