-- What is kept is what happened. The idea: each event changes the connection and the history alike; by the row of a record, or of a
-- call, it is seen field by field. The window follows the history by the law of layer 2 (`Histories.meaning`).
use mathlib.Core.Path.{◌≡◌, refl, sym, ◌∙◌, ap, ap₂, subst}
use mathlib.Core.Logic.{◌⊎◌, inl, inr, ◌≢◌}
use mathlib.Core.Bool.{Bool, true, false}
use mathlib.Core.List.{List, [], ◌∷◌}
use Prim.Native.Nat.{ℕ, ◌+◌, ◌-◌}
use native.Mathlib.Omega.{arith}
use lib.ListN.{length, take, replicate}
use lib.Seq.{take_at}
use Rattle.digest.specs.Pick.{pick}
use Rattle.digest.specs.Bytes.{laid_over}
use Rattle.record.specs.Window.{accept_of, emptied, Held}
use Rattle.record.specs.History.{window_of}
use Rattle.record.specs.declared.header.Content.{Content}
use Rattle.record.specs.declared.header.Content.TheVariants as C
use Rattle.record.specs.declared.reader.Record.{Record}
use Rattle.record.specs.declared.window.Window.{Window}
use Rattle.record.specs.declared.window.NotNew.TheVariants as A
use Rattle.record.proofs.Histories.{meaning, fresh_means, new_means}
use Rattle.message.specs.Acceptance.{heard_of}
use Rattle.message.specs.declared.alert.Description.{Description}
use Rattle.message.specs.declared.acceptance.Plan.{Plan}
use Rattle.message.specs.declared.acceptance.Unheard.TheVariants as H
use Rattle.connection.specs.Calls.{session_of}
use Rattle.connection.specs.Handshake.{with_state, with_window, barred, reopened, nothing_kept, no_session, kept_hello, kept_reply, planted}
use Rattle.connection.specs.Judge.{fragment_of}
use Rattle.connection.specs.Reply.{answered_with, reply_to}
use Rattle.connection.specs.declared.sent.SentRecords.{SentRecords}
use Rattle.connection.specs.Send.{next_protected, next_alert, sender_of, alert_body, after_alert}
use Rattle.connection.specs.declared.state.State.{State}
use Rattle.connection.specs.declared.state.State.TheVariants as S
use Rattle.connection.specs.declared.refusal.Refusal.{Refusal}
use Rattle.connection.specs.declared.refusal.Refusal.TheVariants as X
use Rattle.connection.specs.declared.answer.Answer.{Answer}
use Rattle.connection.specs.declared.answer.Answer.TheVariants as W
use Rattle.connection.specs.declared.answer.Judged.{Judged}
use Rattle.connection.specs.declared.handshake.Handshake.{Handshake}
use Rattle.connection.specs.declared.handshake.Session.{Session}
use Rattle.demands.specs.Seen.{seen_in}
use Rattle.demands.specs.Runs.{send_data, send_alert, close, start, Step, step_of}
use Rattle.demands.specs.Table.{Row, Hears, New, Greets}
use Rattle.demands.specs.Table.{row_ended, row_returned, row_not_allowed, row_reply, row_hello_malformed, row_unacceptable, row_resent, row_change, row_change_malformed, row_clear_malformed, row_checksum, row_clear_warning, row_clear_critical, row_clear_fatal, row_forged, row_old, row_repeated, row_malformed, row_data, row_warning, row_critical, row_barred, row_open, row_again, row_wrong_finished}
use Rattle.demands.specs.Calls.{CallRow, data_16, data_7, data_8, data_15, data_6, data_sent_lem, alert_16, alert_7, alert_8, alert_15, alert_6, alert_sent_lem, close_7, close_done, start_7, start_8, start_done}
use Rattle.demands.specs.Refusals.{written_by}
use Rattle.demands.specs.Events.{Event, took, sending, alerting, closing, starting, Happened, answered, wrote, closed, started, refused, if_done, next, happening, after, history}
use Rattle.demands.specs.Past.{greeting, is_reply, is_spec, is_barred, marks, last_reply, kept_greeting, agreed_for, agreed_as, hello_as, reply_for, reply_heard, protected_next, next_clear_number, accepted_in, barred_in, agreed_of, nothing_agreed}
use Rattle.demands.specs.Runs.{fresh_with}
use Rattle.demands.specs.Kept.{KeptAs, KeptIsWhatHappened}
use Rattle.demands.proofs.States.{ended}
use Rattle.demands.proofs.Genuine.{true_false}
use Rattle.demands.proofs.Table.{row_of}
use Rattle.demands.proofs.Calls.{call_of, sent_alone}
use Rattle.demands.proofs.Refusals.{outcome_in}
use Rattle.connection.specs.Connection.{alone}
use Rattle.std.specs.Prelude.{Ok}

-- ---- the window

-- the window after a new number
pub window_more : (width : ℕ) → Held width → (past : List ℕ) (s : ℕ) (w : Window) (n : ℕ) → accept_of (window_of width past) s ≡ Ok (w, n)
    → w ≡ window_of width (s ∷ past)
window_more width held past s w n e = (new_means width past s w n (sym (meaning width held past s) ∙ e)).2

-- ---- states

pub hears_live : (s : State) → Hears s → ended s ≡ false
hears_live s (inl e) = ap ended e
hears_live s (inr e) = ap ended e

pub protected_live : (s : State) (c : Content) → ((s ≡ S.Spec) × ((c ≡ C.Alert) ⊎ (c ≡ C.Handshake))) ⊎ (s ≡ S.Open) → ended s ≡ false
protected_live s c (inl (e, k)) = ap ended e
protected_live s c (inr e) = ap ended e

pub greets_live : (h : Handshake) (d : List ℕ) (r : Record) → (h.state ≡ S.Idle) ⊎ (Hears h.state × (fragment_of d r ≢ kept_hello h)) → ended h.state ≡ false
greets_live h d r (inl e) = ap ended e
greets_live h d r (inr (e, n)) = hears_live h.state e

-- ---- one event more

both_no : (b : Bool) → pick b false false ≡ false
both_no true = refl
both_no false = refl

-- the next numbers
record Sending : Type 0 where
  protected : ℕ
  clear : ℕ

abbrev sending_of : Handshake → Sending
sending_of h = record { protected = h.protection.protected; clear = h.protection.clear }

module _ (session : Session) {width : ℕ} (past : List Happened) (h : Handshake) (k : KeptAs session width past h) where
  -- a connection that is not ended was not barred
  pub live : ended h.state ≡ false → barred_in past ≡ false
  live e = by_bar (barred_in past) refl
    where
      by_bar : (b : Bool) → barred_in past ≡ b → barred_in past ≡ false
      by_bar false f = f
      by_bar true f = true_false (ended h.state) (ap ended (k.barred_is f).0) e

  module _ (sent : SentRecords) (random d : List ℕ) (r : Record) where
    -- an answer that is no reply and bars nothing
    kept_by : (x : Handshake) (a : Answer) → is_reply a ≡ false → is_barred a ≡ false → planted x ≡ planted h → agreed_of x ≡ agreed_of h
        → x.kept ≡ h.kept → sending_of x ≡ sending_of h → x.protection.window ≡ window_of width (accepted_in (answered random d r a ∷ past))
        → (barred_in past ≡ true → x.state ≡ S.Barred) → KeptAs session width (answered random d r a ∷ past) x
    unfolding last_reply kept_greeting protected_next next_clear_number barred_in
    kept_by x a nr nb es ea ek en ew st =
        let bar : pick (is_barred a) true (barred_in past) ≡ barred_in past = ap (λ b. pick b true (barred_in past)) nb in
        record {
          session_is = λ f. es ∙ k.session_is (sym bar ∙ f);
          agreed_is = λ f. ea ∙ k.agreed_is (sym bar ∙ f) ∙ sym (ap (λ b. agreed_for session (pick b (greeting (fragment_of d r) random) (last_reply past))) nr);
          hello_is = λ f. ap (λ y. take y.heard y.hello) ek ∙ k.hello_is (sym bar ∙ f) ∙ sym (ap (λ b. hello_as (pick b (greeting (fragment_of d r) random) (kept_greeting past))) nr);
          reply_is = λ f. ap (λ y. take y.size y.reply) ek ∙ k.reply_is (sym bar ∙ f) ∙ sym (ap (λ b. reply_for session (pick b (greeting (fragment_of d r) random) (kept_greeting past))) nr);
          protected_is = ap (λ y. y.protected) en ∙ k.protected_is ∙ sym (ap (λ b. pick b 1 (protected_next past)) nr);
          clear_is = ap (λ y. y.clear) en ∙ k.clear_is ∙ sym (ap (λ b. pick b 2 (next_clear_number past)) nr);
          window_is = ew;
          held = k.held;
          barred_is = λ f. (
            st (sym bar ∙ f),
            es ∙ (k.barred_is (sym bar ∙ f)).1,
            ek ∙ (k.barred_is (sym bar ∙ f)).2,
            ea ∙ (k.barred_is (sym bar ∙ f)).3 ∙ sym (ap (λ y. nothing_agreed y.mac y.refresh) ea),
          );
        }

    -- the numbers accepted: the same where the record is clear or the answer marks nothing; one more where it marks
    accepted_clear : (a : Answer) → is_spec a ≡ false → r.protected ≡ false → accepted_in (answered random d r a ∷ past) ≡ accepted_in past
    unfolding accepted_in
    accepted_clear a ns p =
        ap (λ b. pick b [] (pick (pick r.protected (marks a) false) (r.number ∷ accepted_in past) (accepted_in past))) ns
        ∙ ap (λ b. pick (pick b (marks a) false) (r.number ∷ accepted_in past) (accepted_in past)) p

    accepted_unmarked : (a : Answer) → is_spec a ≡ false → marks a ≡ false → accepted_in (answered random d r a ∷ past) ≡ accepted_in past
    unfolding accepted_in
    accepted_unmarked a ns m =
        ap (λ b. pick b [] (pick (pick r.protected (marks a) false) (r.number ∷ accepted_in past) (accepted_in past))) ns
        ∙ ap (λ b. pick (pick r.protected b false) (r.number ∷ accepted_in past) (accepted_in past)) m
        ∙ ap (λ b. pick b (r.number ∷ accepted_in past) (accepted_in past)) (both_no r.protected)

    accepted_marked : (a : Answer) → is_spec a ≡ false → marks a ≡ true → r.protected ≡ true
        → accepted_in (answered random d r a ∷ past) ≡ r.number ∷ accepted_in past
    unfolding accepted_in
    accepted_marked a ns m p =
        ap (λ b. pick b [] (pick (pick r.protected (marks a) false) (r.number ∷ accepted_in past) (accepted_in past))) ns
        ∙ ap₂ (λ b c. pick (pick b c false) (r.number ∷ accepted_in past) (accepted_in past)) p m

    -- nothing changed
    refused_by : (x : Refusal) → marks (W.Refused x) ≡ false → KeptAs session width (answered random d r (W.Refused x) ∷ past) h
    refused_by x m =
        kept_by h (W.Refused x) refl refl refl refl refl refl (k.window_is ∙ sym (ap (window_of width) (accepted_unmarked (W.Refused x) refl m))) (λ f. (k.barred_is f).0)

    clear_by : (a : Answer) (x : Handshake) → is_reply a ≡ false → is_barred a ≡ false → is_spec a ≡ false → r.protected ≡ false
        → planted x ≡ planted h → agreed_of x ≡ agreed_of h → x.kept ≡ h.kept → sending_of x ≡ sending_of h → x.protection.window ≡ h.protection.window
        → ended h.state ≡ false → KeptAs session width (answered random d r a ∷ past) x
    clear_by a x nr nb ns p es ea ek en ew l =
        kept_by x a nr nb es ea ek en (ew ∙ k.window_is ∙ sym (ap (window_of width) (accepted_clear a ns p)))
        (λ f. true_false (barred_in past) f (live l))

    -- the mark of a new number
    window_marked : (c : List ℕ) (w : Window) → New h d r c w → (a : Answer) → is_spec a ≡ false → marks a ≡ true
        → w ≡ window_of width (accepted_in (answered random d r a ∷ past))
    window_marked c w n a ns m =
        window_more width k.held (accepted_in past) r.number w n.arrived (sym (ap (λ y. accept_of y r.number) k.window_is) ∙ n.accepted)
        ∙ sym (ap (window_of width) (accepted_marked a ns m n.guarded.protection))

    marked_by : (c : List ℕ) (w : Window) → New h d r c w → (a : Answer) (s : State) → is_reply a ≡ false → is_barred a ≡ false → is_spec a ≡ false
        → marks a ≡ true → KeptAs session width (answered random d r a ∷ past) (with_state (with_window h w) s)
    marked_by c w n a s nr nb ns m =
        kept_by (with_state (with_window h w) s) a nr nb refl refl refl refl (window_marked c w n a ns m)
        (λ f. true_false (barred_in past) f (live (protected_live h.state r.content n.guarded.kind)))

    replied : (plan : Plan) → Greets h (seen_in d r) → heard_of (fragment_of d r) h.id ≡ Ok plan
        → KeptAs session width (answered random d r (W.Reply (length (reply_to (planted h) random (fragment_of d r) plan))) ∷ past) (answered_with h random (fragment_of d r) plan)
    unfolding answered_with last_reply kept_greeting protected_next next_clear_number barred_in
    replied plan g e =
        let m : List ℕ = fragment_of d r in
        let reply : List ℕ = reply_to (planted h) random m plan in
        let l : barred_in past ≡ false = live (greets_live h d r g.another) in
        let es : planted h ≡ session = k.session_is l in
        record {
          session_is = λ f. es;
          agreed_is = λ f. ap (agreed_as (planted h) random m) (sym e) ∙ ap (λ s. agreed_as s random m (heard_of m s.id)) es;
          hello_is = λ f. take_at m (replicate (256 - length m) 0) (length m) refl;
          reply_is = λ f. take_at reply (replicate (84 - length reply) 0) (length reply) refl
              ∙ ap (reply_heard (planted h) random m) (sym e) ∙ ap (λ s. reply_heard s random m (heard_of m s.id)) es;
          protected_is = refl;
          clear_is = refl;
          window_is = k.window_is ∙ sym (ap (window_of width) (accepted_unmarked (W.Reply (length reply)) refl refl));
          held = k.held;
          barred_is = λ f. true_false (barred_in past) f l;
        }

    barred_by : (c : List ℕ) (w : Window) → New h d r c w → (x : Description)
        → KeptAs session width (answered random d r (W.Barred x) ∷ past) (barred (with_window h w))
    unfolding protected_next next_clear_number barred_in nothing_agreed no_session
    barred_by c w n x =
        record {
          session_is = λ f. true_false true refl f;
          agreed_is = λ f. true_false true refl f;
          hello_is = λ f. true_false true refl f;
          reply_is = λ f. true_false true refl f;
          protected_is = k.protected_is;
          clear_is = k.clear_is;
          window_is = window_marked c w n (W.Barred x) refl refl;
          held = k.held;
          barred_is = λ f. (refl, refl, refl, refl);
        }

    fresh_again : emptied h.protection.window ≡ window_of width (accepted_in (answered random d r W.Spec ∷ past))
    unfolding accepted_in
    fresh_again = ap emptied k.window_is ∙ fresh_means width

    -- the rows
    pub by_row : {j : Judged} → Row h sent random d r j → KeptAs session width (answered random d r j.answer ∷ past) j.handshake
    by_row (row_ended e) = refused_by X.Ended refl
    by_row (row_returned q) =
        clear_by (W.Resent (length (kept_reply h))) h refl refl refl q.hello.clear refl refl refl refl refl (ap ended q.is_open)
    by_row (row_not_allowed e a n) = refused_by X.NotAllowed refl
    by_row (row_reply plan g e) = replied plan g e
    by_row (row_hello_malformed fault g e) =
        clear_by (W.Refused X.Malformed) h refl refl refl g.hello.clear refl refl refl refl refl (greets_live h d r g.another)
    by_row (row_unacceptable condition g e) = refused_by X.Unacceptable refl
    by_row (row_resent s i z e) =
        clear_by (W.Resent (length (kept_reply h))) h refl refl refl i.clear refl refl refl refl refl (hears_live h.state s)
    by_row (row_change s p c e) =
        kept_by (with_state (with_window h (emptied h.protection.window)) S.Spec) W.Spec refl refl refl refl refl refl fresh_again (λ f. true_false (barred_in past) f (live (ap ended s)))
    by_row (row_change_malformed s p c e) = clear_by (W.Refused X.Malformed) h refl refl refl p refl refl refl refl refl (ap ended s)
    by_row (row_clear_malformed s p c e) = clear_by (W.Refused X.Malformed) h refl refl refl p refl refl refl refl refl (hears_live h.state s)
    by_row (row_checksum a s p c e n) = refused_by X.Checksum refl
    by_row (row_clear_warning a s p c e q l) = clear_by (W.Warning a.description) h refl refl refl p refl refl refl refl refl (hears_live h.state s)
    by_row (row_clear_critical a s p c e q l) =
        clear_by (W.Critical a.description) (with_state h S.Closed) refl refl refl p refl refl refl refl refl (hears_live h.state s)
    by_row (row_clear_fatal a s p c e q l) =
        clear_by (W.Fatal a.description) (with_state h S.Closed) refl refl refl p refl refl refl refl refl (hears_live h.state s)
    by_row (row_forged g f) = refused_by X.Forged refl
    by_row (row_old c g s e) = refused_by X.TooOld refl
    by_row (row_repeated c g s e) = refused_by X.Repeated refl
    by_row (row_malformed c w n m) = marked_by c w n (W.Refused X.Malformed) h.state refl refl refl refl
    by_row (row_data c w n e m) = marked_by c w n (W.Data r.number (r.start + r.head) (length c)) h.state refl refl refl refl
    by_row (row_warning c w a n e m l) = marked_by c w n (W.Warning a.description) h.state refl refl refl refl
    by_row (row_critical c w a n e m l) = marked_by c w n (W.Critical a.description) S.Closed refl refl refl refl
    by_row (row_barred c w a n e m l) = barred_by c w n a.description
    by_row (row_open c w n s e m) = marked_by c w n W.Open S.Open refl refl refl refl
    by_row (row_again c w n s e m) = marked_by c w n W.Again h.state refl refl refl refl
    by_row (row_wrong_finished c w n e m) = marked_by c w n (W.Refused X.WrongFinished) S.Closed refl refl refl refl

  -- a call that is refused
  refused_more : KeptAs session width (refused ∷ past) h
  unfolding last_reply kept_greeting protected_next next_clear_number accepted_in barred_in
  refused_more =
      record {
        session_is = k.session_is;
        agreed_is = k.agreed_is;
        hello_is = k.hello_is;
        reply_is = k.reply_is;
        protected_is = k.protected_is;
        clear_is = k.clear_is;
        window_is = k.window_is;
        held = k.held;
        barred_is = k.barred_is;
      }

  -- a record of ours
  wrote_more : (protected : Bool) (front : List ℕ) → KeptAs session width (wrote protected front ∷ past) (after_alert protected h)
  unfolding last_reply kept_greeting protected_next next_clear_number accepted_in barred_in
  wrote_more true front =
      record {
        session_is = k.session_is;
        agreed_is = k.agreed_is;
        hello_is = k.hello_is;
        reply_is = k.reply_is;
        protected_is = ap (λ n. n + 1) k.protected_is;
        clear_is = k.clear_is;
        window_is = k.window_is;
        held = k.held;
        barred_is = k.barred_is;
      }
  wrote_more false front =
      record {
        session_is = k.session_is;
        agreed_is = k.agreed_is;
        hello_is = k.hello_is;
        reply_is = k.reply_is;
        protected_is = k.protected_is;
        clear_is = ap (λ n. n + 1) k.clear_is;
        window_is = k.window_is;
        held = k.held;
        barred_is = k.barred_is;
      }

  closed_more : barred_in past ≡ false → KeptAs session width (closed ∷ past) (with_state h S.Closed)
  unfolding last_reply kept_greeting protected_next next_clear_number accepted_in barred_in
  closed_more l =
      record {
        session_is = k.session_is;
        agreed_is = k.agreed_is;
        hello_is = k.hello_is;
        reply_is = k.reply_is;
        protected_is = k.protected_is;
        clear_is = k.clear_is;
        window_is = k.window_is;
        held = k.held;
        barred_is = λ f. true_false (barred_in past) f l;
      }

  started_more : barred_in past ≡ false → KeptAs session width (started ∷ past) (reopened h)
  unfolding last_reply kept_greeting protected_next next_clear_number accepted_in barred_in nothing_kept
  started_more l =
      record {
        session_is = k.session_is;
        agreed_is = k.agreed_is;
        hello_is = λ f. refl;
        reply_is = λ f. refl;
        protected_is = k.protected_is;
        clear_is = k.clear_is;
        window_is = ap emptied k.window_is ∙ fresh_means width;
        held = k.held;
        barred_is = λ f. true_false (barred_in past) f l;
      }

  not_barred : (h.state ≢ S.Barred) → (b : Bool) → barred_in past ≡ b → barred_in past ≡ false
  not_barred n false f = f
  not_barred n true f = absurd (n (k.barred_is f).0)

  by_data : (bytes out : List ℕ) {s : Step} → CallRow (alone h) (send_data bytes out) s
      → KeptAs session width (if_done (outcome_in s.result) (wrote true (take (written_by s.result) s.output)) ∷ past) s.connection.handshake
  by_data bytes out (data_16 b) = refused_more
  by_data bytes out (data_7 g e) = refused_more
  by_data bytes out (data_8 g e n) = refused_more
  by_data bytes out (data_15 g e n) = refused_more
  by_data bytes out (data_6 g e n l) = refused_more
  by_data bytes out (data_sent_lem g e n l) =
      let b : List ℕ = next_protected h C.Data bytes in wrote_more true (take (length b) (laid_over out 0 b))

  by_alert : (protected : Bool) (level description : ℕ) (lent out : List ℕ) {s : Step} → CallRow (alone h) (send_alert protected level description lent out) s
      → KeptAs session width (if_done (outcome_in s.result) (wrote protected (take (written_by s.result) s.output)) ∷ past) s.connection.handshake
  by_alert protected level description lent out (alert_16 b) = refused_more
  by_alert protected level description lent out (alert_7 g e) = refused_more
  by_alert protected level description lent out (alert_8 g e f) = refused_more
  by_alert protected level description lent out (alert_15 g e n) = refused_more
  by_alert protected level description lent out (alert_6 g e n l) = refused_more
  by_alert protected level description lent out (alert_sent_lem {l = v} {k = m} g e n l) =
      let b : List ℕ = next_alert protected (sender_of protected (alone h)) (alert_body v m lent) in
      subst (KeptAs session width (wrote protected (take (length b) (laid_over out 0 b)) ∷ past)) (sym (sent_alone h protected e b))
      (wrote_more protected (take (length b) (laid_over out 0 b)))

  by_close : {s : Step} → CallRow (alone h) close s → KeptAs session width (if_done (outcome_in s.result) closed ∷ past) s.connection.handshake
  by_close (close_7 e) = refused_more
  by_close (close_done n) = closed_more (not_barred n (barred_in past) refl)

  by_start : {s : Step} → CallRow (alone h) start s → KeptAs session width (if_done (outcome_in s.result) started ∷ past) s.connection.handshake
  by_start (start_7 e) = refused_more
  by_start (start_8 n m) = refused_more
  by_start (start_done e) = started_more (live_closed (barred_in past) refl)
    where
      live_closed : (b : Bool) → barred_in past ≡ b → barred_in past ≡ false
      live_closed false f = f
      live_closed true f =
          let z : S.Closed ≡ S.Barred = sym e ∙ (k.barred_is f).0 in let w : ◌≡◌ {A = ℕ} 0 1 = cc in absurd (omega arith)

  pub kept_more : (e : Event) → KeptAs session width (happening h e ∷ past) (next h e)
  unfolding step_of
  kept_more (took sent random d r) = by_row sent random d r (row_of h sent random d r)
  kept_more (sending bytes out) = by_data bytes out (call_of (alone h) (send_data bytes out))
  kept_more (alerting protected level description lent out) =
      by_alert protected level description lent out (call_of (alone h) (send_alert protected level description lent out))
  kept_more closing = by_close (call_of (alone h) close)
  kept_more starting = by_start (call_of (alone h) start)

-- ---- a whole run

pub kept_all : (session : Session) {width : ℕ} (es : List Event) (past : List Happened) (h : Handshake) → KeptAs session width past h
    → KeptAs session width (history h es past) (after h es)
unfolding history after
kept_all session [] past h k = k
kept_all session (e ∷ es) past h k = kept_all session es (happening h e ∷ past) (next h e) (kept_more session past h k e)

pub kept_fresh : (id secret : List ℕ) (width : ℕ) → Held width → KeptAs (session_of id secret) width [] (fresh_with id secret width)
unfolding last_reply kept_greeting protected_next next_clear_number accepted_in barred_in nothing_kept nothing_agreed
kept_fresh id secret width held =
    record {
      session_is = λ f. refl;
      agreed_is = λ f. refl;
      hello_is = λ f. refl;
      reply_is = λ f. refl;
      protected_is = refl;
      clear_is = refl;
      window_is = fresh_means width;
      held = held;
      barred_is = λ f. true_false false f refl;
    }

pub kept_is_what_happened : KeptIsWhatHappened
unfolding KeptIsWhatHappened
kept_is_what_happened id secret width held es =
    kept_all (session_of id secret) es [] (fresh_with id secret width) (kept_fresh id secret width held)
