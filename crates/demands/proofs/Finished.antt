-- Data only after Finished. The idea: a connection is Open only behind an Open answer, with no new reply, closing or start since; that
-- answer's record was protected under the keys that the connection held, and these are the keys of the last new reply
-- (`Kept.kept_more`); its content was judged right, so it is the Finished of the contents that the connection expected.
use Rattle.message.specs.declared.finished.Unverified.{Unverified}
use mathlib.Core.Path.{◌≡◌, refl, sym, ◌∙◌, ap, ap₂, subst}
use mathlib.Core.Logic.{◌⊎◌, inl, inr}
use mathlib.Core.Bool.{Bool, true, false}
use mathlib.Core.List.{List, [], ◌∷◌, ◌++◌}
use Prim.Native.Nat.{ℕ, ◌+◌, ◌-◌, ◌*◌}
use native.Mathlib.Omega.{arith}
use lib.ListN.{length, take, drop, get_or, length-drop}
use lib.Seq.{take_all}
use lib.Dec.{eqb}
use borrow.Author.Tests.{eqb-true}
use Rattle.digest.specs.Pick.{pick}
use Rattle.digest.specs.Bytes.{bytes2}
use Rattle.digest.specs.Mac.{same_bytes}
use Rattle.digest.proofs.Same.{same_equal}
use Rattle.record.specs.Window.{emptied}
use Rattle.record.specs.declared.header.Content.TheVariants as C
use Rattle.record.specs.declared.reader.Record.{Record}
use Rattle.record.specs.declared.window.Window.{Window}
use Rattle.message.specs.Field.{part_of}
use Rattle.message.specs.Handshake.{fills, finished}
use Rattle.message.specs.Acceptance.{heard_of}
use Rattle.message.specs.Finished.{finished_of, judged_of}
use Rattle.message.specs.declared.acceptance.Plan.{Plan}
use Rattle.message.specs.declared.acceptance.Unheard.TheVariants as H
use Rattle.message.specs.declared.finished.Unverified.TheVariants as F
use Rattle.message.proofs.Written.{Filled, filled}
use Rattle.message.proofs.Rests.{byte_piece}
use Rattle.connection.specs.Calls.{session_of}
use Rattle.connection.specs.Handshake.{with_state, with_window, barred, reopened, kept_reply, planted}
use Rattle.connection.specs.Judge.{fragment_of}
use Rattle.connection.specs.Reply.{answered_with, reply_to, expected_of}
use Rattle.connection.specs.Send.{next_alert, sender_of, alert_body, after_alert}
use Rattle.connection.specs.declared.state.State.{State}
use Rattle.connection.specs.declared.state.State.TheVariants as S
use Rattle.connection.specs.declared.refusal.Refusal.TheVariants as X
use Rattle.connection.specs.declared.answer.Answer.{Answer}
use Rattle.connection.specs.declared.answer.Answer.TheVariants as W
use Rattle.connection.specs.declared.answer.Judged.{Judged}
use Rattle.connection.specs.declared.handshake.Handshake.{Handshake}
use Rattle.connection.specs.declared.handshake.Session.{Session}
use Rattle.demands.specs.Seen.{seen_in}
use Rattle.demands.specs.Runs.{send_data, send_alert, close, start, Step, step_of}
use Rattle.demands.specs.Genuine.{Protected, RecordOf, keys_of}
use Rattle.demands.specs.Table.{Row, New, Greets}
use Rattle.demands.specs.Table.{row_ended, row_returned, row_not_allowed, row_reply, row_hello_malformed, row_unacceptable, row_resent, row_change, row_change_malformed, row_clear_malformed, row_checksum, row_clear_warning, row_clear_critical, row_clear_fatal, row_forged, row_old, row_repeated, row_malformed, row_data, row_warning, row_critical, row_barred, row_open, row_again, row_wrong_finished}
use Rattle.demands.specs.Calls.{CallRow, data_16, data_7, data_8, data_15, data_6, data_sent_lem, alert_16, alert_7, alert_8, alert_15, alert_6, alert_sent_lem, close_7, close_done, start_7, start_8, start_done}
use Rattle.demands.specs.Refusals.{written_by}
use Rattle.demands.specs.Events.{Event, took, sending, alerting, closing, starting, Sound, AllSound, Happened, answered, wrote, closed, started, refused, if_done, next, happening, after, history}
use Rattle.demands.specs.Past.{greeting, is_reply, is_data, shuts, last_reply, agreed_for, agreed_as, keys_with, keys_in, expected_in, barred_in}
use Rattle.record.specs.Window.{Held}
use Rattle.demands.specs.Runs.{fresh_with}
use Rattle.demands.specs.Kept.{KeptAs}
use Rattle.demands.specs.Finished.{Quiet, Verified, OnlyAfterFinished}
use Rattle.demands.proofs.Genuine.{true_false}
use Rattle.demands.proofs.Table.{row_of}
use Rattle.demands.proofs.Calls.{call_of, sent_alone}
use Rattle.demands.proofs.Refusals.{outcome_in}
use Rattle.demands.proofs.Kept.{kept_more, kept_fresh, live, greets_live, protected_live}
use Rattle.connection.specs.declared.sent.SentRecords.{SentRecords}
use Rattle.connection.specs.Connection.{alone}
use Rattle.std.specs.Prelude.{Err, Ok, Result, ⊤}

-- ---- a content that was judged right is the Finished of the expected contents

module _ (m e : List ℕ) where
  judged_tests : (a b c : Bool) → eqb (length m) 15 ≡ a → fills finished m ≡ b → same_bytes (part_of m 3 15) e ≡ c
      → ◌≡◌ {A = Result ⊤ Unverified} (pick a (pick b (pick c (Ok tt) (Err F.Wrong)) (Err F.Malformed)) (Err F.Malformed)) (Ok tt)
      → (length m ≡ 15) × (fills finished m ≡ true) × (part_of m 3 15 ≡ e)
  judged_tests true true true ea eb ec z = (eqb-true (length m) 15 ea, eb, same_equal (part_of m 3 15) e ec)
  judged_tests true true false ea eb ec z = let w : ◌≡◌ {A = ℕ} 0 1 = cc in absurd (omega arith)
  judged_tests true false c ea eb ec z = let w : ◌≡◌ {A = ℕ} 0 1 = cc in absurd (omega arith)
  judged_tests false b c ea eb ec z = let w : ◌≡◌ {A = ℕ} 0 1 = cc in absurd (omega arith)

  right_parts : judged_of m e ≡ Ok tt → (length m ≡ 15) × (fills finished m ≡ true) × (part_of m 3 15 ≡ e)
  unfolding judged_of
  right_parts z = judged_tests (eqb (length m) 15) (fills finished m) (same_bytes (part_of m 3 15) e) refl refl refl z

  pub right_is : judged_of m e ≡ Ok tt → m ≡ finished_of e
  right_is z =
      let q = right_parts z in
      let l : length m ≡ 15 = q.0 in
      let f : Filled finished m = filled finished m q.1 in
      let body : drop 3 m ≡ e = sym (take_all 12 (drop 3 m) (omega (arith, length-drop 3 m))) ∙ q.2 in
      let size : length e ≡ 12 = ap length (sym body) ∙ length-drop 3 m ∙ ap (λ n. n - 3) l in
      let a : get_or m 0 0 ≡ 20 = f.type in
      let two : get_or m 1 0 * 256 + get_or m 2 0 ≡ 12 = omega (arith, f.size) in
      let b : get_or m 1 0 ≡ 0 = omega arith in
      let c : get_or m 2 0 ≡ 12 = omega arith in
      byte_piece m 0 (omega arith)
      ∙ ap (λ (t : List ℕ). get_or m 0 0 ∷ t) (byte_piece m 1 (omega arith) ∙ ap (λ (t : List ℕ). get_or m 1 0 ∷ t) (byte_piece m 2 (omega arith)))
      ∙ (λ i. a i ∷ b i ∷ c i ∷ body i)
      ∙ sym (λ i. 20 ∷ (bytes2 (size i) ++ e))

-- ---- what a state says of the history

abbrev has_replied : State → Bool
has_replied S.Idle = false
has_replied S.Replied = true
has_replied S.Spec = true
has_replied S.Open = true
has_replied S.Closed = false
has_replied S.Barred = false

pub record Greeted (session : Session) (past : List Happened) : Type 0 where
  pub hello : List ℕ
  pub ours : List ℕ
  pub plan : Plan
  pub replied : last_reply past ≡ greeting hello ours
  pub heard : heard_of hello session.id ≡ Ok plan

pub record Progress (session : Session) (width : ℕ) (past : List Happened) (h : Handshake) : Type 0 where
  pub kept : KeptAs session width past h
  pub greeted : has_replied h.state ≡ true → Greeted session past
  pub verified : h.state ≡ S.Open → Verified session past

module _ (session : Session) {width : ℕ} (past : List Happened) (h : Handshake) (p : Progress session width past h) where
  -- the keys and the expected contents of a connection that is not ended are those of the history
  pub keys_are : barred_in past ≡ false → keys_of h ≡ keys_in session past
  keys_are l = ap₂ keys_with (p.kept.session_is l) (p.kept.agreed_is l)

  pub expected_is : barred_in past ≡ false → h.expected ≡ expected_in session past
  expected_is l = ap (λ a. a.expected) (p.kept.agreed_is l)

  greeted_expects : (g : Greeted session past) → expected_in session past ≡ expected_of session g.ours g.hello g.plan
  greeted_expects g =
      ap (λ x. (agreed_for session x).expected) g.replied ∙ ap (λ x. (agreed_as session g.ours g.hello x).expected) g.heard

  module _ (sent : SentRecords) (random d : List ℕ) (r : Record) (at : RecordOf d r) where
    same_reply : (a : Answer) → is_reply a ≡ false → last_reply (answered random d r a ∷ past) ≡ last_reply past
    unfolding last_reply
    same_reply a e = ap (λ b. pick b (greeting (fragment_of d r) random) (last_reply past)) e

    still_greeted : (a : Answer) → is_reply a ≡ false → Greeted session past → Greeted session (answered random d r a ∷ past)
    still_greeted a e g =
        record { hello = g.hello; ours = g.ours; plan = g.plan; replied = same_reply a e ∙ g.replied; heard = g.heard }

    still_verified : (a : Answer) → is_reply a ≡ false → shuts a ≡ false → Verified session past → Verified session (answered random d r a ∷ past)
    still_verified a e f v =
        record {
          between = answered random d r a ∷ v.between;
          random = v.random;
          d = v.d;
          r = v.r;
          before = v.before;
          split = ap (λ x. answered random d r a ∷ x) v.split;
          quiet = (e, f, v.quiet);
          hello = v.hello;
          ours = v.ours;
          plan = v.plan;
          replied = v.replied;
          heard = v.heard;
          handshake = v.handshake;
          genuine = v.genuine;
        }

    -- the same state, by an answer that is no reply and closes nothing
    same_state : (a : Answer) (x : Handshake) → KeptAs session width (answered random d r a ∷ past) x → is_reply a ≡ false → shuts a ≡ false
        → x.state ≡ h.state → Progress session width (answered random d r a ∷ past) x
    same_state a x k e f es =
        record {
          kept = k;
          greeted = λ z. still_greeted a e (p.greeted (sym (ap has_replied es) ∙ z));
          verified = λ z. still_verified a e f (p.verified (sym es ∙ z));
        }

    -- a state without a reply
    ended_state : (a : Answer) (x : Handshake) (s : State) → KeptAs session width (answered random d r a ∷ past) x → x.state ≡ s → has_replied s ≡ false
        → (s ≡ S.Open → ⊥) → Progress session width (answered random d r a ∷ past) x
    ended_state a x s k es n o =
        record {
          kept = k;
          greeted = λ z. true_false (has_replied x.state) z (ap has_replied es ∙ n);
          verified = λ z. absurd (o (sym es ∙ z));
        }

    -- Spec and Open come behind a reply
    go_on : (a : Answer) (x : Handshake) (s : State) → KeptAs session width (answered random d r a ∷ past) x → is_reply a ≡ false → has_replied h.state ≡ true
        → x.state ≡ s → (s ≡ S.Open → Verified session (answered random d r a ∷ past)) → Progress session width (answered random d r a ∷ past) x
    go_on a x s k e z es v =
        record { kept = k; greeted = λ _. still_greeted a e (p.greeted z); verified = λ y. v (sym es ∙ y) }

    opened : (c : List ℕ) (w : Window) → New h d r c w → h.state ≡ S.Spec → r.content ≡ C.Handshake → judged_of c h.expected ≡ Ok tt
        → Verified session (answered random d r W.Open ∷ past)
    opened c w n es ec e =
        let g : Greeted session past = p.greeted (ap has_replied es) in
        let l : barred_in past ≡ false = live session past h p.kept (protected_live h.state r.content n.guarded.kind) in
        let content_is : c ≡ finished_of (expected_of session g.ours g.hello g.plan)
        = right_is c h.expected e ∙ ap finished_of (expected_is l ∙ greeted_expects g) in
        record {
          between = [];
          random = random;
          d = d;
          r = r;
          before = past;
          split = refl;
          quiet = tt;
          hello = g.hello;
          ours = g.ours;
          plan = g.plan;
          replied = g.replied;
          heard = g.heard;
          handshake = ec;
          genuine = record { in_place = at; protected_as = subst (λ x. Protected x d r (finished_of (expected_of session g.ours g.hello g.plan))) (keys_are l) (subst (Protected (keys_of h) d r) content_is n.coded) };
        }

    new_reply : (plan : Plan) → Greets h (seen_in d r) → heard_of (fragment_of d r) h.id ≡ Ok plan
        → KeptAs session width (answered random d r (W.Reply (length (reply_to (planted h) random (fragment_of d r) plan))) ∷ past) (answered_with h random (fragment_of d r) plan)
        → Progress session width (answered random d r (W.Reply (length (reply_to (planted h) random (fragment_of d r) plan))) ∷ past) (answered_with h random (fragment_of d r) plan)
    unfolding answered_with last_reply
    new_reply plan g e k =
        let l : barred_in past ≡ false = live session past h p.kept (greets_live h d r g.another) in
        record {
          kept = k;
          greeted = λ z. record {
            hello = fragment_of d r;
            ours = random;
            plan = plan;
            replied = refl;
            heard = sym (ap (λ s. heard_of (fragment_of d r) s.id) (p.kept.session_is l)) ∙ e;
          };
          verified = λ z. let w : ◌≡◌ {A = ℕ} 0 1 = cc in absurd (omega arith);
        }

    never : S.Spec ≡ S.Open → ⊥
    never z = let w : ◌≡◌ {A = ℕ} 0 1 = cc in omega arith

    closed_never : S.Closed ≡ S.Open → ⊥
    closed_never z = let w : ◌≡◌ {A = ℕ} 0 1 = cc in omega arith

    barred_never : S.Barred ≡ S.Open → ⊥
    barred_never z = let w : ◌≡◌ {A = ℕ} 0 1 = cc in omega arith

    by_row : {j : Judged} → Row h sent random d r j → KeptAs session width (answered random d r j.answer ∷ past) j.handshake
        → Progress session width (answered random d r j.answer ∷ past) j.handshake
    by_row (row_ended e) k = same_state (W.Refused X.Ended) h k refl refl refl
    by_row (row_returned q) k = same_state (W.Resent (length (kept_reply h))) h k refl refl refl
    by_row (row_not_allowed e a n) k = same_state (W.Refused X.NotAllowed) h k refl refl refl
    by_row (row_reply plan g e) k = new_reply plan g e k
    by_row (row_hello_malformed fault g e) k = same_state (W.Refused X.Malformed) h k refl refl refl
    by_row (row_unacceptable condition g e) k = same_state (W.Refused X.Unacceptable) h k refl refl refl
    by_row (row_resent s i z e) k = same_state (W.Resent (length (kept_reply h))) h k refl refl refl
    by_row (row_change s q c e) k = go_on W.Spec (with_state (with_window h (emptied h.protection.window)) S.Spec) S.Spec k refl (ap has_replied s) refl (λ z. absurd (never z))
    by_row (row_change_malformed s q c e) k = same_state (W.Refused X.Malformed) h k refl refl refl
    by_row (row_clear_malformed s q c e) k = same_state (W.Refused X.Malformed) h k refl refl refl
    by_row (row_checksum a s q c e n) k = same_state (W.Refused X.Checksum) h k refl refl refl
    by_row (row_clear_warning a s q c e m l) k = same_state (W.Warning a.description) h k refl refl refl
    by_row (row_clear_critical a s q c e m l) k = ended_state (W.Critical a.description) (with_state h S.Closed) S.Closed k refl refl closed_never
    by_row (row_clear_fatal a s q c e m l) k = ended_state (W.Fatal a.description) (with_state h S.Closed) S.Closed k refl refl closed_never
    by_row (row_forged g f) k = same_state (W.Refused X.Forged) h k refl refl refl
    by_row (row_old c g s e) k = same_state (W.Refused X.TooOld) h k refl refl refl
    by_row (row_repeated c g s e) k = same_state (W.Refused X.Repeated) h k refl refl refl
    by_row (row_malformed c w n m) k = same_state (W.Refused X.Malformed) (with_window h w) k refl refl refl
    by_row (row_data c w n e m) k = same_state (W.Data r.number (r.start + r.head) (length c)) (with_window h w) k refl refl refl
    by_row (row_warning c w a n e m l) k = same_state (W.Warning a.description) (with_window h w) k refl refl refl
    by_row (row_critical c w a n e m l) k = ended_state (W.Critical a.description) (with_state (with_window h w) S.Closed) S.Closed k refl refl closed_never
    by_row (row_barred c w a n e m l) k = ended_state (W.Barred a.description) (barred (with_window h w)) S.Barred k refl refl barred_never
    by_row (row_open c w n s e m) k =
        go_on W.Open (with_state (with_window h w) S.Open) S.Open k refl (ap has_replied s) refl (λ z. opened c w n s e m)
    by_row (row_again c w n s e m) k = same_state W.Again (with_window h w) k refl refl refl
    by_row (row_wrong_finished c w n e m) k = ended_state (W.Refused X.WrongFinished) (with_state (with_window h w) S.Closed) S.Closed k refl refl closed_never

  -- what is no record: a record of ours, or a call refused
  still : (what : Happened) (x : Handshake) → KeptAs session width (what ∷ past) x → x.state ≡ h.state → last_reply (what ∷ past) ≡ last_reply past
      → ((v : List Happened) → Quiet v → Quiet (what ∷ v)) → Progress session width (what ∷ past) x
  still what x k es el q =
      record {
        kept = k;
        greeted = λ z. let g = p.greeted (sym (ap has_replied es) ∙ z) in
            record { hello = g.hello; ours = g.ours; plan = g.plan; replied = el ∙ g.replied; heard = g.heard };
        verified = λ z. let v = p.verified (sym es ∙ z) in
            record {
              between = what ∷ v.between;
              random = v.random;
              d = v.d;
              r = v.r;
              before = v.before;
              split = ap (λ y. what ∷ y) v.split;
              quiet = q v.between v.quiet;
              hello = v.hello;
              ours = v.ours;
              plan = v.plan;
              replied = v.replied;
              heard = v.heard;
              handshake = v.handshake;
              genuine = v.genuine;
            };
      }

  still_refused : (x : Handshake) → KeptAs session width (refused ∷ past) x → x.state ≡ h.state → Progress session width (refused ∷ past) x
  unfolding last_reply
  still_refused x k es = still refused x k es refl (λ v q. q)

  still_wrote : (protected : Bool) (bytes : List ℕ) (x : Handshake) → KeptAs session width (wrote protected bytes ∷ past) x → x.state ≡ h.state
      → Progress session width (wrote protected bytes ∷ past) x
  unfolding last_reply
  still_wrote protected bytes x k es = still (wrote protected bytes) x k es refl (λ v q. q)

  over : (what : Happened) (x : Handshake) (s : State) → KeptAs session width (what ∷ past) x → x.state ≡ s → has_replied s ≡ false → (s ≡ S.Open → ⊥)
      → Progress session width (what ∷ past) x
  over what x s k es n o =
      record {
        kept = k;
        greeted = λ z. true_false (has_replied x.state) z (ap has_replied es ∙ n);
        verified = λ z. absurd (o (sym es ∙ z));
      }

  by_data : (bytes out : List ℕ) {s : Step} → CallRow (alone h) (send_data bytes out) s
      → KeptAs session width (if_done (outcome_in s.result) (wrote true (take (written_by s.result) s.output)) ∷ past) s.connection.handshake
      → Progress session width (if_done (outcome_in s.result) (wrote true (take (written_by s.result) s.output)) ∷ past) s.connection.handshake
  by_data bytes out (data_16 b) k = still_refused h k refl
  by_data bytes out (data_7 g e) k = still_refused h k refl
  by_data bytes out (data_8 g e n) k = still_refused h k refl
  by_data bytes out (data_15 g e n) k = still_refused h k refl
  by_data bytes out (data_6 g e n l) k = still_refused h k refl
  by_data bytes out {s} (data_sent_lem g e n l) k = still_wrote true (take (written_by s.result) s.output) s.connection.handshake k refl

  alert_state_lem : (protected : Bool) → (after_alert protected h).state ≡ h.state
  alert_state_lem true = refl
  alert_state_lem false = refl

  by_alert : (protected : Bool) (level description : ℕ) (lent out : List ℕ) {s : Step} → CallRow (alone h) (send_alert protected level description lent out) s
      → KeptAs session width (if_done (outcome_in s.result) (wrote protected (take (written_by s.result) s.output)) ∷ past) s.connection.handshake
      → Progress session width (if_done (outcome_in s.result) (wrote protected (take (written_by s.result) s.output)) ∷ past) s.connection.handshake
  by_alert protected level description lent out (alert_16 b) k = still_refused h k refl
  by_alert protected level description lent out (alert_7 g e) k = still_refused h k refl
  by_alert protected level description lent out (alert_8 g e f) k = still_refused h k refl
  by_alert protected level description lent out (alert_15 g e n) k = still_refused h k refl
  by_alert protected level description lent out (alert_6 g e n l) k = still_refused h k refl
  by_alert protected level description lent out {s} (alert_sent_lem {l = v} {k = m} g e n l) k =
      still_wrote protected (take (written_by s.result) s.output) s.connection.handshake k
      (ap (λ x. x.state) (sent_alone h protected e (next_alert protected (sender_of protected (alone h)) (alert_body v m lent))) ∙ alert_state_lem protected)

  by_close : {s : Step} → CallRow (alone h) close s → KeptAs session width (if_done (outcome_in s.result) closed ∷ past) s.connection.handshake
      → Progress session width (if_done (outcome_in s.result) closed ∷ past) s.connection.handshake
  by_close (close_7 e) k = still_refused h k refl
  by_close (close_done n) k = over closed (with_state h S.Closed) S.Closed k refl refl (λ z. let w : ◌≡◌ {A = ℕ} 0 1 = cc in omega arith)

  by_start : {s : Step} → CallRow (alone h) start s → KeptAs session width (if_done (outcome_in s.result) started ∷ past) s.connection.handshake
      → Progress session width (if_done (outcome_in s.result) started ∷ past) s.connection.handshake
  by_start (start_7 e) k = still_refused h k refl
  by_start (start_8 n m) k = still_refused h k refl
  by_start (start_done e) k = over started (reopened h) S.Idle k refl refl (λ z. let w : ◌≡◌ {A = ℕ} 0 1 = cc in omega arith)

  pub progress_more : (e : Event) → Sound e → Progress session width (happening h e ∷ past) (next h e)
  unfolding step_of
  progress_more (took sent random d r) sound = by_row sent random d r sound.1 (row_of h sent random d r) (kept_more session past h p.kept (took sent random d r))
  progress_more (sending bytes out) sound =
      by_data bytes out (call_of (alone h) (send_data bytes out)) (kept_more session past h p.kept (sending bytes out))
  progress_more (alerting protected level description lent out) sound =
      by_alert protected level description lent out (call_of (alone h) (send_alert protected level description lent out)) (kept_more session past h p.kept (alerting protected level description lent out))
  progress_more closing sound = by_close (call_of (alone h) close) (kept_more session past h p.kept closing)
  progress_more starting sound = by_start (call_of (alone h) start) (kept_more session past h p.kept starting)

-- ---- a whole run

pub progress_all : (session : Session) {width : ℕ} (es : List Event) (past : List Happened) (h : Handshake) → AllSound es → Progress session width past h
    → Progress session width (history h es past) (after h es)
unfolding history after
progress_all session [] past h sound p = p
progress_all session (e ∷ es) past h sound p =
    progress_all session es (happening h e ∷ past) (next h e) sound.1 (progress_more session past h p e sound.0)

pub progress_fresh : (id secret : List ℕ) (width : ℕ) → Held width → Progress (session_of id secret) width [] (fresh_with id secret width)
progress_fresh id secret width held =
    record {
      kept = kept_fresh id secret width held;
      greeted = λ z. true_false false z refl;
      verified = λ z. let w : ◌≡◌ {A = ℕ} 0 1 = cc in absurd (omega arith);
    }

-- ---- data comes in Open only

pub data_open : (h : Handshake) (sent : SentRecords) (random d : List ℕ) (r : Record) {j : Judged} → Row h sent random d r j → is_data j.answer ≡ true → h.state ≡ S.Open
data_open h sent random d r (row_ended e) z = true_false false z refl
data_open h sent random d r (row_returned q) z = true_false false z refl
data_open h sent random d r (row_not_allowed e a n) z = true_false false z refl
data_open h sent random d r (row_reply plan g e) z = true_false false z refl
data_open h sent random d r (row_hello_malformed fault g e) z = true_false false z refl
data_open h sent random d r (row_unacceptable condition g e) z = true_false false z refl
data_open h sent random d r (row_resent s i y e) z = true_false false z refl
data_open h sent random d r (row_change s q c e) z = true_false false z refl
data_open h sent random d r (row_change_malformed s q c e) z = true_false false z refl
data_open h sent random d r (row_clear_malformed s q c e) z = true_false false z refl
data_open h sent random d r (row_checksum a s q c e n) z = true_false false z refl
data_open h sent random d r (row_clear_warning a s q c e m l) z = true_false false z refl
data_open h sent random d r (row_clear_critical a s q c e m l) z = true_false false z refl
data_open h sent random d r (row_clear_fatal a s q c e m l) z = true_false false z refl
data_open h sent random d r (row_forged g f) z = true_false false z refl
data_open h sent random d r (row_old c g s e) z = true_false false z refl
data_open h sent random d r (row_repeated c g s e) z = true_false false z refl
data_open h sent random d r (row_malformed c w n m) z = true_false false z refl
data_open h sent random d r (row_data c w n e m) z =
    in_open n.guarded.kind
  where
    in_open : ((h.state ≡ S.Spec) × ((r.content ≡ C.Alert) ⊎ (r.content ≡ C.Handshake))) ⊎ (h.state ≡ S.Open) → h.state ≡ S.Open
    in_open (inl (s, inl k)) = let y : C.Data ≡ C.Alert = sym e ∙ k in let v : ◌≡◌ {A = ℕ} 0 1 = cc in absurd (omega arith)
    in_open (inl (s, inr k)) = let y : C.Data ≡ C.Handshake = sym e ∙ k in let v : ◌≡◌ {A = ℕ} 0 1 = cc in absurd (omega arith)
    in_open (inr s) = s
data_open h sent random d r (row_warning c w a n e m l) z = true_false false z refl
data_open h sent random d r (row_critical c w a n e m l) z = true_false false z refl
data_open h sent random d r (row_barred c w a n e m l) z = true_false false z refl
data_open h sent random d r (row_open c w n s e m) z = true_false false z refl
data_open h sent random d r (row_again c w n s e m) z = true_false false z refl
data_open h sent random d r (row_wrong_finished c w n e m) z = true_false false z refl

pub only_after_finished : OnlyAfterFinished
unfolding OnlyAfterFinished
only_after_finished id secret width held es sound sent random d r here z =
    (progress_all (session_of id secret) es [] (fresh_with id secret width) sound (progress_fresh id secret width held)).verified
    (data_open (after (fresh_with id secret width) es) sent random d r (row_of (after (fresh_with id secret width) es) sent random d r) z)
