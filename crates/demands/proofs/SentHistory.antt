-- The records that we sent. The idea: only a new reply and a send add to them, and only a start again forgets them; of a reply the
-- three records stand one behind the other.
use mathlib.Core.Path.{◌≡◌, refl, sym, ◌∙◌, ap, subst}
use mathlib.Core.Bool.{Bool, true, false}
use mathlib.Core.List.{List, [], ◌∷◌, ◌++◌, map, append_assoc}
use Prim.Native.Nat.{ℕ, ◌-◌}
use native.Mathlib.Omega.{arith}
use lib.ListN.{length, take, drop, replicate, length-append}
use lib.Seq.{take_at, drop_at, drop-drop}
use Rattle.digest.specs.Bytes.{laid_over}
use Rattle.record.specs.Window.{Held}
use Rattle.record.specs.declared.header.Content.TheVariants as C
use Rattle.record.specs.declared.reader.Record.{Record}
use Rattle.message.specs.Acceptance.{heard_of}
use Rattle.message.specs.Alert.{alert_of}
use Rattle.message.specs.declared.acceptance.Plan.{Plan}
use Rattle.message.specs.declared.acceptance.Unheard.TheVariants as H
use Rattle.message.specs.declared.alert.Alert.{Alert}
use Rattle.connection.specs.Calls.{session_of}
use Rattle.connection.specs.Handshake.{planted}
use Rattle.connection.specs.Asked.{whom_of, asked_of}
use Rattle.connection.specs.Judge.{judged_record, fragment_of}
use Rattle.connection.specs.Reply.{reply_to, answered_with, last_of, our_hello, our_finished, hello_record, change_record, finished_record, flight_of, client_random}
use Rattle.connection.specs.Send.{after_send, clear_back, sender_of, next_protected, next_alert, after_alert, alert_body}
use Rattle.connection.specs.Sent.{records_kept, sum_of, sums_of, with_record, with_reply, one_of, matches_of}
use Rattle.connection.specs.Told.{replied_with, sent_after, left_by, started_to, told_record}
use Rattle.connection.specs.declared.state.State.{State}
use Rattle.connection.specs.declared.state.State.TheVariants as S
use Rattle.connection.specs.declared.asked.Whom.{Whom}
use Rattle.connection.specs.declared.asked.Whom.TheVariants as A
use Rattle.connection.specs.declared.answer.Answer.TheVariants as W
use Rattle.connection.specs.declared.answer.Judged.{Judged}
use Rattle.connection.specs.declared.refusal.Refusal.TheVariants as X
use Rattle.connection.specs.declared.sent.SentRecords.{SentRecords}
use Rattle.connection.specs.declared.handshake.Handshake.{Handshake}
use Rattle.connection.specs.declared.handshake.Session.{Session}
use Rattle.connection.specs.declared.connection.Connection.{Connection}
use Rattle.message.proofs.Replies.{length_server}
use Rattle.connection.proofs.Replying.{hello_size_lem, change_size}
use Rattle.demands.specs.Seen.{seen_in}
use Rattle.demands.specs.Runs.{send_data, send_alert, close, start, Step, step_of, fresh_with, fresh_one}
use Rattle.demands.specs.Refusals.{written_by}
use Rattle.demands.specs.Table.{Row, Greets}
use Rattle.demands.specs.Table.{row_ended, row_returned, row_not_allowed, row_reply, row_hello_malformed, row_unacceptable, row_resent, row_change, row_change_malformed, row_clear_malformed, row_checksum, row_clear_warning, row_clear_critical, row_clear_fatal, row_forged, row_old, row_repeated, row_malformed, row_data, row_warning, row_critical, row_barred, row_open, row_again, row_wrong_finished}
use Rattle.demands.specs.Calls.{CallRow, data_16, data_7, data_8, data_15, data_6, data_sent_lem, alert_16, alert_7, alert_8, alert_15, alert_6, alert_sent_lem, close_7, close_done, start_7, start_8, start_done}
use Rattle.demands.specs.Events.{Event, Happened, answered, wrote, closed, started, if_done, after, history}
use Rattle.demands.specs.Acts.{Act, comes, sends, alerts, closes, starts, SoundAct, SoundActs, leaves, behind, happens, history_of}
use Rattle.demands.specs.Past.{records_heard, sent_since}
use Rattle.demands.specs.Kept.{KeptAs}
use Rattle.demands.specs.Lives.{Lives, no_lives, lives_at, life_of, Lived, SentIsWhatHappened, ChecksumInRuns}
use Rattle.demands.proofs.Table.{row_of, row_is}
use Rattle.demands.proofs.Asked.{told_by_lem}
use Rattle.demands.proofs.Calls.{call_of}
use Rattle.demands.proofs.Refusals.{outcome_in, laid_front}
use Rattle.demands.proofs.Kept.{live, greets_live, kept_all, kept_fresh}
use Rattle.demands.proofs.SentRecords.{record_sums, reply_sums, unmatched, matches_none}
use Rattle.demands.proofs.Lives.{act_more, lived_fresh, asked_life}
use Rattle.demands.proofs.InRuns.{told}
use Rattle.std.specs.Prelude.{Ok, Option, Some}

-- ---- the three records of a reply

module _ (a b f z : List ℕ) (la : length a ≡ 40) (lb : length b ≡ 6) where
  abbrev flight : List ℕ
  flight = a ++ (b ++ f)

  whole : flight ++ z ≡ a ++ (b ++ (f ++ z))
  whole = append_assoc a (b ++ f) z ∙ ap (λ x. a ++ x) (append_assoc b f z)

  first_is : take 40 (flight ++ z) ≡ a
  first_is = ap (take 40) whole ∙ take_at a (b ++ (f ++ z)) 40 la

  behind_first : drop 40 (flight ++ z) ≡ b ++ (f ++ z)
  behind_first = ap (drop 40) whole ∙ drop_at a (b ++ (f ++ z)) 40 la

  second_is : take 6 (drop 40 (flight ++ z)) ≡ b
  second_is = ap (take 6) behind_first ∙ take_at b (f ++ z) 6 lb

  third_is : take (length flight - 46) (drop 46 (flight ++ z)) ≡ f
  third_is =
      ap (take (length flight - 46)) (sym (drop-drop 6 40 (flight ++ z)) ∙ ap (drop 6) behind_first ∙ drop_at b (f ++ z) 6 lb)
      ∙ take_at f z (length flight - 46) (omega (arith, la, lb, length-append a (b ++ f), length-append b f))

our_hello_size : (session : Session) (random : List ℕ) (plan : Plan) → length random ≡ 16 → length session.id ≡ 8
    → length (our_hello session random plan) ≡ 35
unfolding our_hello
our_hello_size session random plan lr li = length_server random session.id plan ∙ omega arith

module _ (h : Handshake) (random m : List ℕ) (plan : Plan) (lr : length random ≡ 16) (li : length h.id ≡ 8) where
  reply_adds : (s : SentRecords)
      → sent_after s (answered_with h random m plan).kept (W.Reply (length (reply_to (planted h) random m plan)))
      ≡ with_reply s (sum_of (hello_record (our_hello (planted h) random plan))) (sum_of change_record) (sum_of (last_of (planted h) random m plan))
  unfolding answered_with replied_with reply_to flight_of last_of
  reply_adds s =
      let a : List ℕ = hello_record (our_hello (planted h) random plan) in
      let f : List ℕ = finished_record (planted h).secret random (client_random m) plan.mac (our_finished (planted h) random m plan) in
      let z : List ℕ = replicate (84 - length (a ++ (change_record ++ f))) 0 in
      let la : length a ≡ 40 = hello_size_lem (our_hello (planted h) random plan) (our_hello_size (planted h) random plan lr li) in
      λ i. with_reply s (sum_of (first_is a change_record f z la change_size i)) (sum_of (second_is a change_record f z la change_size i)) (sum_of (third_is a change_record f z la change_size i))

-- ---- one act more

abbrev Sums : Session → Connection → List Happened → Type 0
Sums session c past = sums_of c.sent ≡ map sum_of (take records_kept (sent_since session past))

module _ (session : Session) (l8 : length session.id ≡ 8) (h : Handshake) (s : SentRecords) (past : List Happened)
    (e : sums_of s ≡ map sum_of (take records_kept (sent_since session past))) (random d : List ℕ) (r : Record) (lr : length random ≡ 16)
    (planted_is : Greets h (seen_in d r) → planted h ≡ session) where
  replied : (plan : Plan) → Greets h (seen_in d r) → heard_of (fragment_of d r) h.id ≡ Ok plan
      → sums_of (sent_after s (answered_with h random (fragment_of d r) plan).kept (W.Reply (length (reply_to (planted h) random (fragment_of d r) plan))))
      ≡ map sum_of (take records_kept (records_heard session random (fragment_of d r) (heard_of (fragment_of d r) session.id) ++ sent_since session past))
  replied plan g heard =
      let m : List ℕ = fragment_of d r in
      let es : planted h ≡ session = planted_is g in
      ap sums_of (reply_adds h random m plan lr (ap (λ x. length x.id) es ∙ l8) s)
      ∙ reply_sums s (sent_since session past) (hello_record (our_hello (planted h) random plan)) change_record (last_of (planted h) random m plan) e
      ∙ ap (λ x. map sum_of (take 8 (records_heard (planted h) random m x ++ sent_since session past))) (sym heard)
      ∙ ap (λ x. map sum_of (take 8 (records_heard x random m (heard_of m x.id) ++ sent_since session past))) es

  by_row : {j : Judged} → Row h s random d r j
      → sums_of (sent_after s j.handshake.kept j.answer) ≡ map sum_of (take records_kept (sent_since session (answered random d r j.answer ∷ past)))
  unfolding sent_since
  by_row (row_ended x) = e
  by_row (row_returned q) = e
  by_row (row_not_allowed x a n) = e
  by_row (row_reply plan g x) = replied plan g x
  by_row (row_hello_malformed fault g x) = e
  by_row (row_unacceptable condition g x) = e
  by_row (row_resent t i y x) = e
  by_row (row_change t q c x) = e
  by_row (row_change_malformed t q c x) = e
  by_row (row_clear_malformed t q c x) = e
  by_row (row_checksum a t q c x n) = e
  by_row (row_clear_warning a t q c x m l) = e
  by_row (row_clear_critical a t q c x m l) = e
  by_row (row_clear_fatal a t q c x m l) = e
  by_row (row_forged g f) = e
  by_row (row_old c g t x) = e
  by_row (row_repeated c g t x) = e
  by_row (row_malformed c w n m) = e
  by_row (row_data c w n x m) = e
  by_row (row_warning c w a n x m l) = e
  by_row (row_critical c w a n x m l) = e
  by_row (row_barred c w a n x m l) = e
  by_row (row_open c w n t x m) = e
  by_row (row_again c w n t x m) = e
  by_row (row_wrong_finished c w n x m) = e

started_sent : (c : Connection) (h : Handshake) (list : SentRecords) (s : State) → (started_to c h list s).sent ≡ list
started_sent c h list S.Idle = refl
started_sent c h list S.Replied = refl
started_sent c h list S.Spec = refl
started_sent c h list S.Open = refl
started_sent c h list S.Closed = refl
started_sent c h list S.Barred = refl

left_sent : (c : Connection) (j : Judged) (w : Whom) → (left_by c w j).sent ≡ sent_after c.sent j.handshake.kept j.answer
left_sent c j A.Only = refl
left_sent c j A.Open = refl
left_sent c j A.Started = started_sent c j.handshake (sent_after c.sent j.handshake.kept j.answer) j.handshake.state
left_sent c j A.Newcomer = refl

back_sent : (c : Connection) (h : Handshake) (list : SentRecords) (s : State) → (clear_back c h list s).sent ≡ list
back_sent c h list S.Idle = refl
back_sent c h list S.Replied = refl
back_sent c h list S.Spec = refl
back_sent c h list S.Open = refl
back_sent c h list S.Closed = refl
back_sent c h list S.Barred = refl

after_sent : (protected : Bool) (c : Connection) (bytes : List ℕ) → (after_send protected c bytes).sent ≡ with_record c.sent (sum_of bytes)
after_sent true c bytes = refl
after_sent false c bytes = back_sent c (after_alert false (sender_of false c)) (with_record c.sent (sum_of bytes)) c.handshake.state

module _ (session : Session) (c : Connection) (past : List Happened) (e : Sums session c past) where
  wrote_more : (protected : Bool) (bytes out : List ℕ)
      → sums_of (after_send protected c bytes).sent ≡ map sum_of (take records_kept (sent_since session (wrote protected (take (length bytes) (laid_over out 0 bytes)) ∷ past)))
  unfolding sent_since
  wrote_more protected bytes out =
      ap sums_of (after_sent protected c bytes) ∙ record_sums c.sent (sent_since session past) bytes e
      ∙ ap (λ b. map sum_of (take 8 (b ∷ sent_since session past))) (sym (laid_front out bytes))

  by_data : {bytes out : List ℕ} {s : Step} → CallRow c (send_data bytes out) s
      → Sums session s.connection (if_done (outcome_in s.result) (wrote true (take (written_by s.result) s.output)) ∷ past)
  unfolding sent_since
  by_data (data_16 b) = e
  by_data (data_7 g x) = e
  by_data (data_8 g x n) = e
  by_data (data_15 g x n) = e
  by_data (data_6 g x n l) = e
  by_data {bytes = bytes} {out = out} (data_sent_lem g x n l) = wrote_more true (next_protected c.handshake C.Data bytes) out

  by_alert : {protected : Bool} {level description : ℕ} {lent out : List ℕ} {s : Step} → CallRow c (send_alert protected level description lent out) s
      → Sums session s.connection (if_done (outcome_in s.result) (wrote protected (take (written_by s.result) s.output)) ∷ past)
  unfolding sent_since
  by_alert (alert_16 b) = e
  by_alert (alert_7 g x) = e
  by_alert (alert_8 g x f) = e
  by_alert (alert_15 g x n) = e
  by_alert (alert_6 g x n l) = e
  by_alert {protected = protected} {lent = lent} {out = out} (alert_sent_lem {l = v} {k = m} g x n l) =
      wrote_more protected (next_alert protected (sender_of protected c) (alert_body v m lent)) out

  by_close : {s : Step} → CallRow c close s → Sums session s.connection (if_done (outcome_in s.result) closed ∷ past)
  unfolding sent_since
  by_close (close_7 x) = e
  by_close (close_done n) = e

  by_start : {s : Step} → CallRow c start s → Sums session s.connection (if_done (outcome_in s.result) started ∷ past)
  unfolding sent_since
  by_start (start_7 x) = e
  by_start (start_8 n m) = e
  by_start (start_done x) = refl

module _ (id secret : List ℕ) (width : ℕ) (l8 : length id ≡ 8) (held : Held width) where
  abbrev session : Session
  session = session_of id secret

  -- the session of a handshake that greets is the planted one
  greeter : (es : List Event) (d : List ℕ) (r : Record) → Greets (after (fresh_with id secret width) es) (seen_in d r) → planted (after (fresh_with id secret width) es) ≡ session
  greeter es d r g =
      let h : Handshake = after (fresh_with id secret width) es in
      let past : List Happened = history (fresh_with id secret width) es [] in
      let k : KeptAs session width past h = kept_all session es [] (fresh_with id secret width) (kept_fresh id secret width held) in
      k.session_is (live session past h k (greets_live h d r g.another))

  comes_sums : (l : Lives) (c : Connection) (past : List Happened) → Lived (fresh_with id secret width) l c → Sums session c past
      → (random d : List ℕ) (r : Record) → length random ≡ 16 → Sums session (told_record c random d r).connection (answered random d r (told_record c random d r).answer ∷ past)
  comes_sums l c past v e random d r lr =
      let w : Whom = whom_of c d r in
      let h : Handshake = asked_of c w in
      let j : Judged = judged_record h c.sent random d r in
      let lives : h ≡ after (fresh_with id secret width) (life_of l w) = asked_life id secret width held l c v random d r w refl in
      let t = told_by_lem c random d r w refl in
      subst (λ x. Sums session x.connection (answered random d r x.answer ∷ past)) (sym t)
      (ap sums_of (left_sent c j w)
      ∙ by_row session l8 h c.sent past e random d r lr
      (λ g. ap planted lives ∙ greeter (life_of l w) d r (subst (λ x. Greets x (seen_in d r)) lives g)) (row_of h c.sent random d r))

  act_sums : (l : Lives) (c : Connection) (past : List Happened) → Lived (fresh_with id secret width) l c → Sums session c past → (a : Act) → SoundAct a
      → Sums session (leaves c a) (happens c a ∷ past)
  unfolding step_of
  act_sums l c past v e (comes random d r) x = comes_sums l c past v e random d r x.0
  act_sums l c past v e (sends bytes out) x = by_data session c past e (call_of c (send_data bytes out))
  act_sums l c past v e (alerts protected level description lent out) x = by_alert session c past e (call_of c (send_alert protected level description lent out))
  act_sums l c past v e closes x = by_close session c past e (call_of c close)
  act_sums l c past v e starts x = by_start session c past e (call_of c start)

  acts_sums : (acts : List Act) (l : Lives) (c : Connection) (past : List Happened) → Lived (fresh_with id secret width) l c → Sums session c past → SoundActs acts
      → Sums session (behind c acts) (history_of c acts past)
  unfolding behind history_of
  acts_sums [] l c past v e x = e
  acts_sums (a ∷ acts) l c past v e x =
      acts_sums acts (lives_at c l a) (leaves c a) (happens c a ∷ past) (act_more id secret width held l c v a) (act_sums l c past v e a x.0) x.1

  pub sent_at : (acts : List Act) → SoundActs acts → Sums session (behind (fresh_one id secret width) acts) (history_of (fresh_one id secret width) acts [])
  unfolding sent_since
  sent_at acts x = acts_sums acts no_lives (fresh_one id secret width) [] (lived_fresh id secret width held) refl x

pub sent_is_what_happened : SentIsWhatHappened
unfolding SentIsWhatHappened
sent_is_what_happened id secret width l8 held acts x = sent_at id secret width l8 held acts x

-- ---- 14

one_alert : (a b : Alert) (x : Option Alert) → x ≡ Some a → x ≡ Some b → a ≡ b
one_alert a b x e f = cc

pub checksum_in_runs : ChecksumInRuns
unfolding ChecksumInRuns
checksum_in_runs id secret width l8 held acts x h s random d r a p c e =
    let list : SentRecords = (behind (fresh_one id secret width) acts).sent in
    let all : List (List ℕ) = sent_since (session_of id secret) (history_of (fresh_one id secret width) acts []) in
    let sums : sums_of list ≡ map sum_of (take records_kept all) = sent_at id secret width l8 held acts x in (
      λ z. let t = told h list random d r X.Checksum z in
          let same : t.0.checksum ≡ a.checksum = ap (λ b. b.checksum) (one_alert t.0 a (alert_of (fragment_of d r)) t.1 e) in
          unmatched a.checksum records_kept all (ap (one_of a.checksum) (sym sums) ∙ ap (matches_of list) (sym same) ∙ t.2),
      λ n. ap (λ j. j.answer) (row_is h list random d r (row_checksum a s p c e
          (ap (one_of a.checksum) sums ∙ matches_none a.checksum records_kept all n))),
    )
