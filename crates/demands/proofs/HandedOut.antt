-- Demand 3, the second half. The idea: from an Open place on, the connection goes along with the course of the bytes: while nothing closed
-- it is Open, under the same keys and expected contents, and its window is that of the numbers used up; once something closed it is ended.
-- Each row of the table is one way in which both go on. At the end the row of data says what is due.
use mathlib.Core.Path.{◌≡◌, refl, sym, ◌∙◌, ap, ap₂, subst}
use mathlib.Core.Logic.{◌↔◌, inl, inr}
use mathlib.Core.Bool.{Bool, true, false}
use mathlib.Core.List.{List, [], ◌∷◌, ◌++◌, map}
use Prim.Native.Nat.{ℕ, ◌+◌, ◌-◌, ◌≤◌, ◌<◌, min}
use native.Mathlib.Omega.{arith}
use lib.ListN.{length, take, drop, length-append, length-take, length-drop, take-append-drop}
use lib.Seq.{take_at, take-append-le}
use borrow.Author.Tests.{le-leb, lt-leb}
use Rattle.digest.specs.Pick.{pick}
use Rattle.digest.specs.Hmac.{hmac}
use Rattle.digest.specs.Mac.{size_of}
use Rattle.record.specs.Code.{genuine_by, fragment_by, code_by}
use Rattle.record.specs.Window.{accept_of, Held}
use Rattle.record.specs.History.{window_of, arrived_of, accepted, highest_of, judged_of}
use Rattle.record.specs.declared.header.Content.{Content}
use Rattle.record.specs.declared.header.Content.TheVariants as C
use Rattle.record.specs.declared.reader.Record.{Record}
use Rattle.record.specs.declared.window.Window.{Window}
use Rattle.record.specs.declared.window.NotNew.TheVariants as A
use Rattle.record.proofs.Histories.{meaning, new_means, old_means, repeated_means, new_when, all_below, below_all, accepted_here, accepted_still, held_some}
use Rattle.message.specs.Finished.{judged_of as verdict_of}
use Rattle.message.specs.declared.finished.Unverified.TheVariants as F
use Rattle.connection.specs.Answer.{handed_of, part_at}
use Rattle.connection.specs.Calls.{session_of}
use Rattle.connection.specs.Handshake.{with_state, with_window, barred}
use Rattle.connection.specs.Judge.{judged_record, fragment_of}
use Rattle.connection.specs.Send.{after_alert, next_alert, sender_of, alert_body}
use Rattle.connection.specs.declared.state.State.TheVariants as S
use Rattle.connection.specs.declared.answer.Answer.TheVariants as W
use Rattle.connection.specs.declared.answer.Judged.{Judged}
use Rattle.connection.specs.declared.handshake.Handshake.{Handshake}
use Rattle.connection.specs.declared.handshake.Session.{Session}
use Rattle.demands.specs.Seen.{seen_in}
use Rattle.demands.specs.Runs.{send_data, send_alert, close, start, Step, step_of}
use Rattle.record.specs.declared.keys.Keys.{Keys}
use Rattle.demands.specs.Genuine.{Protected, RecordOf, keys_of, unit_key}
use Rattle.demands.specs.Table.{Row, Allowed, guarded, New, Guarded, MalformedAs}
use Rattle.demands.specs.Table.{row_ended, row_returned, row_not_allowed, row_reply, row_hello_malformed, row_unacceptable, row_resent, row_change, row_change_malformed, row_clear_malformed, row_checksum, row_clear_warning, row_clear_critical, row_clear_fatal, row_forged, row_old, row_repeated, row_malformed, row_data, row_warning, row_critical, row_barred, row_open, row_again, row_wrong_finished}
use Rattle.demands.specs.Calls.{CallRow, data_16, data_7, data_8, data_15, data_6, data_sent_lem, alert_16, alert_7, alert_8, alert_15, alert_6, alert_sent_lem, close_7, close_done, start_7, start_8, start_done}
use Rattle.demands.specs.Events.{Event, took, sending, alerting, closing, starting, Happened, next, after, history}
use Rattle.demands.specs.Past.{is_data, keys_in, expected_in, accepted_in, barred_in}
use Rattle.demands.specs.Course.{Course, genuine_bytes, content_bytes, is_new, level_shuts, alert_shuts, finished_shuts, content_shuts, with_record, with_event, course_of, Ongoing, Due}
use Rattle.demands.specs.Runs.{fresh_with, fresh_one}
use Rattle.demands.specs.HandedOut.{course_at, course_from, OngoingFrom, past_of, HandedOut, HandedOnce}
use Rattle.demands.proofs.States.{ended, over_ended}
use Rattle.demands.proofs.Genuine.{true_false, protected_right, protected_content, right_protected}
use Rattle.demands.proofs.Table.{row_of, row_is}
use Rattle.demands.proofs.Calls.{call_of, sent_alone}
use Rattle.demands.proofs.Kept.{window_more, live, protected_live}
use Rattle.demands.proofs.Finished.{Progress, progress_all, progress_fresh, keys_are, expected_is}
use Rattle.demands.proofs.LeftOut.{not_open, greets_not_open, seven, clear_noise, told_open, told_seven}
use Rattle.connection.specs.declared.sent.SentRecords.{SentRecords}
use Rattle.connection.specs.Connection.{alone}
use Rattle.connection.specs.Told.{told_record}
use Rattle.connection.specs.declared.connection.Connection.{Connection}
use Rattle.demands.specs.Asked.{RightBeside}
use Rattle.demands.specs.Acts.{Act, comes, sends, alerts, closes, starts, SoundActs, event_of, leaves, behind}
use Rattle.demands.specs.Lives.{Lives, no_lives, lives_of}
use Rattle.demands.specs.LeftOut.{Unreplaced}
use Rattle.demands.proofs.Lives.{data_asked, NoRecord, act_next, lives_hold_at, lives_sound_at}
use Rattle.std.specs.Prelude.{Err, Ok, Result, ⊤}
use Rattle.message.specs.declared.finished.Unverified.{Unverified}
use Rattle.record.specs.declared.window.NotNew.{NotNew}

-- ---- new numbers, by the window and by the history

module _ (width : ℕ) (held : Held width) (numbers : List ℕ) (s : ℕ) where
  pub by_history : accept_of (window_of width numbers) s ≡ judged_of width numbers s
  by_history = meaning width held numbers s

  pub new_facts : (w : Window) (n : ℕ) → accept_of (window_of width numbers) s ≡ Ok (w, n)
      → (highest_of numbers < s + width) × (accepted numbers s ≡ false)
  new_facts w n e = let q = new_means width numbers s w n (sym by_history ∙ e) in (q.0, q.1)

  pub is_new_lem : highest_of numbers < s + width → accepted numbers s ≡ false → is_new width numbers s ≡ true
  is_new_lem l a = ap₂ (λ (o b : Bool). pick o false (pick b false true)) (lt-leb (s + width) (highest_of numbers) l) a

  pub new_is : (w : Window) (n : ℕ) → accept_of (window_of width numbers) s ≡ Ok (w, n) → is_new width numbers s ≡ true
  new_is w n e = let q = new_facts w n e in is_new_lem q.0 q.1

  pub old_is : accept_of (window_of width numbers) s ≡ Err A.TooOld → is_new width numbers s ≡ false
  old_is e =
      ap (λ (o : Bool). pick o false (pick (accepted numbers s) false true))
      (le-leb (s + width) (highest_of numbers) (old_means width numbers s (sym by_history ∙ e)))

  pub repeated_is : accept_of (window_of width numbers) s ≡ Err A.Repeated → is_new width numbers s ≡ false
  repeated_is e =
      let q = repeated_means width numbers s (sym by_history ∙ e) in
      ap₂ (λ (o b : Bool). pick o false (pick b false true)) (lt-leb (s + width) (highest_of numbers) q.0) q.1

  -- a number that is due is below all that were accepted, and new to the window
  pub due_below : ((n : ℕ) → accepted numbers n ≡ true → n < s + width) → highest_of numbers < s + width
  due_below b = below_all width (held_some width held) numbers s b

  pub due_new : accepted numbers s ≡ false → ((n : ℕ) → accepted numbers n ≡ true → n < s + width)
      → accept_of (window_of width numbers) s ≡ Ok (window_of width (s ∷ numbers), arrived_of width (s ∷ numbers))
  due_new a b = by_history ∙ new_when width numbers s (due_below b) a

-- ---- the connection goes along with the course

pub record Along (k : Keys) (expected : List ℕ) (course : Course) (h : Handshake) : Type 0 where
  pub is_open : course.shut ≡ false → h.state ≡ S.Open
  pub keys_same : course.shut ≡ false → keys_of h ≡ k
  pub expected_same : course.shut ≡ false → h.expected ≡ expected
  pub held : Held course.width
  pub window_same : course.shut ≡ false → h.protection.window ≡ window_of course.width course.numbers
  pub is_ended : course.shut ≡ true → ended h.state ≡ true

module _ (k : Keys) (expected : List ℕ) (course : Course) (h : Handshake) (a : Along k expected course h) where
  -- a course that is shut stays as it is, and an ended connection too
  module _ (sent : SentRecords) (random d : List ℕ) (r : Record) where
    shut_more : course.shut ≡ true → Along k expected (with_record k expected course d r) (judged_record h sent random d r).handshake
    shut_more z =
        let same : with_record k expected course d r ≡ course
        = ap (λ b. pick b course (pick (genuine_bytes k d r) (pick (is_new course.width course.numbers r.number) (record { width = course.width; numbers = r.number ∷ course.numbers; shut = content_shuts r.content (content_bytes k d r) expected }) course) course)) z in
        let left : (judged_record h sent random d r).handshake ≡ h = ap (λ j. j.handshake) (seven k h sent random d r (a.is_ended z)) in
        subst (λ c. Along k expected c (judged_record h sent random d r).handshake) (sym same) (subst (Along k expected course) (sym left) a)

    module _ (z : course.shut ≡ false) where
      -- the course, by what the bytes are
      not_genuine : genuine_bytes k d r ≡ false → with_record k expected course d r ≡ course
      not_genuine g =
          ap₂ (λ b c. pick b course (pick c (pick (is_new course.width course.numbers r.number) (record { width = course.width; numbers = r.number ∷ course.numbers; shut = content_shuts r.content (content_bytes k d r) expected }) course) course)) z g

      right_code : (c : List ℕ) → Protected (keys_of h) d r c → Protected k d r c
      right_code c s = subst (λ x. Protected x d r c) (a.keys_same z) s

      genuine_yes : (c : List ℕ) → Protected k d r c → genuine_bytes k d r ≡ true
      genuine_yes c s =
          ap₂ (λ p g. pick p g false) s.is_protected (protected_right k d r c s)

      not_new : (c : List ℕ) → Protected k d r c → is_new course.width course.numbers r.number ≡ false → with_record k expected course d r ≡ course
      not_new c s n =
          (λ i. pick (z i) course (pick (genuine_yes c s i) (pick (n i) (record { width = course.width; numbers = r.number ∷ course.numbers; shut = content_shuts r.content (content_bytes k d r) expected }) course) course))

      one_more : (c : List ℕ) → Protected k d r c → is_new course.width course.numbers r.number ≡ true
          → with_record k expected course d r ≡ record { width = course.width; numbers = r.number ∷ course.numbers; shut = content_shuts r.content c expected }
      one_more c s n =
          λ i. pick (z i) course (pick (genuine_yes c s i) (pick (n i) (record { width = course.width; numbers = r.number ∷ course.numbers; shut = content_shuts r.content (protected_content k d r c s i) expected }) course) course)

      window_at_lem : (x : Result (Window × ℕ) NotNew) → accept_of h.protection.window r.number ≡ x → accept_of (window_of course.width course.numbers) r.number ≡ x
      window_at_lem x e = sym (ap (λ w. accept_of w r.number) (a.window_same z)) ∙ e

      -- nothing used up, nothing changed
      unchanged : with_record k expected course d r ≡ course → Along k expected (with_record k expected course d r) h
      unchanged e = subst (λ c. Along k expected c h) (sym e) a

      clear_same : r.protected ≡ false → Along k expected (with_record k expected course d r) h
      clear_same p = unchanged (not_genuine (ap (λ b. pick b (genuine_by (hmac (unit_key k r.number)) (size_of k.mac) r.number r.byte (fragment_of d r)) false) p))

      -- a new number
      used : (c : List ℕ) (w : Window) → New h d r c w → (x : Handshake) → x.protection.window ≡ w
          → (content_shuts r.content c expected ≡ false → (x.state ≡ S.Open) × (keys_of x ≡ k) × (x.expected ≡ expected))
          → (content_shuts r.content c expected ≡ true → ended x.state ≡ true)
          → Along k expected (with_record k expected course d r) x
      used c w n x ew o s =
          let e = window_at_lem (Ok (w, n.arrived)) n.accepted in
          let more : with_record k expected course d r ≡ record { width = course.width; numbers = r.number ∷ course.numbers; shut = content_shuts r.content c expected }
          = one_more c (right_code c n.coded) (new_is course.width a.held course.numbers r.number w n.arrived e) in
          subst (λ y. Along k expected y x) (sym more)
          (record {
            is_open = λ f. (o f).0;
            keys_same = λ f. (o f).1;
            expected_same = λ f. (o f).2;
            held = a.held;
            window_same = λ f. ew ∙ window_more course.width a.held course.numbers r.number w n.arrived e;
            is_ended = s;
          })

      -- the content does not close, and the state stays
      stays_open : (c : List ℕ) (w : Window) → New h d r c w → (t : Content) → r.content ≡ t → content_shuts t c expected ≡ false
          → Along k expected (with_record k expected course d r) (with_window h w)
      stays_open c w n t ec f =
          used c w n (with_window h w) refl (λ _. (a.is_open z, a.keys_same z, a.expected_same z))
          (λ g. true_false (content_shuts r.content c expected) g (ap (λ y. content_shuts y c expected) ec ∙ f))

      closes_by : (c : List ℕ) (w : Window) → New h d r c w → (t : Content) → r.content ≡ t → content_shuts t c expected ≡ true → (x : Handshake) → x.protection.window ≡ w
          → ended x.state ≡ true → Along k expected (with_record k expected course d r) x
      closes_by c w n t ec f x ew g =
          used c w n x ew (λ y. true_false (content_shuts r.content c expected) (ap (λ v. content_shuts v c expected) ec ∙ f) y) (λ _. g)

      verdict_at : (c : List ℕ) (x : Result ⊤ Unverified) → verdict_of c h.expected ≡ x → verdict_of c expected ≡ x
      verdict_at c x e = sym (ap (verdict_of c) (a.expected_same z)) ∙ e

      malformed_shuts : (c : List ℕ) (t : Content) → MalformedAs t c h.expected → content_shuts t c expected ≡ false
      malformed_shuts c C.ChangeCipherSpec m = refl
      malformed_shuts c C.Alert m = ap alert_shuts m
      malformed_shuts c C.Handshake m = ap finished_shuts (verdict_at c (Err F.Malformed) m)
      malformed_shuts c C.Data m = refl

      -- a record that the table does not allow in Open is clear
      refused_clear : h.state ≡ S.Open → (Allowed h.state (seen_in d r) → ⊥) → (p : Bool) → r.protected ≡ p → r.protected ≡ false
      refused_clear o n false e = e
      refused_clear o n true e = absurd (n (guarded (record { protection = e; kind = inr o })))

      by_row : {j : Judged} → Row h sent random d r j → Along k expected (with_record k expected course d r) j.handshake
      by_row (row_ended e) = true_false (ended h.state) (over_ended h.state e) (ap ended (a.is_open z))
      by_row (row_returned q) = clear_same q.hello.clear
      by_row (row_not_allowed e b n) = clear_same (refused_clear (a.is_open z) b r.protected refl)
      by_row (row_reply plan g e) = greets_not_open h.state g.another (a.is_open z)
      by_row (row_hello_malformed fault g e) = greets_not_open h.state g.another (a.is_open z)
      by_row (row_unacceptable condition g e) = greets_not_open h.state g.another (a.is_open z)
      by_row (row_resent s i y e) = not_open h.state s (a.is_open z)
      by_row (row_change s p c e) = not_open h.state (inl s) (a.is_open z)
      by_row (row_change_malformed s p c e) = not_open h.state (inl s) (a.is_open z)
      by_row (row_clear_malformed s p c e) = not_open h.state s (a.is_open z)
      by_row (row_checksum b s p c e n) = not_open h.state s (a.is_open z)
      by_row (row_clear_warning b s p c e q l) = not_open h.state s (a.is_open z)
      by_row (row_clear_critical b s p c e q l) = not_open h.state s (a.is_open z)
      by_row (row_clear_fatal b s p c e q l) = not_open h.state s (a.is_open z)
      by_row (row_forged g f) = unchanged (not_genuine (forged_bytes g f (genuine_bytes k d r) refl))
        where
          forged_bytes : Guarded h.state (seen_in d r) → ((c : List ℕ) → Protected (keys_of h) d r c → ⊥) → (b : Bool) → genuine_bytes k d r ≡ b → genuine_bytes k d r ≡ false
          forged_bytes g f false e = e
          forged_bytes g f true e =
              let code : genuine_by (hmac (unit_key k r.number)) (size_of k.mac) r.number r.byte (fragment_of d r) ≡ true
              = sym (ap (λ b. pick b (genuine_by (hmac (unit_key k r.number)) (size_of k.mac) r.number r.byte (fragment_of d r)) false) g.protection) ∙ e in
              absurd (f (content_bytes k d r) (subst (λ x. Protected x d r (content_bytes k d r)) (sym (a.keys_same z)) (right_protected k d r g.protection code)))
      by_row (row_old c g s e) =
          unchanged (not_new c (right_code c s) (old_is course.width a.held course.numbers r.number (window_at_lem (Err A.TooOld) e)))
      by_row (row_repeated c g s e) =
          unchanged (not_new c (right_code c s) (repeated_is course.width a.held course.numbers r.number (window_at_lem (Err A.Repeated) e)))
      by_row (row_malformed c w n m) = stays_open c w n r.content refl (malformed_shuts c r.content m)
      by_row (row_data c w n e m) = stays_open c w n C.Data e refl
      by_row (row_warning c w b n e m l) = stays_open c w n C.Alert e (ap alert_shuts m ∙ ap level_shuts l)
      by_row (row_critical c w b n e m l) = closes_by c w n C.Alert e (ap alert_shuts m ∙ ap level_shuts l) (with_state (with_window h w) S.Closed) refl refl
      by_row (row_barred c w b n e m l) = closes_by c w n C.Alert e (ap alert_shuts m ∙ ap level_shuts l) (barred (with_window h w)) refl refl
      by_row (row_open c w n s e m) = let y : S.Spec ≡ S.Open = sym s ∙ a.is_open z in let v : ◌≡◌ {A = ℕ} 0 1 = cc in absurd (omega arith)
      by_row (row_again c w n s e m) = stays_open c w n C.Handshake e (ap finished_shuts (verdict_at c (Ok tt) m))
      by_row (row_wrong_finished c w n e m) =
          closes_by c w n C.Handshake e (ap finished_shuts (verdict_at c (Err F.Wrong) m)) (with_state (with_window h w) S.Closed) refl refl

    record_more : (b : Bool) → course.shut ≡ b → Along k expected (with_record k expected course d r) (judged_record h sent random d r).handshake
    record_more true z = shut_more z
    record_more false z = by_row z (row_of h sent random d r)

  -- a send changes neither
  sent_along : (protected : Bool) → Along k expected course (after_alert protected h)
  sent_along true =
      record { is_open = a.is_open; keys_same = a.keys_same; expected_same = a.expected_same; held = a.held; window_same = a.window_same; is_ended = a.is_ended }
  sent_along false =
      record { is_open = a.is_open; keys_same = a.keys_same; expected_same = a.expected_same; held = a.held; window_same = a.window_same; is_ended = a.is_ended }

  by_data : (bytes out : List ℕ) {s : Step} → CallRow (alone h) (send_data bytes out) s → Along k expected course s.connection.handshake
  by_data bytes out (data_16 b) = a
  by_data bytes out (data_7 g e) = a
  by_data bytes out (data_8 g e n) = a
  by_data bytes out (data_15 g e n) = a
  by_data bytes out (data_6 g e n l) = a
  by_data bytes out (data_sent_lem g e n l) =
      record { is_open = a.is_open; keys_same = a.keys_same; expected_same = a.expected_same; held = a.held; window_same = a.window_same; is_ended = a.is_ended }

  by_alert : (protected : Bool) (level description : ℕ) (lent out : List ℕ) {s : Step} → CallRow (alone h) (send_alert protected level description lent out) s
      → Along k expected course s.connection.handshake
  by_alert protected level description lent out (alert_16 b) = a
  by_alert protected level description lent out (alert_7 g e) = a
  by_alert protected level description lent out (alert_8 g e f) = a
  by_alert protected level description lent out (alert_15 g e n) = a
  by_alert protected level description lent out (alert_6 g e n l) = a
  by_alert protected level description lent out (alert_sent_lem {l = v} {k = m} g e n l) =
      subst (Along k expected course) (sym (sent_alone h protected e (next_alert protected (sender_of protected (alone h)) (alert_body v m lent)))) (sent_along protected)

  -- our own close ends it
  close_ends : {s : Step} → CallRow (alone h) close s → ended s.connection.handshake.state ≡ true
  close_ends (close_7 e) = ap ended e
  close_ends (close_done n) = refl

  by_close : Along k expected (with_event k expected course closing) (next h closing)
  unfolding step_of
  by_close =
      record {
        is_open = λ f. true_false true refl f;
        keys_same = λ f. true_false true refl f;
        expected_same = λ f. true_false true refl f;
        held = a.held;
        window_same = λ f. true_false true refl f;
        is_ended = λ _. close_ends (call_of (alone h) close);
      }

  -- a start again is refused in Open
  start_stays : h.state ≡ S.Open → {s : Step} → CallRow (alone h) start s → s.connection.handshake ≡ h
  start_stays o (start_7 e) = refl
  start_stays o (start_8 n m) = refl
  start_stays o (start_done e) = let z : S.Closed ≡ S.Open = sym e ∙ o in let n : ◌≡◌ {A = ℕ} 0 1 = cc in absurd (omega arith)

  by_start : course.shut ≡ false → Along k expected course (next h starting)
  unfolding step_of
  by_start z = subst (Along k expected course) (sym (start_stays (a.is_open z) (call_of (alone h) start))) a

-- the connection's open handshake, record by record
module _ (k : Keys) (expected : List ℕ) (course : Course) (c : Connection) (a : Along k expected course c.handshake) where
  told_along : (random d : List ℕ) (r : Record) → (RightBeside c d r → ⊥) → (b : Bool) → course.shut ≡ b
      → Along k expected (with_record k expected course d r) (told_record c random d r).connection.handshake
  told_along random d r n true z =
      subst (Along k expected (with_record k expected course d r))
      (ap (λ j. j.handshake) (seven k c.handshake c.sent random d r (a.is_ended z)) ∙ sym (ap (λ t. t.connection.handshake) (told_seven c random d r (a.is_ended z))))
      (record_more k expected course c.handshake a c.sent random d r true z)
  told_along random d r n false z = by_protection r.protected refl
    where
      by_protection : (p : Bool) → r.protected ≡ p → Along k expected (with_record k expected course d r) (told_record c random d r).connection.handshake
      by_protection false p =
          subst (Along k expected (with_record k expected course d r)) (sym (clear_noise c random d r (a.is_open z) p).0)
          (clear_same k expected course c.handshake a c.sent random d r z p)
      by_protection true p =
          subst (λ t. Along k expected (with_record k expected course d r) t.connection.handshake) (sym (told_open c random d r (a.is_open z) p n))
          (record_more k expected course c.handshake a c.sent random d r false z)

  other_along : (x : Act) → NoRecord x → (then : Course) → Along k expected then (next c.handshake (event_of x)) → Along k expected then (leaves c x).handshake
  other_along x n then y = subst (Along k expected then) (sym (act_next c x n)) y

pub along_all : (k : Keys) (expected : List ℕ) (acts : List Act) (course : Course) (c : Connection) → Along k expected course c.handshake → Unreplaced c acts
    → Ongoing k expected course (map event_of acts) → Along k expected (course_of k expected course (map event_of acts)) (behind c acts).handshake
unfolding course_of behind step_of Unreplaced
along_all k expected [] course c a n go = a
along_all k expected (comes random d r ∷ acts) course c a n go =
    along_all k expected acts (with_record k expected course d r) (told_record c random d r).connection (told_along k expected course c a random d r n.0 course.shut refl) n.1 go
along_all k expected (sends bytes out ∷ acts) course c a n go =
    along_all k expected acts course (leaves c (sends bytes out))
    (other_along k expected course c a (sends bytes out) tt course (by_data k expected course c.handshake a bytes out (call_of (alone c.handshake) (send_data bytes out)))) n go
along_all k expected (alerts protected level description lent out ∷ acts) course c a n go =
    along_all k expected acts course (leaves c (alerts protected level description lent out))
    (other_along k expected course c a (alerts protected level description lent out) tt course
    (by_alert k expected course c.handshake a protected level description lent out (call_of (alone c.handshake) (send_alert protected level description lent out)))) n go
along_all k expected (closes ∷ acts) course c a n go =
    along_all k expected acts (with_event k expected course closing) (leaves c closes)
    (other_along k expected course c a closes tt (with_event k expected course closing) (by_close k expected course c.handshake a)) n go
along_all k expected (starts ∷ acts) course c a n go =
    along_all k expected acts course (leaves c starts)
    (other_along k expected course c a starts tt course (by_start k expected course c.handshake a go.0)) n go.1

-- an Open place of a run begins a course
along_open : (session : Session) {width : ℕ} (past : List Happened) (h : Handshake) → Progress session width past h → h.state ≡ S.Open
    → Along (keys_in session past) (expected_in session past) (record { width = width; numbers = accepted_in past; shut = false }) h
along_open session past h p s =
    let l : barred_in past ≡ false = live session past h p.kept (ap ended s) in
    record {
      is_open = λ _. s;
      keys_same = λ _. keys_are session past h p l;
      expected_same = λ _. expected_is session past h p l;
      held = p.kept.held;
      window_same = λ _. p.kept.window_is;
      is_ended = λ f. true_false false f refl;
    }

-- ---- what is due is handed out, and nothing else

-- the content as a part of the datagram
module _ (d : List ℕ) (at size : ℕ) (c code : List ℕ) (some : 0 < length c) (f : take size (drop at d) ≡ c ++ code) where
  sizes : min size (length d - at) ≡ length c + length code
  sizes =
      ap (λ n. min size n) (sym (length-drop at d)) ∙ sym (length-take size (drop at d)) ∙ ap length f ∙ length-append c code

  long : length c ≤ length (take size (drop at d))
  long = omega (arith, ap length f, length-append c code)

  front_is : take (length c) (drop at d) ≡ c
  front_is =
      ap (take (length c)) (sym (take-append-drop size (drop at d)))
      ∙ take-append-le (length c) (take size (drop at d)) (drop size (drop at d)) long
      ∙ ap (take (length c)) f
      ∙ take_at c code (length c) refl

  pub part_is : part_at d at (length c) ≡ c
  part_is =
      let a : at ≤ length d = (by_sizes (length d) at size (length c) (length code) some sizes).0 in
      let b : length c ≤ length d - at = (by_sizes (length d) at size (length c) (length code) some sizes).1 in
      ap₂ (λ x y. pick x (pick y (take (length c) (drop at d)) []) []) (le-leb at (length d) a) (le-leb (length c) (length d - at) b) ∙ front_is
    where
      by_sizes : (n at size m z : ℕ) → 0 < m → min size (n - at) ≡ m + z → (at ≤ n) × (m ≤ n - at)
      by_sizes n at size m z h e = (omega arith, omega arith)

pub handed_part : (k : Keys) (d : List ℕ) (r : Record) (c : List ℕ) → 0 < length c → Protected k d r c → part_at d (r.start + r.head) (length c) ≡ c
unfolding fragment_by
handed_part k d r c some s =
    part_is d (r.start + r.head) r.size c (code_by (hmac (unit_key k r.number)) (size_of k.mac) r.number r.byte c) some s.is_coded

-- what a data answer says
pub record DataFacts (h : Handshake) (d : List ℕ) (r : Record) : Type 0 where
  pub c : List ℕ
  pub w : Window
  pub new : New h d r c w
  pub is_data_lem : r.content ≡ C.Data
  pub some : 0 < length c

module _ (h : Handshake) (sent : SentRecords) (random d : List ℕ) (r : Record) where
  pub data_facts : {j : Judged} → Row h sent random d r j → is_data j.answer ≡ true → DataFacts h d r
  data_facts (row_ended e) z = true_false false z refl
  data_facts (row_returned q) z = true_false false z refl
  data_facts (row_not_allowed e b n) z = true_false false z refl
  data_facts (row_reply plan g e) z = true_false false z refl
  data_facts (row_hello_malformed fault g e) z = true_false false z refl
  data_facts (row_unacceptable condition g e) z = true_false false z refl
  data_facts (row_resent s i y e) z = true_false false z refl
  data_facts (row_change s q c e) z = true_false false z refl
  data_facts (row_change_malformed s q c e) z = true_false false z refl
  data_facts (row_clear_malformed s q c e) z = true_false false z refl
  data_facts (row_checksum b s q c e n) z = true_false false z refl
  data_facts (row_clear_warning b s q c e m l) z = true_false false z refl
  data_facts (row_clear_critical b s q c e m l) z = true_false false z refl
  data_facts (row_clear_fatal b s q c e m l) z = true_false false z refl
  data_facts (row_forged g f) z = true_false false z refl
  data_facts (row_old c g s e) z = true_false false z refl
  data_facts (row_repeated c g s e) z = true_false false z refl
  data_facts (row_malformed c w n m) z = true_false false z refl
  data_facts (row_data c w n e m) z = record { c = c; w = w; new = n; is_data_lem = e; some = m }
  data_facts (row_warning c w b n e m l) z = true_false false z refl
  data_facts (row_critical c w b n e m l) z = true_false false z refl
  data_facts (row_barred c w b n e m l) z = true_false false z refl
  data_facts (row_open c w n s e m) z = true_false false z refl
  data_facts (row_again c w n s e m) z = true_false false z refl
  data_facts (row_wrong_finished c w n e m) z = true_false false z refl

module _ (k : Keys) (expected : List ℕ) (course : Course) (h : Handshake) (a : Along k expected course h) (sent : SentRecords) (random d : List ℕ) (r : Record) (at : RecordOf d r) where
  due_open : DataFacts h d r → course.shut ≡ false → (c : List ℕ) × Due k course d r c
  due_open f z =
      let e : accept_of (window_of course.width course.numbers) r.number ≡ Ok (f.w, f.new.arrived)
      = sym (ap (λ w. accept_of w r.number) (a.window_same z)) ∙ f.new.accepted in
      let q = new_facts course.width a.held course.numbers r.number f.w f.new.arrived e in (
        f.c,
        record {
          not_shut = z;
          genuine = record { in_place = at; protected_as = subst (λ x. Protected x d r f.c) (a.keys_same z) f.new.coded };
          is_data_lem = f.is_data_lem;
          some = f.some;
          not_before = q.1;
          recent = all_below course.width course.numbers r.number q.0;
        },
      )

  due_by : DataFacts h d r → (b : Bool) → course.shut ≡ b → (c : List ℕ) × Due k course d r c
  due_by f false z = due_open f z
  due_by f true z = true_false (ended h.state) (a.is_ended z) (protected_live h.state r.content f.new.guarded.kind)

  data_due : (c : List ℕ) → Due k course d r c → (judged_record h sent random d r).answer ≡ W.Data r.number (r.start + r.head) (length c)
  data_due c u =
      let z = u.not_shut in
      let n : New h d r c (window_of course.width (r.number ∷ course.numbers)) = record {
        guarded = record { protection = u.genuine.protected_as.is_protected; kind = inr (a.is_open z) };
        coded = subst (λ x. Protected x d r c) (sym (a.keys_same z)) u.genuine.protected_as;
        arrived = arrived_of course.width (r.number ∷ course.numbers);
        accepted = ap (λ w. accept_of w r.number) (a.window_same z) ∙ due_new course.width a.held course.numbers r.number u.not_before u.recent;
      } in
      ap (λ j. j.answer) (row_is h sent random d r (row_data c (window_of course.width (r.number ∷ course.numbers)) n u.is_data_lem u.some))

  pub due_exactly : (is_data (judged_record h sent random d r).answer ≡ true) ↔ ((c : List ℕ) × Due k course d r c)
  due_exactly =
      (λ z. due_by (data_facts h sent random d r (row_of h sent random d r) z) course.shut refl, λ q. ap is_data (data_due q.0 q.1))

  pub due_handed : (c : List ℕ) → Due k course d r c → handed_of d (judged_record h sent random d r).answer ≡ c
  due_handed c u = ap (handed_of d) (data_due c u) ∙ handed_part k d r c u.some u.genuine.protected_as

-- of the connection: what is due is for the open one
module _ (k : Keys) (expected : List ℕ) (course : Course) (c : Connection) (a : Along k expected course c.handshake) (random d : List ℕ) (r : Record) (at : RecordOf d r) where
  due_answer : (x : List ℕ) → Due k course d r x → (told_record c random d r).answer ≡ (judged_record c.handshake c.sent random d r).answer
  due_answer x u =
      ap (λ t. t.answer)
      (told_open c random d r (a.is_open u.not_shut) u.genuine.protected_as.is_protected
      (λ q. let z : C.Data ≡ C.Handshake = sym u.is_data_lem ∙ q.handshake in let w : ◌≡◌ {A = ℕ} 0 1 = cc in omega arith))

  pub told_exactly : (is_data (told_record c random d r).answer ≡ true) ↔ ((x : List ℕ) × Due k course d r x)
  told_exactly =
      let q = due_exactly k expected course c.handshake a c.sent random d r at in
      (λ z. q.0 (sym (ap is_data (data_asked c random d r z).1) ∙ z), λ u. ap is_data (due_answer u.0 u.1) ∙ q.1 u)

  pub told_handed : (x : List ℕ) → Due k course d r x → handed_of d (told_record c random d r).answer ≡ x
  told_handed x u = ap (handed_of d) (due_answer x u) ∙ due_handed k expected course c.handshake a c.sent random d r at x u

pub along_run : (id secret : List ℕ) (width : ℕ) → Held width → (acts : List Act) → SoundActs acts
    → (behind (fresh_one id secret width) acts).handshake.state ≡ S.Open → (later : List Act) → Unreplaced (behind (fresh_one id secret width) acts) later
    → OngoingFrom (session_of id secret) width (past_of id secret width acts) (map event_of later)
    → Along (keys_in (session_of id secret) (past_of id secret width acts)) (expected_in (session_of id secret) (past_of id secret width acts))
    (course_from (session_of id secret) width (past_of id secret width acts) (map event_of later)) (behind (behind (fresh_one id secret width) acts) later).handshake
along_run id secret width held acts sound is_open later n go =
    let h₀ : Handshake = fresh_with id secret width in
    let session : Session = session_of id secret in
    let l : Lives = lives_of (fresh_one id secret width) no_lives acts in
    let past : List Happened = history h₀ l.own [] in
    let c : Connection = behind (fresh_one id secret width) acts in
    let own : c.handshake ≡ after h₀ l.own = (lives_hold_at id secret width held acts).own_life in
    let p : Progress session width past (after h₀ l.own) = progress_all session l.own [] h₀ (lives_sound_at id secret width acts sound).0 (progress_fresh id secret width held) in
    let start : Along (keys_in session past) (expected_in session past) (course_at width past) c.handshake
    = subst (Along (keys_in session past) (expected_in session past) (course_at width past)) (sym own) (along_open session past (after h₀ l.own) p (sym (ap (λ h. h.state) own) ∙ is_open)) in
    along_all (keys_in session past) (expected_in session past) later (course_at width past) c start n go

pub handed_out_at : (id secret : List ℕ) (width : ℕ) → Held width → (acts : List Act) → SoundActs acts
    → (behind (fresh_one id secret width) acts).handshake.state ≡ S.Open → (later : List Act) → Unreplaced (behind (fresh_one id secret width) acts) later
    → OngoingFrom (session_of id secret) width (past_of id secret width acts) (map event_of later)
    → (random d : List ℕ) (r : Record) → RecordOf d r
    → let past = past_of id secret width acts in
    let session = session_of id secret in
    let course = course_from session width past (map event_of later) in
    let answer = (told_record (behind (behind (fresh_one id secret width) acts) later) random d r).answer in
    ((is_data answer ≡ true) ↔ ((c : List ℕ) × Due (keys_in session past) course d r c))
    × ((c : List ℕ) → Due (keys_in session past) course d r c → handed_of d answer ≡ c)
handed_out_at id secret width held acts sound is_open later n go random d r at =
    let session : Session = session_of id secret in
    let past : List Happened = past_of id secret width acts in
    let e : Connection = behind (behind (fresh_one id secret width) acts) later in
    let a = along_run id secret width held acts sound is_open later n go in (
      told_exactly (keys_in session past) (expected_in session past) (course_from session width past (map event_of later)) e a random d r at,
      told_handed (keys_in session past) (expected_in session past) (course_from session width past (map event_of later)) e a random d r at,
    )

pub handed_out : HandedOut
unfolding HandedOut
handed_out id secret width held acts sound is_open later n go random d r at = handed_out_at id secret width held acts sound is_open later n go random d r at

-- ---- once

module _ (k : Keys) (expected : List ℕ) (n : ℕ) where
  -- a number that was used up stays so
  pub grows_by : (course more : Course) (b g e : Bool) → accepted course.numbers n ≡ true → accepted more.numbers n ≡ true
      → accepted (pick b course (pick g (pick e more course) course)).numbers n ≡ true
  grows_by course more true g e x y = x
  grows_by course more false true true x y = y
  grows_by course more false true false x y = x
  grows_by course more false false e x y = x

  grows_record : (course : Course) (d : List ℕ) (r : Record) → accepted course.numbers n ≡ true → accepted (with_record k expected course d r).numbers n ≡ true
  grows_record course d r x =
      grows_by course (record { width = course.width; numbers = r.number ∷ course.numbers; shut = content_shuts r.content (content_bytes k d r) expected })
      course.shut (genuine_bytes k d r) (is_new course.width course.numbers r.number) x (accepted_still r.number n course.numbers x)

  grows : (es : List Event) (course : Course) → accepted course.numbers n ≡ true → accepted (course_of k expected course es).numbers n ≡ true
  unfolding course_of
  grows [] course x = x
  grows (took sent random d r ∷ es) course x = grows es (with_record k expected course d r) (grows_record course d r x)
  grows (sending bytes out ∷ es) course x = grows es course x
  grows (alerting protected level description lent out ∷ es) course x = grows es course x
  grows (closing ∷ es) course x = grows es (with_event k expected course closing) x
  grows (starting ∷ es) course x = grows es course x

-- the width stays
pub width_by : (course more : Course) (b g e : Bool) → more.width ≡ course.width
    → (pick b course (pick g (pick e more course) course)).width ≡ course.width
width_by course more true g e x = refl
width_by course more false true true x = x
width_by course more false true false x = refl
width_by course more false false e x = refl

width_stays : (k : Keys) (expected : List ℕ) (es : List Event) (course : Course) → (course_of k expected course es).width ≡ course.width
unfolding course_of
width_stays k expected [] course = refl
width_stays k expected (took sent random d r ∷ es) course =
    width_stays k expected es (with_record k expected course d r)
    ∙ width_by course (record { width = course.width; numbers = r.number ∷ course.numbers; shut = content_shuts r.content (content_bytes k d r) expected })
    course.shut (genuine_bytes k d r) (is_new course.width course.numbers r.number) refl
width_stays k expected (sending bytes out ∷ es) course = width_stays k expected es course
width_stays k expected (alerting protected level description lent out ∷ es) course = width_stays k expected es course
width_stays k expected (closing ∷ es) course = width_stays k expected es (with_event k expected course closing)
width_stays k expected (starting ∷ es) course = width_stays k expected es course

-- what is due is used up
due_used : (k : Keys) (expected : List ℕ) (course : Course) → Held course.width → (d : List ℕ) (r : Record) (c : List ℕ) → Due k course d r c
    → accepted (with_record k expected course d r).numbers r.number ≡ true
due_used k expected course held d r c u =
    let s : Protected k d r c = u.genuine.protected_as in
    let g : genuine_bytes k d r ≡ true = ap₂ (λ p x. pick p x false) s.is_protected (protected_right k d r c s) in
    let n : is_new course.width course.numbers r.number ≡ true
    = is_new_lem course.width held course.numbers r.number (due_below course.width held course.numbers r.number u.recent) u.not_before in
    let used : with_record k expected course d r ≡ record { width = course.width; numbers = r.number ∷ course.numbers; shut = content_shuts r.content (content_bytes k d r) expected }
    = λ i. pick (u.not_shut i) course (pick (g i) (pick (n i) (record { width = course.width; numbers = r.number ∷ course.numbers; shut = content_shuts r.content (content_bytes k d r) expected }) course) course) in
    ap (λ x. accepted x.numbers r.number) used ∙ accepted_here r.number course.numbers

course_more : (k : Keys) (expected : List ℕ) (es fs : List Event) (course : Course) → course_of k expected course (es ++ fs) ≡ course_of k expected (course_of k expected course es) fs
unfolding course_of
course_more k expected [] fs course = refl
course_more k expected (e ∷ es) fs course = course_more k expected es fs (with_event k expected course e)

ongoing_front : (k : Keys) (expected : List ℕ) (es fs : List Event) (course : Course) → Ongoing k expected course (es ++ fs) → Ongoing k expected course es
ongoing_front k expected [] fs course g = tt
ongoing_front k expected (took sent random d r ∷ es) fs course g = ongoing_front k expected es fs (with_event k expected course (took sent random d r)) g
ongoing_front k expected (sending bytes out ∷ es) fs course g = ongoing_front k expected es fs course g
ongoing_front k expected (alerting protected level description lent out ∷ es) fs course g = ongoing_front k expected es fs course g
ongoing_front k expected (closing ∷ es) fs course g = ongoing_front k expected es fs (with_event k expected course closing) g
ongoing_front k expected (starting ∷ es) fs course g = (g.0, ongoing_front k expected es fs course g.1)

events_more : (xs ys : List Act) → map event_of (xs ++ ys) ≡ map event_of xs ++ map event_of ys
events_more [] ys = refl
events_more (x ∷ xs) ys = ap (λ t. event_of x ∷ t) (events_more xs ys)

unreplaced_front : (c : Connection) (xs ys : List Act) → Unreplaced c (xs ++ ys) → Unreplaced c xs
unfolding Unreplaced
unreplaced_front c [] ys n = tt
unreplaced_front c (comes random d r ∷ xs) ys n = (n.0, unreplaced_front (leaves c (comes random d r)) xs ys n.1)
unreplaced_front c (sends bytes out ∷ xs) ys n = unreplaced_front (leaves c (sends bytes out)) xs ys n
unreplaced_front c (alerts protected level description lent out ∷ xs) ys n = unreplaced_front (leaves c (alerts protected level description lent out)) xs ys n
unreplaced_front c (closes ∷ xs) ys n = unreplaced_front (leaves c closes) xs ys n
unreplaced_front c (starts ∷ xs) ys n = unreplaced_front (leaves c starts) xs ys n

pub handed_once : HandedOnce
unfolding HandedOnce course_of
handed_once id secret width held acts sound is_open later between random d r random' d' r' here there n go x y same =
    let session : Session = session_of id secret in
    let past : List Happened = past_of id secret width acts in
    let k : Keys = keys_in session past in
    let expected : List ℕ = expected_in session past in
    let all : List Event = map event_of (later ++ (comes random d r ∷ between)) in
    let split : all ≡ map event_of later ++ map event_of (comes random d r ∷ between) = events_more later (comes random d r ∷ between) in
    let ongoing : OngoingFrom session width past (map event_of later)
    = ongoing_front k expected (map event_of later) (map event_of (comes random d r ∷ between)) (course_at width past) (subst (OngoingFrom session width past) split go) in
    let first = (handed_out_at id secret width held acts sound is_open later (unreplaced_front (behind (fresh_one id secret width) acts) later (comes random d r ∷ between) n) ongoing random d r here).0.0 x in
    let second = (handed_out_at id secret width held acts sound is_open (later ++ (comes random d r ∷ between)) n go random' d' r' there).0.0 y in
    let still-held : Held (course_from session width past (map event_of later)).width
    = subst Held (sym (width_stays k expected (map event_of later) (course_at width past))) held in
    let used : accepted (with_record k expected (course_from session width past (map event_of later)) d r).numbers r.number ≡ true
    = due_used k expected (course_from session width past (map event_of later)) still-held d r first.0 first.1 in
    let still : accepted (course_from session width past all).numbers r.number ≡ true
    = ap (λ es. accepted (course_from session width past es).numbers r.number) split
    ∙ ap (λ c. accepted c.numbers r.number) (course_more k expected (map event_of later) (map event_of (comes random d r ∷ between)) (course_at width past))
    ∙ grows k expected r.number (map event_of between) (with_record k expected (course_from session width past (map event_of later)) d r) used in
    true_false (accepted (course_from session width past all).numbers r'.number) (ap (accepted (course_from session width past all).numbers) (sym same) ∙ still) second.1.not_before
