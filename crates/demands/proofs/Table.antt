-- The table holds. The idea: the rule that a record falls under has its reason in what the record says (`Rules`); each test that the
-- definition then makes is decided both ways. The other way round, the premises of a row decide the rule and each of these tests.
use mathlib.Core.Path.{◌≡◌, refl, sym, ◌∙◌, ap, ap₂, subst}
use mathlib.Core.Logic.{◌⊎◌, inl, inr, ◌≢◌}
use mathlib.Core.Bool.{Bool, true, false}
use mathlib.Core.List.{List}
use Prim.Native.Nat.{ℕ, ◌+◌, ◌<◌}
use native.Mathlib.Omega.{arith}
use lib.ListN.{length, get_or}
use lib.Dec.{eqb}
use borrow.Author.Tests.{eqb-true, eqb-false, eq-eqb, ne_eqb}
use Rattle.digest.specs.Pick.{pick}
use Rattle.digest.specs.Mac.{same_bytes}
use Rattle.digest.proofs.Same.{same_equal, equal_same, differ_same}
use Rattle.record.specs.Window.{accept_of, emptied}
use Rattle.record.specs.declared.header.Content.{Content}
use Rattle.record.specs.declared.header.Content.TheVariants as C
use Rattle.record.specs.declared.window.Window.{Window}
use Rattle.record.specs.declared.window.NotNew.TheVariants as A
use Rattle.record.specs.declared.reader.Record.{Record}
use Rattle.message.specs.Acceptance.{heard_of}
use Rattle.message.specs.Alert.{alert_of}
use Rattle.message.specs.Change.{is_change}
use Rattle.message.specs.Finished.{judged_of}
use Rattle.message.specs.declared.acceptance.Unheard.TheVariants as H
use Rattle.message.specs.declared.alert.Alert.{Alert}
use Rattle.message.specs.declared.alert.Level.{Level}
use Rattle.message.specs.declared.alert.Level.TheVariants as L
use Rattle.message.specs.declared.finished.Unverified.TheVariants as F
use Rattle.connection.specs.State.{rule_of}
use Rattle.connection.specs.Handshake.{with_state, with_window, kept_hello, kept_reply}
use Rattle.connection.specs.Sent.{matches_of}
use Rattle.connection.specs.Answer.{judged, refusing}
use Rattle.connection.specs.Clear.{greeted_by, greeted_again, resent_by, changed_by, heard_alert, heard_to, heard_by, by_level}
use Rattle.connection.specs.Protected.{opened_record, content_by, alerted_by, alerted_to, protected_level, verified_by, verified_to, finished_in}
use Rattle.connection.proofs.OpeningRecords.{genuine_in, content_in, windowed_to, opened_record_is}
use Rattle.connection.specs.Judge.{judged_record, ruled_by, fragment_of}
use Rattle.connection.specs.declared.state.State.{State}
use Rattle.connection.specs.declared.state.State.TheVariants as S
use Rattle.connection.specs.declared.state.Kind.{Kind}
use Rattle.connection.specs.declared.state.Rule.{Rule}
use Rattle.connection.specs.declared.state.Rule.TheVariants as T
use Rattle.connection.specs.declared.refusal.Refusal.TheVariants as X
use Rattle.connection.specs.declared.answer.Answer.TheVariants as W
use Rattle.connection.specs.declared.answer.Judged.{Judged}
use Rattle.connection.specs.declared.handshake.Handshake.{Handshake}
use Rattle.demands.specs.Genuine.{Protected, keys_of}
use Rattle.demands.specs.Seen.{Seen, seen_in}
use Rattle.demands.specs.Table.{TableHolds, Row, Hears, Over, IsHello, Guarded, Allowed, hello, change, alert, guarded, New, Greets, Returns, MalformedAs}
use Rattle.demands.specs.Table.{row_ended, row_returned, row_not_allowed, row_reply, row_hello_malformed, row_unacceptable, row_resent, row_change, row_change_malformed, row_clear_malformed, row_checksum, row_clear_warning, row_clear_critical, row_clear_fatal, row_forged, row_old, row_repeated, row_malformed, row_data, row_warning, row_critical, row_barred, row_open, row_again, row_wrong_finished}
use Rattle.demands.proofs.Genuine.{true_false, protected_right, protected_content, right_protected}
use Rattle.demands.proofs.States.{ended, live_over, awaits_live, awaits_closed}
use Rattle.demands.proofs.Exactly.Reasons.{decide}
use Rattle.demands.proofs.Rules.{kind_by, kind_by_lem, protected_kind, kind_protected, over_rule, open_rule, idle_rule, hears_rule, change_rule, alert_rule, guarded_rule, RuleHolds, rule_holds}
use Rattle.connection.specs.declared.sent.SentRecords.{SentRecords}
use Rattle.std.specs.Prelude.{Err, None, Ok, Option, Result, Some, ⊤}
use Rattle.message.specs.declared.acceptance.Plan.{Plan}
use Rattle.message.specs.declared.acceptance.Unheard.{Unheard}
use Rattle.message.specs.declared.finished.Unverified.{Unverified}
use Rattle.record.specs.declared.window.NotNew.{NotNew}

module _ (h : Handshake) (sent : SentRecords) (random d : List ℕ) (r : Record) where
  abbrev q : Seen
  q = seen_in d r

  abbrev f : List ℕ
  f = fragment_of d r

  abbrev place : ℕ
  place = r.start + r.head

  abbrev one : Bool
  one = eqb (get_or f 0 0) 1

  abbrev kind : Kind
  kind = kind_by r.content r.protected one

  abbrev ruled : Rule → Judged
  ruled rule = ruled_by h sent random rule kind r f

  -- ---- a row for each record

  -- a ClientHello that is not first in its datagram
  late_not : IsHello q → (r.start ≡ 0 → ⊥) → Allowed h.state q → ⊥
  late_not i z (hello s j e) = z e
  late_not i z (change s c n) = let e : C.ChangeCipherSpec ≡ C.Handshake = sym n ∙ i.handshake in let w : ◌≡◌ {A = ℕ} 0 1 = cc in omega arith
  late_not i z (alert s c n) = let e : C.Alert ≡ C.Handshake = sym n ∙ i.handshake in let w : ◌≡◌ {A = ℕ} 0 1 = cc in omega arith
  late_not i z (guarded g) = true_false r.protected g.protection i.clear

  late_row : (h.state ≡ S.Idle) ⊎ Hears h.state → IsHello q → (r.start ≡ 0 → ⊥) → Row h sent random d r (refusing X.NotAllowed h)
  late_row s i z =
      row_not_allowed (live_over h.state (awaits_live h.state s)) (late_not i z) (λ x. awaits_closed h.state s x.is_open)

  -- a ClientHello in Open that is not the one that is kept, or not first
  open_not : h.state ≡ S.Open → IsHello q → Allowed h.state q → ⊥
  open_not o i (hello s j e) = awaits_closed h.state s o
  open_not o i (change s c n) = awaits_closed h.state (inr (inl s)) o
  open_not o i (alert s c n) = awaits_closed h.state (inr s) o
  open_not o i (guarded g) = true_false r.protected g.protection i.clear

  other_row : h.state ≡ S.Open → IsHello q → (r.start ≡ 0 → f ≡ kept_hello h → ⊥) → Row h sent random d r (refusing X.NotAllowed h)
  other_row o i n = row_not_allowed (live_over h.state (ap ended o)) (open_not o i) (λ x. n x.first x.same)

  -- hellos
  heard_row : Greets h q → (x : Result Plan Unheard) → heard_of f h.id ≡ x → Row h sent random d r (heard_to h random f x)
  heard_row g (Ok plan) e = row_reply plan g e
  heard_row g (Err (H.Unacceptable condition)) e = row_unacceptable condition g e
  heard_row g (Err (H.Malformed fault)) e = row_hello_malformed fault g e

  greet_row : h.state ≡ S.Idle → IsHello q → (b : Bool) → eqb r.start 0 ≡ b
      → Row h sent random d r (pick b (greeted_by h random f) (refusing X.NotAllowed h))
  unfolding greeted_by
  greet_row s i true b =
      heard_row (record { hello = i; first = eqb-true r.start 0 b; another = inl s }) (heard_of f h.id) refl
  greet_row s i false b = late_row (inl s) i (eqb-false r.start 0 b)

  kept_row : Hears h.state → IsHello q → r.start ≡ 0 → (b : Bool) → same_bytes f (kept_hello h) ≡ b
      → Row h sent random d r (pick b (judged (W.Resent (length (kept_reply h))) h) (greeted_by h random f))
  unfolding greeted_by
  kept_row s i z true b = row_resent s i z (same_equal f (kept_hello h) b)
  kept_row s i z false b =
      heard_row
      (record { hello = i; first = z; another = inr (s, λ e. true_false (same_bytes f (kept_hello h)) (equal_same f (kept_hello h) e) b) })
      (heard_of f h.id) refl

  again_row : Hears h.state → IsHello q → (b : Bool) → eqb r.start 0 ≡ b
      → Row h sent random d r (pick b (greeted_again h random f) (refusing X.NotAllowed h))
  unfolding greeted_again
  again_row s i true b = kept_row s i (eqb-true r.start 0 b) (same_bytes f (kept_hello h)) refl
  again_row s i false b = late_row (inr s) i (eqb-false r.start 0 b)

  back_row : h.state ≡ S.Open → IsHello q → r.start ≡ 0 → (b : Bool) → same_bytes f (kept_hello h) ≡ b
      → Row h sent random d r (pick b (judged (W.Resent (length (kept_reply h))) h) (refusing X.NotAllowed h))
  back_row s i z true b = row_returned (record { is_open = s; hello = i; first = z; same = same_equal f (kept_hello h) b })
  back_row s i z false b = other_row s i (λ y e. true_false (same_bytes f (kept_hello h)) (equal_same f (kept_hello h) e) b)

  return_row : h.state ≡ S.Open → IsHello q → (b : Bool) → eqb r.start 0 ≡ b
      → Row h sent random d r (pick b (resent_by h f) (refusing X.NotAllowed h))
  unfolding resent_by
  return_row s i true b = back_row s i (eqb-true r.start 0 b) (same_bytes f (kept_hello h)) refl
  return_row s i false b = other_row s i (λ z e. eqb-false r.start 0 b z)

  -- change cipher spec
  change_row : h.state ≡ S.Replied → r.protected ≡ false → r.content ≡ C.ChangeCipherSpec → (b : Bool) → is_change f ≡ b
      → Row h sent random d r (pick b (judged W.Spec (with_state (with_window h (emptied h.protection.window)) S.Spec)) (refusing X.Malformed h))
  change_row s p c true b = row_change s p c b
  change_row s p c false b = row_change_malformed s p c b

  -- clear alerts
  level_row : (a : Alert) → Hears h.state → r.protected ≡ false → r.content ≡ C.Alert → alert_of f ≡ Some a
      → matches_of sent a.checksum ≡ true → (l : Level) → a.level ≡ l → Row h sent random d r (by_level h l a.description)
  level_row a s p c w k L.Warning e = row_clear_warning a s p c w k e
  level_row a s p c w k L.Critical e = row_clear_critical a s p c w k e
  level_row a s p c w k L.Fatal e = row_clear_fatal a s p c w k e

  checksum_row : (a : Alert) → Hears h.state → r.protected ≡ false → r.content ≡ C.Alert → alert_of f ≡ Some a
      → (b : Bool) → matches_of sent a.checksum ≡ b
      → Row h sent random d r (pick b (by_level h a.level a.description) (refusing X.Checksum h))
  checksum_row a s p c w true b = level_row a s p c w b a.level refl
  checksum_row a s p c w false b = row_checksum a s p c w b

  hear_row : Hears h.state → r.protected ≡ false → r.content ≡ C.Alert → (x : Option Alert) → alert_of f ≡ x
      → Row h sent random d r (heard_by h sent x)
  hear_row s p c None e = row_clear_malformed s p c e
  hear_row s p c (Some a) e = checksum_row a s p c e (matches_of sent a.checksum) refl

  -- protected records
  data_row : (w : Window) → New h d r (content_in h f) w → r.content ≡ C.Data
      → (b : Bool) → eqb (length (content_in h f)) 0 ≡ b
      → Row h sent random d r (pick b (refusing X.Malformed (with_window h w)) (judged (W.Data r.number place (length (content_in h f))) (with_window h w)))
  data_row w n c true b =
      row_malformed (content_in h f) w n (subst (λ x. MalformedAs x (content_in h f) h.expected) (sym c) (eqb-true (length (content_in h f)) 0 b))
  data_row w n c false b =
      row_data (content_in h f) w n c (positive (length (content_in h f)) (eqb-false (length (content_in h f)) 0 b))
    where
      positive : (z : ℕ) → (z ≡ 0 → ⊥) → 0 < z
      positive z e = omega arith

  protected_level_row : (w : Window) (a : Alert) → New h d r (content_in h f) w → r.content ≡ C.Alert
      → alert_of (content_in h f) ≡ Some a → (l : Level) → a.level ≡ l
      → Row h sent random d r (protected_level (with_window h w) l a.description)
  protected_level_row w a n c e L.Warning l = row_warning (content_in h f) w a n c e l
  protected_level_row w a n c e L.Critical l = row_critical (content_in h f) w a n c e l
  protected_level_row w a n c e L.Fatal l = row_barred (content_in h f) w a n c e l

  alert_row : (w : Window) → New h d r (content_in h f) w → r.content ≡ C.Alert → (x : Option Alert)
      → alert_of (content_in h f) ≡ x → Row h sent random d r (alerted_to (with_window h w) x)
  alert_row w n c None e =
      row_malformed (content_in h f) w n (subst (λ x. MalformedAs x (content_in h f) h.expected) (sym c) e)
  alert_row w n c (Some a) e = protected_level_row w a n c e a.level refl

  right_row : (w : Window) → New h d r (content_in h f) w → r.content ≡ C.Handshake → judged_of (content_in h f) h.expected ≡ Ok tt
      → Row h sent random d r (finished_in (with_window h w) h.state)
  right_row w n c e = told n.guarded.kind
    where
      told : ((h.state ≡ S.Spec) × ((r.content ≡ C.Alert) ⊎ (r.content ≡ C.Handshake))) ⊎ (h.state ≡ S.Open)
          → Row h sent random d r (finished_in (with_window h w) h.state)
      told (inl (s, k)) = subst (λ x. Row h sent random d r (finished_in (with_window h w) x)) (sym s) (row_open (content_in h f) w n s c e)
      told (inr s) = subst (λ x. Row h sent random d r (finished_in (with_window h w) x)) (sym s) (row_again (content_in h f) w n s c e)

  finished_row : (w : Window) → New h d r (content_in h f) w → r.content ≡ C.Handshake → (x : Result ⊤ Unverified)
      → judged_of (content_in h f) h.expected ≡ x → Row h sent random d r (verified_to (with_window h w) x)
  finished_row w n c (Ok tt) e =
      right_row w n c e
  finished_row w n c (Err F.Wrong) e = row_wrong_finished (content_in h f) w n c e
  finished_row w n c (Err F.Malformed) e =
      row_malformed (content_in h f) w n (subst (λ x. MalformedAs x (content_in h f) h.expected) (sym c) e)

  content_row : (c : Content) → r.content ≡ c → (w : Window) → New h d r (content_in h f) w
      → Row h sent random d r (content_by (with_window h w) (protected_kind c) r.number place (content_in h f))
  unfolding content_by alerted_by verified_by
  content_row C.ChangeCipherSpec c w n =
      row_malformed (content_in h f) w n (subst (λ x. MalformedAs x (content_in h f) h.expected) (sym c) tt)
  content_row C.Alert c w n = alert_row w n c (alert_of (content_in h f)) refl
  content_row C.Handshake c w n = finished_row w n c (judged_of (content_in h f) h.expected) refl
  content_row C.Data c w n = data_row w n c (eqb (length (content_in h f)) 0) refl

  window_row : Guarded h.state q → Protected (keys_of h) d r (content_in h f) → (x : Result (Window × ℕ) NotNew)
      → accept_of h.protection.window r.number ≡ x
      → Row h sent random d r (windowed_to h (protected_kind r.content) r.number place (content_in h f) x)
  window_row g s (Err A.TooOld) e = row_old (content_in h f) g s e
  window_row g s (Err A.Repeated) e = row_repeated (content_in h f) g s e
  window_row g s (Ok (w, n)) e = content_row r.content refl w (record { guarded = g; coded = s; arrived = n; accepted = e })

  genuine_row : Guarded h.state q → (b : Bool) → genuine_in h r.byte r.number f ≡ b
      → Row h sent random d r (pick b (windowed_to h (protected_kind r.content) r.number place (content_in h f) (accept_of h.protection.window r.number)) (refusing X.Forged h))
  genuine_row g true b = window_row g (right_protected (keys_of h) d r g.protection b) (accept_of h.protection.window r.number) refl
  genuine_row g false b = row_forged g (λ x z. true_false (genuine_in h r.byte r.number f) (protected_right (keys_of h) d r x z) b)

  open_record_row : Guarded h.state q → Row h sent random d r (opened_record h kind r.byte r.number place f)
  open_record_row g =
      subst (λ k. Row h sent random d r (opened_record h k r.byte r.number place f)) (sym (kind_protected r.content r.protected one g.protection))
      (subst (Row h sent random d r) (sym (opened_record_is h (protected_kind r.content) r.byte r.number place f))
      (genuine_row g (genuine_in h r.byte r.number f) refl))

  -- the reason of a rule
  abbrev Holds : Rule → Type 0
  Holds = RuleHolds r.byte r.number f r.start h.state r.content r.protected one refl

  holds : Holds (rule_of h.state kind)
  holds = rule_holds r.byte r.number f r.start h.state r.content r.protected one refl

  by_rule : (rule : Rule) → Holds rule → Row h sent random d r (ruled rule)
  unfolding ruled_by changed_by heard_alert
  by_rule T.Ended o = row_ended o
  by_rule T.NotAllowed (live, opened, none) = row_not_allowed live none (λ x. opened x.is_open x.hello)
  by_rule T.Resend (s, i) = return_row s i (eqb r.start 0) refl
  by_rule T.Greet (s, i) = greet_row s i (eqb r.start 0) refl
  by_rule T.GreetAgain (s, i) = again_row s i (eqb r.start 0) refl
  by_rule T.Change (s, p, c) = change_row s p c (is_change f) refl
  by_rule T.Hear (s, p, c) = hear_row s p c (alert_of f) refl
  by_rule T.OpenRecord g = open_record_row g

  ruled_is : judged_record h sent random d r ≡ ruled (rule_of h.state kind)
  unfolding judged_record
  ruled_is = ap (λ k. ruled_by h sent random (rule_of h.state k) k r f) (kind_by_lem r.content r.protected (get_or f 0 0))

  -- every record has a row
  pub row_of : Row h sent random d r (judged_record h sent random d r)
  row_of = subst (Row h sent random d r) (sym ruled_is) (by_rule (rule_of h.state kind) holds)

  -- ---- what a row says is what the definition gives

  -- by a rule that is known
  ruled_by_lem : {rule : Rule} → rule_of h.state kind ≡ rule → judged_record h sent random d r ≡ ruled rule
  ruled_by_lem e = ruled_is ∙ ap ruled e

  first_is : (x y : Judged) → r.start ≡ 0 → pick (eqb r.start 0) x y ≡ x
  first_is x y z = ap (λ b. pick b x y) (eq-eqb r.start 0 z)

  heard_again : Hears h.state → IsHello q → r.start ≡ 0 → judged_record h sent random d r ≡ greeted_again h random f
  unfolding ruled_by
  heard_again s i z =
      ruled_by_lem (hears_rule r.byte r.number f r.start h.state r.content r.protected one refl s i)
      ∙ first_is (greeted_again h random f) (refusing X.NotAllowed h) z

  not_kept : f ≢ kept_hello h → greeted_again h random f ≡ greeted_by h random f
  unfolding greeted_again
  not_kept ne =
      ap (λ b. pick b (judged (W.Resent (length (kept_reply h))) h) (greeted_by h random f)) (differ_same f (kept_hello h) ne)

  is_kept_lem : f ≡ kept_hello h → greeted_again h random f ≡ judged (W.Resent (length (kept_reply h))) h
  unfolding greeted_again
  is_kept_lem e =
      ap (λ b. pick b (judged (W.Resent (length (kept_reply h))) h) (greeted_by h random f)) (equal_same f (kept_hello h) e)

  is_back : f ≡ kept_hello h → resent_by h f ≡ judged (W.Resent (length (kept_reply h))) h
  unfolding resent_by
  is_back e =
      ap (λ b. pick b (judged (W.Resent (length (kept_reply h))) h) (refusing X.NotAllowed h)) (equal_same f (kept_hello h) e)

  not_allowed_is : (Over h.state → ⊥) → (Allowed h.state q → ⊥) → (Returns h q → ⊥)
      → (rule : Rule) → Holds rule → ruled rule ≡ refusing X.NotAllowed h
  unfolding ruled_by resent_by
  not_allowed_is live none unreturned T.Ended o = absurd (live o)
  not_allowed_is live none unreturned T.NotAllowed w = refl
  not_allowed_is live none unreturned T.Resend (s, i) =
      decide (eqb r.start 0)
      (λ e. rw e (decide (same_bytes f (kept_hello h))
      (λ k. absurd (unreturned (record { is_open = s; hello = i; first = eqb-true r.start 0 e; same = same_equal f (kept_hello h) k })))
      (λ k. rw k refl)))
      (λ e. rw e refl)
  not_allowed_is live none unreturned T.Greet (s, i) =
      decide (eqb r.start 0) (λ e. absurd (none (hello (inl s) i (eqb-true r.start 0 e)))) (λ e. rw e refl)
  not_allowed_is live none unreturned T.GreetAgain (s, i) =
      decide (eqb r.start 0) (λ e. absurd (none (hello (inr s) i (eqb-true r.start 0 e)))) (λ e. rw e refl)
  not_allowed_is live none unreturned T.Change (s, p, c) = absurd (none (change s p c))
  not_allowed_is live none unreturned T.Hear (s, p, c) = absurd (none (alert s p c))
  not_allowed_is live none unreturned T.OpenRecord g = absurd (none (guarded g))

  greets_by : IsHello q → r.start ≡ 0 → (h.state ≡ S.Idle) ⊎ (Hears h.state × (f ≢ kept_hello h)) → judged_record h sent random d r ≡ greeted_by h random f
  unfolding ruled_by
  greets_by i z (inl s) =
      ruled_by_lem (idle_rule r.byte r.number f r.start h.state r.content r.protected one refl s i)
      ∙ first_is (greeted_by h random f) (refusing X.NotAllowed h) z
  greets_by i z (inr (hs, ne)) = heard_again hs i z ∙ not_kept ne

  greets_is : Greets h q → (x : Result Plan Unheard) → heard_of f h.id ≡ x
      → judged_record h sent random d r ≡ heard_to h random f x
  unfolding greeted_by
  greets_is g x e = greets_by g.hello g.first g.another ∙ ap (heard_to h random f) e

  heard_as_lem : Hears h.state → r.protected ≡ false → r.content ≡ C.Alert → (x : Option Alert) → alert_of f ≡ x → judged_record h sent random d r ≡ heard_by h sent x
  unfolding ruled_by heard_alert
  heard_as_lem s p c x e =
      ruled_by_lem (alert_rule r.byte r.number f r.start h.state r.content r.protected one refl s p c) ∙ ap (heard_by h sent) e

  heard_level : (a : Alert) → Hears h.state → r.protected ≡ false → r.content ≡ C.Alert → alert_of f ≡ Some a
      → matches_of sent a.checksum ≡ true → (l : Level) → a.level ≡ l → judged_record h sent random d r ≡ by_level h l a.description
  heard_level a s p c e k l el =
      heard_as_lem s p c (Some a) e
      ∙ ap (λ b. pick b (by_level h a.level a.description) (refusing X.Checksum h)) k
      ∙ ap (λ x. by_level h x a.description) el

  pub guarded_is : Guarded h.state q → judged_record h sent random d r
      ≡ pick (genuine_in h r.byte r.number f)
      (windowed_to h (protected_kind r.content) r.number place (content_in h f) (accept_of h.protection.window r.number))
      (refusing X.Forged h)
  unfolding ruled_by
  guarded_is g =
      ruled_by_lem (guarded_rule r.byte r.number f r.start h.state r.content r.protected one refl g)
      ∙ ap (λ k. opened_record h k r.byte r.number place f) (kind_protected r.content r.protected one g.protection)
      ∙ opened_record_is h (protected_kind r.content) r.byte r.number place f

  forged_is : Guarded h.state q → genuine_in h r.byte r.number f ≡ false → judged_record h sent random d r ≡ refusing X.Forged h
  forged_is g e =
      guarded_is g
      ∙ ap (λ b. pick b (windowed_to h (protected_kind r.content) r.number place (content_in h f) (accept_of h.protection.window r.number)) (refusing X.Forged h)) e

  protected_is : (c : List ℕ) → Guarded h.state q → Protected (keys_of h) d r c → (x : Result (Window × ℕ) NotNew) → accept_of h.protection.window r.number ≡ x
      → judged_record h sent random d r ≡ windowed_to h (protected_kind r.content) r.number place c x
  protected_is c g s x e =
      guarded_is g
      ∙ ap (λ b. pick b (windowed_to h (protected_kind r.content) r.number place (content_in h f) (accept_of h.protection.window r.number)) (refusing X.Forged h)) (protected_right (keys_of h) d r c s)
      ∙ ap₂ (λ y z. windowed_to h (protected_kind r.content) r.number place y z) (protected_content (keys_of h) d r c s) e

  new_is : (c : List ℕ) (w : Window) → New h d r c w → (x : Content) → r.content ≡ x
      → judged_record h sent random d r ≡ content_by (with_window h w) (protected_kind x) r.number place c
  new_is c w n x e =
      protected_is c n.guarded n.coded (Ok (w, n.arrived)) n.accepted
      ∙ ap (λ y. content_by (with_window h w) (protected_kind y) r.number place c) e

  malformed_is : (c : List ℕ) (w : Window) → New h d r c w → (x : Content) → r.content ≡ x → MalformedAs x c h.expected
      → judged_record h sent random d r ≡ refusing X.Malformed (with_window h w)
  unfolding content_by alerted_by verified_by
  malformed_is c w n C.ChangeCipherSpec e m = new_is c w n C.ChangeCipherSpec e
  malformed_is c w n C.Alert e m = new_is c w n C.Alert e ∙ ap (alerted_to (with_window h w)) m
  malformed_is c w n C.Handshake e m = new_is c w n C.Handshake e ∙ ap (verified_to (with_window h w)) m
  malformed_is c w n C.Data e m =
      new_is c w n C.Data e
      ∙ ap (λ b. pick b (refusing X.Malformed (with_window h w)) (judged (W.Data r.number place (length c)) (with_window h w))) (eq-eqb (length c) 0 m)

  data_is : (c : List ℕ) (w : Window) → New h d r c w → r.content ≡ C.Data → 0 < length c
      → judged_record h sent random d r ≡ judged (W.Data r.number place (length c)) (with_window h w)
  unfolding content_by
  data_is c w n e m =
      new_is c w n C.Data e
      ∙ ap (λ b. pick b (refusing X.Malformed (with_window h w)) (judged (W.Data r.number place (length c)) (with_window h w))) (ne_eqb (length c) 0 (λ z. omega arith))

  alert_is : (c : List ℕ) (w : Window) (a : Alert) → New h d r c w → r.content ≡ C.Alert → alert_of c ≡ Some a → (l : Level) → a.level ≡ l
      → judged_record h sent random d r ≡ protected_level (with_window h w) l a.description
  unfolding content_by alerted_by
  alert_is c w a n e m l el =
      new_is c w n C.Alert e ∙ ap (alerted_to (with_window h w)) m ∙ ap (λ x. protected_level (with_window h w) x a.description) el

  abbrev verified_in : Window → State → Result ⊤ Unverified → Judged
  verified_in w s (Ok tt) = finished_in (with_window h w) s
  verified_in w s (Err F.Wrong) = judged (W.Refused X.WrongFinished) (with_state (with_window h w) S.Closed)
  verified_in w s (Err F.Malformed) = refusing X.Malformed (with_window h w)

  not_right : Guarded h.state q → ((c : List ℕ) → Protected (keys_of h) d r c → ⊥) → (b : Bool) → genuine_in h r.byte r.number f ≡ b
      → genuine_in h r.byte r.number f ≡ false
  not_right g n true e = absurd (n (content_in h f) (right_protected (keys_of h) d r g.protection e))
  not_right g n false e = e

  finished_is : (c : List ℕ) (w : Window) → New h d r c w → r.content ≡ C.Handshake → (x : Result ⊤ Unverified) → judged_of c h.expected ≡ x
      → (s : State) → h.state ≡ s → judged_record h sent random d r ≡ verified_in w s x
  unfolding content_by verified_by
  finished_is c w n e x m s es =
      new_is c w n C.Handshake e ∙ ap (verified_to (with_window h w)) m ∙ stated x
    where
      stated : (y : Result ⊤ Unverified) → verified_to (with_window h w) y ≡ verified_in w s y
      stated (Ok tt) = ap (finished_in (with_window h w)) es
      stated (Err F.Wrong) = refl
      stated (Err F.Malformed) = refl

  pub row_is : {j : Judged} → Row h sent random d r j → judged_record h sent random d r ≡ j
  unfolding ruled_by changed_by
  row_is (row_ended o) = ruled_by_lem (over_rule r.byte r.number f r.start h.state r.content r.protected one refl o)
  row_is (row_not_allowed live none unreturned) = ruled_is ∙ not_allowed_is live none unreturned (rule_of h.state kind) holds
  row_is (row_returned x) =
      ruled_by_lem (open_rule r.byte r.number f r.start h.state r.content r.protected one refl x.is_open x.hello)
      ∙ first_is (resent_by h f) (refusing X.NotAllowed h) x.first ∙ is_back x.same
  row_is (row_reply plan g e) = greets_is g (Ok plan) e
  row_is (row_hello_malformed fault g e) = greets_is g (Err (H.Malformed fault)) e
  row_is (row_unacceptable condition g e) = greets_is g (Err (H.Unacceptable condition)) e
  row_is (row_resent s i z e) = heard_again s i z ∙ is_kept_lem e
  row_is (row_change s p c e) =
      ruled_by_lem (change_rule r.byte r.number f r.start h.state r.content r.protected one refl s p c)
      ∙ ap (λ b. pick b (judged W.Spec (with_state (with_window h (emptied h.protection.window)) S.Spec)) (refusing X.Malformed h)) e
  row_is (row_change_malformed s p c e) =
      ruled_by_lem (change_rule r.byte r.number f r.start h.state r.content r.protected one refl s p c)
      ∙ ap (λ b. pick b (judged W.Spec (with_state (with_window h (emptied h.protection.window)) S.Spec)) (refusing X.Malformed h)) e
  row_is (row_clear_malformed s p c e) = heard_as_lem s p c None e
  row_is (row_checksum a s p c e n) =
      heard_as_lem s p c (Some a) e
      ∙ ap (λ b. pick b (by_level h a.level a.description) (refusing X.Checksum h)) n
  row_is (row_clear_warning a s p c e k l) = heard_level a s p c e k L.Warning l
  row_is (row_clear_critical a s p c e k l) = heard_level a s p c e k L.Critical l
  row_is (row_clear_fatal a s p c e k l) = heard_level a s p c e k L.Fatal l
  row_is (row_forged g n) = forged_is g (not_right g n (genuine_in h r.byte r.number f) refl)
  row_is (row_old c g s e) = protected_is c g s (Err A.TooOld) e
  row_is (row_repeated c g s e) = protected_is c g s (Err A.Repeated) e
  row_is (row_malformed c w n m) = malformed_is c w n r.content refl m
  row_is (row_data c w n e m) = data_is c w n e m
  row_is (row_warning c w a n e m l) = alert_is c w a n e m L.Warning l
  row_is (row_critical c w a n e m l) = alert_is c w a n e m L.Critical l
  row_is (row_barred c w a n e m l) = alert_is c w a n e m L.Fatal l
  row_is (row_open c w n s e m) = finished_is c w n e (Ok tt) m S.Spec s
  row_is (row_again c w n s e m) = finished_is c w n e (Ok tt) m S.Open s
  row_is (row_wrong_finished c w n e m) = finished_is c w n e (Err F.Wrong) m h.state refl

pub table_holds : TableHolds
unfolding TableHolds
table_holds h sent random d r j = (λ e. subst (Row h sent random d r) e (row_of h sent random d r), row_is h sent random d r)
