-- A record that is no ClientHello first in its datagram: judged as a step, which sends nothing; and what it leaves of the connection.
use mathlib.Core.Path.{◌≡◌, refl, sym, ◌∙◌, ap, ap₂, subst}
use mathlib.Core.Bool.{Bool, true, false}
use mathlib.Core.List.{List}
use Prim.Native.Nat.{ℕ, ◌+◌}
use native.Mathlib.Omega.{arith}
use lib.ListN.{length, take, get_or}
use lib.Dec.{eqb}
use Rattle.digest.specs.Pick.{pick}
use Rattle.record.specs.Protection.{opened_by}
use Rattle.record.specs.declared.window.Window.{Window}
use Rattle.record.specs.declared.protection.Protection.{Protection}
use Rattle.record.specs.declared.protection.Unopened.TheVariants as O
use Rattle.record.specs.declared.keys.Sense.TheVariants.{FromUnit}
use Rattle.record.specs.declared.reader.Record.{Record}
use Rattle.message.specs.Alert.{alert_of}
use Rattle.message.specs.Change.{is_change}
use Rattle.message.specs.Finished.{judged_of}
use Rattle.message.specs.declared.alert.Level.{Level}
use Rattle.message.specs.declared.alert.Level.TheVariants as L
use Rattle.message.specs.declared.alert.Description.{Description}
use Rattle.message.specs.declared.finished.Unverified.TheVariants as F
use Rattle.connection.specs.State.{kind_of, rule_of}
use Rattle.connection.specs.Handshake.{with_window}
use Rattle.connection.specs.Connection.{connection_of}
use Rattle.connection.specs.Sent.{matches_of}
use Rattle.connection.specs.Answer.{reply_size}
use Rattle.connection.specs.Clear.{is_kept, changed_by, by_level, heard_by, heard_alert}
use Rattle.connection.specs.Protected.{finished_in, verified_to, verified_by, protected_level, alerted_to, alerted_by, content_by, opened_as, opened_record}
use Rattle.connection.specs.Judge.{ruled_by, fragment_of, kind_in, judged_record}
use Rattle.connection.specs.Asked.{under_way, right_under, is_spec, beside_to, hello_to, greeting_to, finished_to, open_to, whom_in, whom_of, asked_of}
use Rattle.connection.specs.Told.{sent_after, beside_open, started_to, left_with, is_beside, told_by, judged_in, told_record}
use Rattle.connection.specs.Step.{stepped_by, led_by, is_stay}
use Rattle.connection.specs.Later.{is_hello, ruled_else, judged_else, windowed_by}
use Rattle.connection.specs.declared.state.State.{State}
use Rattle.connection.specs.declared.state.State.TheVariants as S
use Rattle.connection.specs.declared.state.Kind.{Kind}
use Rattle.connection.specs.declared.state.Kind.TheVariants as K
use Rattle.connection.specs.declared.state.Rule.{Rule}
use Rattle.connection.specs.declared.state.Rule.TheVariants as T
use Rattle.connection.specs.declared.answer.Answer.{Answer}
use Rattle.connection.specs.declared.answer.Judged.{Judged}
use Rattle.connection.specs.declared.asked.Whom.{Whom}
use Rattle.connection.specs.declared.asked.Whom.TheVariants as A
use Rattle.connection.specs.declared.step.Move.{Move}
use Rattle.connection.specs.declared.step.Move.TheVariants as M
use Rattle.connection.specs.declared.step.Step.{Step}
use Rattle.connection.specs.declared.sent.SentRecords.{SentRecords}
use Rattle.connection.specs.declared.handshake.Kept.{Kept}
use Rattle.connection.specs.declared.handshake.Handshake.{Handshake}
use Rattle.connection.specs.declared.connection.Connection.{Connection}
use Rattle.connection.specs.declared.told.Told.{Told}
use Rattle.std.specs.Prelude.{Err, None, Ok, Option, Result, Some, ⊤}
use Rattle.message.specs.declared.alert.Alert.{Alert}
use Rattle.message.specs.declared.finished.Unverified.{Unverified}
use Rattle.record.specs.declared.protection.Unopened.{Unopened}

never : {P : Type 0} → ◌≡◌ {A = Bool} true false → P
never e = let z : ◌≡◌ {A = ℕ} 0 1 = cc in absurd (omega arith)

-- ---- such a record is judged by the other definition

-- by what it is: no ClientHello
other_ruled : (state : State) (kind : Kind) → is_hello kind ≡ false → (h : Handshake) (sent : SentRecords) (random : List ℕ) (r : Record) (f : List ℕ)
    → ruled_by h sent random (rule_of state kind) kind r f ≡ ruled_else h sent (rule_of state kind) kind r f
unfolding ruled_by ruled_else
other_ruled S.Idle K.ClearHello e h sent random r f = never e
other_ruled S.Idle K.ClearChange e h sent random r f = refl
other_ruled S.Idle K.ClearAlert e h sent random r f = refl
other_ruled S.Idle K.OtherClear e h sent random r f = refl
other_ruled S.Idle K.ProtectedChange e h sent random r f = refl
other_ruled S.Idle K.ProtectedAlert e h sent random r f = refl
other_ruled S.Idle K.ProtectedHandshake e h sent random r f = refl
other_ruled S.Idle K.ProtectedData e h sent random r f = refl
other_ruled S.Replied K.ClearHello e h sent random r f = never e
other_ruled S.Replied K.ClearChange e h sent random r f = refl
other_ruled S.Replied K.ClearAlert e h sent random r f = refl
other_ruled S.Replied K.OtherClear e h sent random r f = refl
other_ruled S.Replied K.ProtectedChange e h sent random r f = refl
other_ruled S.Replied K.ProtectedAlert e h sent random r f = refl
other_ruled S.Replied K.ProtectedHandshake e h sent random r f = refl
other_ruled S.Replied K.ProtectedData e h sent random r f = refl
other_ruled S.Spec K.ClearHello e h sent random r f = never e
other_ruled S.Spec K.ClearChange e h sent random r f = refl
other_ruled S.Spec K.ClearAlert e h sent random r f = refl
other_ruled S.Spec K.OtherClear e h sent random r f = refl
other_ruled S.Spec K.ProtectedChange e h sent random r f = refl
other_ruled S.Spec K.ProtectedAlert e h sent random r f = refl
other_ruled S.Spec K.ProtectedHandshake e h sent random r f = refl
other_ruled S.Spec K.ProtectedData e h sent random r f = refl
other_ruled S.Open K.ClearHello e h sent random r f = never e
other_ruled S.Open K.ClearChange e h sent random r f = refl
other_ruled S.Open K.ClearAlert e h sent random r f = refl
other_ruled S.Open K.OtherClear e h sent random r f = refl
other_ruled S.Open K.ProtectedChange e h sent random r f = refl
other_ruled S.Open K.ProtectedAlert e h sent random r f = refl
other_ruled S.Open K.ProtectedHandshake e h sent random r f = refl
other_ruled S.Open K.ProtectedData e h sent random r f = refl
other_ruled S.Closed kind e h sent random r f = refl
other_ruled S.Barred kind e h sent random r f = refl

-- by its place: not first
later_ruled : (rule : Rule) (kind : Kind) (h : Handshake) (sent : SentRecords) (random : List ℕ) (r : Record) (f : List ℕ) → eqb r.start 0 ≡ false
    → ruled_by h sent random rule kind r f ≡ ruled_else h sent rule kind r f
unfolding ruled_by ruled_else
later_ruled T.Ended kind h sent random r f e = refl
later_ruled T.NotAllowed kind h sent random r f e = refl
later_ruled T.Resend kind h sent random r f e = rw e refl
later_ruled T.Greet kind h sent random r f e = rw e refl
later_ruled T.GreetAgain kind h sent random r f e = rw e refl
later_ruled T.Change kind h sent random r f e = refl
later_ruled T.Hear kind h sent random r f e = refl
later_ruled T.OpenRecord kind h sent random r f e = refl

-- a record to which no new reply is made
abbrev pub Plain : List ℕ → List ℕ → Record → Type 0
Plain d random r = (h : Handshake) (sent : SentRecords) → judged_record h sent random d r ≡ judged_else h sent d r

pub other_plain : (d random : List ℕ) (r : Record) → is_hello (kind_in d r) ≡ false → Plain d random r
unfolding judged_record judged_else
other_plain d random r e h sent = other_ruled h.state (kind_in d r) e h sent random r (fragment_of d r)

pub later_plain : (d random : List ℕ) (r : Record) → eqb r.start 0 ≡ false → Plain d random r
unfolding judged_record judged_else
later_plain d random r e h sent = later_ruled (rule_of h.state (kind_in d r)) (kind_in d r) h sent random r (fragment_of d r) e

-- ---- nothing is sent to it

abbrev pub Still : Answer → Type 0
Still a = (reply_size a ≡ 0) × ((sent : SentRecords) (kept : Kept) → sent_after sent kept a ≡ sent)

still_pick : (b : Bool) (x y : Judged) → Still x.answer → Still y.answer → Still (pick b x y).answer
still_pick true x y p q = p
still_pick false x y p q = q

still_finished : (h : Handshake) (state : State) → Still (finished_in h state).answer
still_finished h S.Idle = (refl, λ s k. refl)
still_finished h S.Replied = (refl, λ s k. refl)
still_finished h S.Spec = (refl, λ s k. refl)
still_finished h S.Open = (refl, λ s k. refl)
still_finished h S.Closed = (refl, λ s k. refl)
still_finished h S.Barred = (refl, λ s k. refl)

still_verified : (h : Handshake) (x : Result ⊤ Unverified) → Still (verified_to h x).answer
still_verified h (Ok tt) = still_finished h h.state
still_verified h (Err F.Wrong) = (refl, λ s k. refl)
still_verified h (Err F.Malformed) = (refl, λ s k. refl)

still_level : (h : Handshake) (level : Level) (d : Description) → Still (protected_level h level d).answer
still_level h L.Warning d = (refl, λ s k. refl)
still_level h L.Critical d = (refl, λ s k. refl)
still_level h L.Fatal d = (refl, λ s k. refl)

still_alerted : (h : Handshake) (x : Option Alert) → Still (alerted_to h x).answer
still_alerted h None = (refl, λ s k. refl)
still_alerted h (Some a) = still_level h a.level a.description

still_content : (h : Handshake) (kind : Kind) (number at : ℕ) (content : List ℕ) → Still (content_by h kind number at content).answer
unfolding content_by alerted_by verified_by
still_content h K.ProtectedData number at content = still_pick (eqb (length content) 0) _ _ (refl, λ s k. refl) (refl, λ s k. refl)
still_content h K.ProtectedAlert number at content = still_alerted h (alert_of content)
still_content h K.ProtectedHandshake number at content = still_verified h (judged_of content h.expected)
still_content h K.ProtectedChange number at content = (refl, λ s k. refl)
still_content h K.ClearHello number at content = (refl, λ s k. refl)
still_content h K.ClearChange number at content = (refl, λ s k. refl)
still_content h K.ClearAlert number at content = (refl, λ s k. refl)
still_content h K.OtherClear number at content = (refl, λ s k. refl)

still_opened : (h : Handshake) (kind : Kind) (number at : ℕ) (f : List ℕ) (p : Protection) (x : Result ℕ Unopened) → Still (opened_as h kind number at f p x).answer
still_opened h kind number at f p (Err O.Forged) = (refl, λ s k. refl)
still_opened h kind number at f p (Err O.TooOld) = (refl, λ s k. refl)
still_opened h kind number at f p (Err O.Repeated) = (refl, λ s k. refl)
still_opened h kind number at f p (Ok size) = still_content _ kind number at (take size f)

still_clear_level : (h : Handshake) (level : Level) (d : Description) → Still (by_level h level d).answer
still_clear_level h L.Warning d = (refl, λ s k. refl)
still_clear_level h L.Critical d = (refl, λ s k. refl)
still_clear_level h L.Fatal d = (refl, λ s k. refl)

still_heard : (h : Handshake) (sent : SentRecords) (x : Option Alert) → Still (heard_by h sent x).answer
still_heard h sent None = (refl, λ s k. refl)
still_heard h sent (Some a) = still_pick (matches_of sent a.checksum) _ _ (still_clear_level h a.level a.description) (refl, λ s k. refl)

still_ruled : (h : Handshake) (sent : SentRecords) (rule : Rule) (kind : Kind) (r : Record) (f : List ℕ) → Still (ruled_else h sent rule kind r f).answer
unfolding ruled_else changed_by heard_alert opened_record
still_ruled h sent T.Ended kind r f = (refl, λ s k. refl)
still_ruled h sent T.NotAllowed kind r f = (refl, λ s k. refl)
still_ruled h sent T.Resend kind r f = (refl, λ s k. refl)
still_ruled h sent T.Greet kind r f = (refl, λ s k. refl)
still_ruled h sent T.GreetAgain kind r f = (refl, λ s k. refl)
still_ruled h sent T.Change kind r f = still_pick (is_change f) _ _ (refl, λ s k. refl) (refl, λ s k. refl)
still_ruled h sent T.Hear kind r f = still_heard h sent (alert_of f)
still_ruled h sent T.OpenRecord kind r f =
    still_opened h kind r.number (r.start + r.head) f (opened_by h.protection FromUnit r.number r.byte f).protection (opened_by h.protection FromUnit r.number r.byte f).opened

pub still : (h : Handshake) (sent : SentRecords) (d : List ℕ) (r : Record) → Still (judged_else h sent d r).answer
unfolding judged_else
still h sent d r = still_ruled h sent (rule_of h.state (kind_in d r)) (kind_in d r) r (fragment_of d r)

-- ---- where the state of whoever was asked stays, only a window changes

abbrev Windowed : Connection → Window → Whom → Type 0
Windowed c w whom = left_with c (with_window (asked_of c whom) w) c.sent whom ≡ windowed_by c whom w

windowed_pick : (c : Connection) (w : Window) (b : Bool) (x y : Whom) → (b ≡ true → Windowed c w x) → (b ≡ false → Windowed c w y) → Windowed c w (pick b x y)
windowed_pick c w true x y p q = p refl
windowed_pick c w false x y p q = q refl

windowed_open : (c : Connection) (w : Window) → c.handshake.state ≡ S.Open → Windowed c w A.Open
windowed_open c w e = ap (λ s. connection_of (with_window c.handshake w) (beside_open c.started s) c.sent) e

windowed_started : (c : Connection) (w : Window) → under_way c.started.state ≡ true → Windowed c w A.Started
windowed_started c w u = go c.started.state refl u
  where
    go : (s : State) → c.started.state ≡ s → under_way s ≡ true
        → started_to c (with_window c.started w) c.sent s ≡ windowed_by c A.Started w
    go S.Idle e v = never (sym v)
    go S.Replied e v = refl
    go S.Spec e v = refl
    go S.Open e v = never (sym v)
    go S.Closed e v = never (sym v)
    go S.Barred e v = never (sym v)

windowed_beside : (c : Connection) (w : Window) → Windowed c w (beside_to c)
windowed_beside c w = windowed_pick c w (under_way c.started.state) A.Started A.Newcomer (windowed_started c w) (λ z. refl)

windowed_hello : (c : Connection) (w : Window) (m : List ℕ) → c.handshake.state ≡ S.Open → Windowed c w (hello_to c m)
windowed_hello c w m e = windowed_pick c w (is_kept c.handshake.kept m) A.Open A.Newcomer (λ z. windowed_open c w e) (λ z. refl)

windowed_greeting : (c : Connection) (w : Window) (m : List ℕ) → c.handshake.state ≡ S.Open → Windowed c w (greeting_to c m)
windowed_greeting c w m e =
    windowed_pick c w (under_way c.started.state) (pick (is_kept c.started.kept m) A.Started (hello_to c m)) (hello_to c m)
    (λ u. windowed_pick c w (is_kept c.started.kept m) A.Started (hello_to c m) (λ z. windowed_started c w u) (λ z. windowed_hello c w m e))
    (λ z. windowed_hello c w m e)

spec_under_way : (s : State) → is_spec s ≡ true → under_way s ≡ true
spec_under_way S.Idle e = never (sym e)
spec_under_way S.Replied e = never (sym e)
spec_under_way S.Spec e = refl
spec_under_way S.Open e = never (sym e)
spec_under_way S.Closed e = never (sym e)
spec_under_way S.Barred e = never (sym e)

windowed_finished : (c : Connection) (w : Window) (r : Record) (f : List ℕ) → c.handshake.state ≡ S.Open → Windowed c w (finished_to c r f)
windowed_finished c w r f e =
    windowed_pick c w (is_spec c.started.state) (pick (right_under c.started r f) A.Started A.Open) A.Open
    (λ u. windowed_pick c w (right_under c.started r f) A.Started A.Open (λ z. windowed_started c w (spec_under_way c.started.state u)) (λ z. windowed_open c w e))
    (λ z. windowed_open c w e)

windowed_in_open : (c : Connection) (w : Window) (r : Record) (f : List ℕ) (kind : Kind) → c.handshake.state ≡ S.Open → Windowed c w (open_to c r f kind)
windowed_in_open c w r f K.ClearHello e =
    windowed_pick c w (eqb r.start 0) (greeting_to c f) (beside_to c) (λ z. windowed_greeting c w f e) (λ z. windowed_beside c w)
windowed_in_open c w r f K.ClearChange e = windowed_beside c w
windowed_in_open c w r f K.ClearAlert e = windowed_beside c w
windowed_in_open c w r f K.OtherClear e = windowed_beside c w
windowed_in_open c w r f K.ProtectedChange e = windowed_open c w e
windowed_in_open c w r f K.ProtectedAlert e = windowed_open c w e
windowed_in_open c w r f K.ProtectedHandshake e = windowed_finished c w r f e
windowed_in_open c w r f K.ProtectedData e = windowed_open c w e

windowed : (c : Connection) (d : List ℕ) (r : Record) (w : Window) → Windowed c w (whom_of c d r)
unfolding whom_of
windowed c d r w = go c.handshake.state refl
  where
    go : (s : State) → c.handshake.state ≡ s → Windowed c w (whom_in c d r s)
    go S.Idle e = refl
    go S.Replied e = refl
    go S.Spec e = refl
    go S.Open e = windowed_in_open c w r (fragment_of d r) (kind_in d r) e
    go S.Closed e = refl
    go S.Barred e = refl

-- ---- the connection after a step

module _ (c : Connection) (random d : List ℕ) (r : Record) (whom : Whom) (h : Handshake) (s : Step) (ew : whom ≡ whom_of c d r)
    (eh : h ≡ asked_of c whom) (es : stepped_by h s ≡ judged_else h c.sent d r) (plain : Plain d random r) where
  judged_is : stepped_by h s ≡ judged_in c random d r
  unfolding judged_in
  judged_is = es ∙ sym (plain h c.sent) ∙ ap (λ x. judged_record x c.sent random d r) (eh ∙ ap (asked_of c) ew)

  nothing_sent : Still s.answer
  nothing_sent = subst (λ (j : Judged). Still j.answer) (sym es) (still h c.sent d r)

  pub told_step : ◌≡◌ {A = Told} (record {
    answer = s.answer;
    connection = left_with c (led_by h s.window s.next) c.sent whom;
    beside = is_beside whom;
  }) (told_record c random d r)
  unfolding told_record
  told_step =
      let led = led_by h s.window s.next in
      let sent : ◌≡◌ {A = Told} (record { answer = s.answer; connection = left_with c led c.sent whom; beside = is_beside whom }) (told_by c whom (stepped_by h s))
      = λ i. record { answer = s.answer; connection = left_with c led (sym (nothing_sent.1 c.sent led.kept) i) whom; beside = is_beside whom } in
      sent ∙ ap₂ (told_by c) ew judged_is

  -- it sends nothing
  pub step_still : reply_size s.answer ≡ 0
  step_still = nothing_sent.0

-- the state stays
pub stayed : (c : Connection) (d : List ℕ) (r : Record) (whom : Whom) (h : Handshake) (s : Step) → whom ≡ whom_of c d r → h ≡ asked_of c whom → s.next ≡ M.Stay
    → windowed_by c whom s.window ≡ left_with c (led_by h s.window s.next) c.sent whom
stayed c d r whom h s ew eh e =
    ap (λ x. windowed_by c x s.window) ew
    ∙ sym (windowed c d r s.window)
    ∙ ap (λ x. left_with c (with_window (asked_of c x) s.window) c.sent x) (sym ew)
    ∙ ap (λ x. left_with c (with_window x s.window) c.sent whom) (sym eh)
    ∙ ap (λ n. left_with c (led_by h s.window n) c.sent whom) (sym e)

-- what says that a step stays
pub is_stay_lem : (next : Move) → is_stay next ≡ true → next ≡ M.Stay
is_stay_lem M.Stay e = refl
is_stay_lem M.Change e = never (sym e)
is_stay_lem M.Open e = never (sym e)
is_stay_lem M.Close e = never (sym e)
is_stay_lem M.Bar e = never (sym e)

-- the step of a record, from what its fragment is
pub else_as : (h : Handshake) (sent : SentRecords) (d : List ℕ) (r : Record) (f : List ℕ) (kind : Kind) (rule : Rule) (s : Step)
    → f ≡ fragment_of d r → kind ≡ kind_of r.content r.protected (get_or f 0 0) → rule ≡ rule_of h.state kind
    → stepped_by h s ≡ ruled_else h sent rule kind r f → stepped_by h s ≡ judged_else h sent d r
unfolding judged_else
else_as h sent d r f kind rule s ef ek er es =
    let kind-is : kind ≡ kind_in d r = ek ∙ ap (λ x. kind_of r.content r.protected (get_or x 0 0)) ef in
    let rule-is : rule ≡ rule_of h.state (kind_in d r) = er ∙ ap (rule_of h.state) kind-is in
    es ∙ (λ i. ruled_else h sent (rule-is i) (kind-is i) r (ef i))
