-- Lives. The idea: each act leaves of both handshakes what one event more of one life leaves; a newcomer is a fresh handshake, since
-- an open one has the planted session and the width that was given to fresh (`Kept`).
use mathlib.Core.Path.{◌≡◌, refl, sym, ◌∙◌, ap, ap₂, subst}
use mathlib.Core.Logic.{◌⊎◌, inl, inr, ◌≢◌}
use mathlib.Core.Bool.{Bool, true, false}
use mathlib.Core.List.{List, [], ◌∷◌}
use Prim.Native.Nat.{ℕ}
use native.Mathlib.Omega.{arith}
use lib.ListN.{length}
use lib.Dec.{ltb}
use Rattle.digest.specs.Pick.{pick}
use Rattle.record.specs.Window.{Held}
use Rattle.record.specs.declared.header.Content.TheVariants as C
use Rattle.record.specs.declared.reader.Record.{Record}
use Rattle.message.specs.Alert.{level_of, sorted_of}
use Rattle.connection.specs.Calls.{session_of, closed_in, started_in}
use Rattle.connection.specs.Connection.{connection_of, alone}
use Rattle.connection.specs.Handshake.{none_started, newcomer_to, new_handshake}
use Rattle.connection.specs.Asked.{under_way, whom_of, asked_of}
use Rattle.connection.specs.Judge.{judged_record}
use Rattle.connection.specs.Told.{beside_open, started_to, left_by, told_record, judged_in}
use Rattle.connection.specs.Send.{next_protected, next_clear, after_send, after_clear, clear_sender, clear_back, sent_to, done, data_sent, data_outcome, alert_sent, alert_sent_as, alert_outcome, alert_body, alert_refused, next_alert}
use Rattle.connection.specs.Sent.{with_record, sum_of}
use Rattle.connection.specs.Reply.{answered_with}
use Rattle.connection.specs.declared.sent.SentRecords.{SentRecords}
use Rattle.connection.specs.declared.state.State.{State}
use Rattle.connection.specs.declared.state.State.TheVariants as S
use Rattle.connection.specs.declared.asked.Whom.{Whom}
use Rattle.connection.specs.declared.asked.Whom.TheVariants as A
use Rattle.connection.specs.declared.answer.Judged.{Judged}
use Rattle.connection.specs.declared.refusal.Refusal.TheVariants as X
use Rattle.connection.specs.declared.send.Sent.{Sent}
use Rattle.connection.specs.declared.handshake.Handshake.{Handshake}
use Rattle.connection.specs.declared.connection.Connection.{Connection}
use Rattle.demands.specs.Runs.{fresh_with, fresh_one}
use Rattle.demands.specs.Table.{Hears, Row}
use Rattle.demands.specs.Table.{row_ended, row_returned, row_not_allowed, row_reply, row_hello_malformed, row_unacceptable, row_resent, row_change, row_change_malformed, row_clear_malformed, row_checksum, row_clear_warning, row_clear_critical, row_clear_fatal, row_forged, row_old, row_repeated, row_malformed, row_data, row_warning, row_critical, row_barred, row_open, row_again, row_wrong_finished}
use Rattle.demands.specs.Asked.{Asks, asks_only, asks_its_hello, asks_open_hello, asks_new_hello, asks_clear, asks_clear_alone, asks_right, asks_protected, sent_with}
use Rattle.demands.specs.Events.{Event, took, sending, alerting, closing, starting, Sound, AllSound, next, after, history}
use Rattle.demands.specs.Acts.{Act, comes, sends, alerts, closes, starts, SoundAct, SoundActs, event_of, leaves, behind}
use Rattle.demands.specs.Past.{is_data}
use Rattle.demands.specs.Kept.{KeptAs}
use Rattle.demands.specs.Lives.{Lives, no_lives, more, open_lives, started_lives, new_lives, told_lives, more_beside, clear_lives, lives_at, lives_of, beside_of, Lived, LivesHold, LivesSound, life_of, AnswersByLives, OnlyAfterFinishedOfOpen}
use Rattle.demands.proofs.Genuine.{true_false}
use Rattle.demands.proofs.States.{ended}
use Rattle.demands.proofs.Asked.{way_hears, idle_never, asks_of, told_by_lem}
use Rattle.demands.proofs.First.{started_hears}
use Rattle.demands.proofs.Table.{row_of}
use Rattle.demands.proofs.Kept.{live, kept_all, kept_fresh}
use Rattle.demands.proofs.Finished.{data_open, progress_all, progress_fresh}
use Rattle.std.specs.Prelude.{Err, None, Ok, Option, Result, Some, ⊤}
use Rattle.connection.specs.declared.refusal.Refusal.{Refusal}
use Rattle.message.specs.declared.alert.Description.{Description}
use Rattle.message.specs.declared.alert.Level.{Level}

-- ---- one event more

pub after_more : (h : Handshake) (es : List Event) (e : Event) → after h (more es e) ≡ next (after h es) e
unfolding after
after_more h [] e = refl
after_more h (x ∷ es) e = after_more (next h x) es e

beside_more : (h : Handshake) (es : List Event) (e : Event) → beside_of h (more es e) ≡ after h (more es e)
beside_more h [] e = refl
beside_more h (x ∷ es) e = refl

-- ---- who is asked

module _ (c : Connection) (d : List ℕ) (r : Record) where
  pub only_asked : {w : Whom} → Asks c d r w → w ≡ A.Only → c.handshake.state ≢ S.Open
  only_asked (asks_only n) e = n
  only_asked (asks_its_hello o i z s k) e = let y : ◌≡◌ {A = ℕ} 0 1 = cc in absurd (omega arith)
  only_asked (asks_open_hello o i z n k) e = let y : ◌≡◌ {A = ℕ} 0 1 = cc in absurd (omega arith)
  only_asked (asks_new_hello o i z n k) e = let y : ◌≡◌ {A = ℕ} 0 1 = cc in absurd (omega arith)
  only_asked (asks_clear o p n s) e = let y : ◌≡◌ {A = ℕ} 0 1 = cc in absurd (omega arith)
  only_asked (asks_clear_alone o p n s) e = let y : ◌≡◌ {A = ℕ} 0 1 = cc in absurd (omega arith)
  only_asked (asks_right q) e = let y : ◌≡◌ {A = ℕ} 0 1 = cc in absurd (omega arith)
  only_asked (asks_protected o p n) e = let y : ◌≡◌ {A = ℕ} 0 1 = cc in absurd (omega arith)

  pub open_asked : {w : Whom} → Asks c d r w → (w ≡ A.Only → ⊥) → c.handshake.state ≡ S.Open
  open_asked (asks_only n) e = absurd (e refl)
  open_asked (asks_its_hello o i z s k) e = o
  open_asked (asks_open_hello o i z n k) e = o
  open_asked (asks_new_hello o i z n k) e = o
  open_asked (asks_clear o p n s) e = o
  open_asked (asks_clear_alone o p n s) e = o
  open_asked (asks_right q) e = q.is_open
  open_asked (asks_protected o p n) e = o

pub hears_not_open : (s : State) → Hears s → s ≢ S.Open
hears_not_open s (inl e) z = let y : S.Replied ≡ S.Open = sym e ∙ z in let w : ◌≡◌ {A = ℕ} 0 1 = cc in omega arith
hears_not_open s (inr e) z = let y : S.Spec ≡ S.Open = sym e ∙ z in let w : ◌≡◌ {A = ℕ} 0 1 = cc in omega arith

idle_hears_not : {P : Type 0} → Hears S.Idle → P
idle_hears_not (inl e) = let z : ◌≡◌ {A = ℕ} 0 1 = cc in absurd (omega arith)
idle_hears_not (inr e) = let z : ◌≡◌ {A = ℕ} 0 1 = cc in absurd (omega arith)

-- ---- a handshake that is under way stays so, or opens or ends: no row leads back to Idle

abbrev idle_is : State → Bool
idle_is S.Idle = true
idle_is S.Replied = false
idle_is S.Spec = false
idle_is S.Open = false
idle_is S.Closed = false
idle_is S.Barred = false

hears_on : (s : State) → Hears s → idle_is s ≡ false
hears_on s (inl e) = ap idle_is e
hears_on s (inr e) = ap idle_is e

goes_on : (h : Handshake) (sent : SentRecords) (random d : List ℕ) (r : Record) {j : Judged} → Row h sent random d r j → idle_is h.state ≡ false
    → idle_is j.handshake.state ≡ false
unfolding answered_with
goes_on h sent random d r (row_ended o) e = e
goes_on h sent random d r (row_not_allowed o a n) e = e
goes_on h sent random d r (row_reply plan g x) e = refl
goes_on h sent random d r (row_hello_malformed fault g x) e = e
goes_on h sent random d r (row_unacceptable condition g x) e = e
goes_on h sent random d r (row_resent s i z x) e = e
goes_on h sent random d r (row_returned x) e = e
goes_on h sent random d r (row_change s p c x) e = refl
goes_on h sent random d r (row_change_malformed s p c x) e = e
goes_on h sent random d r (row_clear_malformed s p c x) e = e
goes_on h sent random d r (row_checksum a s p c x n) e = e
goes_on h sent random d r (row_clear_warning a s p c x k l) e = e
goes_on h sent random d r (row_clear_critical a s p c x k l) e = refl
goes_on h sent random d r (row_clear_fatal a s p c x k l) e = refl
goes_on h sent random d r (row_forged g n) e = e
goes_on h sent random d r (row_old c g s x) e = e
goes_on h sent random d r (row_repeated c g s x) e = e
goes_on h sent random d r (row_malformed c w n m) e = e
goes_on h sent random d r (row_data c w n x m) e = e
goes_on h sent random d r (row_warning c w a n x m l) e = e
goes_on h sent random d r (row_critical c w a n x m l) e = refl
goes_on h sent random d r (row_barred c w a n x m l) e = refl
goes_on h sent random d r (row_open c w n s x m) e = refl
goes_on h sent random d r (row_again c w n s x m) e = e
goes_on h sent random d r (row_wrong_finished c w n x m) e = refl

-- ---- sends

module _ (c : Connection) (bytes : List ℕ) (room : ℕ) where
  abbrev from_open : Connection → Result ⊤ Refusal → Connection
  from_open x o = (sent_to x (done (next_protected c.handshake C.Data bytes) (after_send true x (next_protected c.handshake C.Data bytes))) o).connection

  data_by : (o : Result ⊤ Refusal) → ((from_open c o).handshake ≡ (from_open (alone c.handshake) o).handshake) × ((from_open c o).started ≡ c.started)
      × ((from_open c o).handshake.state ≡ c.handshake.state)
  data_by (Ok tt) = (refl, refl, refl)
  data_by (Err x) = (refl, refl, refl)

  pub data_left : ((data_sent c bytes room).connection.handshake ≡ (data_sent (alone c.handshake) bytes room).connection.handshake)
      × ((data_sent c bytes room).connection.started ≡ c.started) × ((data_sent c bytes room).connection.handshake.state ≡ c.handshake.state)
  unfolding data_sent
  data_left = data_by (data_outcome c.handshake (length bytes) room)

module _ (c : Connection) (lent : List ℕ) (room : ℕ) where
  abbrev protected_from : Connection → List ℕ → Result ⊤ Refusal → Connection
  protected_from x b o = (sent_to x (done b (after_send true x b)) o).connection

  protected_by_lem : (b : List ℕ) (o : Result ⊤ Refusal) → ((protected_from c b o).handshake ≡ (protected_from (alone c.handshake) b o).handshake)
      × ((protected_from c b o).started ≡ c.started) × ((protected_from c b o).handshake.state ≡ c.handshake.state)
  protected_by_lem b (Ok tt) = (refl, refl, refl)
  protected_by_lem b (Err x) = (refl, refl, refl)

  pub protected_left : (g : Option Level) (s : Option Description)
      → ((alert_sent_as c true lent room g s).connection.handshake ≡ (alert_sent_as (alone c.handshake) true lent room g s).connection.handshake)
      × ((alert_sent_as c true lent room g s).connection.started ≡ c.started)
      × ((alert_sent_as c true lent room g s).connection.handshake.state ≡ c.handshake.state)
  protected_left (Some l) (Some k) =
      protected_by_lem (next_alert true c.handshake (alert_body l k lent)) (alert_outcome true c.handshake (length lent) room)
  protected_left (Some l) None = (refl, refl, refl)
  protected_left None (Some k) = (refl, refl, refl)
  protected_left None None = (refl, refl, refl)

  -- clear alerts, by the state of the open handshake
  abbrev clear_from : Connection → State → List ℕ → Connection
  clear_from x s body =
      (sent_to x (done (next_clear (clear_sender x s) body) (clear_back x (after_clear (clear_sender x s)) (with_record x.sent (sum_of (next_clear (clear_sender x s) body))) s))
      (alert_outcome false (clear_sender x s) (length lent) room)).connection

  abbrev open_from : List ℕ → Connection → Result ⊤ Refusal → Connection
  open_from body x o =
      (sent_to x (done (next_clear c.handshake body) (connection_of (after_clear c.handshake) x.started (with_record x.sent (sum_of (next_clear c.handshake body))))) o).connection

  open_from_lem : (body : List ℕ) (o : Result ⊤ Refusal) → ((open_from body c o).handshake ≡ (open_from body (alone c.handshake) o).handshake)
      × ((open_from body c o).started ≡ c.started) × ((open_from body c o).handshake.state ≡ c.handshake.state)
  open_from_lem body (Ok tt) = (refl, refl, refl)
  open_from_lem body (Err x) = (refl, refl, refl)

  clear_on_lem : (s : State) (body : List ℕ) → (s ≡ S.Open → ⊥)
      → ((clear_from c s body).handshake ≡ (clear_from (alone c.handshake) s body).handshake) × ((clear_from c s body).started ≡ c.started)
      × ((clear_from c s body).handshake.state ≡ c.handshake.state)
  clear_on_lem S.Idle body n = open_from_lem body (alert_outcome false c.handshake (length lent) room)
  clear_on_lem S.Replied body n = open_from_lem body (alert_outcome false c.handshake (length lent) room)
  clear_on_lem S.Spec body n = open_from_lem body (alert_outcome false c.handshake (length lent) room)
  clear_on_lem S.Open body n = absurd (n refl)
  clear_on_lem S.Closed body n = open_from_lem body (alert_outcome false c.handshake (length lent) room)
  clear_on_lem S.Barred body n = open_from_lem body (alert_outcome false c.handshake (length lent) room)

  abbrev there_from : List ℕ → Result ⊤ Refusal → Connection
  there_from body o =
      (sent_to c (done (next_clear c.started body) (connection_of c.handshake (after_clear c.started) (with_record c.sent (sum_of (next_clear c.started body))))) o).connection

  abbrev itself_from : List ℕ → Result ⊤ Refusal → Connection
  itself_from body o =
      (sent_to (alone c.started) (done (next_clear c.started body) (connection_of (after_clear c.started) none_started (with_record (alone c.started).sent (sum_of (next_clear c.started body))))) o).connection

  there_from_lem : (body : List ℕ) (o : Result ⊤ Refusal) → ((there_from body o).started ≡ (itself_from body o).handshake) × ((there_from body o).handshake ≡ c.handshake)
      × ((there_from body o).started.state ≡ c.started.state)
  there_from_lem body (Ok tt) = (refl, refl, refl)
  there_from_lem body (Err x) = (refl, refl, refl)

  clear_beside : (s : State) (body : List ℕ) → (s ≡ S.Open → ⊥)
      → ((clear_from c S.Open body).started ≡ (clear_from (alone c.started) s body).handshake) × ((clear_from c S.Open body).handshake ≡ c.handshake)
      × ((clear_from c S.Open body).started.state ≡ c.started.state)
  clear_beside S.Idle body n = there_from_lem body (alert_outcome false c.started (length lent) room)
  clear_beside S.Replied body n = there_from_lem body (alert_outcome false c.started (length lent) room)
  clear_beside S.Spec body n = there_from_lem body (alert_outcome false c.started (length lent) room)
  clear_beside S.Open body n = absurd (n refl)
  clear_beside S.Closed body n = there_from_lem body (alert_outcome false c.started (length lent) room)
  clear_beside S.Barred body n = there_from_lem body (alert_outcome false c.started (length lent) room)

  pub clear_left : (g : Option Level) (s : Option Description) → c.handshake.state ≢ S.Open
      → ((alert_sent_as c false lent room g s).connection.handshake ≡ (alert_sent_as (alone c.handshake) false lent room g s).connection.handshake)
      × ((alert_sent_as c false lent room g s).connection.started ≡ c.started)
      × ((alert_sent_as c false lent room g s).connection.handshake.state ≡ c.handshake.state)
  clear_left (Some l) (Some k) n = clear_on_lem c.handshake.state (alert_body l k lent) n
  clear_left (Some l) None n = (refl, refl, refl)
  clear_left None (Some k) n = (refl, refl, refl)
  clear_left None None n = (refl, refl, refl)

  pub clear_left_beside : (g : Option Level) (s : Option Description) → c.handshake.state ≡ S.Open → c.started.state ≢ S.Open
      → ((alert_sent_as c false lent room g s).connection.started ≡ (alert_sent_as (alone c.started) false lent room g s).connection.handshake)
      × ((alert_sent_as c false lent room g s).connection.handshake ≡ c.handshake)
      × ((alert_sent_as c false lent room g s).connection.started.state ≡ c.started.state)
  clear_left_beside (Some l) (Some k) o n =
      let q = clear_beside c.started.state (alert_body l k lent) n in
      let e = ap (λ s. clear_from c s (alert_body l k lent)) o in
      (ap (λ x. x.started) e ∙ q.0, ap (λ x. x.handshake) e ∙ q.1, ap (λ x. x.started.state) e ∙ q.2)
  clear_left_beside (Some l) None o n = (refl, refl, refl)
  clear_left_beside None (Some k) o n = (refl, refl, refl)
  clear_left_beside None None o n = (refl, refl, refl)

-- in Open a clear alert leaves the open handshake alone
module _ (c : Connection) (o : c.handshake.state ≡ S.Open) (lent : List ℕ) (room : ℕ) where
  clear_kept_by : (body : List ℕ) (out : Result ⊤ Refusal)
      → (sent_to c (done (next_clear c.started body) (connection_of c.handshake (after_clear c.started) (with_record c.sent (sum_of (next_clear c.started body))))) out).connection.handshake
      ≡ c.handshake
  clear_kept_by body (Ok tt) = refl
  clear_kept_by body (Err x) = refl

  clear_kept_words : (g : Option Level) (s : Option Description) → (alert_sent_as c false lent room g s).connection.handshake ≡ c.handshake
  clear_kept_words (Some l) (Some k) =
      ap (λ s. (clear_from c lent room c s (alert_body l k lent)).handshake) o ∙ clear_kept_by (alert_body l k lent) (alert_outcome false c.started (length lent) room)
  clear_kept_words (Some l) None = refl
  clear_kept_words None (Some k) = refl
  clear_kept_words None None = refl

pub clear_kept : (c : Connection) → c.handshake.state ≡ S.Open → (level description : ℕ) (lent : List ℕ) (room : ℕ)
    → (alert_sent c false level description lent room).connection.handshake ≡ c.handshake
unfolding alert_sent
clear_kept c o level description lent room = clear_kept_words c o lent room (level_of level) (sorted_of description)

-- what is no record leaves of the open handshake, or the only one, what it leaves of that handshake alone
abbrev pub NoRecord : Act → Type 0
NoRecord (comes random d r) = ⊥
NoRecord (sends bytes out) = Unit
NoRecord (alerts protected level description lent out) = Unit
NoRecord closes = Unit
NoRecord starts = Unit

clear_next : (c : Connection) (level description : ℕ) (lent out : List ℕ) (s : State) → c.handshake.state ≡ s
    → (leaves c (alerts false level description lent out)).handshake ≡ next c.handshake (alerting false level description lent out)
unfolding alert_sent
clear_next c level description lent out S.Idle e =
    (clear_left c lent (length out) (level_of level) (sorted_of description) (λ z. let y : S.Idle ≡ S.Open = sym e ∙ z in let w : ◌≡◌ {A = ℕ} 0 1 = cc in omega arith)).0
clear_next c level description lent out S.Replied e =
    (clear_left c lent (length out) (level_of level) (sorted_of description) (λ z. let y : S.Replied ≡ S.Open = sym e ∙ z in let w : ◌≡◌ {A = ℕ} 0 1 = cc in omega arith)).0
clear_next c level description lent out S.Spec e =
    (clear_left c lent (length out) (level_of level) (sorted_of description) (λ z. let y : S.Spec ≡ S.Open = sym e ∙ z in let w : ◌≡◌ {A = ℕ} 0 1 = cc in omega arith)).0
clear_next c level description lent out S.Open e =
    clear_kept c e level description lent (length out) ∙ sym (clear_kept (alone c.handshake) e level description lent (length out))
clear_next c level description lent out S.Closed e =
    (clear_left c lent (length out) (level_of level) (sorted_of description) (λ z. let y : S.Closed ≡ S.Open = sym e ∙ z in let w : ◌≡◌ {A = ℕ} 0 1 = cc in omega arith)).0
clear_next c level description lent out S.Barred e =
    (clear_left c lent (length out) (level_of level) (sorted_of description) (λ z. let y : S.Barred ≡ S.Open = sym e ∙ z in let w : ◌≡◌ {A = ℕ} 0 1 = cc in omega arith)).0

closed_next : (c : Connection) (s : State) → (closed_in c s).connection.handshake ≡ (closed_in (alone c.handshake) s).connection.handshake
closed_next c S.Idle = refl
closed_next c S.Replied = refl
closed_next c S.Spec = refl
closed_next c S.Open = refl
closed_next c S.Closed = refl
closed_next c S.Barred = refl

started_next : (c : Connection) (s : State) → (started_in c s).connection.handshake ≡ (started_in (alone c.handshake) s).connection.handshake
started_next c S.Idle = refl
started_next c S.Replied = refl
started_next c S.Spec = refl
started_next c S.Open = refl
started_next c S.Closed = refl
started_next c S.Barred = refl

pub act_next : (c : Connection) (a : Act) → NoRecord a → (leaves c a).handshake ≡ next c.handshake (event_of a)
unfolding alert_sent
act_next c (comes random d r) n = absurd n
act_next c (sends bytes out) n = (data_left c bytes (length out)).0
act_next c (alerts true level description lent out) n = (protected_left c lent (length out) (level_of level) (sorted_of description)).0
act_next c (alerts false level description lent out) n = clear_next c level description lent out c.handshake.state refl
act_next c closes n = closed_next c c.handshake.state
act_next c starts n = started_next c c.handshake.state

-- none is started: a clear alert is refused
idle_refused : (b : Bool) (x : Sent) → (sent_to (alone none_started) x (pick b (Err X.Argument) (Err X.NotAllowed))).connection.handshake ≡ none_started
idle_refused true x = refl
idle_refused false x = refl

none_words : (lent : List ℕ) (room : ℕ) (g : Option Level) (s : Option Description) → (alert_sent_as (alone none_started) false lent room g s).connection.handshake ≡ none_started
unfolding alert_refused
none_words lent room (Some l) (Some k) =
    idle_refused (ltb 1400 (length lent)) (done (next_clear none_started (alert_body l k lent)) (after_send false (alone none_started) (next_clear none_started (alert_body l k lent))))
none_words lent room (Some l) None = refl
none_words lent room None (Some k) = refl
none_words lent room None None = refl

none_next : (level description : ℕ) (lent out : List ℕ) → next none_started (alerting false level description lent out) ≡ none_started
unfolding alert_sent
none_next level description lent out = none_words lent (length out) (level_of level) (sorted_of description)

-- data is answered only by an open handshake

module _ (c : Connection) (random d : List ℕ) (r : Record) where
  data_state_lem : (w : Whom) → whom_of c d r ≡ w → is_data (told_record c random d r).answer ≡ true → (asked_of c w).state ≡ S.Open
  data_state_lem w e z =
      data_open (asked_of c w) c.sent random d r (row_of (asked_of c w) c.sent random d r)
      (sym (ap (λ t. is_data t.answer) (told_by_lem c random d r w e)) ∙ z)

  -- and the answer is that of the open one
  data_by_whom : (w : Whom) → whom_of c d r ≡ w → is_data (told_record c random d r).answer ≡ true
      → (c.handshake.state ≡ S.Open) × ((told_record c random d r).answer ≡ (judged_record c.handshake c.sent random d r).answer)
  data_by_whom A.Only e z = (data_state_lem A.Only e z, ap (λ t. t.answer) (told_by_lem c random d r A.Only e))
  data_by_whom A.Open e z = (data_state_lem A.Open e z, ap (λ t. t.answer) (told_by_lem c random d r A.Open e))
  data_by_whom A.Started e z =
      absurd (hears_not_open c.started.state (started_hears c random d r (subst (Asks c d r) e (asks_of c d r)) refl) (data_state_lem A.Started e z))
  data_by_whom A.Newcomer e z = absurd (idle_never (data_state_lem A.Newcomer e z))

  pub data_asked : is_data (told_record c random d r).answer ≡ true
      → (c.handshake.state ≡ S.Open) × ((told_record c random d r).answer ≡ (judged_record c.handshake c.sent random d r).answer)
  data_asked = data_by_whom (whom_of c d r) refl

-- ---- one act more

module _ (id secret : List ℕ) (width : ℕ) (held : Held width) where
  abbrev fresh : Handshake
  fresh = fresh_with id secret width

  -- the open handshake has the planted session and the width that was given
  pub newcomer_fresh : (es : List Event) → (after fresh es).state ≡ S.Open → newcomer_to (after fresh es) ≡ fresh
  newcomer_fresh es o =
      let k : KeptAs (session_of id secret) width (history fresh es []) (after fresh es) = kept_all (session_of id secret) es [] fresh (kept_fresh id secret width held) in
      ap₂ (λ s w. new_handshake s w S.Idle) (k.session_is (live (session_of id secret) (history fresh es []) (after fresh es) k (ap ended o))) (ap (λ w. w.width) k.window_is)

  module _ (l : Lives) (c : Connection) (v : Lived fresh l c) where
    own_more : (e : Event) → next c.handshake e ≡ after fresh (more l.own e)
    own_more e = ap (λ h. next h e) v.own_life ∙ sym (after_more fresh l.own e)

    -- a started handshake that hears has a life
    pub alive : Hears c.started.state → c.started ≡ after fresh l.beside
    alive s = by_life l.beside refl
      where
        by_life : (es : List Event) → l.beside ≡ es → c.started ≡ after fresh l.beside
        by_life [] e =
            idle_hears_not (subst Hears (ap (λ x. x.state) (v.beside_life ∙ ap (beside_of fresh) e)) s)
        by_life (x ∷ es) e = v.beside_life ∙ ap (beside_of fresh) e ∙ sym (ap (after fresh) e)

    -- so it is not open; and one that has a life is under way
    not_open : c.started.state ≢ S.Open
    not_open = told v.under_way_lem
      where
        told : (l.beside ≡ []) ⊎ Hears c.started.state → c.started.state ≢ S.Open
        told (inl e) z = idle_never (sym (ap (λ x. x.state) (v.beside_life ∙ ap (beside_of fresh) e)) ∙ z)
        told (inr s) z = hears_not_open c.started.state s z

    alive_hears : {x : Event} {es : List Event} → l.beside ≡ x ∷ es → (l.beside ≡ []) ⊎ Hears c.started.state → Hears c.started.state
    alive_hears e (inl n) = let z : ◌≡◌ {A = ℕ} 0 1 = cc in absurd (omega arith)
    alive_hears e (inr s) = s

    still : {state : State} → (l.beside ≡ []) ⊎ Hears c.started.state → state ≡ c.started.state → (l.beside ≡ []) ⊎ Hears state
    still (inl e) z = inl e
    still (inr s) z = inr (subst Hears (sym z) s)

    module _ (random d : List ℕ) (r : Record) where
      abbrev event : Event
      event = took c.sent random d r

      abbrev by : Whom → Judged
      by w = judged_record (asked_of c w) c.sent random d r

      beside_event : Hears c.started.state → (by A.Started).handshake ≡ after fresh (more l.beside event)
      beside_event s = ap (λ h. next h event) (alive s) ∙ sym (after_more fresh l.beside event)

      by_open : (s : State) → (by A.Open).handshake.state ≡ s
          → Lived fresh (open_lives l event s) (connection_of (by A.Open).handshake (beside_open c.started s) (sent_with c (by A.Open)))
      by_open S.Idle e = record { own_life = own_more event; beside_life = refl; only_open = λ _. refl; under_way_lem = inl refl }
      by_open S.Replied e = record { own_life = own_more event; beside_life = refl; only_open = λ _. refl; under_way_lem = inl refl }
      by_open S.Spec e = record { own_life = own_more event; beside_life = refl; only_open = λ _. refl; under_way_lem = inl refl }
      by_open S.Open e = record { own_life = own_more event; beside_life = v.beside_life; only_open = λ n. absurd (n e); under_way_lem = v.under_way_lem }
      by_open S.Closed e = record { own_life = own_more event; beside_life = refl; only_open = λ _. refl; under_way_lem = inl refl }
      by_open S.Barred e = record { own_life = own_more event; beside_life = refl; only_open = λ _. refl; under_way_lem = inl refl }

      by_started : c.handshake.state ≡ S.Open → Hears c.started.state → (s : State) → (by A.Started).handshake.state ≡ s
          → Lived fresh (started_lives l event s) (started_to c (by A.Started).handshake (sent_with c (by A.Started)) s)
      by_started o s S.Idle e =
          true_false (idle_is (by A.Started).handshake.state) (ap idle_is e)
          (goes_on (asked_of c A.Started) c.sent random d r (row_of (asked_of c A.Started) c.sent random d r) (hears_on c.started.state s))
      by_started o s S.Replied e =
          record {
            own_life = v.own_life;
            beside_life = beside_event s ∙ sym (beside_more fresh l.beside event);
            only_open = λ n. absurd (n o);
            under_way_lem = inr (inl e);
          }
      by_started o s S.Spec e =
          record {
            own_life = v.own_life;
            beside_life = beside_event s ∙ sym (beside_more fresh l.beside event);
            only_open = λ n. absurd (n o);
            under_way_lem = inr (inr e);
          }
      by_started o s S.Open e = record { own_life = beside_event s; beside_life = refl; only_open = λ _. refl; under_way_lem = inl refl }
      by_started o s S.Closed e = record { own_life = v.own_life; beside_life = refl; only_open = λ _. refl; under_way_lem = inl refl }
      by_started o s S.Barred e = record { own_life = v.own_life; beside_life = refl; only_open = λ _. refl; under_way_lem = inl refl }

      newcomer_is : c.handshake.state ≡ S.Open → newcomer_to c.handshake ≡ fresh
      newcomer_is o =
          ap newcomer_to v.own_life ∙ newcomer_fresh l.own (sym (ap (λ h. h.state) v.own_life) ∙ o)

      new_event : c.handshake.state ≡ S.Open → (by A.Newcomer).handshake ≡ after fresh (event ∷ [])
      unfolding after
      new_event o = ap (λ h. next h event) (newcomer_is o)

      by_newcomer : c.handshake.state ≡ S.Open → (b : Bool) → under_way (by A.Newcomer).handshake.state ≡ b
          → Lived fresh (new_lives l event b) (connection_of c.handshake (pick b (by A.Newcomer).handshake c.started) (sent_with c (by A.Newcomer)))
      by_newcomer o true e =
          record {
            own_life = v.own_life;
            beside_life = new_event o;
            only_open = λ n. absurd (n o);
            under_way_lem = inr (way_hears (by A.Newcomer).handshake.state e);
          }
      by_newcomer o false e =
          record { own_life = v.own_life; beside_life = v.beside_life; only_open = v.only_open; under_way_lem = v.under_way_lem }

      by_whom : (w : Whom) → whom_of c d r ≡ w → Lived fresh (told_lives l event w (by w).handshake.state) (left_by c w (by w))
      by_whom A.Only e =
          record {
            own_life = own_more event;
            beside_life = v.beside_life;
            only_open = λ _. v.only_open (only_asked c d r (subst (Asks c d r) e (asks_of c d r)) refl);
            under_way_lem = v.under_way_lem;
          }
      by_whom A.Open e = by_open (by A.Open).handshake.state refl
      by_whom A.Started e =
          let k : Asks c d r A.Started = subst (Asks c d r) e (asks_of c d r) in
          by_started (open_asked c d r k (λ z. let w : ◌≡◌ {A = ℕ} 0 1 = cc in omega arith)) (started_hears c random d r k refl)
          (by A.Started).handshake.state refl
      by_whom A.Newcomer e =
          let k : Asks c d r A.Newcomer = subst (Asks c d r) e (asks_of c d r) in
          by_newcomer (open_asked c d r k (λ z. let w : ◌≡◌ {A = ℕ} 0 1 = cc in omega arith)) (under_way (by A.Newcomer).handshake.state) refl

      pub comes_more : Lived fresh (lives_at c l (comes random d r)) (leaves c (comes random d r))
      unfolding told_record judged_in
      comes_more = by_whom (whom_of c d r) refl

      pub asked_life : (w : Whom) → whom_of c d r ≡ w → asked_of c w ≡ after fresh (life_of l w)
      unfolding after
      asked_life A.Only e = v.own_life
      asked_life A.Open e = v.own_life
      asked_life A.Started e = alive (started_hears c random d r (subst (Asks c d r) e (asks_of c d r)) refl)
      asked_life A.Newcomer e =
          newcomer_is (open_asked c d r (subst (Asks c d r) e (asks_of c d r)) (λ z. let w : ◌≡◌ {A = ℕ} 0 1 = cc in omega arith))

    -- the open one, where the other is left alone and the state stays
    own_only : (e : Event) (then : Connection) → then.handshake ≡ next c.handshake e → then.started ≡ c.started
        → then.handshake.state ≡ c.handshake.state → Lived fresh (record { own = more l.own e; beside = l.beside }) then
    own_only e then h s z =
        record {
          own_life = h ∙ own_more e;
          beside_life = s ∙ v.beside_life;
          only_open = λ n. v.only_open (λ o. n (z ∙ o));
          under_way_lem = still v.under_way_lem (ap (λ x. x.state) s);
        }

    sends_more : (bytes out : List ℕ) → Lived fresh (lives_at c l (sends bytes out)) (leaves c (sends bytes out))
    sends_more bytes out =
        let q = data_left c bytes (length out) in own_only (sending bytes out) (leaves c (sends bytes out)) q.0 q.1 q.2

    alerts_more : (level description : ℕ) (lent out : List ℕ)
        → Lived fresh (lives_at c l (alerts true level description lent out)) (leaves c (alerts true level description lent out))
    unfolding alert_sent
    alerts_more level description lent out =
        let q = protected_left c lent (length out) (level_of level) (sorted_of description) in
        own_only (alerting true level description lent out) (leaves c (alerts true level description lent out)) q.0 q.1 q.2

    clear_own : (level description : ℕ) (lent out : List ℕ) → c.handshake.state ≢ S.Open
        → Lived fresh (record { own = more l.own (alerting false level description lent out); beside = l.beside }) (leaves c (alerts false level description lent out))
    unfolding alert_sent
    clear_own level description lent out n =
        let q = clear_left c lent (length out) (level_of level) (sorted_of description) n in
        own_only (alerting false level description lent out) (leaves c (alerts false level description lent out)) q.0 q.1 q.2

    -- a clear alert of the started one; where there is none, it is refused
    abbrev clear_alert : ℕ → ℕ → List ℕ → List ℕ → Connection
    clear_alert level description lent out = leaves c (alerts false level description lent out)

    clear_life : (level description : ℕ) (lent out : List ℕ) → c.handshake.state ≡ S.Open → (es : List Event) → l.beside ≡ es
        → Lived fresh (record { own = l.own; beside = more_beside es (alerting false level description lent out) }) (clear_alert level description lent out)
    unfolding alert_sent
    clear_life level description lent out o [] e =
        let q = clear_left_beside c lent (length out) (level_of level) (sorted_of description) o not_open in
        let none : c.started ≡ none_started = v.beside_life ∙ ap (beside_of fresh) e in
        record {
          own_life = q.1 ∙ v.own_life;
          beside_life = q.0 ∙ ap (λ h. next h (alerting false level description lent out)) none ∙ none_next level description lent out;
          only_open = λ _. refl;
          under_way_lem = inl refl;
        }
    clear_life level description lent out o (x ∷ es) e =
        let event : Event = alerting false level description lent out in
        let q = clear_left_beside c lent (length out) (level_of level) (sorted_of description) o not_open in
        let lives : c.started ≡ after fresh (x ∷ es) = v.beside_life ∙ ap (beside_of fresh) e in
        record {
          own_life = q.1 ∙ v.own_life;
          beside_life = q.0 ∙ ap (λ h. next h event) lives ∙ sym (after_more fresh (x ∷ es) event);
          only_open = λ n. absurd (n (ap (λ h. h.state) q.1 ∙ o));
          under_way_lem = inr (subst Hears (sym q.2) (alive_hears e v.under_way_lem));
        }

    clear_more : (level description : ℕ) (lent out : List ℕ) (s : State) → c.handshake.state ≡ s
        → Lived fresh (clear_lives l (alerting false level description lent out) s) (clear_alert level description lent out)
    clear_more level description lent out S.Idle e =
        clear_own level description lent out (λ z. let y : S.Idle ≡ S.Open = sym e ∙ z in let w : ◌≡◌ {A = ℕ} 0 1 = cc in omega arith)
    clear_more level description lent out S.Replied e =
        clear_own level description lent out (λ z. let y : S.Replied ≡ S.Open = sym e ∙ z in let w : ◌≡◌ {A = ℕ} 0 1 = cc in omega arith)
    clear_more level description lent out S.Spec e =
        clear_own level description lent out (λ z. let y : S.Spec ≡ S.Open = sym e ∙ z in let w : ◌≡◌ {A = ℕ} 0 1 = cc in omega arith)
    clear_more level description lent out S.Open e = clear_life level description lent out e l.beside refl
    clear_more level description lent out S.Closed e =
        clear_own level description lent out (λ z. let y : S.Closed ≡ S.Open = sym e ∙ z in let w : ◌≡◌ {A = ℕ} 0 1 = cc in omega arith)
    clear_more level description lent out S.Barred e =
        clear_own level description lent out (λ z. let y : S.Barred ≡ S.Open = sym e ∙ z in let w : ◌≡◌ {A = ℕ} 0 1 = cc in omega arith)

    -- close and start again
    closed_life : (s : State) → c.handshake.state ≡ s → (closed_in (alone c.handshake) s).connection.handshake ≡ after fresh (more l.own closing)
    closed_life s e = ap (λ x. (closed_in (alone c.handshake) x).connection.handshake) (sym e) ∙ own_more closing

    closes_more : (s : State) → c.handshake.state ≡ s → Lived fresh (record { own = more l.own closing; beside = [] }) (closed_in c s).connection
    closes_more S.Idle e = record { own_life = closed_life S.Idle e; beside_life = refl; only_open = λ _. refl; under_way_lem = inl refl }
    closes_more S.Replied e = record { own_life = closed_life S.Replied e; beside_life = refl; only_open = λ _. refl; under_way_lem = inl refl }
    closes_more S.Spec e = record { own_life = closed_life S.Spec e; beside_life = refl; only_open = λ _. refl; under_way_lem = inl refl }
    closes_more S.Open e = record { own_life = closed_life S.Open e; beside_life = refl; only_open = λ _. refl; under_way_lem = inl refl }
    closes_more S.Closed e = record { own_life = closed_life S.Closed e; beside_life = refl; only_open = λ _. refl; under_way_lem = inl refl }
    closes_more S.Barred e =
        record {
          own_life = closed_life S.Barred e;
          beside_life = v.beside_life ∙ ap (beside_of fresh) (v.only_open (λ z. let y : S.Barred ≡ S.Open = sym e ∙ z in let w : ◌≡◌ {A = ℕ} 0 1 = cc in omega arith));
          only_open = λ _. refl;
          under_way_lem = inl refl;
        }

    start_life : (s : State) → c.handshake.state ≡ s → (started_in (alone c.handshake) s).connection.handshake ≡ after fresh (more l.own starting)
    start_life s e = ap (λ x. (started_in (alone c.handshake) x).connection.handshake) (sym e) ∙ own_more starting

    unstarted : (s : State) → c.handshake.state ≡ s → (started_in (alone c.handshake) s).connection.handshake ≡ c.handshake
        → Lived fresh (record { own = more l.own starting; beside = l.beside }) c
    unstarted s e q = record { own_life = sym q ∙ start_life s e; beside_life = v.beside_life; only_open = v.only_open; under_way_lem = v.under_way_lem }

    starts_more : (s : State) → c.handshake.state ≡ s → Lived fresh (record { own = more l.own starting; beside = l.beside }) (started_in c s).connection
    starts_more S.Idle e = unstarted S.Idle e refl
    starts_more S.Replied e = unstarted S.Replied e refl
    starts_more S.Spec e = unstarted S.Spec e refl
    starts_more S.Open e = unstarted S.Open e refl
    starts_more S.Closed e =
        let none : l.beside ≡ [] = v.only_open (λ z. let y : S.Closed ≡ S.Open = sym e ∙ z in let w : ◌≡◌ {A = ℕ} 0 1 = cc in omega arith) in
        record { own_life = start_life S.Closed e; beside_life = sym (ap (beside_of fresh) none); only_open = λ _. none; under_way_lem = inl none }
    starts_more S.Barred e = unstarted S.Barred e refl

    pub act_more : (a : Act) → Lived fresh (lives_at c l a) (leaves c a)
    act_more (comes random d r) = comes_more random d r
    act_more (sends bytes out) = sends_more bytes out
    act_more (alerts true level description lent out) = alerts_more level description lent out
    act_more (alerts false level description lent out) = clear_more level description lent out c.handshake.state refl
    act_more closes = closes_more c.handshake.state refl
    act_more starts = starts_more c.handshake.state refl

  pub acts_more : (acts : List Act) (l : Lives) (c : Connection) → Lived fresh l c → Lived fresh (lives_of c l acts) (behind c acts)
  unfolding lives_of behind
  acts_more [] l c v = v
  acts_more (a ∷ acts) l c v = acts_more acts (lives_at c l a) (leaves c a) (act_more l c v a)

  pub lived_fresh : Lived fresh no_lives (fresh_one id secret width)
  unfolding after
  lived_fresh = record { own_life = refl; beside_life = refl; only_open = λ _. refl; under_way_lem = inl refl }

pub lives_hold_at : (id secret : List ℕ) (width : ℕ) → Held width → (acts : List Act)
    → Lived (fresh_with id secret width) (lives_of (fresh_one id secret width) no_lives acts) (behind (fresh_one id secret width) acts)
lives_hold_at id secret width held acts = acts_more id secret width held acts no_lives (fresh_one id secret width) (lived_fresh id secret width held)

pub lives_hold : LivesHold
unfolding LivesHold
lives_hold id secret width held acts = lives_hold_at id secret width held acts

pub answers_by_lives : AnswersByLives
unfolding AnswersByLives
answers_by_lives id secret width held acts random d r =
    let c : Connection = behind (fresh_one id secret width) acts in
    let l : Lives = lives_of (fresh_one id secret width) no_lives acts in
    ap (λ t. t.answer) (told_by_lem c random d r (whom_of c d r) refl)
    ∙ ap (λ h. (judged_record h c.sent random d r).answer) (asked_life id secret width held l c (lives_hold_at id secret width held acts) random d r (whom_of c d r) refl)

-- ---- lives of sound acts are sound

pub sound_more : (es : List Event) (e : Event) → AllSound es → Sound e → AllSound (more es e)
sound_more [] e s x = (x, tt)
sound_more (y ∷ es) e s x = (s.0, sound_more es e s.1 x)

record SoundLives (l : Lives) : Type 0 where
  own_sound : AllSound l.own
  beside_sound : AllSound l.beside

module _ (l : Lives) (s : SoundLives l) where
  own_of : (e : Event) → Sound e → SoundLives (record { own = more l.own e; beside = l.beside })
  own_of e x = record { own_sound = sound_more l.own e s.own_sound x; beside_sound = s.beside_sound }

  own_alone : (e : Event) → Sound e → SoundLives (record { own = more l.own e; beside = [] })
  own_alone e x = record { own_sound = sound_more l.own e s.own_sound x; beside_sound = tt }

  open_sound : (e : Event) → Sound e → (z : State) → SoundLives (open_lives l e z)
  open_sound e x S.Idle = own_alone e x
  open_sound e x S.Replied = own_alone e x
  open_sound e x S.Spec = own_alone e x
  open_sound e x S.Open = own_of e x
  open_sound e x S.Closed = own_alone e x
  open_sound e x S.Barred = own_alone e x

  beside_of_lem : (e : Event) → Sound e → SoundLives (record { own = l.own; beside = more l.beside e })
  beside_of_lem e x = record { own_sound = s.own_sound; beside_sound = sound_more l.beside e s.beside_sound x }

  started_sound : (e : Event) → Sound e → (z : State) → SoundLives (started_lives l e z)
  started_sound e x S.Idle = beside_of_lem e x
  started_sound e x S.Replied = beside_of_lem e x
  started_sound e x S.Spec = beside_of_lem e x
  started_sound e x S.Open = record { own_sound = sound_more l.beside e s.beside_sound x; beside_sound = tt }
  started_sound e x S.Closed = record { own_sound = s.own_sound; beside_sound = tt }
  started_sound e x S.Barred = record { own_sound = s.own_sound; beside_sound = tt }

  new_sound : (e : Event) → Sound e → (b : Bool) → SoundLives (new_lives l e b)
  new_sound e x true = record { own_sound = s.own_sound; beside_sound = (x, tt) }
  new_sound e x false = s

  told_sound : (e : Event) → Sound e → (w : Whom) (z : State) → SoundLives (told_lives l e w z)
  told_sound e x A.Only z = own_of e x
  told_sound e x A.Open z = open_sound e x z
  told_sound e x A.Started z = started_sound e x z
  told_sound e x A.Newcomer z = new_sound e x (under_way z)

  more_sound : (es : List Event) (e : Event) → AllSound es → Sound e → AllSound (more_beside es e)
  more_sound [] e a x = tt
  more_sound (y ∷ es) e a x = sound_more (y ∷ es) e a x

  clear_sound : (e : Event) → Sound e → (z : State) → SoundLives (clear_lives l e z)
  clear_sound e x S.Idle = own_of e x
  clear_sound e x S.Replied = own_of e x
  clear_sound e x S.Spec = own_of e x
  clear_sound e x S.Open = record { own_sound = s.own_sound; beside_sound = more_sound l.beside e s.beside_sound x }
  clear_sound e x S.Closed = own_of e x
  clear_sound e x S.Barred = own_of e x

  act_sound : (c : Connection) (a : Act) → SoundAct a → SoundLives (lives_at c l a)
  act_sound c (comes random d r) x = told_sound (took c.sent random d r) x (whom_of c d r) (judged_in c random d r).handshake.state
  act_sound c (sends bytes out) x = own_of (sending bytes out) tt
  act_sound c (alerts true level description lent out) x = own_of (alerting true level description lent out) tt
  act_sound c (alerts false level description lent out) x = clear_sound (alerting false level description lent out) tt c.handshake.state
  act_sound c closes x = own_alone closing tt
  act_sound c starts x = own_of starting tt

acts_sound : (acts : List Act) (l : Lives) (c : Connection) → SoundLives l → SoundActs acts → SoundLives (lives_of c l acts)
unfolding lives_of
acts_sound [] l c s x = s
acts_sound (a ∷ acts) l c s x = acts_sound acts (lives_at c l a) (leaves c a) (act_sound l s c a x.0) x.1

pub lives_sound_at : (id secret : List ℕ) (width : ℕ) (acts : List Act) → SoundActs acts
    → AllSound (lives_of (fresh_one id secret width) no_lives acts).own × AllSound (lives_of (fresh_one id secret width) no_lives acts).beside
lives_sound_at id secret width acts x =
    let s : SoundLives (lives_of (fresh_one id secret width) no_lives acts) = acts_sound acts no_lives (fresh_one id secret width) (record { own_sound = tt; beside_sound = tt }) x in
    (s.own_sound, s.beside_sound)

pub lives_sound : LivesSound
unfolding LivesSound
lives_sound id secret width acts x = lives_sound_at id secret width acts x

-- ---- data only after Finished, of the open one

pub only_after_finished_of_open : OnlyAfterFinishedOfOpen
unfolding OnlyAfterFinishedOfOpen
only_after_finished_of_open id secret width held acts sound random d r z =
    let c : Connection = behind (fresh_one id secret width) acts in
    let l : Lives = lives_of (fresh_one id secret width) no_lives acts in
    let v : Lived (fresh_with id secret width) l c = lives_hold_at id secret width held acts in
    let o : c.handshake.state ≡ S.Open = (data_asked c random d r z).0 in (
      o,
      (progress_all (session_of id secret) l.own [] (fresh_with id secret width) (lives_sound_at id secret width acts sound).0 (progress_fresh id secret width held)).verified
          (sym (ap (λ h. h.state) v.own_life) ∙ o),
    )
