-- Demand 3, the first half. The idea: in Open, under the keys of the start, or ended, a record that is not genuine, and not right under
-- the started keys, leaves the open handshake as it is and hands out nothing, whatever it does to the started one. So the run goes on
-- with the same open handshake whether it was there or not. Every other call keeps to Open under these keys, or to an ended state.
use mathlib.Core.Path.{◌≡◌, refl, sym, ◌∙◌, ap, ap₂, subst}
use mathlib.Core.Logic.{◌⊎◌, inl, inr, ◌≢◌}
use mathlib.Core.Bool.{Bool, true, false}
use mathlib.Core.List.{List, [], ◌∷◌, ◌++◌, map, append_assoc}
use Prim.Native.Nat.{ℕ, zero, suc, ◌-◌}
use native.Mathlib.Omega.{arith}
use lib.ListN.{length, get_or, replicate}
use Rattle.digest.specs.Pick.{pick}
use lib.Dec.{eqb, ltb}
use Rattle.record.specs.Datagram.{Framing, framed, faulty, framing_of}
use Rattle.message.specs.declared.acceptance.Plan.{Plan}
use Rattle.record.specs.declared.reader.Record.{Record}
use Rattle.connection.specs.Answer.{refusing, handed_of}
use Rattle.connection.specs.Handshake.{kept_reply, newcomer_to}
use Rattle.connection.specs.Asked.{whom_of, asked_of}
use Rattle.connection.specs.Told.{started_to, left_by, told_by, told_record}
use Rattle.connection.specs.Reply.{answered_with}
use Rattle.connection.specs.Sent.{with_record, sum_of}
use Rattle.connection.specs.Judge.{judged_record, fragment_of}
use Rattle.connection.specs.Receive.{slot, slots_of, end_of, answers_of, whole_of, run_of}
use Rattle.connection.specs.Send.{next_alert, alert_body, sender_of, clear_sender, clear_back, after_clear, after_send}
use Rattle.connection.specs.Tally.{bumped, counted_answer, counted_refusal, counted_first}
use Rattle.connection.specs.declared.state.State.{State}
use Rattle.connection.specs.declared.state.State.TheVariants as S
use Rattle.connection.specs.declared.refusal.Refusal.{Refusal}
use Rattle.connection.specs.declared.refusal.Refusal.TheVariants as X
use Rattle.connection.specs.declared.answer.Answer.{Answer}
use Rattle.connection.specs.declared.answer.Answer.TheVariants as W
use Rattle.connection.specs.declared.answer.Judged.{Judged}
use Rattle.connection.specs.declared.answer.Slot.{Slot}
use Rattle.connection.specs.declared.asked.Whom.{Whom}
use Rattle.connection.specs.declared.asked.Whom.TheVariants as A
use Rattle.connection.specs.declared.told.Told.{Told}
use Rattle.connection.specs.declared.connection.Connection.{Connection}
use Rattle.connection.specs.declared.handshake.Handshake.{Handshake}
use Rattle.connection.specs.declared.tally.Tally.{Tally}
use Rattle.demands.specs.Seen.{seen_in}
use Rattle.demands.specs.Runs.{Call, receive, send_data, send_alert, close, start, Returned, received, sent, called, Step, step_of, final_of}
use Rattle.record.specs.declared.keys.Keys.{Keys}
use Rattle.demands.specs.Genuine.{Genuine, Protected, RecordOf, keys_of}
use Rattle.demands.specs.Table.{Row, Hears, Guarded}
use Rattle.demands.specs.Table.{row_ended, row_returned, row_not_allowed, row_reply, row_hello_malformed, row_unacceptable, row_resent, row_change, row_change_malformed, row_clear_malformed, row_checksum, row_clear_warning, row_clear_critical, row_clear_fatal, row_forged, row_old, row_repeated, row_malformed, row_data, row_warning, row_critical, row_barred, row_open, row_again, row_wrong_finished}
use Rattle.demands.specs.Calls.{CallRow, data_16, data_7, data_8, data_15, data_6, data_sent_lem, alert_16, alert_7, alert_8, alert_15, alert_6, alert_sent_lem, close_7, close_done, start_7, start_8, start_done}
use Rattle.demands.specs.Past.{is_data}
use Rattle.demands.specs.Asked.{RightBeside, Asks, asks_protected, sent_with}
use Rattle.demands.specs.Events.{next}
use Rattle.demands.specs.Acts.{Act, comes, sends, alerts, closes, starts, records_in, acts_in, event_of, leaves, behind}
use Rattle.demands.specs.LeftOut.{NoneGenuine, GoesOn, Without, ends, both, but, handed_at, handed_over, SameOpen, LeavesOutRecords, Unreplaced, OpenKept, Continues, LeftOut, end, stays, left, handed_parts, answers_in, datagram_of, handed_by, tallied_in, tallied_by, ButForged, LeavesOut}
use Rattle.demands.proofs.States.{ended, ended_over}
use Rattle.demands.proofs.Genuine.{true_false}
use Rattle.demands.proofs.Table.{row_of, row_is, guarded_is}
use Rattle.demands.proofs.Asked.{asks_of, asks_is, told_by_lem, tells_is, tells_seven}
use Rattle.demands.proofs.First.{started_hears}
use Rattle.demands.proofs.Lives.{only_asked, hears_not_open, NoRecord, act_next}
use Rattle.demands.proofs.Calls.{call_of, receive_by, step_receive}
use Rattle.connection.specs.declared.sent.SentRecords.{SentRecords}

-- ---- where such a run can be: Open under the keys k, or ended

pub Settled : Keys → Handshake → Type 0
Settled k h = ((h.state ≡ S.Open) × (keys_of h ≡ k)) ⊎ (ended h.state ≡ true)

pub not_open : {P : Type 0} (s : State) → Hears s → s ≡ S.Open → P
not_open s (inl e) z = let y : S.Replied ≡ S.Open = sym e ∙ z in let w : ◌≡◌ {A = ℕ} 0 1 = cc in absurd (omega arith)
not_open s (inr e) z = let y : S.Spec ≡ S.Open = sym e ∙ z in let w : ◌≡◌ {A = ℕ} 0 1 = cc in absurd (omega arith)

pub greets_not_open : {P Q : Type 0} (s : State) → (s ≡ S.Idle) ⊎ (Hears s × Q) → s ≡ S.Open → P
greets_not_open s (inl e) z = let y : S.Idle ≡ S.Open = sym e ∙ z in let w : ◌≡◌ {A = ℕ} 0 1 = cc in absurd (omega arith)
greets_not_open s (inr (e, q)) z = not_open s e z

module _ (k : Keys) (h : Handshake) (sent : SentRecords) (random d : List ℕ) (r : Record) where
  open_more : h.state ≡ S.Open → keys_of h ≡ k → {j : Judged} → Row h sent random d r j → Settled k j.handshake
  unfolding Settled
  open_more s e (row_ended x) = inl (s, e)
  open_more s e (row_returned x) = inl (s, e)
  open_more s e (row_not_allowed x o a) = inl (s, e)
  open_more s e (row_reply plan g x) = greets_not_open h.state g.another s
  open_more s e (row_hello_malformed fault g x) = inl (s, e)
  open_more s e (row_unacceptable condition g x) = inl (s, e)
  open_more s e (row_resent t i z x) = inl (s, e)
  open_more s e (row_change t p c x) = not_open h.state (inl t) s
  open_more s e (row_change_malformed t p c x) = inl (s, e)
  open_more s e (row_clear_malformed t p c x) = inl (s, e)
  open_more s e (row_checksum a t p c x n) = inl (s, e)
  open_more s e (row_clear_warning a t p c x q l) = inl (s, e)
  open_more s e (row_clear_critical a t p c x q l) = inr refl
  open_more s e (row_clear_fatal a t p c x q l) = inr refl
  open_more s e (row_forged g f) = inl (s, e)
  open_more s e (row_old c g t x) = inl (s, e)
  open_more s e (row_repeated c g t x) = inl (s, e)
  open_more s e (row_malformed c w n m) = inl (s, e)
  open_more s e (row_data c w n x m) = inl (s, e)
  open_more s e (row_warning c w a n x m l) = inl (s, e)
  open_more s e (row_critical c w a n x m l) = inr refl
  open_more s e (row_barred c w a n x m l) = inr refl
  open_more s e (row_open c w n t x m) = inl (refl, e)
  open_more s e (row_again c w n t x m) = inl (s, e)
  open_more s e (row_wrong_finished c w n x m) = inr refl

  -- an ended connection gives 7
  pub seven : ended h.state ≡ true → judged_record h sent random d r ≡ refusing X.Ended h
  seven e = row_is h sent random d r (row_ended (ended_over h.state e))

  record_more : Settled k h → Settled k (judged_record h sent random d r).handshake
  unfolding Settled
  record_more (inl (s, e)) = open_more s e (row_of h sent random d r)
  record_more (inr e) = inr (ap (λ j. ended j.handshake.state) (seven e) ∙ e)

-- a send changes neither state nor keys of the open handshake
clear_settled : (k : Keys) (c : Connection) (list : SentRecords) (s : State) → Settled k c.handshake
    → Settled k (clear_back c (after_clear (clear_sender c s)) list s).handshake
unfolding Settled
clear_settled k c list S.Idle s = s
clear_settled k c list S.Replied s = s
clear_settled k c list S.Spec s = s
clear_settled k c list S.Open s = s
clear_settled k c list S.Closed s = s
clear_settled k c list S.Barred s = s

sent_settled : (k : Keys) (protected : Bool) (c : Connection) (bytes : List ℕ) → Settled k c.handshake → Settled k (after_send protected c bytes).handshake
unfolding Settled
sent_settled k true c bytes s = s
sent_settled k false c bytes s = clear_settled k c (with_record c.sent (sum_of bytes)) c.handshake.state s

module _ (k : Keys) (c : Connection) where
  by_data : {bytes out : List ℕ} {s : Step} → CallRow c (send_data bytes out) s → Settled k c.handshake → Settled k s.connection.handshake
  unfolding Settled
  by_data (data_16 b) s = s
  by_data (data_7 g e) s = s
  by_data (data_8 g e n) s = s
  by_data (data_15 g e n) s = s
  by_data (data_6 g e n l) s = s
  by_data (data_sent_lem g e n l) s = s

  by_alert : {protected : Bool} {level description : ℕ} {lent out : List ℕ} {s : Step} → CallRow c (send_alert protected level description lent out) s
      → Settled k c.handshake → Settled k s.connection.handshake
  by_alert (alert_16 b) s = s
  by_alert (alert_7 g e) s = s
  by_alert (alert_8 g e f) s = s
  by_alert (alert_15 g e n) s = s
  by_alert (alert_6 g e n l) s = s
  by_alert (alert_sent_lem {protected = protected} {answered = lent} {l = v} {k = m} g e n l) s =
      sent_settled k protected c (next_alert protected (sender_of protected c) (alert_body v m lent)) s

  by_close : {s : Step} → CallRow c close s → Settled k c.handshake → Settled k s.connection.handshake
  unfolding Settled
  by_close (close_7 e) s = s
  by_close (close_done n) s = inr refl

  by_start : {s : Step} → CallRow c start s → c.handshake.state ≢ S.Closed → Settled k c.handshake → Settled k s.connection.handshake
  by_start (start_7 e) go s = s
  by_start (start_8 n m) go s = s
  by_start (start_done e) go s = absurd (go e)

  act_settled : (a : Act) → NoRecord a → GoesOn c a → Settled k c.handshake → Settled k (leaves c a).handshake
  unfolding step_of
  act_settled (comes random d r) n go s = absurd n
  act_settled (sends bytes out) n go s = by_data (call_of c (send_data bytes out)) s
  act_settled (alerts protected level description lent out) n go s = by_alert (call_of c (send_alert protected level description lent out)) s
  act_settled closes n go s = by_close (call_of c close) s
  act_settled starts n go s = by_start (call_of c start) go s

-- ---- answers that hand out nothing, and count as forged at most

pub record Silent (a : Answer) : Type 0 where
  pub no_data : is_data a ≡ false
  pub no_count : (t : Tally) → ButForged (counted_answer t a) t

same_tally : (t : Tally) → ButForged t t
same_tally t = record { handed_same = refl; old_same = refl; repeated_same = refl }

silent_7 : Silent (W.Refused X.Ended)
silent_7 = record { no_data = refl; no_count = λ t. same_tally t }

silent_8 : Silent (W.Refused X.NotAllowed)
silent_8 = record { no_data = refl; no_count = λ t. same_tally t }

silent_9 : Silent (W.Refused X.Forged)
silent_9 = record { no_data = refl; no_count = λ t. record { handed_same = refl; old_same = refl; repeated_same = refl } }

silent_none : Silent W.Nothing
silent_none = record { no_data = refl; no_count = λ t. same_tally t }

AllSilent : List Answer → Type 0
AllSilent [] = Unit
AllSilent (a ∷ l) = Silent a × AllSilent l

SlotsSilent : List Slot → Type 0
SlotsSilent [] = Unit
SlotsSilent (s ∷ l) = Silent s.answer × SlotsSilent l

none_silent : (n : ℕ) → SlotsSilent (replicate n (slot W.Nothing))
unfolding SlotsSilent
none_silent zero = tt
none_silent (suc n) = (silent_none, none_silent n)

padded_silent : (l : List Answer) (n : ℕ) → AllSilent l → SlotsSilent (map slot l ++ replicate n (slot W.Nothing))
unfolding SlotsSilent AllSilent
padded_silent [] n s = none_silent n
padded_silent (a ∷ l) n s = (s.0, padded_silent l n s.1)

slots_silent : (l : List Answer) → AllSilent l → SlotsSilent (slots_of l)
unfolding slots_of
slots_silent l s = padded_silent l (8 - length l) s

handed_none : (d : List ℕ) (slots : List Slot) → SlotsSilent slots → handed_parts d slots ≡ []
unfolding handed_parts SlotsSilent
handed_none d [] s = refl
handed_none d (x ∷ slots) s =
    ap (λ b. pick b (handed_of d x.answer ∷ handed_parts d slots) (handed_parts d slots)) s.0.no_data ∙ handed_none d slots s.1

silent_at : (slots : List Slot) (n : ℕ) → SlotsSilent slots → Silent (get_or slots n (slot W.Nothing)).answer
unfolding SlotsSilent
silent_at [] n s = silent_none
silent_at (x ∷ slots) zero s = s.0
silent_at (x ∷ slots) (suc n) s = silent_at slots n s.1

trans : (t u v : Tally) → ButForged t u → ButForged u v → ButForged t v
trans t u v a b =
    record {
      handed_same = a.handed_same ∙ b.handed_same;
      old_same = a.old_same ∙ b.old_same;
      repeated_same = a.repeated_same ∙ b.repeated_same;
    }

counted_silent : (t : Tally) (slots : List Slot) → SlotsSilent slots → (n : ℕ) → ButForged (counted_first t slots n) t
unfolding counted_first
counted_silent t slots s zero = same_tally t
counted_silent t slots s (suc n) =
    trans (counted_answer (counted_first t slots n) (get_or slots n (slot W.Nothing)).answer) (counted_first t slots n) t
    ((silent_at slots n s).no_count (counted_first t slots n)) (counted_silent t slots s n)

-- the same answers keep two tallies alike
module _ (t u : Tally) (b : ButForged t u) where
  alike_refusal : (x : Refusal) → ButForged (counted_refusal t x) (counted_refusal u x)
  alike_refusal (X.Framing fault) = b
  alike_refusal X.Room = b
  alike_refusal X.Ended = b
  alike_refusal X.NotAllowed = b
  alike_refusal X.Forged = record { handed_same = b.handed_same; old_same = b.old_same; repeated_same = b.repeated_same }
  alike_refusal X.TooOld = record { handed_same = b.handed_same; old_same = ap bumped b.old_same; repeated_same = b.repeated_same }
  alike_refusal X.Repeated = record { handed_same = b.handed_same; old_same = b.old_same; repeated_same = ap bumped b.repeated_same }
  alike_refusal X.Malformed = b
  alike_refusal X.Unacceptable = b
  alike_refusal X.Checksum = b
  alike_refusal X.Spent = b
  alike_refusal X.Argument = b
  alike_refusal X.WrongFinished = b

  alike : (a : Answer) → ButForged (counted_answer t a) (counted_answer u a)
  alike W.Nothing = b
  alike (W.Reply size) = b
  alike (W.Resent size) = b
  alike W.Spec = b
  alike W.Open = b
  alike W.Again = b
  alike (W.Data number place size) = record { handed_same = ap bumped b.handed_same; old_same = b.old_same; repeated_same = b.repeated_same }
  alike (W.Warning description) = b
  alike (W.Critical description) = b
  alike (W.Fatal description) = b
  alike (W.Barred description) = b
  alike (W.Refused refusal) = alike_refusal refusal

alike_first : (t u : Tally) → ButForged t u → (slots : List Slot) (n : ℕ) → ButForged (counted_first t slots n) (counted_first u slots n)
unfolding counted_first
alike_first t u b slots zero = b
alike_first t u b slots (suc n) =
    alike (counted_first t slots n) (counted_first u slots n) (alike_first t u b slots n) (get_or slots n (slot W.Nothing)).answer

alike_result : (t u : Tally) → ButForged t u → (r : Returned) → ButForged (tallied_in t r) (tallied_in u r)
alike_result t u b (received taken answers written) = alike_first t u b answers 8
alike_result t u b (sent outcome written) = b
alike_result t u b (called outcome) = b

-- ---- one record

quiet : (a : Answer) → is_data a ≡ false → ((t : Tally) → counted_answer t a ≡ t) → Silent a
quiet a e c = record { no_data = e; no_count = λ t. subst (λ x. ButForged x t) (sym (c t)) (same_tally t) }

module _ (h : Handshake) (sent : SentRecords) (random d : List ℕ) (r : Record) where
  -- in Open, what is not right under the keys leaves the handshake and is silent
  module _ (np : (x : List ℕ) → Protected (keys_of h) d r x → ⊥) (s : h.state ≡ S.Open) where
    pub open_noise : {j : Judged} → Row h sent random d r j → (j.handshake ≡ h) × Silent j.answer
    open_noise (row_ended x) = (refl, silent_7)
    open_noise (row_returned q) = (refl, quiet (W.Resent (length (kept_reply h))) refl (λ t. refl))
    open_noise (row_not_allowed x a n) = (refl, silent_8)
    open_noise (row_reply plan g x) = greets_not_open h.state g.another s
    open_noise (row_hello_malformed fault g x) = greets_not_open h.state g.another s
    open_noise (row_unacceptable condition g x) = greets_not_open h.state g.another s
    open_noise (row_resent t i z x) = not_open h.state t s
    open_noise (row_change t p c x) = not_open h.state (inl t) s
    open_noise (row_change_malformed t p c x) = not_open h.state (inl t) s
    open_noise (row_clear_malformed t p c x) = not_open h.state t s
    open_noise (row_checksum a t p c x n) = not_open h.state t s
    open_noise (row_clear_warning a t p c x q l) = not_open h.state t s
    open_noise (row_clear_critical a t p c x q l) = not_open h.state t s
    open_noise (row_clear_fatal a t p c x q l) = not_open h.state t s
    open_noise (row_forged g f) = (refl, silent_9)
    open_noise (row_old c g t x) = absurd (np c t)
    open_noise (row_repeated c g t x) = absurd (np c t)
    open_noise (row_malformed c w n m) = absurd (np c n.coded)
    open_noise (row_data c w n x m) = absurd (np c n.coded)
    open_noise (row_warning c w a n x m l) = absurd (np c n.coded)
    open_noise (row_critical c w a n x m l) = absurd (np c n.coded)
    open_noise (row_barred c w a n x m l) = absurd (np c n.coded)
    open_noise (row_open c w n t x m) = absurd (np c n.coded)
    open_noise (row_again c w n t x m) = absurd (np c n.coded)
    open_noise (row_wrong_finished c w n x m) = absurd (np c n.coded)

  -- a clear record is silent, and opens nothing
  module _ (p : r.protected ≡ false) where
    not_coded : {P : Type 0} (c : List ℕ) → Protected (keys_of h) d r c → P
    not_coded c s = true_false r.protected s.is_protected p

    closed_never : S.Closed ≡ S.Open → ⊥
    closed_never z = let w : ◌≡◌ {A = ℕ} 0 1 = cc in omega arith

    spec_never : S.Spec ≡ S.Open → ⊥
    spec_never z = let w : ◌≡◌ {A = ℕ} 0 1 = cc in omega arith

    replied_never : (plan : Plan) → (answered_with h random (fragment_of d r) plan).state ≡ S.Open → ⊥
    unfolding answered_with
    replied_never plan z = let w : ◌≡◌ {A = ℕ} 0 1 = cc in omega arith

    pub clear_row : {j : Judged} → Row h sent random d r j → Silent j.answer × (h.state ≢ S.Open → j.handshake.state ≢ S.Open)
    clear_row (row_ended x) = (silent_7, λ n. n)
    clear_row (row_returned q) = (quiet (W.Resent (length (kept_reply h))) refl (λ t. refl), λ n. n)
    clear_row (row_not_allowed x a m) = (silent_8, λ n. n)
    clear_row {j} (row_reply plan g x) = (quiet j.answer refl (λ t. refl), λ n. replied_never plan)
    clear_row (row_hello_malformed fault g x) = (quiet (W.Refused X.Malformed) refl (λ t. refl), λ n. n)
    clear_row (row_unacceptable condition g x) = (quiet (W.Refused X.Unacceptable) refl (λ t. refl), λ n. n)
    clear_row (row_resent t i z x) = (quiet (W.Resent (length (kept_reply h))) refl (λ t. refl), λ n. n)
    clear_row (row_change t q c x) = (quiet W.Spec refl (λ t. refl), λ n. spec_never)
    clear_row (row_change_malformed t q c x) = (quiet (W.Refused X.Malformed) refl (λ t. refl), λ n. n)
    clear_row (row_clear_malformed t q c x) = (quiet (W.Refused X.Malformed) refl (λ t. refl), λ n. n)
    clear_row (row_checksum a t q c x m) = (quiet (W.Refused X.Checksum) refl (λ t. refl), λ n. n)
    clear_row (row_clear_warning a t q c x m l) = (quiet (W.Warning a.description) refl (λ t. refl), λ n. n)
    clear_row (row_clear_critical a t q c x m l) = (quiet (W.Critical a.description) refl (λ t. refl), λ n. closed_never)
    clear_row (row_clear_fatal a t q c x m l) = (quiet (W.Fatal a.description) refl (λ t. refl), λ n. closed_never)
    clear_row (row_forged g f) = true_false r.protected g.protection p
    clear_row (row_old c g t x) = not_coded c t
    clear_row (row_repeated c g t x) = not_coded c t
    clear_row (row_malformed c w n m) = not_coded c n.coded
    clear_row (row_data c w n x m) = not_coded c n.coded
    clear_row (row_warning c w a n x m l) = not_coded c n.coded
    clear_row (row_critical c w a n x m l) = not_coded c n.coded
    clear_row (row_barred c w a n x m l) = not_coded c n.coded
    clear_row (row_open c w n t x m) = not_coded c n.coded
    clear_row (row_again c w n t x m) = not_coded c n.coded
    clear_row (row_wrong_finished c w n x m) = not_coded c n.coded

started_keeps : (c : Connection) (h : Handshake) (list : SentRecords) (s : State) → (s ≡ S.Open → ⊥) → (started_to c h list s).handshake ≡ c.handshake
started_keeps c h list S.Idle n = refl
started_keeps c h list S.Replied n = refl
started_keeps c h list S.Spec n = refl
started_keeps c h list S.Open n = absurd (n refl)
started_keeps c h list S.Closed n = refl
started_keeps c h list S.Barred n = refl

module _ (c : Connection) (random d : List ℕ) (r : Record) where
  abbrev told_here : Told
  told_here = told_record c random d r

  -- the record leaves the open handshake and is silent
  abbrev Noise : Type 0
  Noise = (told_here.connection.handshake ≡ c.handshake) × Silent told_here.answer

  abbrev asks : Whom → Judged
  asks w = judged_record (asked_of c w) c.sent random d r

  noise_by : (w : Whom) → whom_of c d r ≡ w → ((left_by c w (asks w)).handshake ≡ c.handshake) × Silent (asks w).answer → Noise
  noise_by w e q =
      let t = told_by_lem c random d r w e in
      (ap (λ x. x.connection.handshake) t ∙ q.0, subst (λ x. Silent x.answer) (sym t) q.1)

  -- a clear record in Open
  pub clear_noise : c.handshake.state ≡ S.Open → r.protected ≡ false → Noise
  clear_noise o p = by_whom (whom_of c d r) refl
    where
      by_whom : (w : Whom) → whom_of c d r ≡ w → Noise
      by_whom A.Only e = absurd (only_asked c d r (subst (Asks c d r) e (asks_of c d r)) refl o)
      by_whom A.Open e =
          noise_by A.Open e
          (open_noise c.handshake c.sent random d r (λ x s. true_false r.protected s.is_protected p) o (row_of c.handshake c.sent random d r))
      by_whom A.Started e =
          let q = clear_row c.started c.sent random d r p (row_of c.started c.sent random d r) in
          let n = q.1 (hears_not_open c.started.state (started_hears c random d r (subst (Asks c d r) e (asks_of c d r)) refl)) in
          noise_by A.Started e (started_keeps c (asks A.Started).handshake (sent_with c (asks A.Started)) (asks A.Started).handshake.state n, q.0)
      by_whom A.Newcomer e =
          noise_by A.Newcomer e (refl, (clear_row (newcomer_to c.handshake) c.sent random d r p (row_of (newcomer_to c.handshake) c.sent random d r)).0)

  -- a protected record in Open that is not right under the started keys is for the open one
  pub told_open : c.handshake.state ≡ S.Open → r.protected ≡ true → (RightBeside c d r → ⊥) → told_here ≡ told_by c A.Open (asks A.Open)
  told_open o p n = told_by_lem c random d r A.Open (asks_is c d r (asks_protected o p n))

  pub told_seven : ended c.handshake.state ≡ true → told_here ≡ record { answer = W.Refused X.Ended; connection = c; beside = false }
  told_seven e = tells_is c random d r (tells_seven c random d r e)

  module _ (k : Keys) where
    noise : Settled k c.handshake → RecordOf d r → ((x : List ℕ) → Genuine k d r x → ⊥) → (RightBeside c d r → ⊥) → Noise
    unfolding Settled
    noise (inr e) at ng n = (ap (λ x. x.connection.handshake) (told_seven e), subst (λ x. Silent x.answer) (sym (told_seven e)) silent_7)
    noise (inl (o, e)) at ng n = by_protection r.protected refl
      where
        by_protection : (p : Bool) → r.protected ≡ p → Noise
        by_protection false p = clear_noise o p
        by_protection true p =
            let np : (x : List ℕ) → Protected (keys_of c.handshake) d r x → ⊥
            = λ x s. ng x (record { in_place = at; protected_as = subst (λ y. Protected y d r x) e s }) in
            let t = told_open o p n in
            let q = open_noise c.handshake c.sent random d r np o (row_of c.handshake c.sent random d r) in
            (ap (λ x. x.connection.handshake) t ∙ q.0, subst (λ x. Silent x.answer) (sym t) q.1)

    -- what a record leaves is settled again
    told_settled : Settled k c.handshake → (RightBeside c d r → ⊥) → Settled k told_here.connection.handshake
    unfolding Settled
    told_settled (inr e) n = inr (ap (λ x. ended x.connection.handshake.state) (told_seven e) ∙ e)
    told_settled (inl (o, e)) n = by_protection r.protected refl
      where
        by_protection : (p : Bool) → r.protected ≡ p → Settled k told_here.connection.handshake
        by_protection false p = subst (Settled k) (sym (clear_noise o p).0) (inl (o, e))
        by_protection true p =
            subst (λ x. Settled k x.connection.handshake) (sym (told_open o p n)) (record_more k c.handshake c.sent random d r (inl (o, e)))

-- ---- one record in both runs

pub Alike : Answer → Answer → Type 0
Alike a b = (a ≡ b) ⊎ (Silent a × Silent b)

module _ (k : Keys) (c e : Connection) (same : SameOpen c e) (random d : List ℕ) (r : Record) (n : RightBeside c d r → ⊥) (m : RightBeside e d r → ⊥) where
  abbrev Both : Type 0
  Both = ((told_record c random d r).connection.handshake ≡ (told_record e random d r).connection.handshake)
      × Alike (told_record c random d r).answer (told_record e random d r).answer

  -- the judgement of a protected record in Open does not look at the records sent
  one_judgement : c.handshake.state ≡ S.Open → r.protected ≡ true
      → judged_record c.handshake c.sent random d r ≡ judged_record e.handshake e.sent random d r
  one_judgement o p =
      let g : Guarded c.handshake.state (seen_in d r) = record { protection = p; kind = inr o } in
      guarded_is c.handshake c.sent random d r g ∙ sym (guarded_is c.handshake e.sent random d r g)
      ∙ ap (λ h. judged_record h e.sent random d r) same

  pub both_told : Settled k c.handshake → Both
  unfolding Settled Alike
  both_told (inr x) =
      let a = told_seven c random d r x in
      let b = told_seven e random d r (sym (ap (λ h. ended h.state) same) ∙ x) in
      (ap (λ t. t.connection.handshake) a ∙ same ∙ sym (ap (λ t. t.connection.handshake) b), inl (ap (λ t. t.answer) a ∙ sym (ap (λ t. t.answer) b)))
  both_told (inl (o, x)) = by_protection r.protected refl
    where
      o' : e.handshake.state ≡ S.Open
      o' = sym (ap (λ h. h.state) same) ∙ o

      by_protection : (p : Bool) → r.protected ≡ p → Both
      by_protection false p =
          let a = clear_noise c random d r o p in
          let b = clear_noise e random d r o' p in
          (a.0 ∙ same ∙ sym b.0, inr (a.1, b.1))
      by_protection true p =
          let a = told_open c random d r o p n in
          let b = told_open e random d r o' p m in
          let j = one_judgement o p in (
            ap (λ t. t.connection.handshake) a ∙ ap (λ y. y.handshake) j ∙ sym (ap (λ t. t.connection.handshake) b),
            inl (ap (λ t. t.answer) a ∙ ap (λ y. y.answer) j ∙ sym (ap (λ t. t.answer) b)),
          )

-- ---- record by record

handed_of_lem : (d : List ℕ) (a : Answer) → Silent a → pick (is_data a) (handed_of d a ∷ []) [] ≡ []
handed_of_lem d a s = ap (λ b. pick b (handed_of d a ∷ []) []) s.no_data

handed_alike : (d : List ℕ) (a b : Answer) → Alike a b → pick (is_data a) (handed_of d a ∷ []) [] ≡ pick (is_data b) (handed_of d b ∷ []) []
unfolding Alike
handed_alike d a b (inl e) = ap (λ x. pick (is_data x) (handed_of d x ∷ []) []) e
handed_alike d a b (inr (s, t)) = handed_of_lem d a s ∙ sym (handed_of_lem d b t)

module _ (k : Keys) where
  both_other : (c e : Connection) → SameOpen c e → (a : Act) → NoRecord a → SameOpen (leaves c a) (leaves e a)
  both_other c e same a n = act_next c a n ∙ ap (λ h. next h (event_of a)) same ∙ sym (act_next e a n)

  both_act : (c e : Connection) → SameOpen c e → Settled k c.handshake → (a : Act) → GoesOn c a → GoesOn e a
      → SameOpen (leaves c a) (leaves e a) × (handed_at c a ≡ handed_at e a) × Settled k (leaves c a).handshake
  both_act c e same s (comes random d r) n m =
      let q = both_told k c e same random d r n m s in
      (q.0, handed_alike d (told_record c random d r).answer (told_record e random d r).answer q.1, told_settled c random d r k s n)
  both_act c e same s (sends bytes out) n m = (both_other c e same (sends bytes out) tt, refl, act_settled k c (sends bytes out) tt tt s)
  both_act c e same s (alerts protected level description lent out) n m =
      (both_other c e same (alerts protected level description lent out) tt, refl, act_settled k c (alerts protected level description lent out) tt tt s)
  both_act c e same s closes n m = (both_other c e same closes tt, refl, act_settled k c closes tt tt s)
  both_act c e same s starts n m = (both_other c e same starts tt, refl, act_settled k c starts tt n s)

  leaves_out_acts : (c e : Connection) → SameOpen c e → Settled k c.handshake → {acts bs : List Act} → Without k c e acts bs
      → SameOpen (behind c acts) (behind e bs) × (handed_over c acts ≡ handed_over e bs)
  unfolding behind handed_over
  leaves_out_acts c e same s ends = (same, refl)
  leaves_out_acts c e same s (both {a = a} n m more) =
      let q = both_act c e same s a n m in
      let p = leaves_out_acts (leaves c a) (leaves e a) q.0 q.2 more in
      (p.0, ap₂ (λ x y. x ++ y) q.1 p.1)
  leaves_out_acts c e same s (but {random = random} {d = d} {r = r} at ng n more) =
      let q = noise c random d r k s at ng n in
      let p = leaves_out_acts (leaves c (comes random d r)) e (q.0 ∙ same) (told_settled c random d r k s n) more in
      (p.0, ap₂ (λ x y. x ++ y) (handed_of_lem d (told_record c random d r).answer q.1) p.1)

pub leaves_out_at : (c e : Connection) → SameOpen c e → c.handshake.state ≡ S.Open → (xs ys : List Act) → Without (keys_of c.handshake) c e xs ys
    → SameOpen (behind c xs) (behind e ys) × (handed_over c xs ≡ handed_over e ys)
unfolding Settled
leaves_out_at c e same o xs ys w = leaves_out_acts (keys_of c.handshake) c e same (inl (o, refl)) w

pub leaves_out_records : LeavesOutRecords
unfolding LeavesOutRecords
leaves_out_records c e same o xs ys w = leaves_out_at c e same o xs ys w

-- ---- a datagram

AllAlike : List Answer → List Answer → Type 0
AllAlike [] [] = Unit
AllAlike [] (b ∷ bs) = ⊥
AllAlike (a ∷ acts) [] = ⊥
AllAlike (a ∷ acts) (b ∷ bs) = Alike a b × AllAlike acts bs

SlotsAlike : List Slot → List Slot → Type 0
SlotsAlike [] [] = Unit
SlotsAlike [] (b ∷ bs) = ⊥
SlotsAlike (a ∷ acts) [] = ⊥
SlotsAlike (a ∷ acts) (b ∷ bs) = Alike a.answer b.answer × SlotsAlike acts bs

same_slots : (slots : List Slot) → SlotsAlike slots slots
unfolding SlotsAlike Alike
same_slots [] = tt
same_slots (s ∷ slots) = (inl refl, same_slots slots)

padded_alike : (acts bs : List Answer) (n : ℕ) → AllAlike acts bs → SlotsAlike (map slot acts ++ replicate n (slot W.Nothing)) (map slot bs ++ replicate n (slot W.Nothing))
unfolding AllAlike SlotsAlike
padded_alike [] [] n x = same_slots (replicate n (slot W.Nothing))
padded_alike [] (b ∷ bs) n x = absurd x
padded_alike (a ∷ acts) [] n x = absurd x
padded_alike (a ∷ acts) (b ∷ bs) n x = (x.0, padded_alike acts bs n x.1)

alike_lengths : (acts bs : List Answer) → AllAlike acts bs → length acts ≡ length bs
unfolding AllAlike
alike_lengths [] [] x = refl
alike_lengths [] (b ∷ bs) x = absurd x
alike_lengths (a ∷ acts) [] x = absurd x
alike_lengths (a ∷ acts) (b ∷ bs) x = ap suc (alike_lengths acts bs x.1)

slots_alike : (acts bs : List Answer) → AllAlike acts bs → SlotsAlike (slots_of acts) (slots_of bs)
unfolding slots_of
slots_alike acts bs x =
    subst (λ n. SlotsAlike (map slot acts ++ replicate (8 - length acts) (slot W.Nothing)) (map slot bs ++ replicate n (slot W.Nothing)))
    (ap (λ n. 8 - n) (alike_lengths acts bs x)) (padded_alike acts bs (8 - length acts) x)

handed_slots : (d : List ℕ) (xs ys : List Slot) → SlotsAlike xs ys → handed_parts d xs ≡ handed_parts d ys
unfolding handed_parts SlotsAlike
handed_slots d [] [] x = refl
handed_slots d [] (y ∷ ys) x = absurd x
handed_slots d (a ∷ xs) [] x = absurd x
handed_slots d (a ∷ xs) (b ∷ ys) x =
    one a.answer (handed_parts d xs) ∙ ap₂ (λ p q. p ++ q) (handed_alike d a.answer b.answer x.0) (handed_slots d xs ys x.1) ∙ sym (one b.answer (handed_parts d ys))
  where
    one : (y : Answer) (rest : List (List ℕ)) → pick (is_data y) (handed_of d y ∷ rest) rest ≡ pick (is_data y) (handed_of d y ∷ []) [] ++ rest
    one y rest = told (is_data y)
      where
        told : (b : Bool) → pick b (handed_of d y ∷ rest) rest ≡ pick b (handed_of d y ∷ []) [] ++ rest
        told true = refl
        told false = refl

alike_at : (xs ys : List Slot) (n : ℕ) → SlotsAlike xs ys → Alike (get_or xs n (slot W.Nothing)).answer (get_or ys n (slot W.Nothing)).answer
unfolding SlotsAlike Alike
alike_at [] [] n x = inl refl
alike_at [] (b ∷ ys) n x = absurd x
alike_at (a ∷ xs) [] n x = absurd x
alike_at (a ∷ xs) (b ∷ ys) zero x = x.0
alike_at (a ∷ xs) (b ∷ ys) (suc n) x = alike_at xs ys n x.1

back : (t u : Tally) → ButForged t u → ButForged u t
back t u b = record { handed_same = sym b.handed_same; old_same = sym b.old_same; repeated_same = sym b.repeated_same }

alike_answer : (t u : Tally) → ButForged t u → (a b : Answer) → Alike a b → ButForged (counted_answer t a) (counted_answer u b)
unfolding Alike
alike_answer t u x a b (inl e) = subst (λ y. ButForged (counted_answer t a) (counted_answer u y)) e (alike t u x a)
alike_answer t u x a b (inr (s, v)) =
    trans (counted_answer t a) t (counted_answer u b) (s.no_count t) (trans t u (counted_answer u b) x (back (counted_answer u b) u (v.no_count u)))

alike_slots : (t u : Tally) → ButForged t u → (xs ys : List Slot) → SlotsAlike xs ys → (n : ℕ) → ButForged (counted_first t xs n) (counted_first u ys n)
unfolding counted_first
alike_slots t u b xs ys x zero = b
alike_slots t u b xs ys x (suc n) =
    alike_answer (counted_first t xs n) (counted_first u ys n) (alike_slots t u b xs ys x n) (get_or xs n (slot W.Nothing)).answer (get_or ys n (slot W.Nothing)).answer (alike_at xs ys n x)

module _ (k : Keys) (random d : List ℕ) where
  -- the same datagram in both runs
  both_records : (c e : Connection) → SameOpen c e → Settled k c.handshake → (rs : List Record)
      → Unreplaced c (map (comes random d) rs) → Unreplaced e (map (comes random d) rs)
      → SameOpen (end_of c random d rs) (end_of e random d rs) × Settled k (end_of c random d rs).handshake × AllAlike (answers_of c random d rs) (answers_of e random d rs)
  unfolding end_of answers_of Unreplaced AllAlike
  both_records c e same s [] n m = (same, s, tt)
  both_records c e same s (r ∷ rs) n m =
      let q = both_told k c e same random d r n.0 m.0 s in
      let p = both_records (told_record c random d r).connection (told_record e random d r).connection q.0 (told_settled c random d r k s n.0) rs n.1 m.1 in
      (p.0, p.1, (q.1, p.2))

  -- one that is left out
  noise_records : (c : Connection) → Settled k c.handshake → NoneGenuine k d → (before rs : List Record) → framing_of d ≡ framed (before ++ rs)
      → Unreplaced c (map (comes random d) rs) → ((end_of c random d rs).handshake ≡ c.handshake) × AllSilent (answers_of c random d rs)
  unfolding end_of answers_of Unreplaced AllSilent
  noise_records c s ng before [] f n = (refl, tt)
  noise_records c s ng before (r ∷ rs) f n =
      let at : RecordOf d r = record { before = before; behind = rs; framing = f } in
      let q = noise c random d r k s at (λ x g. ng r x g) n.0 in
      let further : framing_of d ≡ framed ((before ++ (r ∷ [])) ++ rs) = f ∙ ap framed (sym (append_assoc before (r ∷ []) rs)) in
      let p = noise_records (told_record c random d r).connection (told_settled c random d r k s n.0) ng (before ++ (r ∷ [])) rs further n.1 in
      (p.0 ∙ q.0, (q.1, p.1))

pub open_kept : OpenKept
unfolding OpenKept Settled
open_kept c o random d rs f ng n = (noise_records (keys_of c.handshake) random d c (inl (o, refl)) ng [] rs f n).0

-- ---- call by call

module _ (k : Keys) (d random out : List ℕ) where
  both_receive : (c e : Connection) → SameOpen c e → Settled k c.handshake → (b s : Bool) (f : Framing)
      → Unreplaced c (pick b (pick s [] (records_in random d f)) []) → Unreplaced e (pick b (pick s [] (records_in random d f)) [])
      → SameOpen (receive_by c d random out b s f).connection (receive_by e d random out b s f).connection × Settled k (receive_by c d random out b s f).connection.handshake
      × SlotsAlike (answers_in (receive_by c d random out b s f).result) (answers_in (receive_by e d random out b s f).result)
  unfolding whole_of run_of
  both_receive c e same x false s f n m = (same, x, same_slots (slots_of []))
  both_receive c e same x true true f n m = (same, x, same_slots (slots_of []))
  both_receive c e same x true false (faulty fault at) n m = (same, x, same_slots (slots_of []))
  both_receive c e same x true false (framed rs) n m =
      let q = both_records k random d c e same x rs n m in
      (q.0, q.1, slots_alike (answers_of c random d rs) (answers_of e random d rs) q.2)

  noise_receive : (c : Connection) → Settled k c.handshake → NoneGenuine k d → (b s : Bool) (f : Framing) → framing_of d ≡ f
      → Unreplaced c (pick b (pick s [] (records_in random d f)) [])
      → ((receive_by c d random out b s f).connection.handshake ≡ c.handshake) × SlotsSilent (answers_in (receive_by c d random out b s f).result)
  unfolding whole_of run_of AllSilent
  noise_receive c x ng false s f ef n = (refl, slots_silent [] tt)
  noise_receive c x ng true true f ef n = (refl, slots_silent [] tt)
  noise_receive c x ng true false (faulty fault at) ef n = (refl, slots_silent [] tt)
  noise_receive c x ng true false (framed rs) ef n =
      let q = noise_records k random d c x ng [] rs ef n in (q.0, slots_silent (answers_of c random d rs) q.1)

-- the step of a call in both runs
record BothSteps (k : Keys) (call : Call) (c e : Connection) : Type 0 where
  opens : SameOpen (step_of c call).connection (step_of e call).connection
  settled : Settled k (step_of c call).connection.handshake
  slots : SlotsAlike (answers_in (step_of c call).result) (answers_in (step_of e call).result)

abbrev Plain : Call → Type 0
Plain (receive d random out) = ⊥
Plain (send_data bytes out) = Unit
Plain (send_alert protected level description lent out) = Unit
Plain close = Unit
Plain start = Unit

module _ (k : Keys) where
  both_others : (c e : Connection) → SameOpen c e → Settled k c.handshake → (call : Call) → Plain call → Continues c.handshake.state call → BothSteps k call c e
  unfolding step_of SlotsAlike
  both_others c e same x (receive d random out) p go = absurd p
  both_others c e same x (send_data bytes out) p go =
      record { opens = both_other k c e same (sends bytes out) tt; settled = act_settled k c (sends bytes out) tt tt x; slots = tt }
  both_others c e same x (send_alert protected level description lent out) p go =
      record {
        opens = both_other k c e same (alerts protected level description lent out) tt;
        settled = act_settled k c (alerts protected level description lent out) tt tt x;
        slots = tt;
      }
  both_others c e same x close p go = record { opens = both_other k c e same closes tt; settled = act_settled k c closes tt tt x; slots = tt }
  both_others c e same x start p go = record { opens = both_other k c e same starts tt; settled = act_settled k c starts tt go x; slots = tt }

  both_call : (c e : Connection) → SameOpen c e → Settled k c.handshake → (call : Call) → Continues c.handshake.state call
      → Unreplaced c (acts_in call) → Unreplaced e (acts_in call) → BothSteps k call c e
  both_call c e same x (receive d random out) go n m =
      let q = both_receive k d random out c e same x (eqb (length random) 16) (ltb (length out) 128) (framing_of d) n m in
      let sc = step_receive c d random out in
      let se = step_receive e d random out in
      record {
        opens = ap (λ y. y.connection.handshake) sc ∙ q.0 ∙ sym (ap (λ y. y.connection.handshake) se);
        settled = subst (λ y. Settled k y.connection.handshake) (sym sc) q.1;
        slots = subst (λ y. SlotsAlike (answers_in (step_of c (receive d random out)).result) (answers_in y.result)) (sym se)
            (subst (λ y. SlotsAlike (answers_in y.result) (answers_in (receive_by e d random out (eqb (length random) 16) (ltb (length out) 128) (framing_of d)).result)) (sym sc) q.2);
      }
  both_call c e same x (send_data bytes out) go n m = both_others c e same x (send_data bytes out) tt go
  both_call c e same x (send_alert protected level description lent out) go n m =
      both_others c e same x (send_alert protected level description lent out) tt go
  both_call c e same x close go n m = both_others c e same x close tt go
  both_call c e same x start go n m = both_others c e same x start tt go

  -- a datagram that is left out
  left_call : (c : Connection) → Settled k c.handshake → (d random out : List ℕ) → NoneGenuine k d → Unreplaced c (acts_in (receive d random out))
      → ((step_of c (receive d random out)).connection.handshake ≡ c.handshake) × SlotsSilent (answers_in (step_of c (receive d random out)).result)
  left_call c x d random out ng n =
      let q = noise_receive k d random out c x ng (eqb (length random) 16) (ltb (length out) 128) (framing_of d) refl n in
      let sc = step_receive c d random out in
      (ap (λ y. y.connection.handshake) sc ∙ q.0, subst (λ y. SlotsSilent (answers_in y.result)) (sym sc) q.1)

  pub same_opens : (c e : Connection) {calls rest : List Call} → LeftOut step_of k c e calls rest → SameOpen c e → Settled k c.handshake
      → SameOpen (final_of step_of c calls) (final_of step_of e rest)
  unfolding final_of
  same_opens c e end same x = same
  same_opens c e (stays {call = call} go n m more) same x =
      let q = both_call c e same x call go n m in same_opens (step_of c call).connection (step_of e call).connection more q.opens q.settled
  same_opens c e (left {d = d} {random = random} {out = out} ng n more) same x =
      let q = left_call c x d random out ng n in
      same_opens (step_of c (receive d random out)).connection e more (q.0 ∙ same) (subst (Settled k) (sym q.0) x)

  pub same_handeds : (c e : Connection) {calls rest : List Call} → LeftOut step_of k c e calls rest → SameOpen c e → Settled k c.handshake
      → handed_by step_of c calls ≡ handed_by step_of e rest
  unfolding handed_by
  same_handeds c e end same x = refl
  same_handeds c e (stays {call = call} go n m more) same x =
      let q = both_call c e same x call go n m in
      ap₂ (λ y z. y ++ z) (handed_slots (datagram_of call) (answers_in (step_of c call).result) (answers_in (step_of e call).result) q.slots)
      (same_handeds (step_of c call).connection (step_of e call).connection more q.opens q.settled)
  same_handeds c e (left {d = d} {random = random} {out = out} ng n more) same x =
      let q = left_call c x d random out ng n in
      ap₂ (λ y z. y ++ z) (handed_none d (answers_in (step_of c (receive d random out)).result) q.1)
      (same_handeds (step_of c (receive d random out)).connection e more (q.0 ∙ same) (subst (Settled k) (sym q.0) x))

  -- the tally of a result
  quiet_result : (t : Tally) (r : Returned) → SlotsSilent (answers_in r) → ButForged (tallied_in t r) t
  quiet_result t (received taken answers written) s = counted_silent t answers s 8
  quiet_result t (sent outcome written) s = same_tally t
  quiet_result t (called outcome) s = same_tally t

  alike_results : (t u : Tally) → ButForged t u → (call : Call) (c e : Connection)
      → SlotsAlike (answers_in (step_of c call).result) (answers_in (step_of e call).result)
      → ButForged (tallied_in t (step_of c call).result) (tallied_in u (step_of e call).result)
  unfolding step_of
  alike_results t u b (receive d random out) c e s =
      alike_slots t u b (answers_in (step_of c (receive d random out)).result) (answers_in (step_of e (receive d random out)).result) s 8
  alike_results t u b (send_data bytes out) c e s = b
  alike_results t u b (send_alert protected level description lent out) c e s = b
  alike_results t u b close c e s = b
  alike_results t u b start c e s = b

  pub same_tallies : (t u : Tally) → ButForged t u → (c e : Connection) {calls rest : List Call} → LeftOut step_of k c e calls rest → SameOpen c e
      → Settled k c.handshake → ButForged (tallied_by step_of t c calls) (tallied_by step_of u e rest)
  unfolding tallied_by
  same_tallies t u b c e end same x = b
  same_tallies t u b c e (stays {call = call} go n m more) same x =
      let q = both_call c e same x call go n m in
      same_tallies (tallied_in t (step_of c call).result) (tallied_in u (step_of e call).result) (alike_results t u b call c e q.slots)
      (step_of c call).connection (step_of e call).connection more q.opens q.settled
  same_tallies t u b c e (left {d = d} {random = random} {out = out} ng n more) same x =
      let q = left_call c x d random out ng n in
      let t' : Tally = tallied_in t (step_of c (receive d random out)).result in
      same_tallies t' u (trans t' t u (quiet_result t (step_of c (receive d random out)).result q.1) b)
      (step_of c (receive d random out)).connection e more (q.0 ∙ same) (subst (Settled k) (sym q.0) x)

pub leaves_out : LeavesOut step_of
unfolding LeavesOut Settled
leaves_out c e same o calls rest out =
    record {
      same_open = same_opens (keys_of c.handshake) c e out same (inl (o, refl));
      same_handed = same_handeds (keys_of c.handshake) c e out same (inl (o, refl));
      same_tally = λ t. same_tallies (keys_of c.handshake) t t (same_tally t) c e out same (inl (o, refl));
    }
