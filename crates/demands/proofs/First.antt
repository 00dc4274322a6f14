-- What the first record of a datagram sends, read off its row: the bytes that the judge keeps for it are those that its answer names.
use mathlib.Core.Path.{◌≡◌, refl, sym, ◌∙◌, ap, subst}
use mathlib.Core.Logic.{◌⊎◌, inl, inr}
use mathlib.Core.List.{List, [], ◌∷◌}
use Prim.Native.Nat.{ℕ, zero, suc, ◌-◌}
use native.Mathlib.Omega.{arith}
use Rattle.digest.specs.Pick.{pick}
use lib.ListN.{length, take, replicate}
use lib.Seq.{take_at}
use Rattle.record.specs.declared.reader.Record.{Record}
use Rattle.message.specs.Acceptance.{heard_of}
use Rattle.message.specs.declared.acceptance.Plan.{Plan}
use Rattle.message.specs.declared.acceptance.Unheard.TheVariants as H
use Rattle.connection.specs.Answer.{judged, reply_size}
use Rattle.connection.specs.Handshake.{planted, kept_reply, newcomer_to}
use Rattle.connection.specs.Asked.{under_way, asked_of}
use Rattle.connection.specs.Told.{started_to, left_by, is_beside, told_by, told_record, kept_by}
use Rattle.connection.specs.Judge.{judged_record, fragment_of}
use Rattle.connection.specs.Receive.{first_reply, sent_by, sent_of_kept}
use Rattle.connection.specs.Reply.{reply_to, answered_with}
use Rattle.connection.specs.declared.answer.Answer.{Answer}
use Rattle.connection.specs.declared.answer.Answer.TheVariants as W
use Rattle.connection.specs.declared.answer.Judged.{Judged}
use Rattle.connection.specs.declared.handshake.Handshake.{Handshake}
use Rattle.connection.specs.declared.state.State.TheVariants as S
use Rattle.connection.specs.declared.asked.Whom.{Whom}
use Rattle.connection.specs.declared.asked.Whom.TheVariants as A
use Rattle.connection.specs.declared.connection.Connection.{Connection}
use Rattle.demands.specs.Table.{Row, Hears}
use Rattle.demands.specs.Asked.{Asks, asks_only, asks_its_hello, asks_open_hello, asks_new_hello, asks_clear, asks_clear_alone, asks_right, asks_protected, sent_with, tells}
use Rattle.demands.specs.Table.{row_ended, row_returned, row_not_allowed, row_reply, row_hello_malformed, row_unacceptable, row_resent, row_change, row_change_malformed, row_clear_malformed, row_checksum, row_clear_warning, row_clear_critical, row_clear_fatal, row_forged, row_old, row_repeated, row_malformed, row_data, row_warning, row_critical, row_barred, row_open, row_again, row_wrong_finished}
use Rattle.demands.specs.Calls.{Chain, chain_end, chain_more, SendsBy, FirstSends}
use Rattle.demands.proofs.Table.{row_of, row_is}
use Rattle.demands.proofs.Asked.{idle_never, asks_is, told_by_lem}
use Rattle.connection.specs.declared.sent.SentRecords.{SentRecords}
use Rattle.std.specs.Prelude.{Ok, Result}
use Rattle.message.specs.declared.acceptance.Unheard.{Unheard}

-- as many as were taken
pub take_taken : (n : ℕ) (l : List ℕ) → take (length (take n l)) l ≡ take n l
take_taken zero l = refl
take_taken (suc n) [] = refl
take_taken (suc n) (x ∷ l) = ap (λ t. x ∷ t) (take_taken n l)

-- what the answer of a handshake sends: the reply as it is kept then
abbrev pub sent_of : Judged → List ℕ
sent_of j = sent_of_kept j.handshake.kept j.answer

one_plan : (a b : Plan) (x : Result Plan Unheard) → x ≡ Ok a → x ≡ Ok b → a ≡ b
one_plan a b x e f = cc

module _ (h : Handshake) (sent : SentRecords) (random d : List ℕ) (r : Record) where
  -- a new reply stands at the front of its place
  replied : (plan : Plan)
      → sent_of (judged (W.Reply (length (reply_to (planted h) random (fragment_of d r) plan))) (answered_with h random (fragment_of d r) plan))
      ≡ reply_to (planted h) random (fragment_of d r) plan
  unfolding answered_with
  replied plan =
      let reply : List ℕ = reply_to (planted h) random (fragment_of d r) plan in
      take_at reply (replicate (84 - length reply) 0) (length reply) refl

  replied_so : (plan : Plan) → heard_of (fragment_of d r) h.id ≡ Ok plan → (bytes : List ℕ)
      → SendsBy h random (fragment_of d r) (W.Reply (length (reply_to (planted h) random (fragment_of d r) plan))) bytes
      → reply_to (planted h) random (fragment_of d r) plan ≡ bytes
  replied_so plan e bytes z =
      ap (reply_to (planted h) random (fragment_of d r)) (one_plan plan z.0 (heard_of (fragment_of d r) h.id) e z.1) ∙ sym z.2

  pub row_sends : {j : Judged} → Row h sent random d r j → SendsBy h random (fragment_of d r) j.answer (sent_of j)
  row_sends (row_ended e) = refl
  row_sends (row_returned q) = take_taken h.kept.size h.kept.reply
  row_sends (row_not_allowed e b n) = refl
  row_sends (row_reply plan g e) = (plan, e, replied plan)
  row_sends (row_hello_malformed fault g e) = refl
  row_sends (row_unacceptable condition g e) = refl
  row_sends (row_resent s i y e) = take_taken h.kept.size h.kept.reply
  row_sends (row_change s q c e) = refl
  row_sends (row_change_malformed s q c e) = refl
  row_sends (row_clear_malformed s q c e) = refl
  row_sends (row_checksum b s q c e n) = refl
  row_sends (row_clear_warning b s q c e m l) = refl
  row_sends (row_clear_critical b s q c e m l) = refl
  row_sends (row_clear_fatal b s q c e m l) = refl
  row_sends (row_forged g f) = refl
  row_sends (row_old c g s e) = refl
  row_sends (row_repeated c g s e) = refl
  row_sends (row_malformed c w n m) = refl
  row_sends (row_data c w n e m) = refl
  row_sends (row_warning c w b n e m l) = refl
  row_sends (row_critical c w b n e m l) = refl
  row_sends (row_barred c w b n e m l) = refl
  row_sends (row_open c w n s e m) = refl
  row_sends (row_again c w n s e m) = refl
  row_sends (row_wrong_finished c w n e m) = refl

  pub sends_row : {j : Judged} → Row h sent random d r j → (bytes : List ℕ) → SendsBy h random (fragment_of d r) j.answer bytes → sent_of j ≡ bytes
  sends_row (row_ended e) bytes z = sym z
  sends_row (row_returned q) bytes z = take_taken h.kept.size h.kept.reply ∙ sym z
  sends_row (row_not_allowed e b n) bytes z = sym z
  sends_row (row_reply plan g e) bytes z = replied plan ∙ replied_so plan e bytes z
  sends_row (row_hello_malformed fault g e) bytes z = sym z
  sends_row (row_unacceptable condition g e) bytes z = sym z
  sends_row (row_resent s i y e) bytes z = take_taken h.kept.size h.kept.reply ∙ sym z
  sends_row (row_change s q c e) bytes z = sym z
  sends_row (row_change_malformed s q c e) bytes z = sym z
  sends_row (row_clear_malformed s q c e) bytes z = sym z
  sends_row (row_checksum b s q c e n) bytes z = sym z
  sends_row (row_clear_warning b s q c e m l) bytes z = sym z
  sends_row (row_clear_critical b s q c e m l) bytes z = sym z
  sends_row (row_clear_fatal b s q c e m l) bytes z = sym z
  sends_row (row_forged g f) bytes z = sym z
  sends_row (row_old c g s e) bytes z = sym z
  sends_row (row_repeated c g s e) bytes z = sym z
  sends_row (row_malformed c w n m) bytes z = sym z
  sends_row (row_data c w n e m) bytes z = sym z
  sends_row (row_warning c w b n e m l) bytes z = sym z
  sends_row (row_critical c w b n e m l) bytes z = sym z
  sends_row (row_barred c w b n e m l) bytes z = sym z
  sends_row (row_open c w n s e m) bytes z = sym z
  sends_row (row_again c w n s e m) bytes z = sym z
  sends_row (row_wrong_finished c w n e m) bytes z = sym z

-- the reply stands where the connection is told to keep it
module _ (c : Connection) (random d : List ℕ) (r : Record) where
  newcomer_not : {P : Type 0} → Hears (newcomer_to c.handshake).state → P
  newcomer_not (inl e) = let z : ◌≡◌ {A = ℕ} 0 1 = cc in absurd (omega arith)
  newcomer_not (inr e) = let z : ◌≡◌ {A = ℕ} 0 1 = cc in absurd (omega arith)

  -- a started handshake that is asked is in Replied or Spec
  pub started_hears : {w : Whom} → Asks c d r w → w ≡ A.Started → Hears c.started.state
  started_hears (asks_only n) e = let z : ◌≡◌ {A = ℕ} 0 1 = cc in absurd (omega arith)
  started_hears (asks_its_hello o i z s k) e = s
  started_hears (asks_open_hello o i z n k) e = let y : ◌≡◌ {A = ℕ} 0 1 = cc in absurd (omega arith)
  started_hears (asks_new_hello o i z n k) e = let y : ◌≡◌ {A = ℕ} 0 1 = cc in absurd (omega arith)
  started_hears (asks_clear o p n s) e = s
  started_hears (asks_clear_alone o p n s) e = let z : ◌≡◌ {A = ℕ} 0 1 = cc in absurd (omega arith)
  started_hears (asks_right q) e = inr q.in_spec
  started_hears (asks_protected o p n) e = let z : ◌≡◌ {A = ℕ} 0 1 = cc in absurd (omega arith)

  abbrev keeps : Whom → Judged → List ℕ
  keeps w j = sent_by (told_by c w j)

  replied_kept : (w : Whom) (j : Judged) → j.handshake.state ≡ S.Replied → keeps w j ≡ sent_of j
  replied_kept A.Only j e = refl
  replied_kept A.Open j e = refl
  replied_kept A.Started j e = ap (λ s. sent_of_kept (started_to c j.handshake (sent_with c j) s).started.kept j.answer) e
  replied_kept A.Newcomer j e = ap (λ s. sent_of_kept (pick (under_way s) j.handshake c.started).kept j.answer) e

  resent_kept : (w : Whom) → Asks c d r w → (size : ℕ) → Hears (asked_of c w).state ⊎ ((asked_of c w).state ≡ S.Open)
      → keeps w (judged (W.Resent size) (asked_of c w)) ≡ sent_of (judged (W.Resent size) (asked_of c w))
  resent_kept A.Only k size s = refl
  resent_kept A.Open k size s = refl
  resent_kept A.Started k size s = by_state (started_hears k refl)
    where
      by_state : Hears c.started.state
          → sent_of_kept (started_to c c.started c.sent c.started.state).started.kept (W.Resent size) ≡ sent_of_kept c.started.kept (W.Resent size)
      by_state (inl e) = ap (λ x. sent_of_kept (started_to c c.started c.sent x).started.kept (W.Resent size)) e
      by_state (inr e) = ap (λ x. sent_of_kept (started_to c c.started c.sent x).started.kept (W.Resent size)) e
  resent_kept A.Newcomer k size (inl s) = newcomer_not s
  resent_kept A.Newcomer k size (inr s) = absurd (idle_never s)

  -- what sends nothing
  nothing_kept_lem : (w : Whom) (j : Judged) → reply_size j.answer ≡ 0 → keeps w j ≡ sent_of j
  nothing_kept_lem w j e = ap (λ n. take n (kept_by (is_beside w) (left_by c w j)).reply) e ∙ sym (ap (λ n. take n j.handshake.kept.reply) e)

  replied_state : (w : Whom) (plan : Plan) → (answered_with (asked_of c w) random (fragment_of d r) plan).state ≡ S.Replied
  unfolding answered_with
  replied_state w plan = refl

  pub kept_where : (w : Whom) → Asks c d r w → {j : Judged} → Row (asked_of c w) c.sent random d r j → keeps w j ≡ sent_of j
  kept_where w k {j} (row_ended e) = nothing_kept_lem w j refl
  kept_where w k {j} (row_returned q) = resent_kept w k (length (kept_reply (asked_of c w))) (inr q.is_open)
  kept_where w k {j} (row_not_allowed e b n) = nothing_kept_lem w j refl
  kept_where w k {j} (row_reply plan g e) = replied_kept w j (replied_state w plan)
  kept_where w k {j} (row_hello_malformed fault g e) = nothing_kept_lem w j refl
  kept_where w k {j} (row_unacceptable condition g e) = nothing_kept_lem w j refl
  kept_where w k {j} (row_resent s i y e) = resent_kept w k (length (kept_reply (asked_of c w))) (inl s)
  kept_where w k {j} (row_change s q x e) = nothing_kept_lem w j refl
  kept_where w k {j} (row_change_malformed s q x e) = nothing_kept_lem w j refl
  kept_where w k {j} (row_clear_malformed s q x e) = nothing_kept_lem w j refl
  kept_where w k {j} (row_checksum b s q x e n) = nothing_kept_lem w j refl
  kept_where w k {j} (row_clear_warning b s q x e m l) = nothing_kept_lem w j refl
  kept_where w k {j} (row_clear_critical b s q x e m l) = nothing_kept_lem w j refl
  kept_where w k {j} (row_clear_fatal b s q x e m l) = nothing_kept_lem w j refl
  kept_where w k {j} (row_forged g f) = nothing_kept_lem w j refl
  kept_where w k {j} (row_old x g s e) = nothing_kept_lem w j refl
  kept_where w k {j} (row_repeated x g s e) = nothing_kept_lem w j refl
  kept_where w k {j} (row_malformed x v n m) = nothing_kept_lem w j refl
  kept_where w k {j} (row_data x v n e m) = nothing_kept_lem w j refl
  kept_where w k {j} (row_warning x v b n e m l) = nothing_kept_lem w j refl
  kept_where w k {j} (row_critical x v b n e m l) = nothing_kept_lem w j refl
  kept_where w k {j} (row_barred x v b n e m l) = nothing_kept_lem w j refl
  kept_where w k {j} (row_open x v n s e m) = nothing_kept_lem w j refl
  kept_where w k {j} (row_again x v n s e m) = nothing_kept_lem w j refl
  kept_where w k {j} (row_wrong_finished x v n e m) = nothing_kept_lem w j refl

  -- what is sent is what the handshake that was asked sends
  pub told_sends : (w : Whom) → Asks c d r w → sent_by (told_record c random d r) ≡ sent_of (judged_record (asked_of c w) c.sent random d r)
  told_sends w k =
      ap sent_by (told_by_lem c random d r w (asks_is c d r k)) ∙ kept_where w k (row_of (asked_of c w) c.sent random d r)

  one_judged : (w : Whom) {j : Judged} → Asks c d r w → Row (asked_of c w) c.sent random d r j → sent_by (told_record c random d r) ≡ sent_of j
  one_judged w k row = told_sends w k ∙ ap sent_of (row_is (asked_of c w) c.sent random d r row)

-- of a datagram
pub first_sends : (random d : List ℕ) {c : Connection} {rs : List Record} {answers : List Answer} {last : Connection} → Chain random d c rs answers last
    → FirstSends c random d rs answers (first_reply c random d rs)
unfolding first_reply
first_sends random d chain_end = refl
first_sends random d (chain_more {c = c} {r = r} (tells {w = w} {j = j} k row left) more) = (
  w,
  k,
  subst (SendsBy (asked_of c w) random (fragment_of d r) j.answer) (sym (one_judged c random d r w k row))
      (row_sends (asked_of c w) c.sent random d r row),
)

pub first_is : (random d : List ℕ) {c : Connection} {rs : List Record} {answers : List Answer} {last : Connection} → Chain random d c rs answers last
    → (bytes : List ℕ) → FirstSends c random d rs answers bytes → first_reply c random d rs ≡ bytes
unfolding first_reply
first_is random d chain_end bytes z = sym z
first_is random d (chain_more {c = c} {r = r} (tells {w = w} {j = j} k row left) more) bytes (v, asked, z) =
    one_judged c random d r w k row
    ∙ sends_row (asked_of c w) c.sent random d r row bytes
    (subst (λ x. SendsBy (asked_of c x) random (fragment_of d r) j.answer bytes) (sym (asks_is c d r asked) ∙ asks_is c d r k) z)
