-- What is written of a reply: read off the row of the first record, and what the connection keeps.
use mathlib.Core.Path.{◌≡◌, refl, sym, ◌∙◌, ap, subst}
use mathlib.Core.Bool.{false}
use mathlib.Core.List.{List, [], ◌∷◌}
use Prim.Native.Nat.{ℕ, ◌-◌}
use lib.ListN.{length, replicate}
use lib.Seq.{take_at}
use Rattle.digest.specs.Bytes.{laid_over}
use Rattle.record.specs.declared.reader.Record.{Record}
use Rattle.message.specs.Acceptance.{heard_of}
use Rattle.message.specs.declared.acceptance.Plan.{Plan}
use Rattle.message.specs.declared.acceptance.Unheard.TheVariants as H
use Rattle.connection.specs.Answer.{judged}
use Rattle.connection.specs.Calls.{session_of}
use Rattle.connection.specs.Handshake.{kept_reply, planted}
use Rattle.connection.specs.Judge.{judged_record, fragment_of}
use Rattle.connection.specs.Receive.{first_reply, sent_by}
use Rattle.connection.specs.Asked.{whom_of, asked_of}
use Rattle.connection.specs.Told.{told_record}
use Rattle.connection.specs.declared.asked.Whom.{Whom}
use Rattle.connection.specs.declared.connection.Connection.{Connection}
use Rattle.connection.specs.Reply.{reply_to, answered_with}
use Rattle.connection.specs.declared.answer.Answer.TheVariants as W
use Rattle.connection.specs.declared.answer.Judged.{Judged}
use Rattle.connection.specs.declared.handshake.Handshake.{Handshake}
use Rattle.connection.specs.declared.handshake.Session.{Session}
use Rattle.demands.specs.Seen.{seen_in}
use Rattle.demands.specs.Runs.{fresh_with, fresh_one}
use Rattle.demands.specs.Table.{Row, Greets}
use Rattle.demands.specs.Table.{row_ended, row_returned, row_not_allowed, row_reply, row_hello_malformed, row_unacceptable, row_resent, row_change, row_change_malformed, row_clear_malformed, row_checksum, row_clear_warning, row_clear_critical, row_clear_fatal, row_forged, row_old, row_repeated, row_malformed, row_data, row_warning, row_critical, row_barred, row_open, row_again, row_wrong_finished}
use Rattle.demands.specs.Refusals.{written_by}
use Rattle.demands.specs.Events.{Happened, after, history}
use Rattle.demands.specs.Acts.{behind}
use Rattle.demands.specs.Lives.{no_lives, lives_of, life_of}
use Rattle.demands.specs.Past.{kept_greeting, reply_for}
use Rattle.demands.specs.Kept.{KeptAs}
use Rattle.demands.specs.Replies.{Sends, RepliesRight}
use Rattle.demands.proofs.States.{ended}
use Rattle.demands.proofs.Table.{row_of}
use Rattle.demands.proofs.First.{take_taken, sent_of, told_sends}
use Rattle.demands.proofs.Asked.{asks_of, told_by_lem}
use Rattle.demands.proofs.Lives.{lives_hold_at, asked_life}
use Rattle.demands.proofs.Calls.{by_chain, call_is, chain_of}
use Rattle.demands.proofs.Kept.{kept_all, kept_fresh, live, hears_live, greets_live}
use Rattle.connection.specs.declared.sent.SentRecords.{SentRecords}
use Rattle.std.specs.Prelude.{Ok}

module _ (session : Session) {width : ℕ} (past : List Happened) (h : Handshake) (k : KeptAs session width past h) (sent : SentRecords) (random d : List ℕ) (r : Record) where
  abbrev Sent : Judged → Type 0
  Sent j =
      (bytes : List ℕ) × Sends session past random (fragment_of d r) bytes j.answer × (sent_of j ≡ bytes)

  replied : (plan : Plan) → Greets h (seen_in d r) → heard_of (fragment_of d r) h.id ≡ Ok plan
      → Sent (judged (W.Reply (length (reply_to (planted h) random (fragment_of d r) plan))) (answered_with h random (fragment_of d r) plan))
  unfolding answered_with
  replied plan g e =
      let m : List ℕ = fragment_of d r in
      let es : planted h ≡ session = k.session_is (live session past h k (greets_live h d r g.another)) in
      let reply : List ℕ = reply_to (planted h) random m plan in
      let same : reply ≡ reply_to session random m plan = ap (λ s. reply_to s random m plan) es in (
        reply_to session random m plan,
        (plan, sym (ap (λ s. heard_of m s.id) es) ∙ e, refl, ap length (sym same)),
        take_at reply (replicate (84 - length reply) 0) (length reply) refl ∙ same,
      )

  resent : ended h.state ≡ false → Sent (judged (W.Resent (length (kept_reply h))) h)
  resent e =
      let kept : kept_reply h ≡ reply_for session (kept_greeting past) = k.reply_is (live session past h k e) in
      (reply_for session (kept_greeting past), (refl, ap length (sym kept)), take_taken h.kept.size h.kept.reply ∙ kept)

  by_row : {j : Judged} → Row h sent random d r j → Sent j
  by_row (row_ended e) = ([], refl, refl)
  by_row (row_returned q) = resent (ap ended q.is_open)
  by_row (row_not_allowed e b n) = ([], refl, refl)
  by_row (row_reply plan g e) = replied plan g e
  by_row (row_hello_malformed fault g e) = ([], refl, refl)
  by_row (row_unacceptable condition g e) = ([], refl, refl)
  by_row (row_resent s i y e) = resent (hears_live h.state s)
  by_row (row_change s q c e) = ([], refl, refl)
  by_row (row_change_malformed s q c e) = ([], refl, refl)
  by_row (row_clear_malformed s q c e) = ([], refl, refl)
  by_row (row_checksum b s q c e n) = ([], refl, refl)
  by_row (row_clear_warning b s q c e m l) = ([], refl, refl)
  by_row (row_clear_critical b s q c e m l) = ([], refl, refl)
  by_row (row_clear_fatal b s q c e m l) = ([], refl, refl)
  by_row (row_forged g f) = ([], refl, refl)
  by_row (row_old c g s e) = ([], refl, refl)
  by_row (row_repeated c g s e) = ([], refl, refl)
  by_row (row_malformed c w n m) = ([], refl, refl)
  by_row (row_data c w n e m) = ([], refl, refl)
  by_row (row_warning c w b n e m l) = ([], refl, refl)
  by_row (row_critical c w b n e m l) = ([], refl, refl)
  by_row (row_barred c w b n e m l) = ([], refl, refl)
  by_row (row_open c w n s e m) = ([], refl, refl)
  by_row (row_again c w n s e m) = ([], refl, refl)
  by_row (row_wrong_finished c w n e m) = ([], refl, refl)

pub replies_right : RepliesRight
unfolding RepliesRight first_reply
replies_right id secret width held acts d random out r rs e l f =
    let h₀ : Handshake = fresh_with id secret width in
    let c : Connection = behind (fresh_one id secret width) acts in
    let v = lives_of (fresh_one id secret width) no_lives acts in
    let w : Whom = whom_of c d r in
    let past : List Happened = history h₀ (life_of v w) [] in
    let h : Handshake = after h₀ (life_of v w) in
    let k : KeptAs (session_of id secret) width past h = kept_all (session_of id secret) (life_of v w) [] h₀ (kept_fresh id secret width held) in
    let q = by_row (session_of id secret) past h k c.sent random d r (row_of h c.sent random d r) in
    let asked : asked_of c w ≡ h = asked_life id secret width held v c (lives_hold_at id secret width held acts) random d r w refl in
    let answer : (judged_record h c.sent random d r).answer ≡ (told_record c random d r).answer
    = sym (ap (λ x. (judged_record x c.sent random d r).answer) asked) ∙ sym (ap (λ t. t.answer) (told_by_lem c random d r w refl)) in
    let goes : sent_by (told_record c random d r) ≡ q.0
    = told_sends c random d r w (asks_of c d r) ∙ ap (λ x. sent_of (judged_record x c.sent random d r)) asked ∙ q.2 in
    let is = call_is c (by_chain c {out = out} e l f (chain_of random d c (r ∷ rs))) in (
      q.0,
      subst (Sends (session_of id secret) past random (fragment_of d r) q.0) answer q.1,
      ap (λ s. s.output) is ∙ ap (laid_over out 0) goes,
      ap (λ s. written_by s.result) is ∙ ap length goes,
    )
