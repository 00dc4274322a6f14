-- The refusals that turn on the past, in a run from fresh. The idea: what a row says of the connection's fields is, in a run from fresh, what
-- the history says (`Kept`); so each row that gives one of these refusals says it of the history, and the other way round.
use mathlib.Core.Path.{◌≡◌, refl, sym, ◌∙◌, ap, subst}
use mathlib.Core.Logic.{◌↔◌, inr}
use mathlib.Core.Bool.{Bool, true, false}
use mathlib.Core.List.{List, [], ◌∷◌}
use Prim.Native.Nat.{ℕ, ◌+◌, ◌≤◌, ◌<◌}
use native.Mathlib.Omega.{arith}
use Rattle.record.specs.Window.{accept_of}
use Rattle.record.specs.History.{highest_of, judged_of as judged_in}
use Rattle.record.specs.declared.header.Content.TheVariants as C
use Rattle.record.specs.declared.reader.Record.{Record}
use Rattle.record.specs.declared.window.NotNew.TheVariants as A
use Rattle.record.proofs.Histories.{highest_in, accepted_le, old_means, old_when, repeated_means, repeated_when, all_below, below_all, held_some}
use Rattle.message.specs.Alert.{alert_of}
use Rattle.message.specs.Finished.{judged_of}
use Rattle.message.specs.declared.alert.Alert.{Alert}
use Rattle.message.specs.declared.finished.Unverified.TheVariants as F
use Rattle.connection.specs.Calls.{session_of}
use Rattle.connection.specs.Judge.{judged_record, fragment_of}
use Rattle.connection.specs.declared.state.State.TheVariants as S
use Rattle.connection.specs.declared.refusal.Refusal.{Refusal}
use Rattle.connection.specs.declared.refusal.Refusal.TheVariants as X
use Rattle.connection.specs.declared.answer.Answer.{Answer}
use Rattle.connection.specs.declared.answer.Answer.TheVariants as W
use Rattle.connection.specs.declared.answer.Judged.{Judged}
use Rattle.connection.specs.Handshake.{}
use Rattle.connection.specs.declared.handshake.Handshake.{Handshake}
use Rattle.connection.specs.declared.handshake.Session.{Session}
use Rattle.demands.specs.Seen.{seen_in}
use Rattle.demands.specs.Runs.{fresh_with, fresh_one}
use Rattle.demands.specs.Genuine.{Genuine, Protected, RecordOf, keys_of}
use Rattle.demands.specs.Table.{Row, Guarded}
use Rattle.demands.specs.Table.{row_ended, row_returned, row_not_allowed, row_reply, row_hello_malformed, row_unacceptable, row_resent, row_change, row_change_malformed, row_clear_malformed, row_checksum, row_clear_warning, row_clear_critical, row_clear_fatal, row_forged, row_old, row_repeated, row_malformed, row_data, row_warning, row_critical, row_barred, row_open, row_again, row_wrong_finished}
use Rattle.demands.specs.Events.{Happened, after, history}
use Rattle.demands.specs.Past.{keys_in, expected_in, accepted_in, barred_in}
use Rattle.connection.specs.Sent.{matches_of}
use Rattle.demands.specs.LeftOut.{Without}
use Rattle.demands.specs.Acts.{behind}
use Rattle.demands.specs.Lives.{Lives, no_lives, lives_of}
use Rattle.connection.specs.declared.connection.Connection.{Connection}
use Rattle.demands.specs.InRuns.{TooOldFor, RepeatedIn, ProtectedExactly, ProtectedInRuns, WrongFinishedInRuns, LeavesOutOfRuns}
use Rattle.demands.proofs.States.{ended}
use Rattle.demands.proofs.Table.{row_of, row_is}
use Rattle.demands.proofs.Kept.{live, protected_live}
use Rattle.demands.proofs.Finished.{Progress, progress_all, progress_fresh, keys_are, expected_is}
use Rattle.demands.proofs.HandedOut.{by_history}
use Rattle.demands.proofs.LeftOut.{leaves_out_at}
use Rattle.demands.proofs.Lives.{lives_hold_at, lives_sound_at}
use Rattle.connection.specs.declared.sent.SentRecords.{SentRecords}
use Rattle.std.specs.Prelude.{Err, Some}

-- ---- what a row says, by its answer

module _ (h : Handshake) (sent : SentRecords) (random d : List ℕ) (r : Record) where
  abbrev RefusedFacts : Refusal → Type 0
  RefusedFacts (X.Framing fault) = Unit
  RefusedFacts X.Forged = (c : List ℕ) → Protected (keys_of h) d r c → ⊥
  RefusedFacts X.TooOld = (accept_of h.protection.window r.number ≡ Err A.TooOld) × ((c : List ℕ) × Protected (keys_of h) d r c)
  RefusedFacts X.Repeated = (accept_of h.protection.window r.number ≡ Err A.Repeated) × ((c : List ℕ) × Protected (keys_of h) d r c)
  RefusedFacts X.Checksum = (a : Alert) × (alert_of (fragment_of d r) ≡ Some a) × (matches_of sent a.checksum ≡ false)
  RefusedFacts X.WrongFinished =
      (c : List ℕ) × Protected (keys_of h) d r c × (r.content ≡ C.Handshake) × (judged_of c h.expected ≡ Err F.Wrong)
  RefusedFacts X.Room = Unit
  RefusedFacts X.Ended = Unit
  RefusedFacts X.NotAllowed = Unit
  RefusedFacts X.Malformed = Unit
  RefusedFacts X.Unacceptable = Unit
  RefusedFacts X.Spent = Unit
  RefusedFacts X.Argument = Unit

  abbrev Facts : Answer → Type 0
  Facts W.Nothing = Unit
  Facts (W.Reply size) = Unit
  Facts (W.Resent size) = Unit
  Facts W.Spec = Unit
  Facts W.Open = Unit
  Facts W.Again = Unit
  Facts (W.Data number place size) = Unit
  Facts (W.Warning description) = Unit
  Facts (W.Critical description) = Unit
  Facts (W.Fatal description) = Unit
  Facts (W.Barred description) = Unit
  Facts (W.Refused refusal) = RefusedFacts refusal

  facts : {j : Judged} → Row h sent random d r j → Facts j.answer
  facts (row_ended e) = tt
  facts (row_returned q) = tt
  facts (row_not_allowed e b n) = tt
  facts (row_reply plan g e) = tt
  facts (row_hello_malformed fault g e) = tt
  facts (row_unacceptable condition g e) = tt
  facts (row_resent s i y e) = tt
  facts (row_change s q c e) = tt
  facts (row_change_malformed s q c e) = tt
  facts (row_clear_malformed s q c e) = tt
  facts (row_checksum b s q c e n) = (b, e, n)
  facts (row_clear_warning b s q c e m l) = tt
  facts (row_clear_critical b s q c e m l) = tt
  facts (row_clear_fatal b s q c e m l) = tt
  facts (row_forged g f) = f
  facts (row_old c g s e) = (e, (c, s))
  facts (row_repeated c g s e) = (e, (c, s))
  facts (row_malformed c w n m) = tt
  facts (row_data c w n e m) = tt
  facts (row_warning c w b n e m l) = tt
  facts (row_critical c w b n e m l) = tt
  facts (row_barred c w b n e m l) = tt
  facts (row_open c w n s e m) = tt
  facts (row_again c w n s e m) = tt
  facts (row_wrong_finished c w n e m) = (c, n.coded, e, m)

  -- of the answer that was given
  pub told : (x : Refusal) → (judged_record h sent random d r).answer ≡ W.Refused x → RefusedFacts x
  told x e = subst Facts e (facts (row_of h sent random d r))

-- ---- numbers by the history

old_for : (width : ℕ) → 0 < width → (numbers : List ℕ) (s : ℕ) → s + width ≤ highest_of numbers → TooOldFor width numbers s
unfolding highest_of
old_for width some [] s l = absurd (omega arith)
old_for width some (t ∷ numbers) s l = record { n = highest_of (t ∷ numbers); was_accepted = highest_in t numbers; far = l }

for_old : (width : ℕ) (numbers : List ℕ) (s : ℕ) → TooOldFor width numbers s → s + width ≤ highest_of numbers
for_old width numbers s o = reached o.n (highest_of numbers) o.far (accepted_le numbers o.n o.was_accepted)
  where
    reached : (n m : ℕ) → s + width ≤ n → n ≤ m → s + width ≤ m
    reached n m a b = omega arith

module _ (session : Session) {width : ℕ} (past : List Happened) (h : Handshake) (p : Progress session width past h) (sent : SentRecords) (random d : List ℕ) (r : Record) where
  module _ (at : RecordOf d r) (g : Guarded h.state (seen_in d r)) where
    l : barred_in past ≡ false
    l = live session past h p.kept (protected_live h.state r.content g.kind)

    to_history : (c : List ℕ) → Protected (keys_of h) d r c → Genuine (keys_in session past) d r c
    to_history c s = record { in_place = at; protected_as = subst (λ k. Protected k d r c) (keys_are session past h p l) s }

    of_history : (c : List ℕ) → Genuine (keys_in session past) d r c → Protected (keys_of h) d r c
    of_history c s = subst (λ k. Protected k d r c) (sym (keys_are session past h p l)) s.protected_as

    window_at_lem : accept_of h.protection.window r.number ≡ judged_in width (accepted_in past) r.number
    window_at_lem = ap (λ w. accept_of w r.number) p.kept.window_is ∙ by_history width p.kept.held (accepted_in past) r.number

    nine : ((judged_record h sent random d r).answer ≡ W.Refused X.Forged) ↔ ((c : List ℕ) → Genuine (keys_in session past) d r c → ⊥)
    nine = (
      λ e c s. told h sent random d r X.Forged e c (of_history c s),
      λ f. ap (λ j. j.answer) (row_is h sent random d r (row_forged g (λ c s. f c (to_history c s)))),
    )

    ten : ((judged_record h sent random d r).answer ≡ W.Refused X.TooOld) ↔ (((c : List ℕ) × Genuine (keys_in session past) d r c) × TooOldFor width (accepted_in past) r.number)
    ten = (
      λ e. let q = told h sent random d r X.TooOld e in (
        (q.1.0, to_history q.1.0 q.1.1),
        old_for width (held_some width p.kept.held) (accepted_in past) r.number (old_means width (accepted_in past) r.number (sym window_at_lem ∙ q.0)),
      ),
      λ q. ap (λ j. j.answer)
          (row_is h sent random d r
          (row_old q.0.0 g (of_history q.0.0 q.0.1)
          (window_at_lem ∙ old_when width (accepted_in past) r.number (for_old width (accepted_in past) r.number q.1)))),
    )

    eleven : ((judged_record h sent random d r).answer ≡ W.Refused X.Repeated) ↔ (((c : List ℕ) × Genuine (keys_in session past) d r c) × RepeatedIn width (accepted_in past) r.number)
    eleven = (
      λ e. let q = told h sent random d r X.Repeated e in
          let t = repeated_means width (accepted_in past) r.number (sym window_at_lem ∙ q.0) in (
            (q.1.0, to_history q.1.0 q.1.1),
            record { was_accepted = t.1; recent = all_below width (accepted_in past) r.number t.0 },
          ),
      λ q. ap (λ j. j.answer)
          (row_is h sent random d r
          (row_repeated q.0.0 g (of_history q.0.0 q.0.1)
          (window_at_lem
          ∙ repeated_when width (accepted_in past) r.number
          (below_all width (held_some width p.kept.held) (accepted_in past) r.number q.1.recent) q.1.was_accepted))),
    )

    protected_exactly : ProtectedExactly session width past d r (judged_record h sent random d r).answer
    protected_exactly = record { exactly_9 = nine; exactly_10 = ten; exactly_11 = eleven }

  seventeen : RecordOf d r → barred_in past ≡ false → (judged_record h sent random d r).answer ≡ W.Refused X.WrongFinished
      → (c : List ℕ) × Genuine (keys_in session past) d r c × (r.content ≡ C.Handshake) × (judged_of c (expected_in session past) ≡ Err F.Wrong)
  seventeen at b e =
      let t = told h sent random d r X.WrongFinished e in (
        t.0,
        record { in_place = at; protected_as = subst (λ k. Protected k d r t.0) (keys_are session past h p b) t.1 },
        t.2,
        sym (ap (judged_of t.0) (expected_is session past h p b)) ∙ t.3,
      )

  -- 17 is not given by a barred connection
  not_barred : (b : Bool) → barred_in past ≡ b → (judged_record h sent random d r).answer ≡ W.Refused X.WrongFinished → barred_in past ≡ false
  not_barred false f e = f
  not_barred true f e =
      let z : W.Refused X.Ended ≡ W.Refused X.WrongFinished = sym (ap (λ j. j.answer) (row_is h sent random d r (row_ended (inr (p.kept.barred_is f).0)))) ∙ e in
      let n : ◌≡◌ {A = ℕ} 0 1 = cc in
      absurd (omega arith)

pub protected_in_runs : ProtectedInRuns
unfolding ProtectedInRuns
protected_in_runs id secret width held es sound sent random d r at g =
    let h₀ : Handshake = fresh_with id secret width in
    protected_exactly (session_of id secret) (history h₀ es []) (after h₀ es) (progress_all (session_of id secret) es [] h₀ sound (progress_fresh id secret width held)) sent random d r at g

pub wrong_finished_in_runs : WrongFinishedInRuns
unfolding WrongFinishedInRuns
wrong_finished_in_runs id secret width held es sound sent random d r at e =
    let h₀ : Handshake = fresh_with id secret width in
    let past : List Happened = history h₀ es [] in
    let p : Progress (session_of id secret) width past (after h₀ es) = progress_all (session_of id secret) es [] h₀ sound (progress_fresh id secret width held) in
    seventeen (session_of id secret) past (after h₀ es) p sent random d r at (not_barred (session_of id secret) past (after h₀ es) p sent random d r (barred_in past) refl e) e

pub leaves_out_of_runs : LeavesOutOfRuns
unfolding LeavesOutOfRuns
leaves_out_of_runs id secret width held acts sound o xs ys w =
    let h₀ : Handshake = fresh_with id secret width in
    let l : Lives = lives_of (fresh_one id secret width) no_lives acts in
    let past : List Happened = history h₀ l.own [] in
    let c : Connection = behind (fresh_one id secret width) acts in
    let own : c.handshake ≡ after h₀ l.own = (lives_hold_at id secret width held acts).own_life in
    let p : Progress (session_of id secret) width past (after h₀ l.own) = progress_all (session_of id secret) l.own [] h₀ (lives_sound_at id secret width acts sound).0 (progress_fresh id secret width held) in
    let there : (after h₀ l.own).state ≡ S.Open = sym (ap (λ h. h.state) own) ∙ o in
    let same : keys_of c.handshake ≡ keys_in (session_of id secret) past
    = ap keys_of own ∙ keys_are (session_of id secret) past (after h₀ l.own) p (live (session_of id secret) past (after h₀ l.own) p.kept (ap ended there)) in
    leaves_out_at c c refl o xs ys (subst (λ k. Without k c c xs ys) (sym same) w)
