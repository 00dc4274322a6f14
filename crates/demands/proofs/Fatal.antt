-- A fatal alert over runs: the keys and the window of the connection are those of the history, so the row of the table that bars is the
-- one of a fatal alert that is genuine and new by the history, and the other way round.
use mathlib.Core.Path.{◌≡◌, sym, ◌∙◌, ap, subst}
use mathlib.Core.Logic.{◌⊎◌, inl, inr, ◌≢◌}
use mathlib.Core.Bool.{false}
use mathlib.Core.List.{List, [], ◌∷◌}
use Prim.Native.Nat.{ℕ}
use Rattle.record.specs.History.{window_of, arrived_of}
use Rattle.record.specs.Window.{accept_of}
use Rattle.record.specs.declared.header.Content.{Content}
use Rattle.record.specs.declared.header.Content.TheVariants as C
use Rattle.record.specs.declared.reader.Record.{Record}
use Rattle.record.specs.declared.window.NotNew.TheVariants as A
use Rattle.record.proofs.Histories.{new_means, all_below}
use Rattle.message.specs.declared.alert.Alert.{Alert}
use Rattle.connection.specs.Calls.{session_of}
use Rattle.connection.specs.Judge.{judged_record}
use Rattle.connection.specs.declared.answer.Answer.TheVariants as W
use Rattle.connection.specs.declared.state.State.{State}
use Rattle.connection.specs.declared.state.State.TheVariants as S
use Rattle.connection.specs.declared.handshake.Handshake.{Handshake}
use Rattle.connection.specs.declared.handshake.Session.{Session}
use Rattle.demands.specs.Seen.{seen_in}
use Rattle.demands.specs.Runs.{fresh_with}
use Rattle.demands.specs.Genuine.{Protected, RecordOf, keys_of}
use Rattle.demands.specs.Table.{Guarded, New, row_barred}
use Rattle.demands.specs.Events.{took, Happened, next, after, history}
use Rattle.demands.specs.Past.{accepted_in, barred_in}
use Rattle.demands.specs.Fatal.{Alerted, FatalAt, FatalExactly, FatalInRuns}
use Rattle.demands.proofs.Table.{row_of, row_is}
use Rattle.demands.proofs.Kept.{live, protected_live}
use Rattle.demands.proofs.Finished.{Progress, progress_all, progress_fresh, keys_are}
use Rattle.demands.proofs.HandedOut.{by_history, due_new}
use Rattle.demands.proofs.Barred.{FatalRow, by_fatal}
use Rattle.connection.specs.declared.sent.SentRecords.{SentRecords}
use Rattle.std.specs.Prelude.{Ok}

-- the kinds that are allowed: an alert is, in Spec and in Open
alert_allowed : (s : State) (c : Content) → ((s ≡ S.Spec) × ((c ≡ C.Alert) ⊎ (c ≡ C.Handshake))) ⊎ (s ≡ S.Open) → Alerted s
alert_allowed s c (inl (e, k)) = inl e
alert_allowed s c (inr e) = inr e

allowed_alert : (s : State) (c : Content) → c ≡ C.Alert → Alerted s → ((s ≡ S.Spec) × ((c ≡ C.Alert) ⊎ (c ≡ C.Handshake))) ⊎ (s ≡ S.Open)
allowed_alert s c k (inl e) = inl (e, inl k)
allowed_alert s c k (inr e) = inr e

module _ (session : Session) {width : ℕ} (past : List Happened) (h : Handshake) (p : Progress session width past h) (sent : SentRecords) (random d : List ℕ) (r : Record) (at : RecordOf d r) where
  past_live : Guarded h.state (seen_in d r) → barred_in past ≡ false
  past_live g = live session past h p.kept (protected_live h.state r.content g.kind)

  guard : Alerted h.state → (c : List ℕ) (a : Alert) → FatalAt width session past d r c a → Guarded h.state (seen_in d r)
  guard s c a f =
      record {
        protection = f.genuine.protected_as.is_protected;
        kind = allowed_alert h.state r.content f.alert s;
      }

  new_by_past : (c : List ℕ) (a : Alert) → FatalAt width session past d r c a
      → accept_of h.protection.window r.number ≡ Ok (window_of width (r.number ∷ accepted_in past), arrived_of width (r.number ∷ accepted_in past))
  new_by_past c a f =
      ap (λ w. accept_of w r.number) p.kept.window_is
      ∙ due_new width p.kept.held (accepted_in past) r.number f.not_before f.recent

  bars_so : Alerted h.state → (c : List ℕ) (a : Alert) → FatalAt width session past d r c a
      → ((judged_record h sent random d r).answer ≡ W.Barred a.description) × ((next h (took sent random d r)).state ≡ S.Barred)
  bars_so s c a f =
      let g : Guarded h.state (seen_in d r) = guard s c a f in
      let coded : Protected (keys_of h) d r c = subst (λ k. Protected k d r c) (sym (keys_are session past h p (past_live g))) f.genuine.protected_as in
      let n : New h d r c (window_of width (r.number ∷ accepted_in past))
      = record { guarded = g; coded = coded; arrived = arrived_of width (r.number ∷ accepted_in past); accepted = new_by_past c a f } in
      let is = row_is h sent random d r (row_barred c (window_of width (r.number ∷ accepted_in past)) a n f.alert f.well_formed f.fatal) in
      (ap (λ j. j.answer) is, ap (λ j. j.handshake.state) is)

  only_so : h.state ≢ S.Barred → (next h (took sent random d r)).state ≡ S.Barred
      → Alerted h.state × ((c : List ℕ) × (a : Alert) × FatalAt width session past d r c a)
  only_so nb z =
      let f : FatalRow h d r = by_fatal h sent random d r nb (row_of h sent random d r) z in
      let g : Guarded h.state (seen_in d r) = f.new.guarded in
      let e = sym (ap (λ w. accept_of w r.number) p.kept.window_is) ∙ f.new.accepted in
      let q = new_means width (accepted_in past) r.number f.w f.new.arrived (sym (by_history width p.kept.held (accepted_in past) r.number) ∙ e) in (
        alert_allowed h.state r.content g.kind,
        (
          f.c,
          f.a,
          record {
            genuine = record { in_place = at; protected_as = subst (λ k. Protected k d r f.c) (keys_are session past h p (past_live g)) f.new.coded };
            alert = f.alert;
            well_formed = f.well_formed;
            fatal = f.fatal;
            not_before = q.1;
            recent = all_below width (accepted_in past) r.number q.0;
          },
        ),
      )

  pub fatal_exactly : FatalExactly width session past h sent random d r
  fatal_exactly = record { bars = bars_so; only = only_so }

pub fatal_in_runs : FatalInRuns
unfolding FatalInRuns
fatal_in_runs id secret width held es sound sent random d r at =
    let h₀ : Handshake = fresh_with id secret width in
    fatal_exactly (session_of id secret) (history h₀ es []) (after h₀ es) (progress_all (session_of id secret) es [] h₀ sound (progress_fresh id secret width held)) sent random d r at
