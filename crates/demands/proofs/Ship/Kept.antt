-- The window follows the history: each row changes both alike, by the law of layer 2 (`Histories.meaning`).
use mathlib.Core.Path.{◌≡◌, refl, sym, ◌∙◌, ap, ap₂}
use mathlib.Core.Bool.{Bool, true, false}
use mathlib.Core.List.{List, [], ◌∷◌}
use Prim.Native.Nat.{ℕ, ◌+◌}
use lib.ListN.{length}
use lib.Dec.{eqb, ltb, leb}
use Rattle.digest.specs.Pick.{pick}
use Rattle.record.specs.Window.{accept_of, emptied, Held}
use Rattle.record.specs.History.{window_of}
use Rattle.record.specs.declared.reader.Record.{Record}
use Rattle.record.specs.declared.window.Window.{Window}
use Rattle.record.proofs.Histories.{fresh_means}
use Rattle.message.specs.Offer.{kinds_named}
use Rattle.connection.specs.declared.refusal.Refusal.TheVariants as X
use Rattle.unit.specs.Agree.{agreed_with}
use Rattle.unit.specs.Answer.{as_ashore}
use Rattle.unit.specs.Calls.{closed_in, started_in}
use Rattle.unit.specs.Hello.{hello_datagram, offer_of, may_hello, greeted_with, hello_as, hello_sent, hello_output, again_sent, again_output}
use Rattle.unit.specs.Judge.{kind_in}
use Rattle.unit.specs.Send.{data_sent, data_output, alert_sent, alert_output}
use Rattle.unit.specs.Unit.{with_state, with_window, opened}
use Rattle.unit.specs.Protected.{flight_size}
use Rattle.connection.specs.Judge.{fragment_of}
use Rattle.unit.specs.declared.state.State.{State}
use Rattle.unit.specs.declared.state.State.TheVariants as S
use Rattle.unit.specs.declared.state.Kind.{Kind}
use Rattle.unit.specs.declared.state.Kind.TheVariants as K
use Rattle.unit.specs.declared.state.Rule.TheVariants as T
use Rattle.unit.specs.declared.answer.Answer.{Answer}
use Rattle.unit.specs.declared.answer.Answer.TheVariants as W
use Rattle.unit.specs.declared.agree.Judged.{Judged}
use Rattle.unit.specs.declared.unit.Unit.{Unit as Ship}
use Rattle.demands.specs.Past.{is_spec}
use Rattle.demands.specs.Ship.Table.{New, Stays, Shuts, Marked, Row, forgotten}
use Rattle.demands.specs.Ship.Table.{at_end, not_allowed, not_first, forged, too_old, repeated, bad_hello, bad_request, bad_change, bad_alert, unacceptable, checksum, ignored_request, reported_request, warning}
use Rattle.demands.specs.Ship.Table.{critical, fatal, no_change, no_alert, no_message, no_data, some_data, protected_warning, repeated_finished, protected_critical, protected_ignored, protected_reported, finished_again, wrong_finished}
use Rattle.demands.specs.Ship.Table.{row_stays, row_shuts, row_hello, row_change, row_marked, row_opens, row_bars}
use Rattle.demands.specs.Ship.Events.{Event, took, greeting, repeating, sending, alerting, closing, starting, next, after, Happened, answered, greeted, said_again, wrote, closed, started, if_done, written_by, happening, history}
use Rattle.demands.specs.Ship.Runs.{fresh_ship}
use Rattle.demands.specs.Ship.Past.{marks, accepted_in}
use Rattle.demands.specs.Ship.Kept.{WindowIsWhatHappened}
use Rattle.demands.proofs.Exactly.Reasons.{decide}
use Rattle.demands.proofs.Kept.{window_more}
use Rattle.demands.proofs.Ship.Table.{protected_kind, ruled-says, is-protected-kind, row_of}
use Rattle.demands.proofs.Ship.Changes.{data-alike, alert-alike, again_same}
use Rattle.std.specs.Prelude.{Err, None, Ok, Option, Result, Some, ⊤}
use Rattle.connection.specs.declared.refusal.Refusal.{Refusal}
use Rattle.message.specs.declared.offer.Kinds.{Kinds}

both_no : (b : Bool) → pick b false false ≡ false
both_no true = refl
both_no false = refl

module _ (width : ℕ) (held : Held width) (past : List Happened) (u : Ship) (is : u.protection.window ≡ window_of width (accepted_in past)) where
  abbrev Follows : Happened → Ship → Type 0
  Follows what x = x.protection.window ≡ window_of width (accepted_in (what ∷ past))

  module _ (d : List ℕ) (r : Record) where
    -- the same numbers where nothing is marked, or the record is clear; one more where it is
    unmarked : (a : Answer) → is_spec (as_ashore a) ≡ false → pick r.protected (marks a) false ≡ false
        → accepted_in (answered d r a ∷ past) ≡ accepted_in past
    unfolding accepted_in
    unmarked a ns m = ap₂ (λ b c. pick b [] (pick c (r.number ∷ accepted_in past) (accepted_in past))) ns m

    marked : (a : Answer) → is_spec (as_ashore a) ≡ false → marks a ≡ true → r.protected ≡ true
        → accepted_in (answered d r a ∷ past) ≡ r.number ∷ accepted_in past
    unfolding accepted_in
    marked a ns m p = λ i. pick (ns i) [] (pick (pick (p i) (m i) false) (r.number ∷ accepted_in past) (accepted_in past))

    silent-by : (a : Answer) (x : Ship) → x.protection.window ≡ u.protection.window → is_spec (as_ashore a) ≡ false → marks a ≡ false
        → Follows (answered d r a) x
    silent-by a x e ns m =
        e ∙ is ∙ sym (ap (window_of width) (unmarked a ns (ap (λ b. pick r.protected b false) m ∙ both_no r.protected)))

    clear_by : (a : Answer) (x : Ship) → x.protection.window ≡ u.protection.window → is_spec (as_ashore a) ≡ false → r.protected ≡ false
        → Follows (answered d r a) x
    clear_by a x e ns p = e ∙ is ∙ sym (ap (window_of width) (unmarked a ns (ap (λ b. pick b (marks a) false) p)))

    kind-clear : (k : Kind) → kind_in d r ≡ k → protected_kind k ≡ false → r.protected ≡ false
    kind-clear k e f = sym (is-protected-kind u d r) ∙ ap protected_kind e ∙ f

    stays-follows : {a : Answer} → Stays u d r a → Follows (answered d r a) u
    stays-follows (at_end e) = silent-by (W.Refused X.Ended) u refl refl refl
    stays-follows (not_allowed e) = silent-by (W.Refused X.NotAllowed) u refl refl refl
    stays-follows (not_first e z) = silent-by (W.Refused X.NotAllowed) u refl refl refl
    stays-follows (forged e never) = silent-by (W.Refused X.Forged) u refl refl refl
    stays-follows (too_old c e s q) = silent-by (W.Refused X.TooOld) u refl refl refl
    stays-follows (repeated c e s q) = silent-by (W.Refused X.Repeated) u refl refl refl
    stays-follows (bad_hello e z q) = clear_by (W.Refused X.Malformed) u refl refl (kind-clear K.ClearHello (ruled-says u d r T.Agree e).1 refl)
    stays-follows (bad_request e q) = clear_by (W.Refused X.Malformed) u refl refl (kind-clear K.ClearRequest (ruled-says u d r T.Request e).1 refl)
    stays-follows (bad_change e q) = clear_by (W.Refused X.Malformed) u refl refl (kind-clear K.ClearChange (ruled-says u d r T.Change e).1 refl)
    stays-follows (bad_alert e q) = clear_by (W.Refused X.Malformed) u refl refl (kind-clear K.ClearAlert (ruled-says u d r T.Hear e).1 refl)
    stays-follows (unacceptable term e z q) = silent-by (W.Refused X.Unacceptable) u refl refl refl
    stays-follows (checksum a e q m) = silent-by (W.Refused X.Checksum) u refl refl refl
    stays-follows (ignored_request e q m) = clear_by W.Ignored u refl refl (kind-clear K.ClearRequest (ruled-says u d r T.Request e).1 refl)
    stays-follows (reported_request e q m) = clear_by W.Request u refl refl (kind-clear K.ClearRequest (ruled-says u d r T.Request e).1 refl)
    stays-follows (warning a e q m l) =
        clear_by (W.Warning a.description) u refl refl (kind-clear K.ClearAlert (ruled-says u d r T.Hear e).1 refl)

    shuts-follows : (x : Ship) → x.protection.window ≡ u.protection.window → {a : Answer} → Shuts u d r a → Follows (answered d r a) x
    shuts-follows x e (critical a f q m l) =
        clear_by (W.Critical a.description) x e refl (kind-clear K.ClearAlert (ruled-says u d r T.Hear f).1 refl)
    shuts-follows x e (fatal a f q m l) =
        clear_by (W.Fatal a.description) x e refl (kind-clear K.ClearAlert (ruled-says u d r T.Hear f).1 refl)

    module _ (c : List ℕ) (w : Window) (n : New u d r c w) where
      marked_by : (a : Answer) (x : Ship) → x.protection.window ≡ w → is_spec (as_ashore a) ≡ false → marks a ≡ true → Follows (answered d r a) x
      marked_by a x e ns m =
          e
          ∙ window_more width held (accepted_in past) r.number w n.arrived (sym (ap (λ y. accept_of y r.number) is) ∙ n.accepted)
          ∙ sym (ap (window_of width) (marked a ns m n.coded.is_protected))

      marked-follows : (x : Ship) → x.protection.window ≡ w → {a : Answer} {s : State} → Marked u d r c a s → Follows (answered d r a) x
      marked-follows x e (no_change k) = marked_by (W.Refused X.Malformed) x e refl refl
      marked-follows x e (no_alert k q) = marked_by (W.Refused X.Malformed) x e refl refl
      marked-follows x e (no_message k q v) = marked_by (W.Refused X.Malformed) x e refl refl
      marked-follows x e (no_data k z) = marked_by (W.Refused X.Malformed) x e refl refl
      marked-follows x e (some_data k z) = marked_by (W.Data r.number (r.start + r.head) (length c)) x e refl refl
      marked-follows x e (protected_warning a k q l z) = marked_by (W.Warning a.description) x e refl refl
      marked-follows x e (repeated_finished a k q l z o) = marked_by (W.Warning a.description) x e refl refl
      marked-follows x e (protected_critical a k q l) = marked_by (W.Critical a.description) x e refl refl
      marked-follows x e (protected_ignored k q o) = marked_by W.Ignored x e refl refl
      marked-follows x e (protected_reported k q o) = marked_by W.Request x e refl refl
      marked-follows x e (finished_again k q v o) = marked_by W.Again x e refl refl
      marked-follows x e (wrong_finished k q v) = marked_by (W.Refused X.WrongFinished) x e refl refl

    emptied-follows : emptied u.protection.window ≡ window_of width (accepted_in (answered d r W.Spec ∷ past))
    unfolding accepted_in
    emptied-follows = ap emptied is ∙ fresh_means width

    row-follows : {j : Judged} → Row u d r j → Follows (answered d r j.answer) j.unit
    unfolding agreed_with opened
    row-follows (row_stays s) = stays-follows s
    row-follows (row_shuts s) = shuts-follows (with_state u S.Closed) refl s
    row-follows (row_hello plan e z q) = silent-by W.Hello (agreed_with u (fragment_of d r) plan) refl refl refl
    row-follows (row_change e q) = emptied-follows
    row-follows (row_marked c w {s = s} n m) = marked-follows c w n (with_state (with_window u w) s) refl m
    row-follows (row_opens c w n s k q v) = marked_by c w n (W.Open (flight_size u.protection.keys.mac)) (opened (with_window u w)) refl refl refl
    row-follows (row_bars c w a n k q l) = marked_by c w n (W.Barred a.description) (forgotten (with_window u w)) refl refl refl

  -- the other calls leave the window, but a start again
  plain : (what : Happened) (x : Ship) → accepted_in (what ∷ past) ≡ accepted_in past → x.protection.window ≡ u.protection.window → Follows what x
  plain what x e w = w ∙ is ∙ sym (ap (window_of width) e)

  done-or-not : (o : Result ⊤ Refusal) (what : Happened) → accepted_in (what ∷ past) ≡ accepted_in past → accepted_in (if_done o what ∷ past) ≡ accepted_in past
  unfolding accepted_in
  done-or-not (Ok tt) what e = e
  done-or-not (Err x) what e = refl

  named-window : (random : List ℕ) (refresh room : ℕ) (n : Option Kinds) → (hello_as u random refresh room n).unit.protection.window ≡ u.protection.window
  unfolding greeted_with
  named-window random refresh room (Some kinds) = by_state (may_hello u.state) refl
    where
      by_state : (o : Result ⊤ Refusal) → may_hello u.state ≡ o → (hello_as u random refresh room (Some kinds)).unit.protection.window ≡ u.protection.window
      by_state (Ok tt) m =
          decide (leb (length (hello_datagram u.id random (offer_of kinds refresh))) room) (λ f. rw (m, f) refl) (λ f. rw (m, f) refl)
      by_state (Err x) m = rw m refl
  named-window random refresh room None = refl

  hello-window : (random macs : List ℕ) (refresh room : ℕ) → (hello_sent u random macs refresh room).unit.protection.window ≡ u.protection.window
  unfolding hello_sent
  hello-window random macs refresh room =
      decide (eqb (length random) 16)
      (λ a. decide (ltb 255 refresh) (λ b. rw (a, b) refl) (λ b. rw (a, b) (named-window random refresh room (kinds_named macs))))
      (λ a. rw a refl)

  close-window : (s : State) → (closed_in u s).unit.protection.window ≡ u.protection.window
  close-window S.Idle = refl
  close-window S.Sent = refl
  close-window S.Replied = refl
  close-window S.Spec = refl
  close-window S.Opening = refl
  close-window S.Open = refl
  close-window S.Closed = refl
  close-window S.Barred = refl

  start-window : (s : State) → Follows (if_done (started_in u s).outcome started) (started_in u s).unit
  unfolding accepted_in
  start-window S.Idle = is
  start-window S.Sent = is
  start-window S.Replied = is
  start-window S.Spec = is
  start-window S.Opening = is
  start-window S.Open = is
  start-window S.Closed = ap emptied is ∙ fresh_means width
  start-window S.Barred = is

  event-follows : (e : Event) → Follows (happening u e) (next u e)
  unfolding accepted_in
  event-follows (took d r) = row-follows d r (row_of u d r)
  event-follows (greeting random macs refresh out) =
      let s = hello_sent u random macs refresh (length out) in
      plain (happening u (greeting random macs refresh out)) s.unit
      (done-or-not s.outcome (greeted random macs refresh (written_by s (hello_output u random macs refresh out))) refl)
      (hello-window random macs refresh (length out))
  event-follows (repeating out) =
      let s = again_sent u (length out) in
      plain (happening u (repeating out)) s.unit (done-or-not s.outcome (said_again (written_by s (again_output u out))) refl)
      (ap (λ x. x.protection.window) (again_same u (length out)))
  event-follows (sending bytes out) =
      let s = data_sent u bytes (length out) in
      plain (happening u (sending bytes out)) s.unit (done-or-not s.outcome (wrote true (written_by s (data_output u bytes out))) refl)
      (data-alike u bytes (length out)).window_same
  event-follows (alerting protected level description lent out) =
      let s = alert_sent u protected level description lent (length out) in
      plain (happening u (alerting protected level description lent out)) s.unit
      (done-or-not s.outcome (wrote protected (written_by s (alert_output u protected level description lent out))) refl)
      (alert-alike u protected level description lent (length out)).window_same
  event-follows closing =
      plain (happening u closing) (closed_in u u.state).unit (done-or-not (closed_in u u.state).outcome closed refl) (close-window u.state)
  event-follows starting = start-window u.state

follows-all : (width : ℕ) → Held width → (es : List Event) (past : List Happened) (u : Ship) → u.protection.window ≡ window_of width (accepted_in past)
    → (after u es).protection.window ≡ window_of width (accepted_in (history u es past))
unfolding after history
follows-all width held [] past u is = is
follows-all width held (e ∷ es) past u is = follows-all width held es (happening u e ∷ past) (next u e) (event-follows width held past u is e)

pub window-is-what-happened : WindowIsWhatHappened
unfolding WindowIsWhatHappened accepted_in
window-is-what-happened id secret width held es = follows-all width held es [] (fresh_ship id secret width) (fresh_means width)
