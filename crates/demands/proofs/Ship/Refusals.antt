-- A refusal changes nothing but what the list names: by the rows of the table for a record, by the tests for a call.
use mathlib.Core.Path.{◌≡◌, refl, sym, ◌∙◌, ap, subst}
use mathlib.Core.Bool.{Bool, true, false}
use mathlib.Core.List.{List, []}
use Prim.Native.Nat.{ℕ, ◌<◌}
use lib.ListN.{length}
use lib.Dec.{eqb, ltb, leb}
use borrow.Author.Tests.{ltb-true, lt-leb}
use Rattle.digest.specs.Pick.{pick}
use Rattle.digest.specs.Bytes.{laid_over}
use Rattle.record.specs.Datagram.{Framing, framed, faulty, framing_of}
use Rattle.record.specs.Protection.{next_record, wrote_by, output_by}
use Rattle.record.specs.Written.{written_of}
use Rattle.record.specs.declared.header.Content.{Content}
use Rattle.record.specs.declared.header.Content.TheVariants as C
use Rattle.record.specs.declared.keys.Sense.TheVariants.{FromUnit}
use Rattle.record.specs.declared.reader.Record.{Record}
use Rattle.record.specs.declared.window.Window.{Window}
use Rattle.message.specs.Alert.{level_of, sorted_of}
use Rattle.message.specs.Offer.{kinds_named}
use Rattle.message.specs.declared.offer.Offer.{Offer}
use Rattle.connection.specs.Send.{alert_body}
use Rattle.connection.specs.declared.refusal.Refusal.TheVariants as X
use Rattle.unit.specs.Calls.{closed_in, started_in}
use Rattle.unit.specs.Hello.{hello_datagram, offer_of, may_hello, greeted_with, hello_as, hello_sent, hello_output_as, hello_output, said_again, hello_said, again_in, again_output_in}
use Rattle.unit.specs.Judge.{kind_in, judged_record}
use Rattle.unit.specs.Receive.{run_of, whole_of, framed_to, received_of, sent_of, output_of}
use Rattle.unit.specs.Send.{may_protect, may_clear, sent_if, output_if, protected_sent, clear_sent, clear_output, next_clear, data_sent, data_output, alert_sent_by, alert_output_by, alert_sent_as, alert_output_as, alert_sent, alert_output}
use Rattle.unit.specs.Unit.{with_state, with_window, flight_of}
use Rattle.unit.specs.declared.answer.Answer.{Answer}
use Rattle.unit.specs.declared.answer.Answer.TheVariants as W
use Rattle.unit.specs.declared.agree.Judged.{Judged}
use Rattle.unit.specs.declared.send.Sent.{Sent}
use Rattle.unit.specs.declared.state.State.{State}
use Rattle.unit.specs.declared.state.State.TheVariants as S
use Rattle.unit.specs.declared.state.Kind.{Kind}
use Rattle.unit.specs.declared.state.Kind.TheVariants as K
use Rattle.unit.specs.declared.state.Rule.TheVariants as R
use Rattle.unit.specs.declared.unit.Unit.{Unit as Ship}
use Rattle.unit.proofs.Sending.{unwritten}
use Rattle.demands.specs.Refusals.{NotTaken, NotDone}
use Rattle.demands.specs.Ship.Table.{New, Stays, Shuts, Marked, Row}
use Rattle.demands.specs.Ship.Table.{at_end, not_allowed, not_first, forged, too_old, repeated, bad_hello, bad_request, bad_change, bad_alert, unacceptable, checksum, ignored_request, reported_request, warning}
use Rattle.demands.specs.Ship.Table.{critical, fatal, no_change, no_alert, no_message, no_data, some_data, protected_warning, repeated_finished, protected_critical, protected_ignored, protected_reported, finished_again, wrong_finished}
use Rattle.demands.specs.Ship.Table.{row_stays, row_shuts, row_hello, row_change, row_marked, row_opens, row_bars}
use Rattle.demands.specs.Ship.Runs.{hello, again, receive, send_data, send_alert, close, start, step_of}
use Rattle.demands.specs.Ship.Refusals.{IsRefused, written_by, RefusedCallChangesNothing, marked, marked_as, refused_leaves, RefusedRecordChangesNothing}
use Rattle.demands.proofs.Exactly.Reasons.{decide}
use Rattle.demands.proofs.Ship.Table.{protected_kind, ruled-says, is-protected-kind, row_of}
use Rattle.std.specs.Prelude.{Err, None, Ok, Option, Result, Some, ⊤}
use Rattle.connection.specs.declared.refusal.Refusal.{Refusal}
use Rattle.message.specs.declared.alert.Description.{Description}
use Rattle.message.specs.declared.alert.Level.{Level}
use Rattle.message.specs.declared.offer.Kinds.{Kinds}

-- ---- a record

module _ (u : Ship) (d : List ℕ) (r : Record) where
  abbrev LeavesBy : Answer → Ship → Type 0
  LeavesBy W.Nothing v = Unit
  LeavesBy W.Hello v = Unit
  LeavesBy W.Spec v = Unit
  LeavesBy (W.Open size) v = Unit
  LeavesBy W.Again v = Unit
  LeavesBy (W.Data number place size) v = Unit
  LeavesBy W.Request v = Unit
  LeavesBy W.Ignored v = Unit
  LeavesBy (W.Warning description) v = Unit
  LeavesBy (W.Critical description) v = Unit
  LeavesBy (W.Fatal description) v = Unit
  LeavesBy (W.Barred description) v = Unit
  LeavesBy (W.Refused x) v = v ≡ refused_leaves u r.protected r.number x

  clear-leaves : r.protected ≡ false → u ≡ refused_leaves u r.protected r.number X.Malformed
  clear-leaves p = ap (λ b. pick b (marked u r.number) u) (sym p)

  kind-clear : (k : Kind) → kind_in d r ≡ k → protected_kind k ≡ false → r.protected ≡ false
  kind-clear k e f = sym (is-protected-kind u d r) ∙ ap protected_kind e ∙ f

  stays-leaves : {a : Answer} → Stays u d r a → LeavesBy a u
  stays-leaves (at_end e) = refl
  stays-leaves (not_allowed e) = refl
  stays-leaves (not_first e z) = refl
  stays-leaves (forged e never) = refl
  stays-leaves (too_old c e s q) = refl
  stays-leaves (repeated c e s q) = refl
  stays-leaves (bad_hello e z q) = clear-leaves (kind-clear K.ClearHello (ruled-says u d r R.Agree e).1 refl)
  stays-leaves (bad_request e q) = clear-leaves (kind-clear K.ClearRequest (ruled-says u d r R.Request e).1 refl)
  stays-leaves (bad_change e q) = clear-leaves (kind-clear K.ClearChange (ruled-says u d r R.Change e).1 refl)
  stays-leaves (bad_alert e q) = clear-leaves (kind-clear K.ClearAlert (ruled-says u d r R.Hear e).1 refl)
  stays-leaves (unacceptable term e z q) = refl
  stays-leaves (checksum a e q m) = refl
  stays-leaves (ignored_request e q m) = tt
  stays-leaves (reported_request e q m) = tt
  stays-leaves (warning a e q m l) = tt

  shuts-leaves : {a : Answer} (v : Ship) → Shuts u d r a → LeavesBy a v
  shuts-leaves v (critical a e q m l) = tt
  shuts-leaves v (fatal a e q m l) = tt

  module _ (c : List ℕ) (w : Window) (n : New u d r c w) where
    marked_is : with_window u w ≡ marked u r.number
    marked_is = sym (ap (marked_as u) n.accepted)

    twelve : with_window u w ≡ refused_leaves u r.protected r.number X.Malformed
    twelve = marked_is ∙ ap (λ b. pick b (marked u r.number) u) (sym n.coded.is_protected)

    marked-leaves : {a : Answer} {s : State} → Marked u d r c a s → LeavesBy a (with_state (with_window u w) s)
    marked-leaves (no_change k) = twelve
    marked-leaves (no_alert k q) = twelve
    marked-leaves (no_message k q v) = twelve
    marked-leaves (no_data k z) = twelve
    marked-leaves (some_data k z) = tt
    marked-leaves (protected_warning a k q l z) = tt
    marked-leaves (repeated_finished a k q l z o) = tt
    marked-leaves (protected_critical a k q l) = tt
    marked-leaves (protected_ignored k q o) = tt
    marked-leaves (protected_reported k q o) = tt
    marked-leaves (finished_again k q v o) = tt
    marked-leaves (wrong_finished k q v) = ap (λ x. with_state x S.Closed) marked_is

  row-leaves : {j : Judged} → Row u d r j → LeavesBy j.answer j.unit
  row-leaves (row_stays s) = stays-leaves s
  row-leaves (row_shuts s) = shuts-leaves (with_state u S.Closed) s
  row-leaves (row_hello plan e z q) = tt
  row-leaves (row_change e q) = tt
  row-leaves (row_marked c w n m) = marked-leaves c w n m
  row-leaves (row_opens c w n s k q v) = tt
  row-leaves (row_bars c w a n k q l) = tt

pub refused_record : RefusedRecordChangesNothing
unfolding RefusedRecordChangesNothing
refused_record u d r x e = subst (λ a. LeavesBy u d r a (judged_record u d r).unit) e (row-leaves u d r (row_of u d r))

-- ---- a call

module _ (u : Ship) (out : List ℕ) where
  abbrev SparedBy : Ship → ℕ → List ℕ → Result ⊤ Refusal → Type 0
  SparedBy v written o (Ok tt) = Unit
  SparedBy v written o (Err x) = (v ≡ u) × (o ≡ out) × (written ≡ 0)

  -- a refusal leaves the unit, the output, and writes nothing
  abbrev Spared : Sent → List ℕ → Type 0
  Spared s o = SparedBy s.unit s.written o s.outcome

  pick-spared : (b : Bool) (x y : Sent) (ox oy : List ℕ) → Spared x ox → Spared y oy → Spared (pick b x y) (pick b ox oy)
  pick-spared true x y ox oy ax ay = ax
  pick-spared false x y ox oy ax ay = ay

  if-spared : (o : Result ⊤ Refusal) (s : Sent) (os : List ℕ) → Spared s os → Spared (sent_if u o s) (output_if out o os)
  if-spared (Ok tt) s os a = a
  if-spared (Err x) s os a = (refl, refl, refl)

  none_written : (bytes : List ℕ) → length out < length bytes → written_of out bytes ≡ out
  none_written bytes l = unwritten out bytes (lt-leb (length bytes) (length out) l)

  protected-spared : (content : Content) (body : List ℕ)
      → Spared (protected_sent u content body (length out)) (output_by u.protection FromUnit content body out)
  unfolding protected_sent wrote_by output_by
  protected-spared content body =
      let n : List ℕ = next_record u.protection FromUnit content body in
      decide (ltb 65535 u.protection.protected) (λ e. rw e (refl, refl, refl))
      (λ e. decide (ltb (length out) (length n))
      (λ f. rw (e, f) (refl, none_written n (ltb-true (length out) (length n) f), refl))
      (λ f. rw (e, f) tt))

  clear-spared : (body : List ℕ) → Spared (clear_sent u body (length out)) (clear_output u body out)
  unfolding clear_sent clear_output
  clear-spared body =
      let n : List ℕ = next_clear u body in
      decide (ltb 65535 u.protection.clear) (λ e. rw e (refl, refl, refl))
      (λ e. decide (leb (length n) (length out)) (λ f. rw (e, f) tt) (λ f. rw (e, f) (refl, unwritten out n f, refl)))

  said-spared : (bytes : List ℕ) → Spared (said_again u bytes (length out)) (written_of out bytes)
  unfolding said_again
  said-spared bytes = decide (leb (length bytes) (length out)) (λ f. rw f tt) (λ f. rw f (refl, unwritten out bytes f, refl))

  greeted-spared : (random : List ℕ) (offer : Offer) → Spared (greeted_with u random offer (length out)) (written_of out (hello_datagram u.id random offer))
  unfolding greeted_with
  greeted-spared random offer =
      let n : List ℕ = hello_datagram u.id random offer in
      decide (leb (length n) (length out)) (λ f. rw f tt) (λ f. rw f (refl, unwritten out n f, refl))

  data-spared : (bytes : List ℕ) → Spared (data_sent u bytes (length out)) (data_output u bytes out)
  unfolding data_sent data_output
  data-spared bytes =
      decide (eqb (length bytes) 0) (λ e. rw e (refl, refl, refl))
      (λ e. decide (ltb 1300 (length bytes)) (λ f. rw (e, f) (refl, refl, refl))
      (λ f. rw (e, f)
      (if-spared (may_protect u.state) (protected_sent u C.Data bytes (length out)) (output_by u.protection FromUnit C.Data bytes out) (protected-spared C.Data bytes))))

  by-spared : (protected : Bool) (body : List ℕ) → Spared (alert_sent_by u protected body (length out)) (alert_output_by u protected body out)
  unfolding alert_sent_by alert_output_by
  by-spared true body =
      if-spared (may_protect u.state) (protected_sent u C.Alert body (length out)) (output_by u.protection FromUnit C.Alert body out) (protected-spared C.Alert body)
  by-spared false body = if-spared (may_clear u.state) (clear_sent u body (length out)) (clear_output u body out) (clear-spared body)

  as-spared : (protected : Bool) (answered : List ℕ) (g : Option Level) (s : Option Description)
      → Spared (alert_sent_as u protected answered (length out) g s) (alert_output_as u protected answered out g s)
  as-spared protected answered (Some level) (Some description) =
      decide (ltb 1400 (length answered)) (λ f. rw f (refl, refl, refl)) (λ f. rw f (by-spared protected (alert_body level description answered)))
  as-spared protected answered (Some level) None = (refl, refl, refl)
  as-spared protected answered None (Some description) = (refl, refl, refl)
  as-spared protected answered None None = (refl, refl, refl)

  alert-spared : (protected : Bool) (level description : ℕ) (answered : List ℕ)
      → Spared (alert_sent u protected level description answered (length out)) (alert_output u protected level description answered out)
  unfolding alert_sent alert_output
  alert-spared protected level description answered = as-spared protected answered (level_of level) (sorted_of description)

  named-spared : (random : List ℕ) (refresh : ℕ) (n : Option Kinds) → Spared (hello_as u random refresh (length out) n) (hello_output_as u random refresh out n)
  named-spared random refresh (Some kinds) =
      if-spared (may_hello u.state) (greeted_with u random (offer_of kinds refresh) (length out))
      (written_of out (hello_datagram u.id random (offer_of kinds refresh))) (greeted-spared random (offer_of kinds refresh))
  named-spared random refresh None = (refl, refl, refl)

  hello-spared : (random macs : List ℕ) (refresh : ℕ) → Spared (hello_sent u random macs refresh (length out)) (hello_output u random macs refresh out)
  unfolding hello_sent hello_output
  hello-spared random macs refresh =
      decide (eqb (length random) 16)
      (λ a. decide (ltb 255 refresh) (λ b. rw (a, b) (refl, refl, refl)) (λ b. rw (a, b) (named-spared random refresh (kinds_named macs))))
      (λ a. rw a (refl, refl, refl))

  again-spared : (s : State) → Spared (again_in u s (length out)) (again_output_in u s out)
  again-spared S.Idle = (refl, refl, refl)
  again-spared S.Sent = said-spared (hello_said u)
  again-spared S.Replied = said-spared (hello_said u)
  again-spared S.Spec = said-spared (hello_said u)
  again-spared S.Opening = said-spared (flight_of u)
  again-spared S.Open = (refl, refl, refl)
  again-spared S.Closed = (refl, refl, refl)
  again-spared S.Barred = (refl, refl, refl)

  -- of a datagram
  nothing-laid : laid_over out 0 [] ≡ out
  unfolding laid_over
  nothing-laid = refl

  framed-spared : (d : List ℕ) (y : Framing) → NotTaken (framed_to u d y).taken
      → ((framed_to u d y).unit ≡ u) × (laid_over out 0 (sent_of u d y) ≡ out) × ((framed_to u d y).written ≡ 0)
  unfolding run_of whole_of
  framed-spared d (framed rs) n = absurd n
  framed-spared d (faulty fault at) n = (refl, nothing-laid, refl)

  -- a refusal of a send
  refused-sent : (s : Sent) (o : List ℕ) → Spared s o → NotDone s.outcome → (s.unit ≡ u) × (o ≡ out) × (s.written ≡ 0)
  refused-sent s o a n = go s.outcome a n
    where
      go : (x : Result ⊤ Refusal) → SparedBy s.unit s.written o x → NotDone x → (s.unit ≡ u) × (o ≡ out) × (s.written ≡ 0)
      go (Ok tt) h m = absurd m
      go (Err x) h m = h

  refused-receive : (d : List ℕ) → IsRefused (step_of u (receive d out)).result
      → ((step_of u (receive d out)).unit ≡ u) × ((step_of u (receive d out)).output ≡ out) × (written_by (step_of u (receive d out)).result ≡ 0)
  unfolding step_of received_of output_of whole_of
  refused-receive d = decide (ltb (length out) 128) (λ e. rw e (λ n. (refl, refl, refl))) (λ e. rw e (framed-spared d (framing_of d)))

refused-close : (u : Ship) (s : State) → NotDone (closed_in u s).outcome → (closed_in u s).unit ≡ u
refused-close u S.Idle n = absurd n
refused-close u S.Sent n = absurd n
refused-close u S.Replied n = absurd n
refused-close u S.Spec n = absurd n
refused-close u S.Opening n = absurd n
refused-close u S.Open n = absurd n
refused-close u S.Closed n = absurd n
refused-close u S.Barred n = refl

refused-start : (u : Ship) (s : State) → NotDone (started_in u s).outcome → (started_in u s).unit ≡ u
refused-start u S.Idle n = refl
refused-start u S.Sent n = refl
refused-start u S.Replied n = refl
refused-start u S.Spec n = refl
refused-start u S.Opening n = refl
refused-start u S.Open n = refl
refused-start u S.Closed n = absurd n
refused-start u S.Barred n = refl

pub refused_call : RefusedCallChangesNothing step_of
unfolding RefusedCallChangesNothing step_of
refused_call u (hello random macs refresh out) n =
    refused-sent u out (hello_sent u random macs refresh (length out)) (hello_output u random macs refresh out) (hello-spared u out random macs refresh) n
refused_call u (again out) n = refused-sent u out (again_in u u.state (length out)) (again_output_in u u.state out) (again-spared u out u.state) n
refused_call u (receive d out) n = refused-receive u out d n
refused_call u (send_data bytes out) n = refused-sent u out (data_sent u bytes (length out)) (data_output u bytes out) (data-spared u out bytes) n
refused_call u (send_alert protected level description answered out) n =
    refused-sent u out (alert_sent u protected level description answered (length out)) (alert_output u protected level description answered out)
    (alert-spared u out protected level description answered) n
refused_call u close n = (refused-close u u.state n, refl, refl)
refused_call u start n = (refused-start u u.state n, refl, refl)
