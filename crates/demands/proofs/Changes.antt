-- What a record changes, read off its row.
use mathlib.Core.Path.{◌≡◌, refl, sym, ◌∙◌, ap, subst}
use mathlib.Core.Bool.{Bool, true, false}
use mathlib.Core.List.{List}
use Prim.Native.Nat.{ℕ}
use Rattle.record.specs.declared.reader.Record.{Record}
use Rattle.record.specs.declared.window.Window.{Window}
use native.Mathlib.Omega.{arith}
use Rattle.connection.specs.Reply.{answered_with}
use Rattle.message.specs.declared.acceptance.Plan.{Plan}
use Rattle.connection.specs.Handshake.{with_state, with_window, barred, planted}
use Rattle.connection.specs.Connection.{ended, restarted}
use Rattle.connection.specs.declared.connection.Connection.{Connection}
use Rattle.connection.specs.Judge.{judged_record, fragment_of}
use Rattle.connection.specs.Calls.{closed_in, started_in}
use Rattle.connection.specs.declared.state.State.{State}
use Rattle.connection.specs.declared.state.State.TheVariants as S
use Rattle.connection.specs.declared.refusal.Refusal.{Refusal}
use Rattle.connection.specs.declared.refusal.Refusal.TheVariants as X
use Rattle.connection.specs.declared.answer.Answer.{Answer}
use Rattle.connection.specs.declared.answer.Answer.TheVariants as W
use Rattle.connection.specs.declared.answer.Judged.{Judged}
use Rattle.connection.specs.declared.handshake.Handshake.{Handshake}
use Rattle.demands.specs.Table.{Row, New}
use Rattle.demands.specs.Table.{row_ended, row_returned, row_not_allowed, row_reply, row_hello_malformed, row_unacceptable, row_resent, row_change, row_change_malformed, row_clear_malformed, row_checksum, row_clear_warning, row_clear_critical, row_clear_fatal, row_forged, row_old, row_repeated, row_malformed, row_data, row_warning, row_critical, row_barred, row_open, row_again, row_wrong_finished}
use Rattle.demands.specs.Refusals.{marked, marked_as, refused_leaves, RefusedRecordChangesNothing}
use Rattle.demands.specs.Changes.{Leaves, RecordChangesOnly, CloseChangesOnly, StartChangesOnly}
use Rattle.demands.proofs.Table.{row_of}
use Rattle.connection.specs.declared.sent.SentRecords.{SentRecords}
use Rattle.std.specs.Prelude.{Err, Ok, Result, ⊤}

module _ (h : Handshake) (sent : SentRecords) (random d : List ℕ) (r : Record) where
  -- the mark of a new number
  pub marked_is : (c : List ℕ) (w : Window) → New h d r c w → with_window h w ≡ marked h r.number
  marked_is c w n = sym (ap (marked_as h) n.accepted)

  malformed_clear : r.protected ≡ false → h ≡ refused_leaves h r.protected r.number X.Malformed
  malformed_clear p = sym (ap (λ b. refused_leaves h b r.number X.Malformed) p)

  malformed_protected : (c : List ℕ) (w : Window) → New h d r c w → with_window h w ≡ refused_leaves h r.protected r.number X.Malformed
  malformed_protected c w n =
      marked_is c w n ∙ sym (ap (λ b. refused_leaves h b r.number X.Malformed) n.guarded.protection)

  by_protection : (then : Handshake) (a : Answer) (p : Bool) → r.protected ≡ p → Leaves h random (fragment_of d r) p r.number then a
      → Leaves h random (fragment_of d r) r.protected r.number then a
  by_protection then a p e x = subst (λ b. Leaves h random (fragment_of d r) b r.number then a) (sym e) x

  -- a new reply: Replied, the window left alone, the same session
  replied : (plan : Plan) → (answered_with h random (fragment_of d r) plan).state ≡ S.Replied
  unfolding answered_with
  replied plan = refl

  unmoved : (plan : Plan) → (answered_with h random (fragment_of d r) plan).protection.window ≡ h.protection.window
  unfolding answered_with
  unmoved plan = refl

  same_session : (plan : Plan) → planted (answered_with h random (fragment_of d r) plan) ≡ planted h
  unfolding answered_with
  same_session plan = refl

  pub leaves : {j : Judged} → Row h sent random d r j → Leaves h random (fragment_of d r) r.protected r.number j.handshake j.answer
  leaves (row_ended e) = refl
  leaves (row_returned q) = refl
  leaves (row_not_allowed e a n) = refl
  leaves (row_reply plan g e) = (plan, e, refl, replied plan, unmoved plan, same_session plan)
  leaves (row_hello_malformed fault g e) = malformed_clear g.hello.clear
  leaves (row_unacceptable condition g e) = refl
  leaves (row_resent s i z e) = refl
  leaves (row_change s p c e) = refl
  leaves (row_change_malformed s p c e) = malformed_clear p
  leaves (row_clear_malformed s p c e) = malformed_clear p
  leaves (row_checksum a s p c e n) = refl
  leaves (row_clear_warning a s p c e k l) = by_protection h (W.Warning a.description) false p refl
  leaves (row_clear_critical a s p c e k l) = by_protection (with_state h S.Closed) (W.Critical a.description) false p refl
  leaves (row_clear_fatal a s p c e k l) = refl
  leaves (row_forged g f) = refl
  leaves (row_old c g s e) = refl
  leaves (row_repeated c g s e) = refl
  leaves (row_malformed c w n m) = malformed_protected c w n
  leaves (row_data c w n e m) = marked_is c w n
  leaves (row_warning c w a n e m l) = by_protection (with_window h w) (W.Warning a.description) true n.guarded.protection (marked_is c w n)
  leaves (row_critical c w a n e m l) =
      by_protection (with_state (with_window h w) S.Closed) (W.Critical a.description) true n.guarded.protection (ap (λ x. with_state x S.Closed) (marked_is c w n))
  leaves (row_barred c w a n e m l) = ap barred (marked_is c w n)
  leaves (row_open c w n s e m) = ap (λ x. with_state x S.Open) (marked_is c w n)
  leaves (row_again c w n s e m) = marked_is c w n
  leaves (row_wrong_finished c w n e m) = ap (λ x. with_state x S.Closed) (marked_is c w n)

pub record_changes_only : RecordChangesOnly
unfolding RecordChangesOnly
record_changes_only h sent random d r = leaves h sent random d r (row_of h sent random d r)

pub refused_record : RefusedRecordChangesNothing
unfolding RefusedRecordChangesNothing
refused_record h sent random d r x e =
    subst (λ a. Leaves h random (fragment_of d r) r.protected r.number (judged_record h sent random d r).handshake a) e
    (leaves h sent random d r (row_of h sent random d r))

-- close, and start again

refused_done : {P : Type 0} (x : Refusal) → ◌≡◌ {A = Result ⊤ Refusal} (Err x) (Ok tt) → P
refused_done x e = let z : ◌≡◌ {A = ℕ} 0 1 = cc in absurd (omega arith)

closed_by : (c : Connection) (s : State) → (closed_in c s).outcome ≡ Ok tt → (closed_in c s).connection ≡ ended c
closed_by c S.Idle e = refl
closed_by c S.Replied e = refl
closed_by c S.Spec e = refl
closed_by c S.Open e = refl
closed_by c S.Closed e = refl
closed_by c S.Barred e = refused_done X.Ended e

pub close_changes_only : CloseChangesOnly
unfolding CloseChangesOnly
close_changes_only c e = closed_by c c.handshake.state e

started_by : (c : Connection) (s : State) → (started_in c s).outcome ≡ Ok tt → (started_in c s).connection ≡ restarted c
started_by c S.Idle e = refused_done X.NotAllowed e
started_by c S.Replied e = refused_done X.NotAllowed e
started_by c S.Spec e = refused_done X.NotAllowed e
started_by c S.Open e = refused_done X.NotAllowed e
started_by c S.Closed e = refl
started_by c S.Barred e = refused_done X.Ended e

pub start_changes_only : StartChangesOnly
unfolding StartChangesOnly
start_changes_only c e = started_by c c.handshake.state e
