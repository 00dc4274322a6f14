-- Demand 3, the first half. The idea: in Opening and Open, under the same keys, a record that is not genuine leaves the unit as it was and
-- hands out nothing; once something closed, every record does.
use mathlib.Core.Path.{◌≡◌, refl, sym, ◌∙◌, ap, subst}
use mathlib.Core.Logic.{◌⊎◌, inl, inr}
use mathlib.Core.Bool.{false}
use mathlib.Core.List.{List, [], ◌∷◌, ◌++◌}
use Prim.Native.Nat.{ℕ}
use lib.ListN.{length}
use Rattle.digest.specs.Pick.{pick}
use Rattle.record.specs.declared.keys.Keys.{Keys}
use Rattle.record.specs.declared.reader.Record.{Record}
use Rattle.connection.specs.declared.refusal.Refusal.TheVariants as X
use Rattle.unit.specs.Agree.{judged}
use Rattle.unit.specs.Answer.{as_ashore}
use Rattle.unit.specs.Calls.{closed_in, started_of, started_in}
use Rattle.unit.specs.Hello.{hello_sent, may_hello}
use Rattle.unit.specs.Judge.{kind_in, judged_record}
use Rattle.unit.specs.Send.{data_sent, alert_sent}
use Rattle.unit.specs.State.{rule_of}
use Rattle.unit.specs.declared.state.State.{State}
use Rattle.unit.specs.declared.state.State.TheVariants as S
use Rattle.unit.specs.declared.state.Rule.TheVariants as T
use Rattle.unit.specs.declared.answer.Answer.{Answer}
use Rattle.unit.specs.declared.answer.Answer.TheVariants as W
use Rattle.unit.specs.declared.agree.Judged.{Judged}
use Rattle.unit.specs.declared.unit.Unit.{Unit as Ship}
use Rattle.demands.specs.Genuine.{RecordOf}
use Rattle.demands.specs.Past.{is_data}
use Rattle.demands.specs.Ship.Genuine.{Protected, Genuine}
use Rattle.demands.specs.Ship.Table.{Up, Over, Shuts, Marked, Row}
use Rattle.demands.specs.Ship.Table.{at_end, critical, fatal, no_change, no_alert, no_message, no_data, some_data, protected_warning, repeated_finished, protected_critical, protected_ignored, protected_reported, finished_again, wrong_finished}
use Rattle.demands.specs.Ship.Table.{row_stays, row_shuts, row_hello, row_change, row_marked, row_opens, row_bars}
use Rattle.demands.specs.Ship.Changes.{Alike}
use Rattle.demands.specs.Ship.Events.{Event, took, greeting, repeating, sending, alerting, closing, starting, next, after}
use Rattle.demands.specs.Ship.HandedOut.{handed_by}
use Rattle.demands.specs.Ship.LeftOut.{GoesOn, Without, ends, both, but, handed_at, handed_over, LeavesOutRecords}
use Rattle.demands.proofs.Ship.Table.{ruled-says, row_of, row_is}
use Rattle.demands.proofs.Ship.Changes.{data-alike, alert-alike, again_same, hello-refused, hello-up}
use Rattle.demands.proofs.Ship.HandedOut.{up-not-midway, stays-silent}

-- up under the keys k, or over
pub Settled : Keys → Ship → Type 0
Settled k u = (Up u.state × (u.protection.keys ≡ k)) ⊎ Over u.state

pub over-seven : (u : Ship) (d : List ℕ) (r : Record) → Over u.state → judged_record u d r ≡ judged (W.Refused X.Ended) u
over-seven u d r (inl e) = row_is u d r (row_stays (at_end (ap (λ s. rule_of s (kind_in d r)) e)))
over-seven u d r (inr e) = row_is u d r (row_stays (at_end (ap (λ s. rule_of s (kind_in d r)) e)))

-- the state behind a record that is marked
marked-up : (u : Ship) (d : List ℕ) (r : Record) (c : List ℕ) → Up u.state → {a : Answer} {s : State} → Marked u d r c a s → Up s ⊎ Over s
marked-up u d r c o (no_change k) = inl o
marked-up u d r c o (no_alert k q) = inl o
marked-up u d r c o (no_message k q v) = inl o
marked-up u d r c o (no_data k z) = inl o
marked-up u d r c o (some_data k z) = inl (inr refl)
marked-up u d r c o (protected_warning a k q l z) = inl o
marked-up u d r c o (repeated_finished a k q l z p) = inl (inr refl)
marked-up u d r c o (protected_critical a k q l) = inr (inl refl)
marked-up u d r c o (protected_ignored k q p) = inl o
marked-up u d r c o (protected_reported k q p) = inl o
marked-up u d r c o (finished_again k q v p) = inl o
marked-up u d r c o (wrong_finished k q v) = inr (inl refl)

module _ (k : Keys) (u : Ship) (d : List ℕ) (r : Record) where
  shuts-never : {P : Type 0} {a : Answer} → Up u.state → Shuts u d r a → P
  shuts-never o (critical a e q m l) = up-not-midway u.state o (ruled-says u d r T.Hear e).0
  shuts-never o (fatal a e q m l) = up-not-midway u.state o (ruled-says u d r T.Hear e).0

  row_settled : Up u.state → u.protection.keys ≡ k → {j : Judged} → Row u d r j → Settled k j.unit
  unfolding Settled
  row_settled o e (row_stays s) = inl (o, e)
  row_settled o e (row_shuts s) = shuts-never o s
  row_settled o e (row_hello plan x z q) = up-not-midway u.state o (ruled-says u d r T.Agree x).0
  row_settled o e (row_change x q) = up-not-midway u.state o (inr (inl (ruled-says u d r T.Change x).0))
  row_settled o e (row_marked c w {s = s} n m) = told (marked-up u d r c o m)
    where
      told : Up s ⊎ Over s → (Up s × (u.protection.keys ≡ k)) ⊎ Over s
      told (inl p) = inl (p, e)
      told (inr p) = inr p
  row_settled o e (row_opens c w n s x q v) = up-not-midway u.state o (inr (inr s))
  row_settled o e (row_bars c w a n x q l) = inr (inr refl)

  record-settled : Settled k u → Settled k (judged_record u d r).unit
  unfolding Settled
  record-settled (inl (o, e)) = row_settled o e (row_of u d r)
  record-settled (inr o) = inr (subst (λ j. Over j.unit.state) (sym (over-seven u d r o)) o)

  -- a row of a record that is not genuine, in Opening and Open
  noise-row : Up u.state → ((c : List ℕ) → Protected u.protection.keys d r c → ⊥) → {j : Judged} → Row u d r j
      → (j.unit ≡ u) × (is_data (as_ashore j.answer) ≡ false)
  noise-row o never (row_stays s) = (refl, stays-silent u d r s)
  noise-row o never (row_shuts s) = shuts-never o s
  noise-row o never (row_hello plan x z q) = up-not-midway u.state o (ruled-says u d r T.Agree x).0
  noise-row o never (row_change x q) = up-not-midway u.state o (inr (inl (ruled-says u d r T.Change x).0))
  noise-row o never (row_marked c w n m) = absurd (never c n.coded)
  noise-row o never (row_opens c w n s x q v) = absurd (never c n.coded)
  noise-row o never (row_bars c w a n x q l) = absurd (never c n.coded)

  pub noise : Settled k u → RecordOf d r → ((c : List ℕ) → Genuine k d r c → ⊥)
      → ((judged_record u d r).unit ≡ u) × (is_data (as_ashore (judged_record u d r).answer) ≡ false)
  unfolding Settled
  noise (inl (o, e)) at never =
      noise-row o (λ c s. never c (record { in_place = at; protected_as = subst (λ x. Protected x d r c) e s })) (row_of u d r)
  noise (inr o) at never =
      (ap (λ j. j.unit) (over-seven u d r o), ap (λ j. is_data (as_ashore j.answer)) (over-seven u d r o))

module _ (k : Keys) (u : Ship) where
  alike-settled : (x : Ship) → Alike u x → Settled k u → Settled k x
  unfolding Settled
  alike-settled x s (inl (o, e)) = inl (subst Up (sym s.state_same) o, s.keys_same ∙ e)
  alike-settled x s (inr o) = inr (subst Over (sym s.state_same) o)

  close-settled : (s : State) → u.state ≡ s → Settled k (closed_in u s).unit
  unfolding Settled
  close-settled S.Idle e = inr (inl refl)
  close-settled S.Sent e = inr (inl refl)
  close-settled S.Replied e = inr (inl refl)
  close-settled S.Spec e = inr (inl refl)
  close-settled S.Opening e = inr (inl refl)
  close-settled S.Open e = inr (inl refl)
  close-settled S.Closed e = inr (inl refl)
  close-settled S.Barred e = inr (inr e)

  hello-settled : (random macs : List ℕ) (refresh room : ℕ) → Settled k u → (hello_sent u random macs refresh room).unit ≡ u
  unfolding Settled
  hello-settled random macs refresh room (inl (o, e)) = hello-up u o random macs refresh room
  hello-settled random macs refresh room (inr (inl e)) = hello-refused u random macs refresh room X.Ended (ap may_hello e)
  hello-settled random macs refresh room (inr (inr e)) = hello-refused u random macs refresh room X.Ended (ap may_hello e)

  start-settled : (u.state ≡ S.Closed → ⊥) → Settled k u → (started_of u).unit ≡ u
  unfolding Settled
  start-settled n (inl (inl o, e)) = ap (λ s. (started_in u s).unit) o
  start-settled n (inl (inr o, e)) = ap (λ s. (started_in u s).unit) o
  start-settled n (inr (inl e)) = absurd (n e)
  start-settled n (inr (inr e)) = ap (λ s. (started_in u s).unit) e

  next-settled : (e : Event) → GoesOn u e → Settled k u → Settled k (next u e)
  next-settled (took d r) g s = record-settled k u d r s
  next-settled (greeting random macs refresh out) g s = subst (Settled k) (sym (hello-settled random macs refresh (length out) s)) s
  next-settled (repeating out) g s = subst (Settled k) (sym (again_same u (length out))) s
  next-settled (sending bytes out) g s = alike-settled (data_sent u bytes (length out)).unit (data-alike u bytes (length out)) s
  next-settled (alerting protected level description lent out) g s =
      alike-settled (alert_sent u protected level description lent (length out)).unit (alert-alike u protected level description lent (length out)) s
  next-settled closing g s = close-settled u.state refl
  next-settled starting g s = subst (Settled k) (sym (start-settled g s)) s

left_out : (k : Keys) {u : Ship} {es fs : List Event} → Without k u es fs → Settled k u
    → (after u es ≡ after u fs) × (handed_over u es ≡ handed_over u fs)
unfolding after handed_over
left_out k ends s = (refl, refl)
left_out k (both {u = u} {e = e} g w) s =
    let t = left_out k w (next-settled k u e g s) in (t.0, ap (λ l. handed_at u e ++ l) t.1)
left_out k (but {u = u} {d = d} {r = r} {es = es} {fs = fs} at never w) s =
    let q = noise k u d r s at never in
    let t = left_out k w (record-settled k u d r s) in
    let same : next u (took d r) ≡ u = q.0 in (
      t.0 ∙ ap (λ x. after x fs) same,
      ap (λ b. pick b (handed_by d (judged_record u d r).answer ∷ []) [] ++ handed_over (judged_record u d r).unit es) q.1
          ∙ t.1 ∙ ap (λ x. handed_over x fs) same,
    )

pub leaves_out : LeavesOutRecords
unfolding LeavesOutRecords Settled
leaves_out u o es fs w = left_out u.protection.keys w (inl (o, refl))
