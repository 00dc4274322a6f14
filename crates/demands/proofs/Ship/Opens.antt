-- What a receive writes where a record opened. The idea: behind it the unit is up or over, where no record opens and none changes the
-- flight.
use mathlib.Core.Path.{◌≡◌, refl, sym, ◌∙◌, ap, ap₂, subst}
use mathlib.Core.Logic.{◌⊎◌, inl, inr}
use mathlib.Core.List.{List, [], ◌∷◌, ◌++◌}
use Prim.Native.Nat.{ℕ, ◌≤◌}
use native.Mathlib.Omega.{arith}
use lib.ListN.{length, take}
use borrow.Author.Tests.{le-ltb}
use Rattle.digest.specs.Bytes.{laid_over}
use Rattle.record.specs.Datagram.{framed, framing_of}
use Rattle.record.specs.declared.keys.Keys.{Keys}
use Rattle.record.specs.declared.reader.Record.{Record}
use Rattle.unit.specs.Answer.{opens_by, opens_to}
use Rattle.unit.specs.Judge.{judged_record}
use Rattle.unit.specs.Protected.{flight_size}
use Rattle.unit.specs.Receive.{end_of, answers_of, flight_in, run_of, received_of, output_of}
use Rattle.unit.specs.Unit.{with_state, with_window, flight_of, opened}
use Rattle.unit.specs.declared.agree.Judged.{Judged}
use Rattle.unit.specs.declared.answer.Answer.{Answer}
use Rattle.unit.specs.declared.answer.Answer.TheVariants as W
use Rattle.unit.specs.declared.state.State.{State}
use Rattle.unit.specs.declared.state.State.TheVariants as S
use Rattle.unit.specs.declared.state.Rule.TheVariants as T
use Rattle.unit.specs.declared.unit.Unit.{Unit as Ship}
use Rattle.demands.specs.Ship.Table.{Up, Over, Stays, Shuts, Marked, Row}
use Rattle.demands.specs.Ship.Table.{at_end, not_allowed, not_first, forged, too_old, repeated, bad_hello, bad_request, bad_change, bad_alert, unacceptable, checksum, ignored_request, reported_request, warning}
use Rattle.demands.specs.Ship.Table.{critical, fatal, no_change, no_alert, no_message, no_data, some_data, protected_warning, repeated_finished, protected_critical, protected_ignored, protected_reported, finished_again, wrong_finished}
use Rattle.demands.specs.Ship.Table.{row_stays, row_shuts, row_hello, row_change, row_marked, row_opens, row_bars}
use Rattle.demands.specs.Ship.Runs.{receive, step_of}
use Rattle.demands.specs.Ship.Refusals.{written_by}
use Rattle.demands.specs.Ship.Opens.{OpenWrites}
use Rattle.demands.proofs.Ship.Table.{ruled-says, row_of}
use Rattle.demands.proofs.Ship.HandedOut.{up-not-midway, up-not-over}
use Rattle.demands.proofs.Ship.LeftOut.{over-seven}

-- an answer that does not open
abbrev Silent : Answer → Type 0
Silent a = (n : ℕ) → opens_by n a ≡ n

-- what an answer that opens says of the unit that is left
abbrev OpensAs : Answer → Ship → Type 0
OpensAs W.Nothing v = Unit
OpensAs W.Hello v = Unit
OpensAs W.Spec v = Unit
OpensAs (W.Open size) v = (v.state ≡ S.Opening) × (size ≡ flight_size v.protection.keys.mac)
OpensAs W.Again v = Unit
OpensAs (W.Data number start size) v = Unit
OpensAs W.Request v = Unit
OpensAs W.Ignored v = Unit
OpensAs (W.Warning description) v = Unit
OpensAs (W.Critical description) v = Unit
OpensAs (W.Fatal description) v = Unit
OpensAs (W.Barred description) v = Unit
OpensAs (W.Refused refusal) v = Unit

silent-opens : (a : Answer) (v : Ship) → Silent a → OpensAs a v
silent-opens W.Nothing v q = tt
silent-opens W.Hello v q = tt
silent-opens W.Spec v q = tt
silent-opens (W.Open size) v q = let x : size ≡ 0 = q 0 in let y : size ≡ 1 = q 1 in absurd (omega arith)
silent-opens W.Again v q = tt
silent-opens (W.Data number start size) v q = tt
silent-opens W.Request v q = tt
silent-opens W.Ignored v q = tt
silent-opens (W.Warning description) v q = tt
silent-opens (W.Critical description) v q = tt
silent-opens (W.Fatal description) v q = tt
silent-opens (W.Barred description) v q = tt
silent-opens (W.Refused refusal) v q = tt

-- up under the keys k, or over
abbrev Later : Keys → Ship → Type 0
Later k v = (Up v.state × (v.protection.keys ≡ k)) ⊎ Over v.state

module _ (u : Ship) (d : List ℕ) (r : Record) where
  stays-silent : {a : Answer} → Stays u d r a → Silent a
  stays-silent (at_end e) n = refl
  stays-silent (not_allowed e) n = refl
  stays-silent (not_first e z) n = refl
  stays-silent (forged e never) n = refl
  stays-silent (too_old c e s q) n = refl
  stays-silent (repeated c e s q) n = refl
  stays-silent (bad_hello e z q) n = refl
  stays-silent (bad_request e q) n = refl
  stays-silent (bad_change e q) n = refl
  stays-silent (bad_alert e q) n = refl
  stays-silent (unacceptable term e z q) n = refl
  stays-silent (checksum a e q m) n = refl
  stays-silent (ignored_request e q m) n = refl
  stays-silent (reported_request e q m) n = refl
  stays-silent (warning a e q m l) n = refl

  shuts-silent : {a : Answer} → Shuts u d r a → Silent a
  shuts-silent (critical a e q m l) n = refl
  shuts-silent (fatal a e q m l) n = refl

  marked-silent : (c : List ℕ) {a : Answer} {s : State} → Marked u d r c a s → Silent a
  marked-silent c (no_change k) n = refl
  marked-silent c (no_alert k q) n = refl
  marked-silent c (no_message k q v) n = refl
  marked-silent c (no_data k z) n = refl
  marked-silent c (some_data k z) n = refl
  marked-silent c (protected_warning a k q l z) n = refl
  marked-silent c (repeated_finished a k q l z o) n = refl
  marked-silent c (protected_critical a k q l) n = refl
  marked-silent c (protected_ignored k q o) n = refl
  marked-silent c (protected_reported k q o) n = refl
  marked-silent c (finished_again k q v o) n = refl
  marked-silent c (wrong_finished k q v) n = refl

  opens_row : {j : Judged} → Row u d r j → OpensAs j.answer j.unit
  unfolding opened
  opens_row (row_stays {a = a} s) = silent-opens a u (stays-silent s)
  opens_row (row_shuts {a = a} s) = silent-opens a (with_state u S.Closed) (shuts-silent s)
  opens_row (row_hello plan e z q) = tt
  opens_row (row_change e q) = tt
  opens_row (row_marked c w {a = a} {s = s} n m) = silent-opens a (with_state (with_window u w) s) (marked-silent c m)
  opens_row (row_opens c w n s k q v) = (refl, refl)
  opens_row (row_bars c w a n k q l) = tt

  module _ (k : Keys) where
    marked-later : (c : List ℕ) → Up u.state → u.protection.keys ≡ k → {a : Answer} {s : State} → Marked u d r c a s
        → (Up s × (u.protection.keys ≡ k)) ⊎ Over s
    marked-later c o e (no_change x) = inl (o, e)
    marked-later c o e (no_alert x q) = inl (o, e)
    marked-later c o e (no_message x q v) = inl (o, e)
    marked-later c o e (no_data x z) = inl (o, e)
    marked-later c o e (some_data x z) = inl (inr refl, e)
    marked-later c o e (protected_warning a x q l z) = inl (o, e)
    marked-later c o e (repeated_finished a x q l z y) = inl (inr refl, e)
    marked-later c o e (protected_critical a x q l) = inr (inl refl)
    marked-later c o e (protected_ignored x q y) = inl (o, e)
    marked-later c o e (protected_reported x q y) = inl (o, e)
    marked-later c o e (finished_again x q v p) = inl (o, e)
    marked-later c o e (wrong_finished x q v) = inr (inl refl)

    abbrev GoesLater : Judged → Type 0
    GoesLater j = Later k j.unit × (j.unit.flight ≡ u.flight) × Silent j.answer

    later-row : Up u.state → u.protection.keys ≡ k → {j : Judged} → Row u d r j → GoesLater j
    later-row o e (row_stays s) = (inl (o, e), refl, stays-silent s)
    later-row o e (row_shuts s) = (inr (inl refl), refl, shuts-silent s)
    later-row o e (row_hello plan x z q) = up-not-midway u.state o (ruled-says u d r T.Agree x).0
    later-row o e (row_change x q) = up-not-midway u.state o (inr (inl (ruled-says u d r T.Change x).0))
    later-row o e (row_marked c w n m) = (marked-later c o e m, refl, marked-silent c m)
    later-row o e (row_opens c w n s x q v) = up-not-midway u.state o (inr (inr s))
    later-row o e (row_bars c w a n x q l) = (inr (inr refl), refl, λ m. refl)

    later-step : Later k u → GoesLater (judged_record u d r)
    later-step (inl (o, e)) = later-row o e (row_of u d r)
    later-step (inr o) = subst GoesLater (sym (over-seven u d r o)) (inr o, refl, λ m. refl)

later_all : (k : Keys) (d : List ℕ) (rs : List Record) (u : Ship) → Later k u
    → Later k (end_of u d rs) × ((end_of u d rs).flight ≡ u.flight) × ((n : ℕ) → opens_to n (answers_of u d rs) ≡ n)
unfolding end_of answers_of opens_to
later_all k d [] u l = (l, refl, λ n. refl)
later_all k d (r ∷ rs) u l =
    let one = later-step u d r k l in
    let all = later_all k d rs (judged_record u d r).unit one.0 in
    (all.0, all.1 ∙ one.1, λ n. ap (λ m. opens_to m (answers_of (judged_record u d r).unit d rs)) (one.2 n) ∙ all.2 n)

module _ (d : List ℕ) (r : Record) (behind : List Record) where
  end-splits : (before : List Record) (u : Ship) → end_of u d (before ++ (r ∷ behind)) ≡ end_of (judged_record (end_of u d before) d r).unit d behind
  unfolding end_of
  end-splits [] u = refl
  end-splits (b ∷ before) u = end-splits before (judged_record u d b).unit

  opens-splits : (before : List Record) (u : Ship) (n : ℕ)
      → opens_to n (answers_of u d (before ++ (r ∷ behind)))
      ≡ opens_to (opens_by (opens_to n (answers_of u d before)) (judged_record (end_of u d before) d r).answer)
      (answers_of (judged_record (end_of u d before) d r).unit d behind)
  unfolding end_of answers_of opens_to
  opens-splits [] u n = refl
  opens-splits (b ∷ before) u n = opens-splits before (judged_record u d b).unit (opens_by n (judged_record u d b).answer)

receive_is : (u : Ship) (d out : List ℕ) (rs : List Record) → 128 ≤ length out → framing_of d ≡ framed rs
    → ((step_of u (receive d out)).output ≡ laid_over out 0 (flight_in u d rs))
    × (written_by (step_of u (receive d out)).result ≡ length (flight_in u d rs)) × ((step_of u (receive d out)).unit ≡ end_of u d rs)
unfolding step_of received_of output_of run_of
receive_is u d out rs room f = rw (le-ltb (length out) 128 room, f) (refl, refl, refl)

flight-later : (left v : Ship) → Later left.protection.keys v → v.flight ≡ left.flight → v.state ≡ S.Opening → flight_of v ≡ flight_of left
flight-later left v (inl (o, e)) f s = ap₂ (λ (k : Keys) x. take (flight_size k.mac) x) e f
flight-later left v (inr o) f s = up-not-over v.state (inl s) o

pub open_writes : OpenWrites step_of
unfolding OpenWrites flight_in
open_writes u d out before r behind size room f e =
    let j : Judged = judged_record (end_of u d before) d r in
    let left : Ship = j.unit in
    let was : OpensAs (W.Open size) left = subst (λ a. OpensAs a left) e (opens_row (end_of u d before) d r (row_of (end_of u d before) d r)) in
    let all = later_all left.protection.keys d behind left (inl (inl was.0, refl)) in
    let is = receive_is u d out (before ++ (r ∷ behind)) room f in
    let ended : end_of u d (before ++ (r ∷ behind)) ≡ end_of left d behind = end-splits d r behind before u in
    let count : opens_to 0 (answers_of u d (before ++ (r ∷ behind))) ≡ flight_size left.protection.keys.mac
    = opens-splits d r behind before u 0
    ∙ ap (λ a. opens_to (opens_by (opens_to 0 (answers_of u d before)) a) (answers_of left d behind)) e ∙ all.2 size ∙ was.1 in
    let flown : flight_in u d (before ++ (r ∷ behind)) ≡ flight_of left = ap₂ take count (ap (λ (v : Ship). v.flight) ended ∙ all.1) in
    record {
      opens = was.0;
      laid = is.0 ∙ ap (laid_over out 0) flown;
      counted = is.1 ∙ ap length flown;
      said_next = λ s.
          ap flight_of (is.2 ∙ ended)
          ∙ flight-later left (end_of left d behind) all.0 all.1 (sym (ap (λ (v : Ship). v.state) (is.2 ∙ ended)) ∙ s);
    }
