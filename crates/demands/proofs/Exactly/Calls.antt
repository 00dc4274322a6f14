-- The refusals of start again, close and fresh, exactly when: each state by itself.
use mathlib.Core.Path.{◌≡◌, refl, ap}
use mathlib.Core.Logic.{◌↔◌, ◌≢◌, inl, inr}
use mathlib.Core.List.{List}
use Prim.Native.Nat.{ℕ}
use native.Mathlib.Omega.{arith}
use lib.ListN.{length}
use Rattle.record.specs.Window.{Held}
use Rattle.connection.specs.Calls.{fresh_of, closed_in, started_in}
use Rattle.connection.specs.declared.connection.Connection.{Connection}
use Rattle.connection.specs.declared.calls.Called.{Called}
use Rattle.connection.specs.declared.refusal.Refusal.{Refusal}
use Rattle.connection.specs.declared.refusal.Refusal.TheVariants as X
use Rattle.connection.specs.declared.state.State.{State}
use Rattle.connection.specs.declared.state.State.TheVariants as S
use Rattle.demands.specs.Runs.{called, step_of}
use Rattle.demands.specs.Calls.{FreshRow, fresh_16, fresh_done}
use Rattle.demands.proofs.Calls.{fresh-of, fresh_row}
use Rattle.demands.specs.Exactly.Calls.{WhyStart, ExactlyStart, WhyClose, ExactlyClose, WhyFresh, ExactlyFresh}
use Rattle.demands.proofs.Exactly.Reasons.{Holds, refused_when, done-when, through}
use Rattle.std.specs.Prelude.{Err, Ok, Result, ⊤}

-- what comes back of a call is its outcome
called_is : (o p : Result ⊤ Refusal) → (called o ≡ called p) ↔ (o ≡ p)
called_is o p = (λ e. cc, ap called)

-- ---- start again

start-holds : (h : Connection) (s : State) → Holds (WhyStart s) (s ≡ S.Closed) (started_in h s).outcome
start-holds h S.Idle = inl refl
start-holds h S.Replied = inr (inl refl)
start-holds h S.Spec = inr (inr (inl refl))
start-holds h S.Open = inr (inr (inr refl))
start-holds h S.Closed = refl
start-holds h S.Barred = refl

start-because : (h : Connection) (s : State) (x : Refusal) → WhyStart s x → (started_in h s).outcome ≡ Err x
start-because h s X.Ended e = ap (λ y. (started_in h y).outcome) e
start-because h s X.NotAllowed (inl e) = ap (λ y. (started_in h y).outcome) e
start-because h s X.NotAllowed (inr (inl e)) = ap (λ y. (started_in h y).outcome) e
start-because h s X.NotAllowed (inr (inr (inl e))) = ap (λ y. (started_in h y).outcome) e
start-because h s X.NotAllowed (inr (inr (inr e))) = ap (λ y. (started_in h y).outcome) e
start-because h s (X.Framing fault) w = absurd w
start-because h s X.Room w = absurd w
start-because h s X.Forged w = absurd w
start-because h s X.TooOld w = absurd w
start-because h s X.Repeated w = absurd w
start-because h s X.Malformed w = absurd w
start-because h s X.Unacceptable w = absurd w
start-because h s X.Checksum w = absurd w
start-because h s X.Spent w = absurd w
start-because h s X.Argument w = absurd w
start-because h s X.WrongFinished w = absurd w

pub exactly-start : ExactlyStart step_of
unfolding step_of
exactly-start =
    record {
      refused = λ c x.
          let h : State = c.handshake.state in
          through (called_is (started_in c h).outcome (Err x))
          (refused_when (WhyStart h) (h ≡ S.Closed) (started_in c h).outcome
          (start-holds c h) (start-because c h) x);
      goes = λ c.
          let h : State = c.handshake.state in
          through (called_is (started_in c h).outcome (Ok tt))
          (done-when (WhyStart h) (h ≡ S.Closed) (started_in c h).outcome
          (start-holds c h) (ap (λ y. (started_in c y).outcome)));
    }

-- ---- close

close-holds : (h : Connection) (s : State) → Holds (WhyClose s) (s ≢ S.Barred) (closed_in h s).outcome
close-holds h S.Idle = λ e. let z : ◌≡◌ {A = ℕ} 0 1 = cc in omega arith
close-holds h S.Replied = λ e. let z : ◌≡◌ {A = ℕ} 0 1 = cc in omega arith
close-holds h S.Spec = λ e. let z : ◌≡◌ {A = ℕ} 0 1 = cc in omega arith
close-holds h S.Open = λ e. let z : ◌≡◌ {A = ℕ} 0 1 = cc in omega arith
close-holds h S.Closed = λ e. let z : ◌≡◌ {A = ℕ} 0 1 = cc in omega arith
close-holds h S.Barred = refl

close-because : (h : Connection) (s : State) (x : Refusal) → WhyClose s x → (closed_in h s).outcome ≡ Err x
close-because h s X.Ended e = ap (λ y. (closed_in h y).outcome) e
close-because h s (X.Framing fault) w = absurd w
close-because h s X.Room w = absurd w
close-because h s X.NotAllowed w = absurd w
close-because h s X.Forged w = absurd w
close-because h s X.TooOld w = absurd w
close-because h s X.Repeated w = absurd w
close-because h s X.Malformed w = absurd w
close-because h s X.Unacceptable w = absurd w
close-because h s X.Checksum w = absurd w
close-because h s X.Spent w = absurd w
close-because h s X.Argument w = absurd w
close-because h s X.WrongFinished w = absurd w

close-goes : (h : Connection) (s : State) → s ≢ S.Barred → (closed_in h s).outcome ≡ Ok tt
close-goes h S.Idle n = refl
close-goes h S.Replied n = refl
close-goes h S.Spec n = refl
close-goes h S.Open n = refl
close-goes h S.Closed n = refl
close-goes h S.Barred n = absurd (n refl)

pub exactly-close : ExactlyClose step_of
unfolding step_of
exactly-close =
    record {
      refused = λ c x.
          let h : State = c.handshake.state in
          through (called_is (closed_in c h).outcome (Err x))
          (refused_when (WhyClose h) (h ≢ S.Barred) (closed_in c h).outcome
          (close-holds c h) (close-because c h) x);
      goes = λ c.
          let h : State = c.handshake.state in
          through (called_is (closed_in c h).outcome (Ok tt))
          (done-when (WhyClose h) (h ≢ S.Barred) (closed_in c h).outcome
          (close-holds c h) (close-goes c h));
    }

-- ---- fresh connection

module _ (id secret : List ℕ) (width : ℕ) where
  abbrev Why : Refusal → Type 0
  Why = WhyFresh (length id) (length secret) width

  abbrev Goes : Type 0
  Goes = (length id ≡ 8) × (length secret ≡ 20) × Held width

  -- the row of a fresh connection is its reason
  row-holds : {s : Called} → FreshRow id secret width s → Holds Why Goes s.outcome
  row-holds (fresh_16 why) = why
  row-holds (fresh_done eight twenty held) = (eight, twenty, held)

  fresh_holds : Holds Why Goes (fresh_of id secret width).outcome
  fresh_holds = row-holds (fresh-of id secret width)

  fresh-goes : Goes → (fresh_of id secret width).outcome ≡ Ok tt
  fresh-goes (eight, twenty, held) = ap (λ s. s.outcome) (fresh_row id secret width (fresh_done eight twenty held))

  fresh-because : (x : Refusal) → Why x → (fresh_of id secret width).outcome ≡ Err x
  fresh-because X.Argument w = ap (λ s. s.outcome) (fresh_row id secret width (fresh_16 w))
  fresh-because (X.Framing fault) w = absurd w
  fresh-because X.Room w = absurd w
  fresh-because X.Ended w = absurd w
  fresh-because X.NotAllowed w = absurd w
  fresh-because X.Forged w = absurd w
  fresh-because X.TooOld w = absurd w
  fresh-because X.Repeated w = absurd w
  fresh-because X.Malformed w = absurd w
  fresh-because X.Unacceptable w = absurd w
  fresh-because X.Checksum w = absurd w
  fresh-because X.Spent w = absurd w
  fresh-because X.WrongFinished w = absurd w

pub exactly-fresh : ExactlyFresh
exactly-fresh =
    record {
      refused = λ id secret width. refused_when (Why id secret width) (Goes id secret width) (fresh_of id secret width).outcome
          (fresh_holds id secret width) (fresh-because id secret width);
      goes = λ id secret width. done-when (Why id secret width) (Goes id secret width) (fresh_of id secret width).outcome
          (fresh_holds id secret width) (fresh-goes id secret width);
    }
