-- `calls::fresh`: the two lengths and the width, in the definition's order.
use mathlib.Core.Path.{◌≡◌, ◌∙◌, ap}
use mathlib.Core.Logic.{◌≢◌}
use mathlib.Core.List.{List}
use Prim.Native.Nat.{ℕ, ◌≤◌, ◌<◌}
use lib.ListN.{length}
use native.Mathlib.Omega.{arith}
use borrow.Author.Tests.{eq-eqb, ne_eqb, lt-ltb, le-ltb}
use Rattle.connection.specs.Connection.{alone, new_connection}
use Rattle.connection.specs.Calls.{leaving, out_of_range, session_of, fresh_of}
use Rattle.connection.specs.declared.handshake.Session.{Session}
use Rattle.connection.specs.declared.calls.Called.{Called}
use Rattle.connection.specs.declared.refusal.Refusal.TheVariants.{Argument}
use Rattle.connection.proofs.calls.fresh.Goals as goal
use Rattle.std.specs.Prelude.{Err, Ok}

by-id : (id secret : List ℕ) (width : ℕ) (r : Called) → length id ≢ 8 → r ≡ out_of_range → r ≡ fresh_of id secret width
unfolding fresh_of
by-id id secret width r i e = rw (ne_eqb (length id) 8 i) e

by-secret : (id secret : List ℕ) (width : ℕ) (r : Called) → length id ≡ 8 → length secret ≢ 20 → r ≡ out_of_range → r ≡ fresh_of id secret width
unfolding fresh_of
by-secret id secret width r i s e = rw (eq-eqb (length id) 8 i, ne_eqb (length secret) 20 s) e

too_narrow : (id secret : List ℕ) (width : ℕ) (r : Called) → length id ≡ 8 → length secret ≡ 20 → width < 32 → r ≡ out_of_range → r ≡ fresh_of id secret width
unfolding fresh_of
too_narrow id secret width r i s n e = rw (eq-eqb (length id) 8 i, eq-eqb (length secret) 20 s, lt-ltb width 32 n) e

too_wide : (id secret : List ℕ) (width : ℕ) (r : Called) → length id ≡ 8 → length secret ≡ 20 → 32 ≤ width → 64 < width → r ≡ out_of_range
    → r ≡ fresh_of id secret width
unfolding fresh_of
too_wide id secret width r i s n w e =
    rw (eq-eqb (length id) 8 i, eq-eqb (length secret) 20 s, le-ltb width 32 n, lt-ltb 64 width w) e

as-held : (id secret : List ℕ) (width : ℕ) (r : Called) → length id ≡ 8 → length secret ≡ 20 → 32 ≤ width → width ≤ 64
    → r ≡ leaving (Ok tt) (new_connection (session_of id secret) width) → r ≡ fresh_of id secret width
unfolding fresh_of
as-held id secret width r i s n w e =
    rw (eq-eqb (length id) 8 i, eq-eqb (length secret) 20 s, le-ltb width 32 n, le-ltb 64 width w) e

of-session : {s t : Session} {width : ℕ} → s ≡ t → new_connection s width ≡ new_connection t width
of-session {s} {t} {width} e = ap (λ x. new_connection x width) e

pub returns-then-id-ne8 : goal.returns-then-id-ne8
returns-then-id-ne8 c = by-id _ _ _ _ (λ z. omega arith) (c.leave.ensures ∙ ap (leaving (Err Argument)) (c.alone.ensures ∙ ap alone c.blank.ensures))

pub returns-then-secret-ne20 : goal.returns-then-secret-ne20
returns-then-secret-ne20 c = by-secret _ _ _ _ (omega arith) (λ z. omega arith) (c.leave-then-secret-ne20.ensures ∙ ap (leaving (Err Argument)) (c.alone-then-secret-ne20.ensures ∙ ap alone c.blank-then-secret-ne20.ensures))

pub returns-then-width-lt32 : goal.returns-then-width-lt32
returns-then-width-lt32 c = too_narrow _ _ _ _ (omega arith) (omega arith) (omega arith) (c.leave-then-width-lt32.ensures ∙ ap (leaving (Err Argument)) (c.alone-then-width-lt32.ensures ∙ ap alone c.blank-then-width-lt32.ensures))

pub returns-then-width-gt64 : goal.returns-then-width-gt64
returns-then-width-gt64 c = too_wide _ _ _ _ (omega arith) (omega arith) (omega arith) (omega arith) (c.leave-then-width-gt64.ensures ∙ ap (leaving (Err Argument)) (c.alone-then-width-gt64.ensures ∙ ap alone c.blank-then-width-gt64.ensures))

pub returns : goal.returns
returns c = as-held _ _ _ _ (omega arith) (omega arith) (omega arith) (omega arith)
    (c.leave-2.ensures ∙ ap (leaving (Ok tt)) (c.alone-2.ensures ∙ ap alone c.made.ensures ∙ of-session c.planted.ensures))
