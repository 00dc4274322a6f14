-- When a contract allows one outcome only (01: "That two outcomes allowed by one contract coincide is itself proved").
-- The outcome of a call is what comes back, and what each place that was lent to it by `&mut` holds afterwards.
use Rattle.std.specs.Prelude.{◌≡◌}
use contract.Lifetimes.{Lfts}
use denote.Triple.Entry.{Args, Res}
use denote.Triple.Clauses.{Ended, Lasts, AtExit, at_exit}

-- What the `ensures` of a call is, where T has the parameters and the result of the call: a predicate of the arguments,
-- of what comes back, and of the parameters at exit. The check makes both from the source, under the name of the
-- function: `ended` is its T, and `Reads.Learnt` the very predicate, all that a caller learns.
abbrev pub Promise : Ended → Type 1
Promise T =
    (κs : Lfts T.signature.lifetimes) → Args T.signature κs → Res T.signature κs → AtExit T κs → Type 0

-- For all arguments a: let x or y come back, and let the lent places then hold s or u. (`Lasts` has a value for each
-- parameter lent by `&mut`, and nothing for the others.) If both outcomes meet the promise, x and y are the `Same`,
-- and s equals u.
abbrev pub OneOutcomeBy :
    (T : Ended) → ((κs : Lfts T.signature.lifetimes) (x y : Res T.signature κs) → Type 0) → Promise T → Type 0
OneOutcomeBy T Same Met =
    (κs : Lfts T.signature.lifetimes) (a : Args T.signature κs)
    (x y : Res T.signature κs) (s u : Lasts T κs a)
    → Met κs a x (at_exit T κs a s)
    → Met κs a y (at_exit T κs a u)
    → Same κs x y × (s ≡ u)

-- The same where x equals y. (Of a part of a lent slice that comes back the bytes are compared, and `Same` says so.)
abbrev pub OneOutcome : (T : Ended) → Promise T → Type 0
OneOutcome T = OneOutcomeBy T (λ κs x y. x ≡ y)
