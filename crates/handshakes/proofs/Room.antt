-- A written record takes no more than the room that it is lent.
use mathlib.Core.Path.{◌≡◌}
use mathlib.Core.List.{List}
use mathlib.Core.Logic.{by_cases}
use Prim.Native.Nat.{ℕ, ◌+◌, ◌-◌, ◌≤◌}
use native.Mathlib.Omega.{arith}
use native.Mathlib.Decide.{dec_le}
use lib.ListN.{length}
use borrow.Author.Tests.{le-leb, lt-leb}
use Rattle.record.specs.Written.{count_of}

within : (room bytes : List ℕ) (n : ℕ) → n ≡ count_of room bytes → n ≤ length room
unfolding count_of
within room bytes n e =
    by_cases (dec_le (length bytes) (length room))
    (λ h. rw (e, le-leb (length bytes) (length room) h) h)
    (λ h. rw (e, lt-leb (length bytes) (length room) (omega (arith, h))) (omega arith))

-- the same of any number that is no less than the room
pub fits : (room bytes : List ℕ) (n k : ℕ) → n ≡ count_of room bytes → length room ≤ k → n ≤ k
fits room bytes n k e h = omega (arith, within room bytes n e)

-- two records, the second in what the first leaves of a room of k
pub both_fit : (room rest first second : List ℕ) (n m k : ℕ) → n ≡ count_of room first → m ≡ count_of rest second → length room ≤ k → length rest ≤ k - n → n + m ≤ k
both_fit room rest first second n m k e f g h = omega (arith, within room first n e, within rest second m f)
