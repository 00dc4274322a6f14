-- "A datagram refused as a whole changes none" of the counts (01): its eight places hold no answer, and no answer counts
-- nothing.
use mathlib.Core.Path.{◌≡◌, refl}
use Rattle.connection.specs.Receive.{slots_of, whole_of}
use Rattle.connection.specs.Tally.{counted_first, counted_of}
use Rattle.connection.specs.declared.connection.Connection.{Connection}
use Rattle.connection.specs.declared.tally.Tally.{Tally}
use Rattle.std.specs.Prelude.{Result, ℕ}
use Rattle.connection.specs.declared.receive.Untaken.{Untaken}

pub whole_uncounted : (t : Tally) (c : Connection) (taken : Result ℕ Untaken) → counted_of t (whole_of c taken).answers ≡ t
unfolding whole_of slots_of counted_first
whole_uncounted t c taken = refl
