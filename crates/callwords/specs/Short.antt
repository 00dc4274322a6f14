-- Which call of short messages a line makes.
use Rattle.std.specs.Prelude.{Bool, false, List, ℕ, Option, Some, None, codes, eqb}
use Rattle.digest.specs.Pick.{pick}
use Rattle.lines.specs.Words.{spaces_in}
use Rattle.lines.specs.Said.{is_named, number_at}
use Rattle.callwords.specs.Call.{receive_words}
use Rattle.callwords.specs.declared.short.Short.{Short}
use Rattle.callwords.specs.declared.short.Short.TheVariants.{Message, Drop}

-- drop REF
abbrev pub drop_words : List ℕ → Bool
drop_words l = pick (eqb (spaces_in l) 1) (number_at l 1 255) false

abbrev pub short_if : Short → Bool → Option Short
short_if call good = pick good (Some call) None

-- message BYTES RANDOM ROOM: the words of a receive; drop REF
unfoldable pub short_of : List ℕ → Option Short
short_of l =
    pick (is_named l 0 (codes "message")) (short_if Message (receive_words l))
    (pick (is_named l 0 (codes "drop")) (short_if Drop (drop_words l)) None)
