-- What stands in a content that is malformed (01, "Refusal numbers" 12): its size, and of a change cipher spec of one byte its value, of
-- an alert of six its level and its description, of a handshake message of three or more its type and its stated length.
use Rattle.std.specs.Prelude.{List, ℕ, length, get_or, eqb, leb}
use Rattle.digest.specs.Pick.{pick}
use Rattle.record.specs.declared.header.Content.{Content}
use Rattle.record.specs.declared.header.Content.TheVariants as C
use Rattle.message.specs.Field.{two_at}
use Rattle.why.specs.declared.reason.Under.{Under}
use Rattle.why.specs.declared.reason.Reason.{Reason}
use Rattle.why.specs.declared.reason.Reason.TheVariants.{BadClear, BadProtected}

unfoldable pub first_of : Content → List ℕ → ℕ
first_of C.ChangeCipherSpec m = pick (eqb (length m) 1) (get_or m 0 0) 0
first_of C.Alert m = pick (eqb (length m) 6) (get_or m 0 0) 0
first_of C.Handshake m = pick (leb 3 (length m)) (get_or m 0 0) 0
first_of C.Data m = 0

unfoldable pub second_of : Content → List ℕ → ℕ
second_of C.ChangeCipherSpec m = 0
second_of C.Alert m = pick (eqb (length m) 6) (get_or m 1 0) 0
second_of C.Handshake m = pick (leb 3 (length m)) (two_at m 1) 0
second_of C.Data m = 0

abbrev pub bad_clear : Content → List ℕ → Reason
bad_clear content m = BadClear (length m) (first_of content m) (second_of content m)

abbrev pub bad_protected : Under → ℕ → Content → List ℕ → Reason
bad_protected under number content m = BadProtected under number (length m) (first_of content m) (second_of content m)
