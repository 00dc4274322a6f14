-- `speed_codes`: each code that is made is the code of the message.
use mathlib.Core.Path.{◌≡◌}
use lib.ListN.{length}
use Rattle.digest.specs.Hmac.{hmac}
use Rattle.speed.proofs.speed_codes.Given as goal

abbrev pub invariant-loop : goal.invariant-loop
invariant-loop l = (l.c ≡ hmac l.key l.message) × (length l.c ≡ 20)
