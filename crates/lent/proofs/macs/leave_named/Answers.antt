-- `macs::leave_named`: an unlisted number has no name, so no byte changes.
use Rattle.std.proofs.Common.{◌≡◌, ℕ, Bool, true, false, leb, ltb, List, length, Err, Result, refl, rules}
use Rattle.digest.specs.Pick.{pick}
use Rattle.digest.specs.Bytes.{laid_within, laid_over}
use Rattle.digest.specs.Named.{Told}
use Rattle.digest.specs.declared.named.Unnamed.{Unnamed}
use Rattle.digest.specs.declared.named.Unnamed.TheVariants.{Unlisted}
use Rattle.lent.specs.Macs.{named_out}
use Rattle.lent.proofs.macs.leave_named.Goals as goal

either : (b : Bool) (r x y : List ℕ) → r ≡ x → r ≡ y → r ≡ pick b x y
either true r x y e f = e
either false r x y e f = f

none : (said : Result Told Unnamed) (out : List ℕ) → said ≡ Err Unlisted → out ≡ named_out said out
unfolding laid_within laid_over
none said out e = rw e (either (ltb (length out) 10) _ _ _ refl (either (leb 0 (length out)) _ _ _ refl refl))

pub returns-in-Err-Unlisted-clause-out_after : goal.returns-in-Err-Unlisted-clause-out_after
returns-in-Err-Unlisted-clause-out_after c = let is : c.args.said ≡ Err Unlisted = search rules in none _ _ is
