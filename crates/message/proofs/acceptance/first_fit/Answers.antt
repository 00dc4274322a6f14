-- `message::acceptance::first_fit` meets its contract: of what is left, the pair at the front fits, or is left out.
-- Assumes nothing.
use Rattle.std.proofs.Common.{refl, sym, ◌∙◌, ap, length}
use native.Mathlib.Nat.{le_refl}
use native.Mathlib.Omega.{arith}
use Rattle.std.proofs.lemmas.Slice.{between_to_end}
use Rattle.message.specs.Acceptance.{first_fit}
use Rattle.message.proofs.Accepting.{fit_here, fit_later, fit_short}
use Rattle.message.proofs.acceptance.first_fit.Goals as goal

pub loop-rest-init : goal.loop-rest-init
loop-rest-init c = refl

pub returns-then-fits : goal.returns-then-fits
returns-then-fits c =
    sym (c.loop-rest.invariant ∙ fit_here c.loop-rest.rest.now 0 (omega arith) (sym c.if-fits.ensures))

pub loop-rest-preserved : goal.loop-rest-preserved
loop-rest-preserved c = let s = c.loop-rest.rest.now in
    c.loop-rest.invariant
    ∙ fit_later s 0 (omega arith) (sym c.if-fits.ensures)
    ∙ ap first_fit (sym (between_to_end s 2 (length s) (le_refl _)))

pub returns : goal.returns
returns c = fit_short c.loop-rest.rest.now c.in_default.len_below ∙ sym c.loop-rest.invariant
