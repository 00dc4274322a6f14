-- `join`: another total is a law of `Steps`; the other ways are the definition's.
use mathlib.Core.Path.{sym, ap, ◌∙◌}
use Rattle.std.proofs.lemmas.List.{get_or_default}
use Rattle.gather.specs.Slot.{free}
use Rattle.gather.proofs.Mapping.{found}
use Rattle.gather.proofs.Steps.{join_differs}
use Rattle.gather.proofs.gatherer.Gatherer.join.Goals as goal

pub returns-then-slot-place : goal.returns-then-slot-place
returns-then-slot-place c =
    let g = c.args.self.now in
    let k = c.in-Some.k in
    let at = sym c.held.ensures.value ∙ c.in-Some.is in
    join_differs g _ _ _ _ _ k _ at (ap (λ s. s.total) (get_or_default g.slots k _ free (found g _ k at).0)) c.if-slot-place.true
