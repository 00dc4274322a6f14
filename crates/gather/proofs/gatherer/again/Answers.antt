-- `again`: by whether the bytes are the same.
use mathlib.Core.Path.{sym, ap, refl, ◌∙◌}
use Rattle.std.specs.Prelude.{Ok}
use Rattle.digest.proofs.Picks.{pick_yes, pick_no}
use Rattle.gather.specs.Gatherer.{again_of}
use Rattle.gather.specs.declared.gatherer.Answer.TheVariants.{Waiting}
use Rattle.gather.proofs.gatherer.again.Goals as goal

pub returns-then-has : goal.returns-then-has
unfolding again_of
returns-then-has c =
    let s = c.args.at.slot in
    pick_yes _ _ _ _ _ (sym c.has.ensures ∙ c.if-has.true) (ap (λ n. Ok (Waiting c.args.part.ports s.reference n s.total)) c.held_places.ensures.exact)

pub returns : goal.returns
unfolding again_of
returns c = pick_no _ _ _ _ _ (sym c.has.ensures ∙ c.if-has.false) refl
