-- `held_places`: std's count is the definition's.
use Rattle.std.proofs.Common.{rules, ◌≡◌}
use mathlib.Core.Bool.{not}
use mathlib.Core.Path.{◌∙◌, sym}
use lib.Dec.{eqb}
use Rattle.std.specs.List.{count_by}
use Rattle.gather.proofs.Sums.{counted}
use Rattle.gather.proofs.slot.Slot.held_places.Goals as goal

pub returns-clause-exact : goal.returns-clause-exact
returns-clause-exact c =
    let e : c.count.result ≡ count_by (λ x. not (eqb x 0)) c.args.self.now.sizes = search rules in
    e ∙ sym (counted c.args.self.now.sizes)
