-- `bytes_below`: std's sum of the first sizes is the definition's.
use Rattle.std.proofs.Common.{rules, arith, ◌≡◌, ◌-◌, ◌≤◌, ◌^◌}
use Rattle.std.proofs.lemmas.Iterator.{YieldsList-from_slice}
use Rattle.std.proofs.lemmas.Iterator.Adapters.{fits_from_length, at_most_from_yields_List}
use lib.ListN.{length, take}
use mathlib.Core.Path.{◌∙◌, sym, ap}
use Rattle.std.specs.Prelude.{min}
use Rattle.std.specs.List.{sum_by}
use Rattle.gather.proofs.Sums.{summed, below_min}
use Rattle.gather.proofs.slot.Slot.bytes_below.Goals as goal

pub sum-sum-requires-clause-fits : goal.sum-sum-requires-clause-fits
sum-sum-requires-clause-fits c =
    let few : length (take c.args.n c.args.self.now.sizes) ≤ 11 = search rules in
    fits_from_length _ _ 11 (2 ^ 64) (at_most_from_yields_List (YieldsList-from_slice (take c.args.n c.args.self.now.sizes) cc) few) c.map.ensures.closure (omega arith) (λ x r q k. search rules)

pub returns-clause-value : goal.returns-clause-value
returns-clause-value c =
    let e : c.sum-sum.result ≡ sum_by (λ x. x - 1) (take c.args.n c.args.self.now.sizes) = search rules in
    c.min.ensures ∙ ap (λ x. min x 1400) (e ∙ sym (summed (λ x. x - 1) _)) ∙ below_min c.args.self.now c.args.n
