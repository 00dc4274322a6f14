-- `save::put_gatherer`: the mark, then slot by slot.
use mathlib.Core.Path.{◌≡◌, subst}
use native.Mathlib.Omega.{arith}
use borrow.Author.Rules.{rules}
use Rattle.lentshort.proofs.Laying.{SlotsLaid, mark_laid, slot_laid, gatherer_laid, gatherer_loads_lem}
use Rattle.lentshort.proofs.save.put_gatherer.Goals as goal

pub loop-k-init : goal.loop-k-init
loop-k-init c = mark_laid _ _ (search rules) _ _ c.requires c.mark.ensures c.put.ensures.exact

pub loop-k-preserved : goal.loop-k-preserved
loop-k-preserved c = slot_laid _ _ (search rules) _ _ _ _ c.loop-k.invariant (search rules) c.put_slot.ensures.d_after c.put_slot.ensures.slot_ranged

pub returns-clause-d_after : goal.returns-clause-d_after
returns-clause-d_after c =
    let all : c.loop-k.k ≡ 4 = omega arith in
    gatherer_laid c.args.g c.args.d.now c.loop-k.d (subst (SlotsLaid c.args.d.now c.args.g.slots c.loop-k.d) all c.loop-k.invariant)

pub returns-clause-d_after_2 : goal.returns-clause-d_after_2
returns-clause-d_after_2 c =
    let all : c.loop-k.k ≡ 4 = omega arith in
    gatherer_loads_lem c.args.g c.args.d.now c.loop-k.d (subst (SlotsLaid c.args.d.now c.args.g.slots c.loop-k.d) all c.loop-k.invariant)
