-- `step::stepped`: the gatherer's step, and what it touched saved.
-- src/step.rt:19:9
use Rattle.lentshort.proofs.Stepping.{step_answer, step_assembly, step_saved, step_left}
use Rattle.lentshort.proofs.step.stepped.Goals as goal

-- src/step.rt:24:9
pub returns-then-touching : goal.returns-then-touching
returns-then-touching c = let d = c.args.d.now in
    let at = step_answer d _ _ _ _ _ _ _ c.requires c.gatherer_in-g.ensures c.step-answer.ensures.exact in
    let assembled = step_assembly d _ _ _ _ _ _ _ c.requires c.gatherer_in-g.ensures c.step-answer.ensures.exact in
    let kept = step_saved d _ _ _ _ _ _ _ c.requires c.gatherer_in-g.ensures c.step-answer.ensures.exact _ _ c.touching.ensures c.if-touching.true c.put_gatherer.ensures.d_after c.put_gatherer.ensures.d_after_2 in
    record { value = at; assembly_after = assembled; d_after = kept.0; d_after_2 = kept.1 }

-- src/step.rt:12:1
pub returns-else-touching : goal.returns-else-touching
returns-else-touching c = let d = c.args.d.now in
    let at = step_answer d _ _ _ _ _ _ _ c.requires c.gatherer_in-g.ensures c.step-answer.ensures.exact in
    let assembled = step_assembly d _ _ _ _ _ _ _ c.requires c.gatherer_in-g.ensures c.step-answer.ensures.exact in
    let kept = step_left d _ _ _ _ _ _ _ c.requires c.gatherer_in-g.ensures c.step-answer.ensures.exact _ c.touching.ensures c.if-touching.false in
    record { value = at; assembly_after = assembled; d_after = kept.0; d_after_2 = kept.1 }
