-- `leave::leave_received`: refused as a whole, nothing is written; else the unit, the tally and the answers.
use mathlib.Core.Path.{refl, ◌∙◌, ap}
use Rattle.unit.specs.Tally.{counted_of}
use Rattle.lent.specs.Counts.{tally_bytes}
use Rattle.lent.specs.Calls.{result_of}
use Rattle.lent.proofs.Within.{tally_stands, tally_lies}
use Rattle.lentunit.proofs.leave.leave_received.Goals as goal

-- the clauses of the contract, each under its name
named : {A B C D E : Type 0} → A × (B × (C × (D × E))) → record { value : A; state_after : B; tally_after : C; answers_after : D; state_after_2 : E }
named x = record { value = x.0; state_after = x.1.0; tally_after = x.1.1.0; answers_after = x.1.1.1.0; state_after_2 = x.1.1.1.1 }

pub returns-in-Refused : goal.returns-in-Refused
returns-in-Refused c = named (rw (c.in-Err.is, c.in-Refused.is) (c.result_of.ensures.exact ∙ ap (λ x. result_of x 0 0) c.number.ensures, (refl, (refl, (refl, refl)))))

pub returns-in-Misframed : goal.returns-in-Misframed
returns-in-Misframed c = named (rw (c.in-Err.is, c.in-Misframed.is) (c.result_of-in-Misframed.ensures.exact ∙ ap (λ x. result_of x 0 c.in-Misframed.at) c.number-in-Misframed.ensures, (refl, (refl, (refl, refl)))))

pub returns-in-Ok : goal.returns-in-Ok
returns-in-Ok c = named (let t = c.args.tally.now in
    let answers = c.args.received.answers in
    let before = c.tally_within-before.ensures.exact ∙ tally_stands t c.requires.1.0 in
    let after = c.counted.ensures ∙ ap (λ x. counted_of x answers) before in
    let tallied = c.lay_tally.ensures.exact ∙ tally_lies t c.counted.result c.requires.1.0 ∙ ap tally_bytes after in
    rw c.in-Ok.is (c.result_of-in-Ok.ensures.exact, (c.put_unit.ensures.d_after, (tallied, (c.put_answers.ensures, c.put_unit.ensures.d_after_2)))))
