-- `leave::leave_received`: refused as a whole, nothing is written; else the connection, the tally and the answers.
use mathlib.Core.Path.{refl, ◌∙◌, ap}
use Rattle.connection.specs.Tally.{counted_of}
use Rattle.lent.specs.Counts.{tally_bytes}
use Rattle.lent.specs.Calls.{result_of}
use Rattle.lent.proofs.leave.leave_received.Goals as goal

-- the clauses of the contract, each under its name
named : {A B C D E : Type 0} → A × (B × (C × (D × E))) → record { value : A; state_after : B; tally_after : C; answers_after : D; state_after_2 : E }
named x = record { value = x.0; state_after = x.1.0; tally_after = x.1.1.0; answers_after = x.1.1.1.0; state_after_2 = x.1.1.1.1 }

pub returns-in-Refused : goal.returns-in-Refused
returns-in-Refused c = named (rw (c.in-Err.is, c.in-Refused.is) (c.result_of.ensures.exact ∙ ap (λ x. result_of x 0 0) c.number.ensures, (refl, (refl, (refl, refl)))))

pub returns-in-Misframed : goal.returns-in-Misframed
returns-in-Misframed c = named (rw (c.in-Err.is, c.in-Misframed.is) (c.result_of-in-Misframed.ensures.exact ∙ ap (λ x. result_of x 0 c.in-Misframed.at) c.number-in-Misframed.ensures, (refl, (refl, (refl, refl)))))

pub returns-in-Ok : goal.returns-in-Ok
returns-in-Ok c = named (let counted = c.put_tally.ensures ∙ ap tally_bytes (c.with_answers.ensures ∙ ap (λ t. counted_of t c.args.received.answers) c.tally_in-before.ensures) in
    rw c.in-Ok.is (c.result_of-in-Ok.ensures.exact, (c.put_connection.ensures.d_after, (counted, (c.put_answers.ensures, c.put_connection.ensures.d_after_2)))))
