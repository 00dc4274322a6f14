-- `send::send_body`: protected or clear, by the state.
use mathlib.Core.Path.{refl, sym}
use Rattle.unit.specs.Send.{alert_sent_by, alert_output_by}
use Rattle.unit.proofs.send.send_body.Goals as goal

-- the clauses of the contract, each under its name
named : {A B : Type 0} → A × B → record { exact : A; bytes : B }
named x = record { exact = x.0; bytes = x.1 }

pub returns-in-Err : goal.returns-in-Err
unfolding alert_sent_by alert_output_by
returns-in-Err c = named (rw (c.if-shut.true, sym c.may_protect.ensures, c.in-Err.is) (c.refused.ensures, refl))

pub returns-in-Ok : goal.returns-in-Ok
unfolding alert_sent_by alert_output_by
returns-in-Ok c = named (rw (c.if-shut.true, sym c.may_protect.ensures, c.in-Ok.is) (c.protected.ensures.value, c.protected.ensures.out_after))

pub returns-in-Err-may_clear : goal.returns-in-Err-may_clear
unfolding alert_sent_by alert_output_by
returns-in-Err-may_clear c = named (rw (c.if-shut.false, sym c.may_clear.ensures, c.in-Err-may_clear.is) (c.refused-in-Err-may_clear.ensures, refl))

pub returns-in-Ok-may_clear : goal.returns-in-Ok-may_clear
unfolding alert_sent_by alert_output_by
returns-in-Ok-may_clear c = named (rw (c.if-shut.false, sym c.may_clear.ensures, c.in-Ok-may_clear.is) (c.clear.ensures.value, c.clear.ensures.out_after))
