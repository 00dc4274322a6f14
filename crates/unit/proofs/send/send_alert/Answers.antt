-- `send::send_alert`: 16, then the bytes of the alert.
use mathlib.Core.Path.{refl, sym, ◌∙◌, ap}
use native.Mathlib.Omega.{arith}
use Rattle.digest.proofs.Picks.{if_lt, if_ge}
use lib.ListN.{length}
use Rattle.message.specs.Alert.{sorted_of, alert_bytes}
use Rattle.unit.specs.Send.{alert_sent, alert_output, alert_sent_by, alert_output_by}
use Rattle.unit.proofs.Sending.{no_level, no_level_output}
use Rattle.unit.proofs.send.send_alert.Goals as goal

-- the clauses of the contract, each under its name
named : {A B : Type 0} → A × B → record { exact : A; bytes : B }
named x = record { exact = x.0; bytes = x.1 }

pub returns-in_default : goal.returns-in_default
unfolding alert_sent alert_output
returns-in_default c = named (let a = c.args in
    rw (sym c.grade.ensures, c.in_default.is)
    (c.refused.ensures ∙ no_level a.u a.protected a.answered.now (length a.out.now) (sorted_of a.description), no_level_output a.u a.protected a.answered.now a.out.now (sorted_of a.description)))

pub returns-in_default-sort : goal.returns-in_default-sort
unfolding alert_sent alert_output
returns-in_default-sort c = named (rw (sym c.grade.ensures, c.in-Some.is, sym c.sort.ensures, c.in_default-sort.is) (c.refused-in_default-sort.ensures, refl))

pub returns-then-answered-gt1400 : goal.returns-then-answered-gt1400
unfolding alert_sent alert_output
returns-then-answered-gt1400 c = named (rw (sym c.grade.ensures, c.in-Some.is, sym c.sort.ensures, c.in-Some-sort.is) (if_lt _ 1400 (length c.args.answered.now) (omega arith) c.refused-then-answered-gt1400.ensures, if_lt _ 1400 (length c.args.answered.now) (omega arith) refl))

pub returns : goal.returns
unfolding alert_sent alert_output
returns c = named (let a = c.args in
    let bytes = c.write-bytes.ensures ∙ ap (alert_bytes c.in-Some.graded c.in-Some-sort.sorted) c.checksum.ensures in
    rw (sym c.grade.ensures, c.in-Some.is, sym c.sort.ensures, c.in-Some-sort.is) (
      if_ge _ 1400 (length c.args.answered.now) (omega arith) (c.send_body.ensures.exact ∙ ap (λ x. alert_sent_by a.u a.protected x (length a.out.now)) bytes),
      if_ge _ 1400 (length c.args.answered.now) (omega arith) (c.send_body.ensures.bytes ∙ ap (λ x. alert_output_by a.u a.protected x a.out.now) bytes),
    ))
