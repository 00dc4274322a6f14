-- `send::send_alert`: level and description, then the tests in their order, or the next record, protected or clear.
use Rattle.message.specs.Alert.{sorted_of}
use native.Mathlib.Omega.{arith}
use mathlib.Core.Path.{ap₂}
use mathlib.Core.Bool.{true, false}
use Rattle.digest.specs.Bytes.{laid_over}
use Rattle.digest.specs.Mac.{size_of}
use Rattle.message.specs.Alert.{alert_bytes}
use mathlib.Core.Path.{refl, sym, ◌∙◌, ap}
use lib.ListN.{length}
use Rattle.record.proofs.ProtectedBytes.{size_most}
use Rattle.record.specs.declared.header.Content.TheVariants as C
use Rattle.connection.specs.Send.{alert_sent, alert_output, alert_refused, alert_body, next_protected, next_clear, after_send, sender_of, done, may_protect, may_clear}
use Rattle.connection.proofs.Sending.{alert_done, next_size, clear_size, refused_send, done_send, no_level, no_level_output}
use Rattle.connection.proofs.send.send_alert.Goals as goal

pub returns-in_default-clause-exact : goal.returns-in_default-clause-exact
unfolding alert_sent alert_output
returns-in_default-clause-exact c = rw (sym c.grade.ensures ∙ c.in_default.is)
    (c.refused.ensures ∙ no_level c.args.c c.args.protected c.args.answered.now (length c.args.out.now) (sorted_of c.args.description))

pub returns-in_default-clause-bytes : goal.returns-in_default-clause-bytes
unfolding alert_sent alert_output
returns-in_default-clause-bytes c = rw (sym c.grade.ensures ∙ c.in_default.is)
    (no_level_output c.args.c c.args.protected c.args.answered.now c.args.out.now (sorted_of c.args.description))

pub returns-in_default-sort-clause-exact : goal.returns-in_default-sort-clause-exact
unfolding alert_sent alert_output
returns-in_default-sort-clause-exact c = rw (sym c.grade.ensures ∙ c.in-Some.is) (rw (sym c.sort.ensures ∙ c.in_default-sort.is) (c.refused-in_default-sort.ensures))

pub returns-in_default-sort-clause-bytes : goal.returns-in_default-sort-clause-bytes
unfolding alert_sent alert_output
returns-in_default-sort-clause-bytes c = rw (sym c.grade.ensures ∙ c.in-Some.is) (rw (sym c.sort.ensures ∙ c.in_default-sort.is) (refl))

pub alert_refusal-requires : goal.alert_refusal-requires
alert_refusal-requires c = omega (arith, c.size.ensures.exact, size_most c.args.c.handshake.protection.keys.mac)

pub next_protected-requires : goal.next_protected-requires
next_protected-requires c = let h = c.args.c.handshake in
    let room = alert_done c.may_protect.result (length c.args.answered.now) h.protection.protected c.size.result (length c.args.out.now) (sym c.alert_refusal.ensures ∙ c.in-Ok.is) in
    (room.0, omega (arith, room.1, c.size.ensures.exact, next_size h C.Alert c.write-bytes.result, ap length c.write-bytes.ensures))

pub returns-in-Err-clause-exact : goal.returns-in-Err-clause-exact
unfolding alert_sent alert_output
returns-in-Err-clause-exact c = let cn = c.args.c in
    let h = cn.handshake in
    let lent = c.args.answered.now in
    let out = c.args.out.now in
    let next = next_protected h C.Alert (alert_body c.in-Some.graded c.in-Some-sort.sorted lent) in
    let told = sym (ap₂ (λ o z. alert_refused o (length lent) h.protection.protected z (length out)) c.may_protect.ensures c.size.ensures.exact) ∙ sym c.alert_refusal.ensures ∙ c.in-Err.is in
    let both = refused_send cn (done next (after_send true cn next)) out next (alert_refused (may_protect h.state) (length lent) h.protection.protected (size_of h.protection.keys.mac) (length out)) _ told in
    rw (sym c.grade.ensures ∙ c.in-Some.is) (rw (sym c.sort.ensures ∙ c.in-Some-sort.is) (rw c.if-protected.true (c.refused-in-Err.ensures ∙ both.0)))

pub returns-in-Err-clause-bytes : goal.returns-in-Err-clause-bytes
unfolding alert_sent alert_output
returns-in-Err-clause-bytes c = let cn = c.args.c in
    let h = cn.handshake in
    let lent = c.args.answered.now in
    let out = c.args.out.now in
    let next = next_protected h C.Alert (alert_body c.in-Some.graded c.in-Some-sort.sorted lent) in
    let told = sym (ap₂ (λ o z. alert_refused o (length lent) h.protection.protected z (length out)) c.may_protect.ensures c.size.ensures.exact) ∙ sym c.alert_refusal.ensures ∙ c.in-Err.is in
    let both = refused_send cn (done next (after_send true cn next)) out next (alert_refused (may_protect h.state) (length lent) h.protection.protected (size_of h.protection.keys.mac) (length out)) _ told in
    rw (sym c.grade.ensures ∙ c.in-Some.is) (rw (sym c.sort.ensures ∙ c.in-Some-sort.is) (rw c.if-protected.true (both.1)))

pub returns-in-Ok-clause-exact : goal.returns-in-Ok-clause-exact
unfolding alert_sent alert_output
returns-in-Ok-clause-exact c = let cn = c.args.c in
    let h = cn.handshake in
    let lent = c.args.answered.now in
    let out = c.args.out.now in
    let body_is = c.write-bytes.ensures ∙ ap (alert_bytes c.in-Some.graded c.in-Some-sort.sorted) c.checksum.ensures in
    let next = next_protected h C.Alert (alert_body c.in-Some.graded c.in-Some-sort.sorted lent) in
    let told = sym (ap₂ (λ o z. alert_refused o (length lent) h.protection.protected z (length out)) c.may_protect.ensures c.size.ensures.exact) ∙ sym c.alert_refusal.ensures ∙ c.in-Ok.is in
    let both = done_send cn (done next (after_send true cn next)) out next (alert_refused (may_protect h.state) (length lent) h.protection.protected (size_of h.protection.keys.mac) (length out)) told in
    rw (sym c.grade.ensures ∙ c.in-Some.is) (rw (sym c.sort.ensures ∙ c.in-Some-sort.is) (rw c.if-protected.true
    (c.next_protected.ensures.value ∙ ap (λ b. done (next_protected h C.Alert b) (after_send true cn (next_protected h C.Alert b))) body_is ∙ both.0)))

pub returns-in-Ok-clause-bytes : goal.returns-in-Ok-clause-bytes
unfolding alert_sent alert_output
returns-in-Ok-clause-bytes c = let cn = c.args.c in
    let h = cn.handshake in
    let lent = c.args.answered.now in
    let out = c.args.out.now in
    let body_is = c.write-bytes.ensures ∙ ap (alert_bytes c.in-Some.graded c.in-Some-sort.sorted) c.checksum.ensures in
    let next = next_protected h C.Alert (alert_body c.in-Some.graded c.in-Some-sort.sorted lent) in
    let told = sym (ap₂ (λ o z. alert_refused o (length lent) h.protection.protected z (length out)) c.may_protect.ensures c.size.ensures.exact) ∙ sym c.alert_refusal.ensures ∙ c.in-Ok.is in
    let both = done_send cn (done next (after_send true cn next)) out next (alert_refused (may_protect h.state) (length lent) h.protection.protected (size_of h.protection.keys.mac) (length out)) told in
    rw (sym c.grade.ensures ∙ c.in-Some.is) (rw (sym c.sort.ensures ∙ c.in-Some-sort.is) (rw c.if-protected.true
    (c.next_protected.ensures.out_after ∙ ap (λ b. laid_over out 0 (next_protected h C.Alert b)) body_is ∙ both.1)))

pub next_clear-requires : goal.next_clear-requires
next_clear-requires c = let h = c.clear_sender-h.result in
    let e = c.clear_sender-h.ensures in
    let room = alert_done c.may_clear.result (length c.args.answered.now) h.protection.clear 0 (length c.args.out.now) (sym c.alert_refusal-2.ensures ∙ c.in-Ok-alert_refusal.is) in
    (omega (arith, room.0, ap (λ x. x.protection.clear) e), omega (arith, room.1, clear_size (sender_of false c.args.c) c.write-bytes-in-Ok-alert_refusal.result, ap length c.write-bytes-in-Ok-alert_refusal.ensures))

pub returns-in-Err-alert_refusal-clause-exact : goal.returns-in-Err-alert_refusal-clause-exact
unfolding alert_sent alert_output
returns-in-Err-alert_refusal-clause-exact c = let cn = c.args.c in
    let h = sender_of false cn in
    let asked = sym (ap (λ x. alert_refused (may_clear x.state) (length c.args.answered.now) x.protection.clear 0 (length c.args.out.now)) c.clear_sender-h.ensures) in
    let lent = c.args.answered.now in
    let out = c.args.out.now in
    let next = next_clear h (alert_body c.in-Some.graded c.in-Some-sort.sorted lent) in
    let told = asked ∙ sym (ap (λ o. alert_refused o (length lent) c.clear_sender-h.result.protection.clear 0 (length out)) c.may_clear.ensures) ∙ sym c.alert_refusal-2.ensures ∙ c.in-Err-alert_refusal.is in
    let both = refused_send cn (done next (after_send false cn next)) out next (alert_refused (may_clear h.state) (length lent) h.protection.clear 0 (length out)) _ told in
    rw (sym c.grade.ensures ∙ c.in-Some.is) (rw (sym c.sort.ensures ∙ c.in-Some-sort.is) (rw c.if-protected.false (c.refused-in-Err-alert_refusal.ensures ∙ both.0)))

pub returns-in-Err-alert_refusal-clause-bytes : goal.returns-in-Err-alert_refusal-clause-bytes
unfolding alert_sent alert_output
returns-in-Err-alert_refusal-clause-bytes c = let cn = c.args.c in
    let h = sender_of false cn in
    let asked = sym (ap (λ x. alert_refused (may_clear x.state) (length c.args.answered.now) x.protection.clear 0 (length c.args.out.now)) c.clear_sender-h.ensures) in
    let lent = c.args.answered.now in
    let out = c.args.out.now in
    let next = next_clear h (alert_body c.in-Some.graded c.in-Some-sort.sorted lent) in
    let told = asked ∙ sym (ap (λ o. alert_refused o (length lent) c.clear_sender-h.result.protection.clear 0 (length out)) c.may_clear.ensures) ∙ sym c.alert_refusal-2.ensures ∙ c.in-Err-alert_refusal.is in
    let both = refused_send cn (done next (after_send false cn next)) out next (alert_refused (may_clear h.state) (length lent) h.protection.clear 0 (length out)) _ told in
    rw (sym c.grade.ensures ∙ c.in-Some.is) (rw (sym c.sort.ensures ∙ c.in-Some-sort.is) (rw c.if-protected.false (both.1)))

pub returns-in-Ok-alert_refusal-clause-exact : goal.returns-in-Ok-alert_refusal-clause-exact
unfolding alert_sent alert_output
returns-in-Ok-alert_refusal-clause-exact c = let cn = c.args.c in
    let h = sender_of false cn in
    let asked = sym (ap (λ x. alert_refused (may_clear x.state) (length c.args.answered.now) x.protection.clear 0 (length c.args.out.now)) c.clear_sender-h.ensures) in
    let lent = c.args.answered.now in
    let out = c.args.out.now in
    let body_is = c.write-bytes-in-Ok-alert_refusal.ensures ∙ ap (alert_bytes c.in-Some.graded c.in-Some-sort.sorted) c.checksum-in-Ok-alert_refusal.ensures in
    let next = next_clear h (alert_body c.in-Some.graded c.in-Some-sort.sorted lent) in
    let told = asked ∙ sym (ap (λ o. alert_refused o (length lent) c.clear_sender-h.result.protection.clear 0 (length out)) c.may_clear.ensures) ∙ sym c.alert_refusal-2.ensures ∙ c.in-Ok-alert_refusal.is in
    let both = done_send cn (done next (after_send false cn next)) out next (alert_refused (may_clear h.state) (length lent) h.protection.clear 0 (length out)) told in
    rw (sym c.grade.ensures ∙ c.in-Some.is) (rw (sym c.sort.ensures ∙ c.in-Some-sort.is) (rw c.if-protected.false
    (c.next_clear.ensures.value ∙ ap (λ b. done (next_clear h b) (after_send false cn (next_clear h b))) body_is ∙ both.0)))

pub returns-in-Ok-alert_refusal-clause-bytes : goal.returns-in-Ok-alert_refusal-clause-bytes
unfolding alert_sent alert_output
returns-in-Ok-alert_refusal-clause-bytes c = let cn = c.args.c in
    let h = sender_of false cn in
    let asked = sym (ap (λ x. alert_refused (may_clear x.state) (length c.args.answered.now) x.protection.clear 0 (length c.args.out.now)) c.clear_sender-h.ensures) in
    let lent = c.args.answered.now in
    let out = c.args.out.now in
    let body_is = c.write-bytes-in-Ok-alert_refusal.ensures ∙ ap (alert_bytes c.in-Some.graded c.in-Some-sort.sorted) c.checksum-in-Ok-alert_refusal.ensures in
    let next = next_clear h (alert_body c.in-Some.graded c.in-Some-sort.sorted lent) in
    let told = asked ∙ sym (ap (λ o. alert_refused o (length lent) c.clear_sender-h.result.protection.clear 0 (length out)) c.may_clear.ensures) ∙ sym c.alert_refusal-2.ensures ∙ c.in-Ok-alert_refusal.is in
    let both = done_send cn (done next (after_send false cn next)) out next (alert_refused (may_clear h.state) (length lent) h.protection.clear 0 (length out)) told in
    rw (sym c.grade.ensures ∙ c.in-Some.is) (rw (sym c.sort.ensures ∙ c.in-Some-sort.is) (rw c.if-protected.false
    (c.next_clear.ensures.out_after ∙ ap (λ b. laid_over out 0 (next_clear h b)) body_is ∙ both.1)))
