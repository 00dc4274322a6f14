-- `send::send_data`: refused in the order of the tests, or the next protected record.
use mathlib.Core.Path.{◌≡◌, sym, ◌∙◌, ap}
use mathlib.Core.Bool.{true}
use lib.ListN.{length}
use Rattle.record.proofs.ProtectedBytes.{size_most}
use Rattle.record.specs.declared.header.Content.TheVariants as C
use Rattle.connection.specs.Send.{data_sent, data_output, data_refused, data_outcome, next_protected, after_send, done}
use Rattle.connection.proofs.Sending.{data_done, next_size, refused_send, done_send}
use native.Mathlib.Omega.{arith}
use Rattle.connection.proofs.send.send_data.Goals as goal

pub data_refusal-requires : goal.data_refusal-requires
data_refusal-requires c = omega (arith, c.size.ensures.exact, size_most c.args.c.handshake.protection.keys.mac)

pub next_protected-requires : goal.next_protected-requires
next_protected-requires c = let h = c.args.c.handshake in
    let bytes = c.args.«data».now in
    let room = data_done h.state (length bytes) h.protection.protected c.size.result (length c.args.out.now) (sym c.data_refusal.ensures ∙ c.in-Ok.is) in
    (room.0, omega (arith, room.1, c.size.ensures.exact, next_size h C.Data bytes))

pub returns-in-Err : goal.returns-in-Err
unfolding data_sent data_output
returns-in-Err c = let cn = c.args.c in
    let h = cn.handshake in
    let bytes = c.args.«data».now in
    let out = c.args.out.now in
    let next = next_protected h C.Data bytes in
    let told : data_outcome h (length bytes) (length out) ≡ _ = sym (ap (λ z. data_refused h.state (length bytes) h.protection.protected z (length out)) c.size.ensures.exact) ∙ sym c.data_refusal.ensures ∙ c.in-Err.is in
    let both = refused_send cn (done next (after_send true cn next)) out next (data_outcome h (length bytes) (length out)) _ told in
    record { exact = c.refused.ensures ∙ both.0; bytes = both.1 }

pub returns-in-Ok : goal.returns-in-Ok
unfolding data_sent data_output
returns-in-Ok c = let cn = c.args.c in
    let h = cn.handshake in
    let bytes = c.args.«data».now in
    let out = c.args.out.now in
    let next = next_protected h C.Data bytes in
    let told = sym (ap (λ z. data_refused h.state (length bytes) h.protection.protected z (length out)) c.size.ensures.exact) ∙ sym c.data_refusal.ensures ∙ c.in-Ok.is in
    let both = done_send cn (done next (after_send true cn next)) out next (data_outcome h (length bytes) (length out)) told in
    record { exact = c.next_protected.ensures.value ∙ both.0; bytes = c.next_protected.ensures.out_after ∙ both.1 }
