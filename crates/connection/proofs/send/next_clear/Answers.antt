-- `send::next_clear`: the next clear record at the front of the output.
use native.Mathlib.Omega.{arith}
use mathlib.Core.Path.{refl, sym, ◌∙◌, ap}
use Prim.Native.Nat.{◌≤◌}
use lib.ListN.{length}
use Rattle.digest.specs.Bytes.{word_at}
use Rattle.record.specs.Checksum.{checksum_of}
use Rattle.digest.proofs.Lay.{length_laid}
use Rattle.digest.specs.Bytes.{laid_over}
use Rattle.connection.specs.Send.{next_clear}
use Rattle.connection.proofs.Sending.{wrote, clear_sent_lem}
use Rattle.connection.proofs.send.next_clear.Goals as goal

pub overflow_cast-number : goal.overflow_cast-number
overflow_cast-number c = omega (arith, c.requires.0, ap (λ h. h.protection.clear) c.clear_sender-h.ensures)

pub slice_bounds-checksum-end : goal.slice_bounds-checksum-end
unfolding next_clear
slice_bounds-checksum-end c = let a = c.args in
    let h = c.clear_sender-h.result in
    let room : length (next_clear h a.body.now) ≤ length a.out.now = omega (arith, c.requires.1, ap (λ x. length (next_clear x a.body.now)) c.clear_sender-h.ensures) in
    let w = wrote a.out.now (next_clear h a.body.now) _ _ _ refl room c.write_clear-size.ensures.count c.write_clear-size.ensures.bytes in
    let same = ap length w.bytes_are ∙ length_laid a.out.now 0 (next_clear h a.body.now) (omega (arith, room)) in
    omega (arith, w.count, same, room)

pub slice_bounds-checksum-end-2 : goal.slice_bounds-checksum-end-2
unfolding next_clear
slice_bounds-checksum-end-2 c = let a = c.args in
    let h = c.clear_sender-h.result in
    let room : length (next_clear h a.body.now) ≤ length a.out.now = omega (arith, c.requires.1, ap (λ x. length (next_clear x a.body.now)) c.clear_sender-h.ensures) in
    let w = wrote a.out.now (next_clear h a.body.now) _ _ _ refl room c.write_clear-size.ensures.count c.write_clear-size.ensures.bytes in
    w.count ∙ sym (ap length w.front)

pub overflow_add-next : goal.overflow_add-next
overflow_add-next c = omega (arith, c.requires.0, ap (λ h. h.protection.clear) c.clear_sender-h.ensures)

pub shape_of-out : goal.shape_of-out
shape_of-out c = c.write_clear-size.auto.out

pub returns : goal.returns
unfolding next_clear
returns c = let a = c.args in
    let h = c.clear_sender-h.result in
    let room : length (next_clear h a.body.now) ≤ length a.out.now = omega (arith, c.requires.1, ap (λ x. length (next_clear x a.body.now)) c.clear_sender-h.ensures) in
    let w = wrote a.out.now (next_clear h a.body.now) _ _ _ refl room c.write_clear-size.ensures.count c.write_clear-size.ensures.bytes in
    let sum = c.checksum-last.ensures ∙ ap (λ x. word_at (checksum_of x) 0) w.front in
    record { value = clear_sent_lem a.c a.body.now h _ _ _ _ _ _ c.clear_sender-h.ensures w.count sum c.with_protection.ensures c.with_record.ensures c.clear_back.ensures c.finish.ensures; out_after = w.bytes_are ∙ ap (λ x. laid_over a.out.now 0 (next_clear x a.body.now)) c.clear_sender-h.ensures }
