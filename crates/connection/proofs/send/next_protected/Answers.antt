-- `send::next_protected`: the next protected record at the front of the output.
use native.Mathlib.Omega.{arith}
use mathlib.Core.Path.{sym, ◌∙◌, ap}
use lib.ListN.{length}
use Rattle.digest.specs.Bytes.{word_at}
use Rattle.record.specs.Checksum.{checksum_of}
use Rattle.digest.proofs.Lay.{length_laid}
use Rattle.connection.specs.Handshake.{with_protection}
use Rattle.connection.specs.Send.{next_protected}
use Rattle.connection.proofs.Sending.{protected_wrote, protected_sent_lem}
use Rattle.connection.proofs.send.next_protected.Goals as goal

pub slice_bounds-checksum-end : goal.slice_bounds-checksum-end
slice_bounds-checksum-end c = let a = c.args in
    let w = (protected_wrote a.c.handshake a.content a.body.now a.out.now _ _ _ c.requires.0 c.requires.1 c.write-writing.ensures.exact c.write-writing.ensures.bytes c.size-size.ensures).0 in
    let same = ap length w.bytes_are ∙ length_laid a.out.now 0 (next_protected a.c.handshake a.content a.body.now) (omega (arith, c.requires.1)) in
    omega (arith, w.count, same, c.requires.1)

pub slice_bounds-checksum-end-2 : goal.slice_bounds-checksum-end-2
slice_bounds-checksum-end-2 c = let a = c.args in
    let w = (protected_wrote a.c.handshake a.content a.body.now a.out.now _ _ _ c.requires.0 c.requires.1 c.write-writing.ensures.exact c.write-writing.ensures.bytes c.size-size.ensures).0 in
    w.count ∙ sym (ap length w.front)

pub returns : goal.returns
returns c = let a = c.args in
    let both = protected_wrote a.c.handshake a.content a.body.now a.out.now _ _ _ c.requires.0 c.requires.1 c.write-writing.ensures.exact c.write-writing.ensures.bytes c.size-size.ensures in
    let w = both.0 in
    let sum = c.checksum-last.ensures ∙ ap (λ x. word_at (checksum_of x) 0) w.front in
    record { value = protected_sent_lem a.c (next_protected a.c.handshake a.content a.body.now) _ _ _ _ _ w.count sum (c.with_protection-k.ensures ∙ ap (with_protection a.c.handshake) both.1) c.with_record-k.ensures c.finish.ensures; out_after = w.bytes_are }
