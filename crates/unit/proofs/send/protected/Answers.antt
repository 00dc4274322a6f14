-- `send::protected`: 15, 6, or the next protected record and its checksum.
use mathlib.Core.Path.{sym, ◌∙◌, ap, ap₂}
use native.Mathlib.Omega.{arith}
use lib.ListN.{length}
use Rattle.digest.proofs.Lay.{length_laid}
use Rattle.record.specs.Protection.{next_record}
use Rattle.record.specs.declared.keys.Sense.TheVariants.{FromUnit}
use Rattle.record.specs.declared.protection.Writing.{Writing}
use Rattle.connection.specs.Sent.{sum_of}
use Rattle.unit.specs.Unit.{with_sent}
use Rattle.unit.specs.Send.{protected_sent, done_with}
use Rattle.unit.proofs.Sending.{protected_done, done_fits}
use Rattle.unit.proofs.send.protected.Goals as goal

-- the clauses of the contract, each under its name
named : {A B : Type 0} → A × B → record { value : A; out_after : B }
named x = record { value = x.0; out_after = x.1 }

pub slice_bounds-checksum-end : goal.slice_bounds-checksum-end
slice_bounds-checksum-end c = let w = protected_done c.args.u.protection FromUnit c.args.content c.args.body.now c.args.out.now _ _ _ c.write-writing.ensures.exact c.in-Ok.is c.write-writing.ensures.bytes in
    let fits = done_fits c.args.u.protection FromUnit c.args.content c.args.body.now c.args.out.now _ _ c.write-writing.ensures.exact c.in-Ok.is in
    omega (arith, w.count, ap length w.bytes_are ∙ length_laid c.args.out.now 0 (next_record c.args.u.protection FromUnit c.args.content c.args.body.now) (omega (arith, fits)), fits)

pub slice_bounds-checksum-end-in-Ok : goal.slice_bounds-checksum-end-in-Ok
slice_bounds-checksum-end-in-Ok c = let w = protected_done c.args.u.protection FromUnit c.args.content c.args.body.now c.args.out.now _ _ _ c.write-writing.ensures.exact c.in-Ok.is c.write-writing.ensures.bytes in
    w.count ∙ sym (ap length w.front)

pub returns-in-Err : goal.returns-in-Err
unfolding protected_sent
returns-in-Err c = named (rw (sym (ap (λ (x : Writing). x.wrote) c.write-writing.ensures.exact) ∙ c.in-Err.is, ← c.from.ensures) (c.refused.ensures, c.write-writing.ensures.bytes))

pub returns-in-Ok : goal.returns-in-Ok
unfolding protected_sent
returns-in-Ok c = named (let w = protected_done c.args.u.protection FromUnit c.args.content c.args.body.now c.args.out.now _ _ _ c.write-writing.ensures.exact c.in-Ok.is c.write-writing.ensures.bytes in
    let sum = c.checksum-last.ensures ∙ ap sum_of w.front in
    let left = c.with_sent.ensures ∙ ap₂ (with_sent c.args.u) (ap (λ (x : Writing). x.protection) c.write-writing.ensures.exact) sum in
    rw (sym (ap (λ (x : Writing). x.wrote) c.write-writing.ensures.exact) ∙ c.in-Ok.is) (c.done.ensures ∙ ap (done_with c.in-Ok.size) left, c.write-writing.ensures.bytes))
