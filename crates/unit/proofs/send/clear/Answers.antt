-- `send::clear`: 15, 6, or the next clear record and its checksum.
use mathlib.Core.Path.{refl, sym, ◌∙◌, ap, ap₂}
use native.Mathlib.Omega.{arith}
use Rattle.digest.proofs.Picks.{if_lt, if_ge, pick_yes, pick_no}
use lib.ListN.{length}
use borrow.Author.Tests.{le-leb}
use Rattle.digest.proofs.Lay.{length_laid}
use Rattle.connection.specs.Sent.{sum_of}
use Rattle.connection.specs.Send.{clear_on}
use Rattle.unit.specs.Unit.{with_sent}
use Rattle.unit.specs.Send.{next_clear, clear_sent, clear_output, done_with}
use Rattle.unit.proofs.Sending.{none_written, some_written, clear_some}
use Rattle.connection.proofs.Sending.{wrote}
use Rattle.unit.proofs.send.clear.Goals as goal

pub returns-then-protection-gt65535 : goal.returns-then-protection-gt65535
unfolding clear_sent clear_output
returns-then-protection-gt65535 c = record { value = if_lt _ 65535 c.args.u.protection.clear (omega arith) c.refused.ensures; out_after = if_lt _ 65535 c.args.u.protection.clear (omega arith) refl }

pub returns-then-size-eq0 : goal.returns-then-size-eq0
unfolding clear_sent clear_output
returns-then-size-eq0 c = let none = none_written c.args.out.now (next_clear c.args.u c.args.body.now) _ (clear_some c.args.u c.args.body.now) c.write_clear-size.ensures.count (omega arith) in
    record { value = if_ge _ 65535 c.args.u.protection.clear (omega arith) (pick_no _ _ _ _ _ none c.refused-then-size-eq0.ensures); out_after = if_ge _ 65535 c.args.u.protection.clear (omega arith) c.write_clear-size.ensures.bytes }

pub slice_bounds-checksum-end : goal.slice_bounds-checksum-end
slice_bounds-checksum-end c = let fits = some_written c.args.out.now (next_clear c.args.u c.args.body.now) _ c.write_clear-size.ensures.count (λ z. omega arith) in
    let w = wrote c.args.out.now (next_clear c.args.u c.args.body.now) (next_clear c.args.u c.args.body.now) _ _ refl (some_written c.args.out.now (next_clear c.args.u c.args.body.now) _ c.write_clear-size.ensures.count (λ z. omega arith)) c.write_clear-size.ensures.count c.write_clear-size.ensures.bytes in
    omega (arith, w.count, ap length w.bytes_are ∙ length_laid c.args.out.now 0 (next_clear c.args.u c.args.body.now) (omega (arith, fits)), fits)

pub slice_bounds-checksum-end-2 : goal.slice_bounds-checksum-end-2
slice_bounds-checksum-end-2 c = let w = wrote c.args.out.now (next_clear c.args.u c.args.body.now) (next_clear c.args.u c.args.body.now) _ _ refl (some_written c.args.out.now (next_clear c.args.u c.args.body.now) _ c.write_clear-size.ensures.count (λ z. omega arith)) c.write_clear-size.ensures.count c.write_clear-size.ensures.bytes in
    w.count ∙ sym (ap length w.front)

pub returns : goal.returns
unfolding clear_sent clear_output
returns c = let u = c.args.u in
    let fits = some_written c.args.out.now (next_clear c.args.u c.args.body.now) _ c.write_clear-size.ensures.count (λ z. omega arith) in
    let w = wrote c.args.out.now (next_clear c.args.u c.args.body.now) (next_clear c.args.u c.args.body.now) _ _ refl (some_written c.args.out.now (next_clear c.args.u c.args.body.now) _ c.write_clear-size.ensures.count (λ z. omega arith)) c.write_clear-size.ensures.count c.write_clear-size.ensures.bytes in
    let sum = c.checksum-last.ensures ∙ ap sum_of w.front in
    let left = c.with_sent.ensures ∙ ap (with_sent u (clear_on u.protection)) sum in
    record { value = if_ge _ 65535 c.args.u.protection.clear (omega (arith, c.if-protection-gt65535.false)) (pick_yes _ _ _ _ _ (le-leb (length (next_clear c.args.u c.args.body.now)) (length c.args.out.now) fits) (c.done.ensures ∙ ap₂ done_with w.count left)); out_after = if_ge _ 65535 c.args.u.protection.clear (omega (arith, c.if-protection-gt65535.false)) c.write_clear-size.ensures.bytes }
