-- `Unit::opened`: the checksums of the flight's two records, then field by field.
use mathlib.Core.Path.{◌≡◌, sym, ◌∙◌, ap, ap₂}
use native.Mathlib.Omega.{arith}
use lib.ListN.{length}
use lib.Seq.{length-take-le}
use Rattle.digest.specs.Mac.{size_of}
use Rattle.record.proofs.ProtectedBytes.{size_most}
use Rattle.connection.specs.Sent.{with_record, sum_of}
use Rattle.unit.specs.Unit.{opened}
use Rattle.unit.proofs.Parts.{later_part}
use Rattle.unit.specs.declared.state.State.TheVariants.{Opening}
use borrow.Author.Rules.{rules}
use Rattle.unit.proofs.unit.Unit.opened.Goals as goal

pub overflow_add-end : goal.overflow_add-end
overflow_add-end c = omega (arith, c.size-end.ensures.exact, size_most c.args.self.protection.keys.mac)

pub slice_bounds-flight-end : goal.slice_bounds-flight-end
slice_bounds-flight-end c = let l : length c.args.self.flight ≡ 44 = search (rules, c.well_formed.0) in omega arith

pub slice_bounds-checksum-end : goal.slice_bounds-checksum-end
slice_bounds-checksum-end c = let l : length c.args.self.flight ≡ 44 = search (rules, c.well_formed.0) in sym (length-take-le 6 c.args.self.flight (omega arith))

pub slice_bounds-checksum-end-2 : goal.slice_bounds-checksum-end-2
slice_bounds-checksum-end-2 c = let l : length c.args.self.flight ≡ 44 = search (rules, c.well_formed.0) in omega (arith, c.size-end.ensures.exact, size_most c.args.self.protection.keys.mac)

pub returns : goal.returns
unfolding opened
returns c = let u = c.args.self in
    let change = c.checksum-change.ensures in
    let finished = c.checksum-finished.ensures ∙ ap sum_of (later_part u.flight c.size-end.result (size_of u.protection.keys.mac) c.size-end.ensures.exact) in
    let sent_is = c.with_record-2.ensures ∙ ap₂ with_record (c.with_record.ensures ∙ ap (with_record u.sent) change) finished in
    λ i. record {
      state = Opening;
      id = u.id;
      offer = u.offer;
      expected = u.expected;
      flight = u.flight;
      sent = sent_is i;
      protection = record { keys = u.protection.keys; window = u.protection.window; protected = 1; clear = 2 };
    }
