-- `protected::open_record`: opened, and then by the content of a new record.
use mathlib.Core.Path.{sym, ◌∙◌, ap}
use lib.ListN.{take}
use lib.Seq.{length-take-le}
use Rattle.record.specs.declared.keys.Sense.TheVariants.{FromUnit}
use Rattle.record.specs.declared.protection.Opening.{Opening}
use Rattle.record.proofs.Protected.{new_within}
use Rattle.connection.specs.Handshake.{with_protection, with_window}
use Rattle.connection.specs.Step.{stepped_by}
use Rattle.connection.proofs.OpeningRecords.{opened_window}
use Rattle.connection.specs.Protected.{opened_record, content_by}
use Rattle.connection.proofs.protected.open_record.Goals as goal

pub slice_bounds-content-end : goal.slice_bounds-content-end
slice_bounds-content-end c = let a = c.args in
    let within = new_within a.h.protection FromUnit a.number a.byte a.fragment.now _ (sym (ap (λ (o : Opening). o.opened) c.open-opening.ensures) ∙ c.in-Ok.is) in
    sym (length-take-le _ a.fragment.now within)

pub returns-in-Err : goal.returns-in-Err
unfolding opened_record
returns-in-Err c = rw (sym (ap (λ (o : Opening). o.opened) c.open-opening.ensures) ∙ c.in-Err.is, ← c.from.ensures) (ap (stepped_by c.args.h) c.refuse.ensures)

pub returns-in-Ok : goal.returns-in-Ok
unfolding opened_record
returns-in-Ok c = let a = c.args in
    let left = ap (λ (o : Opening). with_window a.h o.protection.window) c.open-opening.ensures
    ∙ ap (with_protection a.h) (opened_window a.h.protection a.number a.byte a.fragment.now) in
    rw (sym (ap (λ (o : Opening). o.opened) c.open-opening.ensures) ∙ c.in-Ok.is)
    (c.content.ensures ∙ (λ i. content_by (left i) a.kind a.number a.at (take c.in-Ok.size a.fragment.now)))
