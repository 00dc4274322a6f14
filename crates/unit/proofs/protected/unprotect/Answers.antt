-- `protected::unprotect`: opened, and then by the content of a new record.
use mathlib.Core.Path.{sym, ◌∙◌, ap}
use lib.ListN.{take}
use lib.Seq.{length-take-le}
use Rattle.record.specs.declared.keys.Sense.TheVariants.{FromShore}
use Rattle.record.specs.declared.protection.Opening.{Opening}
use Rattle.record.proofs.Protected.{new_within}
use Rattle.unit.specs.Protected.{unprotected_by, content_by}
use Rattle.unit.proofs.protected.unprotect.Goals as goal

pub slice_bounds-content-end : goal.slice_bounds-content-end
slice_bounds-content-end c = let a = c.args in
    let inside = new_within a.protection FromShore a.number a.byte a.fragment.now _ (sym (ap (λ (o : Opening). o.opened) c.open-opening.ensures) ∙ c.in-Ok.is) in
    sym (length-take-le _ a.fragment.now inside)

pub returns-in-Err : goal.returns-in-Err
unfolding unprotected_by
returns-in-Err c = rw (sym (ap (λ (o : Opening). o.opened) c.open-opening.ensures) ∙ c.in-Err.is, ← c.from.ensures) c.refuse.ensures

pub returns-in-Ok : goal.returns-in-Ok
unfolding unprotected_by
returns-in-Ok c = let a = c.args in
    rw (sym (ap (λ (o : Opening). o.opened) c.open-opening.ensures) ∙ c.in-Ok.is)
    (c.content.ensures ∙ ap (λ (o : Opening). content_by o.protection.window a.protection.keys.mac a.expected a.state a.kind a.number a.at (take c.in-Ok.size a.fragment.now)) c.open-opening.ensures)
