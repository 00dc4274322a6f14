-- `step`: each way through it is a law of `Steps`.
use mathlib.Core.Path.{sym, ap, ◌∙◌, refl}
use native.Mathlib.Omega.{arith}
use Rattle.std.specs.Prelude.{Ok}
use Rattle.std.proofs.lemmas.Result.{err_from_is_err_and}
use Rattle.gather.proofs.Headings.{part_within}
use Rattle.gather.proofs.Steps.{step_argument, step_room, step_on, step_part}
use Rattle.gather.proofs.gatherer.Gatherer.step.Goals as goal

pub returns-then-store-lt5600 : goal.returns-then-store-lt5600
returns-then-store-lt5600 c = record { exact = step_argument _ _ _ _ c.if-store-lt5600.true }

pub returns-then-assembly-lt1400 : goal.returns-then-assembly-lt1400
returns-then-assembly-lt1400 c = record { exact = step_room _ _ _ _ c.if-store-lt5600.false c.if-assembly-lt1400.true }

pub returns-in_err-ports : goal.returns-in_err-ports
returns-in_err-ports c =
    let p = err_from_is_err_and c.from_residual.result c.from_residual.ensures.1 in
    let seen = sym c.read.ensures.exact ∙ c.in_err-ports.was in
    record { exact = rw (p.1, p.2) (step_on _ _ _ _ _ _ c.if-store-lt5600.false c.if-assembly-lt1400.false seen refl) }

pub slice_bounds-bytes-count : goal.slice_bounds-bytes-count
slice_bounds-bytes-count c =
    let seen = sym c.read.ensures.exact ∙ c.in_ok-ports.was ∙ ap Ok c.in-Part.is in
    (part_within _ _ _ _ seen).begins

pub slice_bounds-bytes-start : goal.slice_bounds-bytes-start
slice_bounds-bytes-start c =
    let seen = sym c.read.ensures.exact ∙ c.in_ok-ports.was ∙ ap Ok c.in-Part.is in
    omega (arith, (part_within _ _ _ _ seen).begins)

pub join-requires : goal.join-requires
join-requires c =
    let seen = sym c.read.ensures.exact ∙ c.in_ok-ports.was ∙ ap Ok c.in-Part.is in
    let w = part_within _ _ _ _ seen in (c.if-store-lt5600.false, c.if-assembly-lt1400.false, w.positive, omega (arith, w.up_to, w.eleven))

pub returns-in-Alone : goal.returns-in-Alone
returns-in-Alone c =
    let seen = sym c.read.ensures.exact ∙ c.in_ok-ports.was ∙ ap Ok c.in-Alone.is in
    record { exact = step_on _ _ _ _ _ _ c.if-store-lt5600.false c.if-assembly-lt1400.false seen refl }

pub returns-in-Part : goal.returns-in-Part
returns-in-Part c =
    let seen = sym c.read.ensures.exact ∙ c.in_ok-ports.was ∙ ap Ok c.in-Part.is in
    record { exact = step_part _ _ _ _ _ _ _ _ c.if-store-lt5600.false c.if-assembly-lt1400.false seen c.join.ensures }
