-- `are_sized`: the loop keeps `Sizing`, the definition opened one size at a time.
use mathlib.Core.Path.{sym, ◌∙◌}
use Rattle.dayfile.proofs.Lending.{ill_sized, too_many, sized_on, sized_end}
use Rattle.dayfile.proofs.write.are_sized.Goals as goal
use Rattle.dayfile.proofs.write.are_sized.Goals.{then-not-is_sized-via-then-not-is_sized, then-not-is_sized-via-else-not-is_sized+then-left-size}

pub returns-then-not-is_sized : goal.returns-then-not-is_sized
returns-then-not-is_sized c =
    elim c.then-not-is_sized.branch [
      | then-not-is_sized-via-then-not-is_sized w ↦ ill_sized _ _ _ _ c.loop-size.invariant c.loop-size-test.true (sym c.is_sized.ensures ∙ w.if-not-is_sized.true)
      | then-not-is_sized-via-else-not-is_sized+then-left-size w ↦
          too_many _ _ _ _ c.loop-size.invariant c.loop-size-test.true (sym c.is_sized.ensures ∙ w.if-not-is_sized.false) w.if-left-size.true
    ]

pub loop-size-preserved : goal.loop-size-preserved
loop-size-preserved c = sized_on _ _ _ _ c.loop-size.invariant c.loop-size-test.true (sym c.is_sized.ensures ∙ c.if-not-is_sized.false) c.if-left-size.false

pub returns : goal.returns
returns c = sized_end _ _ _ _ c.loop-size.invariant c.loop-size-test.false
