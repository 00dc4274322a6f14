-- `load::is_saved`: the size and the mark, then what the bytes tell.
use mathlib.Core.Path.{refl}
use native.Mathlib.Omega.{arith}
use lib.ListN.{length}
use Rattle.digest.specs.Bytes.{word_at}
use Rattle.digest.proofs.Picks.{if_eq, if_ne}
use Rattle.lent.proofs.Within.{four_stands}
use Rattle.lentunit.specs.Saved.{is_saved}
use Rattle.lentunit.proofs.load.is_saved.Goals as goal
use Rattle.lentunit.proofs.load.is_saved.Goals.{then-b-ne-SIZE-via-then-b-ne-SIZE, then-b-ne-SIZE-via-else-b-ne-SIZE+then-four_within-ne-MARK}

pub returns-then-b-ne-SIZE : goal.returns-then-b-ne-SIZE
unfolding is_saved
returns-then-b-ne-SIZE c = let b = c.args.b.now in
    elim c.then-b-ne-SIZE.branch [
      | then-b-ne-SIZE-via-then-b-ne-SIZE w ↦ if_ne _ (length b) 180 (λ e. omega (arith, e, w.if-b-ne-SIZE.true)) refl
      | then-b-ne-SIZE-via-else-b-ne-SIZE+then-four_within-ne-MARK w ↦
          if_eq _ (length b) 180 (omega (arith, w.if-b-ne-SIZE.false))
          (if_ne _ (word_at b 0) 0x57545501 (λ e. omega (arith, e, w.four_within.ensures.exact, four_stands b 0 (omega (arith, w.if-b-ne-SIZE.false)), w.if-four_within-ne-MARK.true)) refl)
    ]

pub returns : goal.returns
unfolding is_saved
returns c = let b = c.args.b.now in
    if_eq _ (length b) 180 (omega arith)
    (if_eq _ (word_at b 0) 0x57545501 (omega (arith, c.four_within.ensures.exact, four_stands b 0 (omega arith))) c.is_unit.ensures)
