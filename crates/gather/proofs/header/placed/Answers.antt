-- `placed`: the tests are the definition's.
use Rattle.gather.proofs.Headings.{total_over}
use Rattle.digest.proofs.Picks.{picks}
use Rattle.gather.specs.Header.{placed_of}
use Rattle.gather.proofs.header.placed.Goals as goal
use Rattle.gather.proofs.header.placed.Goals.{then-place-eq0-via-then-place-eq0, then-place-eq0-via-else-place-eq0+then-place}

pub returns-then-place-gt11 : goal.returns-then-place-gt11
returns-then-place-gt11 c = total_over _ _ _ c.if-place-gt11.true

pub returns-then-place-eq0 : goal.returns-then-place-eq0
unfolding placed_of
returns-then-place-eq0 c =
    elim c.then-place-eq0.branch [ then-place-eq0-via-then-place-eq0 w ↦ search picks | then-place-eq0-via-else-place-eq0+then-place w ↦ search picks ]

pub returns-then-place-eq1 : goal.returns-then-place-eq1
unfolding placed_of
returns-then-place-eq1 c = search picks

pub returns : goal.returns
unfolding placed_of
returns c = search picks
