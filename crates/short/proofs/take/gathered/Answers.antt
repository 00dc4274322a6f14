-- `gathered`: what is lent to a receive, and then the gatherer's step.
use mathlib.Core.Path.{refl}
use Rattle.digest.proofs.Picks.{if_eq, if_ne, if_lt, if_ge}
use Rattle.short.specs.Message.{gathered_of}
use Rattle.short.proofs.take.gathered.Goals as goal

pub returns-then-random-ne16 : goal.returns-then-random-ne16
unfolding gathered_of
returns-then-random-ne16 c = if_ne _ _ 16 c.if-random-ne16.true refl

pub returns-then-store-lt5600 : goal.returns-then-store-lt5600
unfolding gathered_of
returns-then-store-lt5600 c = if_eq _ _ 16 c.if-random-ne16.false (if_lt _ _ 5600 c.if-store-lt5600.true refl)

pub returns-then-room-lt128 : goal.returns-then-room-lt128
unfolding gathered_of
returns-then-room-lt128 c =
    if_eq _ _ 16 c.if-random-ne16.false (if_ge _ _ 5600 c.if-store-lt5600.false (if_lt _ _ 128 c.if-room-lt128.true refl))

pub returns : goal.returns
unfolding gathered_of
returns c =
    if_eq _ _ 16 c.if-random-ne16.false (if_ge _ _ 5600 c.if-store-lt5600.false (if_ge _ _ 128 c.if-room-lt128.false c.step.ensures.exact))
