-- `empty`: the room, then four free slots.
-- src/lib.rt:40:9
use Rattle.lentshort.proofs.Calling.{empty_room, empty_made}
use Rattle.lentshort.proofs.empty.Goals as goal

-- the clauses of the contract, each under its name
named : {A B C : Type 0} → A × (B × C) → record { exact : A; bytes : B; loads : C }
named x = record { exact = x.0; bytes = x.1.0; loads = x.1.1 }

-- src/lib.rt:40:9
pub returns-then-gatherer-ne-SIZE : goal.returns-then-gatherer-ne-SIZE
returns-then-gatherer-ne-SIZE c = named (empty_room _ _ c.if-gatherer-ne-SIZE.true c.result_of.ensures.exact)

-- src/lib.rt:34:1
pub returns : goal.returns
returns c = named (empty_made _ _ _ _ c.if-gatherer-ne-SIZE.false c.fresh.ensures.exact c.result_of-2.ensures.exact c.put_gatherer.ensures.d_after c.put_gatherer.ensures.d_after_2)
