-- `drop_reference`: a byte, then the drop.
-- src/lib.rt:53:9
use mathlib.Core.Path.{sym, ◌∙◌}
use Rattle.lentshort.proofs.Back.{gatherer_size_lem}
use Rattle.lentshort.proofs.Calling.{drop_over, drop_done, drop_none}
use Rattle.lentshort.proofs.drop_reference.Goals as goal

-- the clauses of the contract, each under its name
named : {A B C : Type 0} → A × (B × C) → record { exact : A; bytes : B; loads : C }
named x = record { exact = x.0; bytes = x.1.0; loads = x.1.1 }

-- src/lib.rt:53:9
pub returns-then-reference-gt255 : goal.returns-then-reference-gt255
returns-then-reference-gt255 c = named (drop_over _ _ _ c.if-reference-gt255.true c.result_of.ensures.exact)

-- src/lib.rt:56:13
pub gatherer_in-g-requires : goal.gatherer_in-g-requires
gatherer_in-g-requires c = gatherer_size_lem _ (sym c.is_gatherer.ensures ∙ c.if-is_gatherer.true)

-- src/lib.rt:57:9
pub put_gatherer-requires : goal.put_gatherer-requires
put_gatherer-requires c = gatherer_size_lem _ (sym c.is_gatherer.ensures ∙ c.if-is_gatherer.true)

-- src/lib.rt:58:9
pub returns-then-is_gatherer : goal.returns-then-is_gatherer
returns-then-is_gatherer c = named (drop_done _ _ _ _ _ _ _ c.if-reference-gt255.false c.is_gatherer.ensures c.if-is_gatherer.true c.gatherer_in-g.ensures c.drop.ensures.exact c.result_of-then-is_gatherer.ensures.exact c.put_gatherer.ensures.d_after c.put_gatherer.ensures.d_after_2)

-- src/lib.rt:47:1
pub returns : goal.returns
returns c = named (drop_none _ _ _ _ c.if-reference-gt255.false c.is_gatherer.ensures c.if-is_gatherer.false c.result_of-2.ensures.exact)
