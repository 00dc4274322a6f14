-- `held`: the slot's number, then what it holds.
-- src/lib.rt:68:9
use mathlib.Core.Path.{sym, ◌∙◌}
use native.Mathlib.Omega.{arith}
use Rattle.lentshort.proofs.Back.{gatherer_size_lem}
use Rattle.lentshort.proofs.Calling.{held_over, held_told, held_none}
use Rattle.lentshort.proofs.held.Goals as goal

-- src/lib.rt:68:9
pub returns-then-slot-gt3 : goal.returns-then-slot-gt3
returns-then-slot-gt3 c = record { exact = held_over _ _ _ c.if-slot-gt3.true c.result_of.ensures.exact }

-- src/lib.rt:71:13
pub slot_in-s-requires : goal.slot_in-s-requires
slot_in-s-requires c = omega (arith, c.if-slot-gt3.false, gatherer_size_lem _ (sym c.is_gatherer.ensures ∙ c.if-is_gatherer.true))

-- src/lib.rt:74:9
pub returns-then-is_gatherer : goal.returns-then-is_gatherer
returns-then-is_gatherer c = record { exact = held_told _ _ _ _ _ _ c.if-slot-gt3.false c.is_gatherer.ensures c.if-is_gatherer.true c.slot_in-s.ensures c.held_places.ensures.exact c.result_of-then-is_gatherer.ensures.exact }

-- src/lib.rt:64:1
pub returns : goal.returns
returns c = record { exact = held_none _ _ _ _ c.if-slot-gt3.false c.is_gatherer.ensures c.if-is_gatherer.false c.result_of-2.ensures.exact }
