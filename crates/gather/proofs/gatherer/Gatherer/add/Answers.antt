-- `add`: each way through it is a law of `Steps`.
use mathlib.Core.Path.{ap}
use lib.ListN.{set}
use borrow.Author.Rules.{rules}
use Rattle.gather.proofs.Steps.{add_again, add_long, add_finished, add_waiting}
use Rattle.gather.proofs.gatherer.Gatherer.add.Goals as goal

pub returns-then-slot-at-ne0 : goal.returns-then-slot-at-ne0
returns-then-slot-at-ne0 c = add_again _ _ _ _ _ _ _ _ _ c.if-slot-at-ne0.true c.again.ensures

pub returns-then-bytes_below-part : goal.returns-then-bytes_below-part
returns-then-bytes_below-part c = add_long _ _ _ _ _ _ _ _ _ _ c.if-slot-at-ne0.false c.bytes_below.ensures.value c.if-bytes_below-part.true (ap (set _ _) c.free.ensures)

pub returns-then-from-have : goal.returns-then-from-have
returns-then-from-have c = add_finished _ _ _ _ _ _ _ _ _ _ _ _ _ c.if-slot-at-ne0.false c.bytes_below.ensures.value c.if-bytes_below-part.false c.held_places-have.ensures.exact (search rules) c.assemble-size.ensures.value c.assemble-size.ensures.assembly_after (ap (set _ _) c.free-then-from-have.ensures)

pub returns : goal.returns
returns c = add_waiting _ _ _ _ _ _ _ _ _ _ _ _ c.if-slot-at-ne0.false c.bytes_below.ensures.value c.if-bytes_below-part.false c.held_places-have.ensures.exact (search rules) c.insert.ensures (ap (set _ _) c.with_size.ensures)
