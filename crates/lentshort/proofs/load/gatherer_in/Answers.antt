-- `load::gatherer_in`: slot by slot.
use Rattle.std.proofs.Common.{rules, tests}
use Rattle.gather.specs.Slot.{free}
use Rattle.gather.proofs.Steps.{same_slots}
use Rattle.lentshort.specs.Saved.{slot_in, slot_bytes, SlotRanged}
use Rattle.lentshort.proofs.Rows.{row_made}
use Rattle.lentshort.proofs.load.gatherer_in.Goals as goal

pub returns : goal.returns
returns c =
    same_slots _ _
    (row_made free slot_in slot_bytes SlotRanged 24 4 c.args.b.now 4 c.from_fn.ensures.items (λ k y q w. search (rules, tests)))
