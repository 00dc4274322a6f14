-- `edition::row_of`: entry by entry.
use Rattle.std.proofs.Common.{true, false, Some, ap, arith}
use Rattle.digest.specs.Edition.{entry_of}
use Rattle.digest.proofs.Editions.{row_at, none_above}
use Rattle.digest.proofs.edition.row_of.Goals as goal

pub returns-in-0 : goal.returns-in-0
unfolding entry_of
returns-in-0 c = row_at 0 _ _ c.in-0.is (ap Some c.both.ensures)

pub returns-in-1 : goal.returns-in-1
unfolding entry_of
returns-in-1 c = row_at 1 _ _ c.in-1.is (ap Some c.both-in-1.ensures)

pub returns-in-2 : goal.returns-in-2
unfolding entry_of
returns-in-2 c = row_at 2 _ _ c.in-2.is (ap Some c.both-in-2.ensures)

pub returns-in-3 : goal.returns-in-3
unfolding entry_of
returns-in-3 c = row_at 3 _ _ c.in-3.is (ap Some c.both-in-3.ensures)

pub returns-in-4 : goal.returns-in-4
unfolding entry_of
returns-in-4 c = row_at 4 _ _ c.in-4.is (λ i. Some (record { named = c.new.ensures i; older = true; later = false }))

pub returns-in-5 : goal.returns-in-5
unfolding entry_of
returns-in-5 c = row_at 5 _ _ c.in-5.is (ap Some c.both-in-5.ensures)

pub returns-in-6 : goal.returns-in-6
unfolding entry_of
returns-in-6 c = row_at 6 _ _ c.in-6.is (ap Some c.both-in-6.ensures)

pub returns-in-7 : goal.returns-in-7
unfolding entry_of
returns-in-7 c = row_at 7 _ _ c.in-7.is (ap Some c.both-in-7.ensures)

pub returns-in_default : goal.returns-in_default
returns-in_default c = none_above c.args.n (omega arith)
