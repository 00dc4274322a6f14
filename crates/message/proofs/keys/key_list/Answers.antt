-- `message::keys::key_list` meets its contract. The invariant: the list is sound exactly if the walk from the place
-- reached succeeds. The measure is what is left. Assumes nothing.
use native.Mathlib.Omega.{arith}
use Rattle.std.proofs.Common.{refl, sym, ◌∙◌, ap, length}
use Rattle.message.specs.Keys.{entries_from, key_list}
use Rattle.message.proofs.Fields.{end_none, end_some}
use Rattle.message.proofs.Entries.{past_entry, entries_step, entries_fault, entries_done}
use Rattle.message.proofs.keys.key_list.Goals as goal

pub loop-at-init : goal.loop-at-init
unfolding key_list
loop-at-init c = (omega arith, refl)

pub returns-in_default : goal.returns-in_default
returns-in_default c =
    sym (c.loop-at.invariant.1 ∙ entries_fault c.args.s.now _ c.loop-at-test.true (end_none _ c.in_default.ensures.value))

pub loop-at-smaller : goal.loop-at-smaller
loop-at-smaller c =
    let e = end_some _ _ c.in-Some.ensures.value in
    omega (arith, c.in-Some.ensures.within, e, past_entry c.args.s.now c.loop-at.at e.1)

pub loop-at-preserved : goal.loop-at-preserved
loop-at-preserved c = let s = c.args.s.now in
    let e = end_some _ _ c.in-Some.ensures.value in (
      c.in-Some.ensures.within.1,
      c.loop-at.invariant.1
          ∙ entries_step s _ c.loop-at-test.true e.1
          ∙ ap (entries_from (length s) s) (sym e.0),
    )

pub returns : goal.returns
returns c = sym (c.loop-at.invariant.1 ∙ entries_done c.args.s.now c.loop-at.at (omega arith))
