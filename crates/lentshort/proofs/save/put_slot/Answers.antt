-- `save::put_slot`: two bytes, and then size by size.
use mathlib.Core.Path.{◌≡◌, refl, ap, ◌∙◌}
use mathlib.Core.List.{[], ◌∷◌}
use Prim.Native.Nat.{ℕ, ◌+◌, ◌*◌}
use native.Mathlib.Omega.{arith}
use borrow.Author.Rules.{rules}
use lib.ListN.{length}
use lib.Seq.{take_all}
use Rattle.connection.proofs.Filling.{within}
use Rattle.digest.specs.Bytes.{bytes2, laid_over, laid_within}
use Rattle.lent.specs.Fields.{two_in, joined}
use Rattle.lentshort.specs.Saved.{spelled, slot_bytes}
use Rattle.lentshort.proofs.Rows.{row_put}
use Rattle.lentshort.proofs.save.put_slot.Goals as goal

pub loop-i-init : goal.loop-i-init
unfolding joined
loop-i-init c = within _ _ _ _ (omega arith) c.put.ensures.exact

pub loop-i-preserved : goal.loop-i-preserved
loop-i-preserved c =
    let s = c.args.s in
    let i = c.loop-i.i in
    let eleven : length s.sizes ≡ 11 = search rules in
    row_put 0 two_in bytes2 (λ n. ◌≡◌ {A = ℕ} n n) 2 (λ n h. refl) c.args.d.now c.loop-i.d (s.reference ∷ s.total ∷ []) c.args.at i s.sizes
    (λ j h. refl) (omega arith) (omega arith) c.loop-i.invariant _
    (c.put-in-loop-i.ensures.exact ∙ ap (laid_within c.loop-i.d (c.args.at + 2 + 2 * i)) c.to_be_bytes.ensures)

pub returns-clause-d_after : goal.returns-clause-d_after
unfolding slot_bytes
returns-clause-d_after c =
    let s = c.args.s in
    c.loop-i.invariant
    ∙ ap (λ l. laid_over c.args.d.now c.args.at (s.reference ∷ s.total ∷ spelled l)) (take_all c.loop-i.i s.sizes (search rules))
