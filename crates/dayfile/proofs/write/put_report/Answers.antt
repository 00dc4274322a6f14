-- `put_report`: the head, and the bytes behind it.
use mathlib.Core.Path.{◌∙◌}
use mathlib.Core.List.{List, [], ◌∷◌}
use Prim.Native.Nat.{ℕ}
use lib.ListN.{get_or}
use Rattle.digest.specs.Bytes.{laid_within}
use Rattle.dayfile.proofs.Lending.{laid_report}
use Rattle.dayfile.proofs.write.put_report.Goals as goal

pub returns : goal.returns
returns c =
    let at = c.args.at in
    let spelled = λ (n s : List ℕ). 209 ∷ get_or n 0 0 ∷ get_or n 1 0 ∷ get_or s 0 0 ∷ get_or s 1 0 ∷ [] in
    c.put-2.ensures.exact
    ∙ laid_report c.args.out.now c.put.new.d at c.args.number c.args.bytes.now c.requires.fits
    (c.put.ensures.exact ∙ (λ i. laid_within c.args.out.now at (spelled (c.to_be_bytes.ensures i) (c.to_be_bytes-2.ensures i))))
