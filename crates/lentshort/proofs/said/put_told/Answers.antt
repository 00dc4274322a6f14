-- `said::put_told`: all of the bytes.
use mathlib.Core.Path.{refl, ap, ◌∙◌}
use borrow.Author.Rules.{rules}
use Rattle.digest.specs.Bytes.{laid_within, bytes2}
use Rattle.lentshort.proofs.Laying.{told_laid, low_bytes}
use Rattle.lentshort.proofs.said.put_told.Goals as goal

pub returns : goal.returns
returns c =
    let p = c.args.ports in
    told_laid c.args.d.now _ _ _ _ c.args.kind (bytes2 p.destination) (bytes2 p.originator) (bytes2 c.args.n) c.requires (search rules) refl refl refl
    c.put.ensures.exact (c.put-2.ensures.exact ∙ ap (laid_within c.put.new.d 4) c.to_be_bytes.ensures)
    (c.put-3.ensures.exact ∙ ap (laid_within c.put-2.new.d 6) c.to_be_bytes-2.ensures)
    (c.put-4.ensures.exact ∙ ap (laid_within c.put-3.new.d 8) (c.to_be_bytes-3.ensures ∙ low_bytes c.args.n))
