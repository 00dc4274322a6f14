-- `bytes::lay`: after i turns the first i bytes of s are laid over d.
use Rattle.std.proofs.Common.{◌≡◌, ◌+◌, length, get_or, set, sym, ap, ◌∙◌, add-one, arith, length-set}
use lib.Seq.{paste, paste-suc}
use Rattle.digest.proofs.Lay.{laid_paste}
use Rattle.digest.proofs.bytes.lay.Goals as goal

pub loop-i-preserved : goal.loop-i-preserved
loop-i-preserved c =
    let turn = c.loop-i in
    let d = c.args.d.now in
    let s = c.args.s.now in
    let at = c.args.at in
    let v = get_or s turn.i 0 in (
      omega arith,
      length-set turn.d (at + turn.i) v ∙ turn.invariant.1,
      ap (λ l. set l (at + turn.i) v) turn.invariant.2
          ∙ paste-suc d at s turn.i 0 (omega arith) (omega arith)
          ∙ ap (paste d at s) (sym (add-one turn.i)),
    )

pub returns : goal.returns
returns c =
    let d = c.args.d.now in
    let s = c.args.s.now in
    let last : c.loop-i.i ≡ length s = omega arith in
    c.loop-i.invariant.2 ∙ ap (paste d c.args.at s) last ∙ laid_paste d c.args.at s
