-- `block::late`: each turn is a word turned over and its round, with the function and the constant of its twenty.
use Rattle.std.proofs.Common.{◌≡◌, ◌%◌, ◌∙◌, arith, length-set, rules}
use Rattle.digest.proofs.Rounds.{turned_over_lem, round_more}
use Rattle.digest.proofs.block.late.Goals as goal

pub loop-t-init : goal.loop-t-init
loop-t-init g c = (search rules, λ m h l p. p)

pub next-x-requires : goal.next-x-requires
next-x-requires g c = (c.loop-t.invariant.0, omega arith)

pub loop-t-preserved : goal.loop-t-preserved
loop-t-preserved g c = let at = c.loop-t in
    let x = c.next-x in (
      length-set at.w (at.t % 16) x.result ∙ at.invariant.0,
      λ m h l p.
          let here = at.invariant.1 m h l p in
          round_more m at.w at.t x.result h at.g c.turned-g.result at.invariant.0 here
          (x.ensures ∙ turned_over_lem m at.w at.t h at.g l (omega arith) (omega arith) here)
          (c.turned-g.ensures at.t (c.requires.function at.t _ _ _ _ (omega arith) (omega arith) c.function.ensures) (c.requires.constant at.t (omega arith) (omega arith))),
    )

pub returns : goal.returns
returns g c = λ m h l p.
    let last : c.loop-t.t ≡ c.args.end = omega arith in
    rw last at (c.loop-t.invariant.1 m h l p)
