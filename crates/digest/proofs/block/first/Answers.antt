-- `block::first`: each turn is a word of the block and its round, with the function and the constant of the first twenty.
use Rattle.std.proofs.Common.{◌≡◌, ◌%◌, ◌∙◌, arith, length-set, rules}
use Rattle.digest.proofs.Rounds.{front_word, round_more, k_first}
use Rattle.digest.proofs.block.first.Goals as goal

pub loop-t-init : goal.loop-t-init
loop-t-init c = (search rules, λ h p. p)

pub loop-t-preserved : goal.loop-t-preserved
loop-t-preserved c = let at = c.loop-t in
    let x = c.word-x in (
      length-set at.w (at.t % 16) x.result ∙ at.invariant.0,
      λ h p.
          round_more _ at.w at.t x.result h at.g c.turned-g.result at.invariant.0 (at.invariant.1 h p)
          (front_word _ at.t x.result (omega arith) x.ensures)
          (c.turned-g.ensures at.t (c.choice.ensures at.t (omega arith)) (k_first at.t (omega arith))),
    )

pub returns : goal.returns
returns c = λ h p.
    let last : c.loop-t.t ≡ c.args.end = omega arith in
    rw last at (c.loop-t.invariant.1 h p)
