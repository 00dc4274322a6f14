-- `hex::digits`: two digits more are pushed, and digits are ASCII.
use Rattle.std.proofs.Common.{◌∷◌, ◌++◌, [], ◌∙◌, ap, arith, rules}
use Rattle.std.proofs.lemmas.List.{take_all}
use Rattle.lines.proofs.Shown.{IsUtf8-hex_of, pair_more}
use Rattle.lines.proofs.hex.digits.Goals as goal

pub loop-b-preserved : goal.loop-b-preserved
loop-b-preserved c =
    let high = c.glyph.ensures in
    let low = c.glyph-in-loop-b.ensures in (
      c.push-in-loop-b.ensures.items
          ∙ ap (λ s. s ++ c.glyph-in-loop-b.result ∷ []) c.push.ensures.items
          ∙ (λ j. (c.loop-b.invariant.0 j ++ high j ∷ []) ++ low j ∷ [])
          ∙ pair_more c.args.piece.now c.loop-b.b-index (omega arith),
      omega (arith, c.push-in-loop-b.ensures.len, c.push.ensures.len, c.loop-b.invariant.1),
    )

pub returns-clause-text : goal.returns-clause-text
returns-clause-text c =
    rw (c.loop-b.invariant.0, take_all c.loop-b.b-index c.args.piece.now (omega arith)) (IsUtf8-hex_of c.args.piece.now (search rules))
