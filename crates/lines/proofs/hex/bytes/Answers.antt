-- `hex::bytes`: one byte more is spelled; and at the end all that there is room for.
use Rattle.std.proofs.Common.{◌≡◌, ◌+◌, ◌*◌, ◌++◌, ◌∷◌, [], length, take, min, ◌∙◌, ap, arith}
use Rattle.std.proofs.lemmas.List.{take_min}
use Rattle.lines.specs.Hex.{bytes_of}
use Rattle.lines.proofs.Digits.{byte_at, bytes_step, length-bytes_of}
use Rattle.lines.proofs.hex.bytes.Goals as goal

pub loop-i-preserved : goal.loop-i-preserved
unfolding byte_at
loop-i-preserved c =
    let high = c.digit.ensures.value in
    let low = c.digit-in-loop-i.ensures.value in
    c.push.ensures.items
    ∙ (λ j. c.loop-i.invariant j ++ (high j * 16 + low j) ∷ [])
    ∙ bytes_step c.args.word.now c.loop-i.i (omega (arith, c.min-i-end.ensures))

pub returns : goal.returns
returns c =
    let w = c.args.word.now in
    let end : c.loop-i.i ≡ min 4096 (length (bytes_of w)) = omega (arith, c.min-i-end.ensures, length-bytes_of w) in
    c.loop-i.invariant ∙ ap (λ n. take n (bytes_of w)) end ∙ take_min 4096 (bytes_of w)
