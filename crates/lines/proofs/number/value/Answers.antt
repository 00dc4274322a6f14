-- `number::value`: one digit more is read, or all that count were.
use Rattle.std.proofs.Common.{◌+◌, ◌*◌, sym, ◌∙◌, ap, arith, drop}
use Rattle.lines.specs.Decimal.{number_from}
use Rattle.lines.proofs.Digits.{number_step, number_stop, number_end}
use Rattle.lines.proofs.number.value.Goals as goal

pub returns-then-n-gt99999999 : goal.returns-then-n-gt99999999
returns-then-n-gt99999999 c =
    let at = c.loop-b in
    sym (number_stop _ at.b-index at.n (omega arith) c.if-n-gt99999999.true) ∙ at.invariant.1

pub loop-b-preserved : goal.loop-b-preserved
loop-b-preserved c =
    let at = c.loop-b in
    let word = c.args.word.now in (
      omega (arith, c.digit.ensures.upper_bound),
      ap (λ d. number_from (at.n * 10 + d) (drop (at.b-index + 1) word)) c.digit.ensures.value
          ∙ number_step word at.b-index at.n (omega arith) (omega arith)
          ∙ at.invariant.1,
    )

pub returns : goal.returns
returns c = sym (number_end _ c.loop-b.b-index c.loop-b.n (omega arith)) ∙ c.loop-b.invariant.1
