-- `hex::push_bytes`: there are half as many bytes as digits, and one more is appended.
use Rattle.std.proofs.Common.{◌+◌, ◌*◌, ◌++◌, ◌∷◌, [], ◌∙◌, ap, arith, rules, append-nil, append_assoc, sym, refl}
use Rattle.std.proofs.lemmas.List.{take_all}
use Rattle.lines.specs.Hex.{bytes_of}
use Rattle.lines.proofs.Digits.{byte_at, bytes_step, length-bytes_of}
use Rattle.lines.proofs.hex.push_bytes.Goals as goal

pub returns-then-remaining_capacity-count-clause-variant :
    goal.returns-then-remaining_capacity-count-clause-variant
returns-then-remaining_capacity-count-clause-variant g c =
    let half = length-bytes_of c.args.word.now in (
      λ e. absurd (search rules),
      λ fits. absurd (omega (arith, half, fits, c.if-remaining_capacity-count.true, c.remaining_capacity.ensures)),
    )

pub loop-i-init : goal.loop-i-init
loop-i-init g c = (sym (append-nil _), omega arith)

pub push-requires : goal.push-requires
push-requires g c =
    (search rules, omega (arith, c.loop-i-test.true, c.loop-i.invariant.1, c.if-remaining_capacity-count.false, c.remaining_capacity.ensures))

pub loop-i-preserved : goal.loop-i-preserved
unfolding byte_at
loop-i-preserved g c =
    let high = c.digit.ensures.value in
    let low = c.digit-in-loop-i.ensures.value in (
      c.push.ensures.items
          ∙ (λ j. c.loop-i.invariant.0 j ++ (high j * 16 + low j) ∷ [])
          ∙ append_assoc c.args.to.now.items _ _
          ∙ ap (λ s. c.args.to.now.items ++ s) (bytes_step c.args.word.now c.loop-i.i (omega arith)),
      omega (arith, c.push.ensures.len, c.loop-i.invariant.1),
    )

pub returns-clause-variant : goal.returns-clause-variant
returns-clause-variant g c =
    (λ e. omega (arith, length-bytes_of c.args.word.now, c.if-remaining_capacity-count.false, c.remaining_capacity.ensures), λ fits. refl)

pub returns-clause-count : goal.returns-clause-count
returns-clause-count g c = sym (length-bytes_of c.args.word.now)

pub returns-clause-ok : goal.returns-clause-ok
returns-clause-ok g c =
    c.loop-i.invariant.0
    ∙ ap (λ s. c.args.to.now.items ++ s) (take_all c.loop-i.i (bytes_of c.args.word.now) (omega (arith, length-bytes_of c.args.word.now)))
