-- `block::compressed`: word by word and round by round the eighty rounds.
use Rattle.std.proofs.Common.{ap, ◌∙◌, arith}
use Rattle.digest.specs.Sha1.{compress, words, joined}
use Rattle.digest.proofs.Rounds.{none_reached, length_words, k_first, k_second, k_third, k_fourth}
use Rattle.digest.proofs.block.compressed.Goals as goal

pub late-one-requires-clause-places : goal.late-one-requires-clause-places
late-one-requires-clause-places c = (omega arith, omega arith, omega arith)

pub late-one-requires-clause-constant : goal.late-one-requires-clause-constant
late-one-requires-clause-constant c = λ t l h. k_first t (omega arith)

pub late-requires-clause-constant : goal.late-requires-clause-constant
late-requires-clause-constant c = λ t l h. k_second t (omega arith) (omega arith)

pub late-two-requires-clause-constant : goal.late-two-requires-clause-constant
late-two-requires-clause-constant c = λ t l h. k_second t (omega arith) (omega arith)

pub late-requires-2-clause-constant : goal.late-requires-2-clause-constant
late-requires-2-clause-constant c = λ t l h. k_third t (omega arith) (omega arith)

pub late-three-requires-clause-constant : goal.late-three-requires-clause-constant
late-three-requires-clause-constant c = λ t l h. k_third t (omega arith) (omega arith)

pub late-requires-3-clause-constant : goal.late-requires-3-clause-constant
late-requires-3-clause-constant c = λ t l h. k_fourth t (omega arith)

pub late-four-requires-clause-constant : goal.late-four-requires-clause-constant
late-four-requires-clause-constant c = λ t l h. k_fourth t (omega arith)

pub returns : goal.returns
unfolding compress
returns c = let args = c.args in
    let h = args.h in
    let block = args.block.now in
    let m = words block 16 in
    let l = length_words block 16 in
    let p₈ = c.first.ensures h (none_reached m _ h) in
    let p₁₆ = c.first-early.ensures h p₈ in
    let p₂₀ = c.late-one.ensures m h l p₁₆ in
    let p₃₀ = c.late.ensures m h l p₂₀ in
    let p₄₀ = c.late-two.ensures m h l p₃₀ in
    let p₅₀ = c.late-2.ensures m h l p₄₀ in
    let p₆₀ = c.late-three.ensures m h l p₅₀ in
    let p₇₀ = c.late-3.ensures m h l p₆₀ in
    let p₈₀ = c.late-four.ensures m h l p₇₀ in
    c.added.ensures ∙ ap (joined h) p₈₀.state_is
