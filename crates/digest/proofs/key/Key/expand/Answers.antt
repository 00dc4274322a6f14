-- `Key::expand`: one short term, or all of them.
use Rattle.std.proofs.Common.{length, ap, ◌∙◌}
use Rattle.digest.specs.Hmac.{code_under}
use Rattle.digest.specs.Expansion.{expansion}
use Rattle.digest.proofs.Terms.{both_expanded}
use Rattle.digest.proofs.key.Key.expand.Goals as goal

pub returns-in-Some : goal.returns-in-Some
returns-in-Some c = let n = length c.args.out.now in
    let seed = ap (λ s. expansion (code_under c.args.self) s n) c.new-seed.ensures in
    let both = both_expanded c.args.self _ _ _ _ (c.one_term.ensures ∙ seed) in
    record { exact = both.0; meaning = both.1 }

pub returns-in_default : goal.returns-in_default
returns-in_default c = let n = length c.args.out.now in
    let seed = ap (λ s. expansion (code_under c.args.self) s n) c.new-seed.ensures in
    let both = both_expanded c.args.self _ _ _ _ (c.all_terms.ensures ∙ seed) in
    record { exact = both.0; meaning = both.1 }
