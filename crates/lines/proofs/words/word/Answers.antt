-- `words::word`: the word is the item of that index of the chain, or empty behind the last.
use Rattle.std.proofs.Common.{◌≡◌, Option, Some, None, List, [], ℕ, Bor, rules, tests, refl, ◌∙◌, ap}
use Rattle.std.specs.Option.{option_map, unwrap_or}
use Rattle.std.proofs.lemmas.Iterator.Consumers.{nth_from_yields_List}
use Rattle.std.proofs.lemmas.Iterator.Splits.{YieldsList-from_slice_split}
use Rattle.lines.specs.Words.{is_space, word_at}
use Rattle.lines.proofs.words.word.Goals as goal

now-unwrap_or : (r : Option (Bor (List ℕ))) (d : Bor (List ℕ)) → (unwrap_or r d).now ≡ unwrap_or (option_map (λ x. x.now) r) d.now
now-unwrap_or None d = refl
now-unwrap_or (Some x) d = refl

pub returns : goal.returns
unfolding word_at
returns c =
    ap (λ x. x.now) c.unwrap_or.ensures
    ∙ now-unwrap_or c.nth.result _
    ∙ ap (λ x. unwrap_or x [])
    (nth_from_yields_List {B = List ℕ} {v = λ x. x.now} c.nth.result c.nth.new.self c.args.index c.nth.ensures.ran
    (YieldsList-from_slice_split _ is_space c.args.line.now c.split.ensures.rest c.split.ensures.done c.split.ensures.closure (λ x r q k. search (rules, tests))))
